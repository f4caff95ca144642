-- The pay lines as a loop makes them: those of one hand more, and of one seat more.
use mathlib.Core.Path.{◌≡◌, refl}
use mathlib.Core.List.{List, [], ◌∷◌, ◌++◌, map}
use Prim.Native.Nat.{ℕ, ◌+◌, ◌<◌}
use lib.ListN.{length, take, get_or}
use Rattle.lists.proofs.Numbered.{numbered_next}
use Rattle.options.specs.declared.Options.{Options}
use Rattle.payment.specs.declared.bank.Score.{Score}
use Rattle.rules.specs.SeatHand.{Played}
use Rattle.payment.specs.HandPay.{hand_pay}
use Rattle.payment.specs.Pays.{hand_kind, due, hand_pays}
use Rattle.table.specs.declared.Seat.{Seat}
use Rattle.close_spec.specs.PayLines.{line_of, seat_lines, all_lines}

module _ (o : Options) (bank : Score) where
  pub hand_lines-next : (S seat position k : ℕ) (hs : List Played) (d : Played) → k < length hs
      → map (line_of seat position) (hand_pays o bank S 0 (take (k + 1) hs)) ≡ map (line_of seat position) (hand_pays o bank S 0 (take k hs)) ++ (line_of seat position (due hand_kind k (hand_pay o bank S (get_or hs k d))) ∷ [])
  unfolding hand_pays
  hand_lines-next S seat position k hs d h =
      numbered_next (λ p xs. map (line_of seat position) (hand_pays o bank S p xs)) (λ p x. line_of seat position (due hand_kind p (hand_pay o bank S x)) ∷ []) (λ p. refl) (λ p x xs. refl) k hs d h

  pub seat_lines-next : (k : ℕ) (ss : List Seat) (d : Seat) → k < length ss → all_lines o bank 0 (take (k + 1) ss) ≡ all_lines o bank 0 (take k ss) ++ seat_lines o bank k (get_or ss k d)
  unfolding all_lines
  seat_lines-next k ss d h = numbered_next (all_lines o bank) (seat_lines o bank) (λ i. refl) (λ i x xs. refl) k ss d h
