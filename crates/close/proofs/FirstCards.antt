-- A seat's first cards as the code counts them: three if its number of hands is not one.
use mathlib.Core.Path.{◌≡◌}
use mathlib.Core.Bool.{cond, not}
use mathlib.Core.List.{List}
use Prim.Native.Nat.{ℕ}
use native.Mathlib.Decide.{ℕ_discrete}
use native.Mathlib.Omega.{arith}
use lib.Dec.{eqb}
use lib.ListN.{length, take}
use borrow.Author.Tests.{eq-eqb, ne_eqb}
use Rattle.rules.proofs.seat_hand.Places.{many_hands}
use Rattle.table.specs.declared.Seat.{Seat}
use Rattle.table.specs.Seat.{hands, first_cards}

abbrev pub counted : Seat → List ℕ
counted s = take (cond (not (eqb s.hands.many 1)) 3 2) s.first

pub first_cards_lem : (s : Seat) → length s.hands.places ≡ 4 → counted s ≡ first_cards s
first_cards_lem s full = go (ℕ_discrete s.hands.many 1)
  where
    go : Dec (s.hands.many ≡ 1) → counted s ≡ first_cards s
    go (yes one) = rw (eq-eqb s.hands.many 1 one, eq-eqb (length (hands s)) 1 (omega (arith, many_hands s.hands full)))
    go (no other) = rw (ne_eqb s.hands.many 1 other, ne_eqb (length (hands s)) 1 (λ one. other (omega (arith, many_hands s.hands full))))
