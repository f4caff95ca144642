-- The others hold nothing after the call either: no call of a seated guest or of the house changes what a seat has of them.
use mathlib.Core.Path.{◌≡◌, refl, sym, ◌∙◌, ap}
use mathlib.Core.List.{List, [], ◌∷◌, map}
use Prim.Native.Nat.{ℕ, zero, suc}
use native.Mathlib.Omega.{arith}
use lib.ListN.{length, get_or, set, length-map, get_or-map}
use Rattle.call.specs.declared.Call.{Call}
use Rattle.call.specs.declared.Call.TheVariants.{Fill, Credit, Buy, Cash, Stake, Deal, Insure, Stand, Draw, Double, Split, Surrender, Even, Five, Close, Void, Load, Side}
use Rattle.table.specs.declared.Money.{Money}
use Rattle.table.specs.declared.Seat.{Seat}
use Rattle.table.specs.declared.Table.{Table}
use Rattle.table.specs.Seat.{missing_seat}
use Rattle.cashier_spec.specs.Fill.{fill_effect}
use Rattle.cashier_spec.specs.Credit.{credit_effect}
use Rattle.cashier_spec.specs.Load.{load_effect}
use Rattle.deal_spec.specs.Pass.{first_card, second_card}
use Rattle.deal_spec.specs.Deal.{dealt_seats, deal_effect}
use Rattle.deal_spec.proofs.Pass.{pass_view}
use Rattle.decisions_spec.specs.Turn.{end_effect}
use Rattle.decisions_spec.specs.Surrender.{surrender_effect}
use Rattle.one_guest.specs.Effects.{card_one, split_one, close_one, void_one, effect_one}
use Rattle.one_guest.specs.AsBefore.{OnlySeated}

-- what a seat has of the others, of all seats
abbrev pub others : List Seat → List (List Money)
others seats = map (λ s. s.others) seats

-- one seat put in the place of another that has the same
put-others : (seats : List Seat) (j : ℕ) (s : Seat) → s.others ≡ (get_or seats j missing_seat).others → others (set seats j s) ≡ others seats
put-others [] j s e = refl
put-others (x ∷ xs) zero s e = ap (λ (o : List Money). o ∷ others xs) e
put-others (x ∷ xs) (suc j) s e = ap (λ (rest : List (List Money)). x.others ∷ rest) (put-others xs j s e)

-- each seat changed into one that has the same
map-others : (f : Seat → Seat) (seats : List Seat) → ((s : Seat) → (f s).others ≡ s.others) → others (map f seats) ≡ others seats
map-others f [] same = refl
map-others f (x ∷ xs) same = rw (same x, map-others f xs same)

deal-others : (t : Table) → others (dealt_seats t) ≡ others t.seats
unfolding dealt_seats
deal-others t = pass_view second_card t.shoe.order (λ s. s.others) (λ s card. refl) _ _ ∙ pass_view first_card t.shoe.order (λ s. s.others) (λ s card. refl) _ _

pub effect-others : (t : Table) (c : Call) (order : List ℕ) → others (effect_one t c order).seats ≡ others t.seats
unfolding fill_effect credit_effect load_effect deal_effect end_effect surrender_effect card_one split_one close_one void_one
effect-others t (Fill n) order = refl
effect-others t (Credit n) order = refl
effect-others t (Buy at n) order = put-others t.seats at.seat _ refl
effect-others t (Cash at n) order = put-others t.seats at.seat _ refl
effect-others t (Stake at n) order = put-others t.seats at.seat _ refl
effect-others t Deal order = deal-others t
effect-others t (Insure at n) order = put-others t.seats at.seat _ refl
effect-others t (Stand at) order = put-others t.seats at.seat _ refl
effect-others t (Draw at) order = put-others t.seats at.seat _ refl
effect-others t (Double at) order = put-others t.seats at.seat _ refl
effect-others t (Split at) order = put-others t.seats at.seat _ refl
effect-others t (Surrender at) order = put-others t.seats at.seat _ refl
effect-others t (Even at) order = put-others t.seats at.seat _ refl
effect-others t (Five at) order = put-others t.seats at.seat _ refl
effect-others t Close order = map-others _ t.seats (λ s. refl)
effect-others t Void order = map-others _ t.seats (λ s. refl)
effect-others t Load order = refl
effect-others t (Side at k n) order = put-others t.seats at.seat _ refl

-- a table that has the same of the others
pub still_only : (t after : Table) → OnlySeated t → others after.seats ≡ others t.seats → OnlySeated after
still_only t after only same i h =
    sym (get_or-map (λ (s : Seat). s.others) after.seats i missing_seat)
    ∙ ap (λ (xs : List (List Money)). get_or xs i []) same
    ∙ get_or-map (λ (s : Seat). s.others) t.seats i missing_seat
    ∙ only i (omega (arith, length-map after.seats (λ (s : Seat). s.others), length-map t.seats (λ (s : Seat). s.others), ap length same))
