-- The last card that a box's deal draws is the one behind the second pass, the bank's second.
use mathlib.Core.Path.{◌≡◌, ap}
use mathlib.Core.Bool.{true}
use mathlib.Core.List.{List, [], ◌∷◌}
use Prim.Native.Nat.{ℕ, suc, ◌+◌, ◌*◌}
use native.Mathlib.Omega.{arith}
use lib.ListN.{get_or}
use Rattle.call.specs.declared.Call.TheVariants.{Deal}
use Rattle.options.specs.Device.{is_box}
use Rattle.table.specs.declared.Table.{Table}
use Rattle.table.specs.Table.{bank_cards, up}
use Rattle.deal_spec.specs.Deal.{staked_seats, burnt, deal_takes, up_card, hidden_card, deal_effect}
use Rattle.secret.specs.Secret.{HiddenLast}
use Rattle.secret.proofs.Steps.{accepted-next}
use Rattle.secret.proofs.Deal.{bank-dealt, deal_last, box_takes}

bank_after_lem : (t : Table) (p : ℕ) → is_box t.options ≡ true → t.shoe.drawn + deal_takes t ≡ suc p → bank_cards (deal_effect t) ≡ up (deal_effect t) ∷ get_or t.shoe.order p 0 ∷ []
unfolding deal_effect hidden_card
bank_after_lem t p box last =
    let place : t.shoe.drawn + burnt t + 2 * staked_seats t.seats + 1 ≡ p = omega (arith, box_takes t box, last) in
    let two = bank-dealt t.options box (up_card t) (hidden_card t) in
    let seen : hidden_card t ≡ get_or t.shoe.order p 0 = ap (λ (n : ℕ). get_or t.shoe.order n 0) place in
    rw two (ap (λ (card : ℕ). up_card t ∷ card ∷ []) seen)

pub hidden_last : (t : Table) (lent : List ℕ) (p : ℕ) → HiddenLast t lent p
hidden_last t lent p box zero hidden = rw (accepted-next t Deal lent zero) (bank_after_lem t p box (deal_last t lent p zero hidden))
