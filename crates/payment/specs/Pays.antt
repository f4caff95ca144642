-- Document 01, "Payment": all that is paid to a guest at close, one pay for the insurance, if there is one, one for each side stake by its kind (request 2.6), and one for
-- each hand by its place. What goes back, the nets and the pay lines of a round are read off this one list, by the calls and by the history.
use Rattle.std.specs.Prelude.{cond, List, [], ◌∷◌, ◌++◌, ℕ, suc, ◌+◌, ltb, ℤ, pos, ◌+ℤ◌}
use Rattle.lists.specs.Sum.{sum_of}
use Rattle.options.specs.declared.Options.{Options}
use Rattle.rules.specs.SeatHand.{Played}
use Rattle.payment.specs.declared.bank.Score.{Score}
use Rattle.payment.specs.declared.pay.Pay.{Pay}
use Rattle.payment.specs.Pay.{net}
use Rattle.payment.specs.HandPay.{hand_pay}
use Rattle.payment.specs.Insurance.{insurance_pay}
use Rattle.payment.specs.SidePay.{side_pay}
use Rattle.payment.specs.Bets.{Bets, side}

-- What a pay is for.
abbrev pub hand_kind : ℕ
hand_kind = 0

abbrev pub insurance_kind : ℕ
insurance_kind = 1

-- A side stake of kind k.
abbrev pub side_kind : ℕ → ℕ
side_kind k = 1 + k

-- A pay with its kind and its place, 0 where it is for no hand.
pub record Due : Type 0 where
  pub kind : ℕ
  pub place : ℕ
  pub pay : Pay

abbrev pub due : ℕ → ℕ → Pay → Due
due kind place pay = record { kind = kind; place = place; pay = pay }

-- One for the insurance I, if there is one.
unfoldable pub insurance_pays : Score → ℕ → List Due
insurance_pays bank I = cond (ltb 0 I) (due insurance_kind 0 (insurance_pay bank I) ∷ []) []

-- One for each hand, from place p on.
unfoldable pub hand_pays : Options → Score → ℕ → ℕ → List Played → List Due
hand_pays o bank S p [] = []
hand_pays o bank S p (h ∷ hs) = due hand_kind p (hand_pay o bank S h) ∷ hand_pays o bank S (suc p) hs

-- One for a side stake n of kind k, if there is one; and those of the four kinds.
unfoldable pub side_due : ℕ → ℕ → List ℕ → List Due
side_due k n first = cond (ltb 0 n) (due (side_kind k) 0 (side_pay k n first) ∷ []) []

unfoldable pub side_pays : List ℕ → List ℕ → List Due
side_pays sides first = side_due 1 (side sides 1) first ++ side_due 2 (side sides 2) first ++ side_due 3 (side sides 3) first ++ side_due 4 (side sides 4) first

-- All that is paid to a guest.
unfoldable pub pays_of : Options → Score → Bets → List Due
pays_of o bank b =
    insurance_pays bank b.insurance ++ side_pays b.sides b.first ++ hand_pays o bank b.stake 0 b.hands

-- What lay there, what goes back, and the net.
abbrev pub laid_of : List Due → ℕ
laid_of dues = sum_of (λ d. d.pay.laid) dues

abbrev pub back_of : List Due → ℕ
back_of dues = sum_of (λ d. d.pay.back) dues

unfoldable pub nets_of : List Due → ℤ
nets_of [] = pos 0
nets_of (d ∷ ds) = net d.pay +ℤ nets_of ds
