-- An arrival asks first what every call of a guest asks, and then whether position and card are free and no stake lies there.
use mathlib.Core.Path.{◌≡◌, refl, ◌∙◌, ap, ap₂}
use mathlib.Core.Bool.{Bool, false, not}
use mathlib.Core.List.{List, [], ◌∷◌, ◌++◌}
use Prim.Native.Nat.{ℕ}
use lib.Dec.{ltb}
use Rattle.lists.proofs.Tests.{or_eq_false}
use Rattle.call.specs.Refusal.{Condition, asked, first}
use Rattle.table.specs.declared.Money.{Money}
use Rattle.table.specs.Seat.{is_staked}
use Rattle.table.specs.Table.{guest_of}
use Rattle.table.specs.Broken.{broken}
use Rattle.answer.specs.Conditions.{between_rounds, seat_conditions, guest_conditions}
use Rattle.host_spec.specs.declared.Hosted.{Hosted}
use Rattle.host_spec.specs.Cards.{is_here, card_at, sits_here}
use Rattle.host_spec.specs.Broken.{sound_cards, host_broken}
use Rattle.host_spec.specs.Arrive.{arrive_conditions}

pub whole_table : (h : Hosted) → host_broken h ≡ false → broken h.table ≡ false
unfolding host_broken
whole_table h whole = (or_eq_false (broken h.table) (not (sound_cards h.table.options h.cards)) whole).0

-- what is asked behind them
abbrev pub taken : Hosted → ℕ → ℕ → ℕ → List Condition
taken h j p card = (28, is_here (card_at h j p)) ∷ (28, sits_here h card) ∷ (9, is_staked (guest_of h.table j p)) ∷ []

pub arrive_asks : (h : Hosted) (j p card : ℕ) → host_broken h ≡ false → first (arrive_conditions h j p card) ≡ first (guest_conditions (between_rounds h.table) h.table j p ++ taken h j p card)
unfolding first arrive_conditions seat_conditions guest_conditions
arrive_asks h j p card whole = rw (whole, whole_table h whole) refl

pub taken_is : (h : Hosted) (j p card : ℕ) (there : Bool) (m : Money) {n : ℕ} → there ≡ sits_here h card → m ≡ (guest_of h.table j p).money
    → n ≡ asked 28 (is_here (card_at h j p)) (asked 28 there (asked 9 (ltb 0 m.stake) 0)) → n ≡ first (taken h j p card)
unfolding first
taken_is h j p card there m found money here =
    here
    ∙ ap (asked 28 (is_here (card_at h j p))) (ap₂ (asked 28) found (ap (λ (x : Money). asked 9 (ltb 0 x.stake) 0) money))
