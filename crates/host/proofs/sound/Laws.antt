-- Tests over the places: one that fails decides; a place without a card is no second one of any card; and the places before one.
use mathlib.Core.Path.{◌≡◌, refl, sym, ◌∙◌, ap, ap₂}
use mathlib.Core.Bool.{Bool, true, false, not, ◌&&◌, ◌||◌, and-false, true≢false}
use mathlib.Core.List.{List}
use Prim.Native.Nat.{ℕ, zero, suc, ◌/◌, ◌<◌, ◌≤◌}
use native.Mathlib.Omega.{arith}
use lib.Dec.{ltb, eqb}
use lib.ListN.{get_or, length, take}
use borrow.Author.Tests.{ne_eqb}
use Rattle.lists.specs.Below.{all_below}
use Rattle.lists.proofs.Below.{all_below_lem}
use Rattle.lists.specs.Tests.{any_of}
use Rattle.lists.proofs.Tests.{any_take, not_any}
use Rattle.host_spec.specs.declared.GuestCard.{GuestCard}
use Rattle.options.specs.declared.Options.{Options}
use Rattle.host_spec.specs.Cards.{no_card, is_here, holds}
use Rattle.host_spec.specs.Broken.{sound_tally, is_empty, sound_card}

pub one_fails : (test : ℕ → Bool) (n i : ℕ) → i < n → test i ≡ false → false ≡ all_below test n
one_fails test n i h failed = go (all_below test n) refl
  where
    go : (b : Bool) → all_below test n ≡ b → false ≡ b
    go true all = absurd (true≢false (sym (all_below_lem test n i all h) ∙ failed))
    go false all = refl

-- a place without a card holds none
pub sits_nowhere : (g : GuestCard) (cards : List GuestCard) → (g.here ≡ 1 → ⊥) → any_of (λ f. is_here f && holds f.card g) cards ≡ false
sits_nowhere g cards away =
    not_any (λ f. is_here f && holds f.card g) cards no_card
    (λ i h.
    let f = get_or cards i no_card in
    ap (λ (b : Bool). is_here f && (b && eqb g.card f.card)) (ne_eqb g.here 1 away) ∙ and-false (is_here f))

-- the places before one, asked one by one
not_or : (a b : Bool) → not (a || b) ≡ not a && not b
not_or true b = refl
not_or false b = refl

pub none_before : {A : Type 0} (test : A → Bool) (xs : List A) (d : A) (n : ℕ) → n ≤ length xs → not (any_of test (take n xs)) ≡ all_below (λ j. not (test (get_or xs j d))) n
unfolding all_below any_of
none_before test xs d zero h = refl
none_before test xs d (suc n) h =
    ap not (any_take test xs n d h)
    ∙ not_or (any_of test (take n xs)) (test (get_or xs n d))
    ∙ ap (λ (b : Bool). b && not (test (get_or xs n d))) (none_before test xs d n (omega arith))

-- the card of a place sits at none before it
abbrev pub passes : List GuestCard → ℕ → Bool
passes cards k = all_below (λ j. not (is_here (get_or cards j no_card) && holds (get_or cards j no_card).card (get_or cards k no_card))) k

-- a card's test, by its parts
module _ (o : Options) (k : ℕ) (g : GuestCard) where
  pub card-empty : is_empty g ≡ true → true ≡ sound_card o k g
  unfolding sound_card
  card-empty e = sym (ap (λ (b : Bool). b || (is_here g && ltb (k / 3) o.seats && sound_tally g.tally)) e)

  pub card_here : {a b d : Bool} → is_empty g ≡ false → is_here g ≡ a → ltb (k / 3) o.seats ≡ b → sound_tally g.tally ≡ d → a && b && d ≡ sound_card o k g
  unfolding sound_card
  card_here e here seat tally =
      sym (ap₂ (λ (x y : Bool). x || y) e (ap₂ ◌&&◌ (ap₂ ◌&&◌ here seat) tally))
