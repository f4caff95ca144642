-- Guest cards that are sound, as facts: each place by itself, and no card at two of them. An arrival and a leaving keep them so.
use mathlib.Core.Path.{◌≡◌, refl, sym, ◌∙◌, ap, ap₂}
use mathlib.Core.Bool.{Bool, true, false, not, ◌&&◌, and-eq-true_iff, true≢false}
use mathlib.Core.List.{List}
use Prim.Native.Nat.{ℕ, ◌/◌, ◌≤◌, ◌<◌}
use native.Mathlib.Decide.{dec_le, ℕ_discrete}
use native.Mathlib.Omega.{arith}
use lib.Dec.{eqb}
use lib.ListN.{length, get_or}
use borrow.Author.Tests.{ltb-true, lt-ltb, eqb-true, eq-eqb, not-true}
use Rattle.lists.specs.Below.{all_below}
use Rattle.lists.proofs.Tests.{any_not_at, first_inside, first_passes}
use Rattle.lists.proofs.Below.{all_below_lem, below_all}
use Rattle.options.specs.declared.Options.{Options}
use Rattle.host_spec.specs.declared.GuestCard.{GuestCard}
use Rattle.host_spec.specs.declared.Hosted.{Hosted}
use Rattle.host_spec.specs.Cards.{arrived, no_card, is_here, holds, sits_here, place_of, with_card}
use Rattle.host_spec.specs.Broken.{sound_tally, sound_card, each_once, sound_cards}
use Rattle.host_spec.proofs.Places.{put_there, put_elsewhere}

abbrev pub card_of : List GuestCard → ℕ → GuestCard
card_of cards k = get_or cards k no_card

pub record SoundCards (o : Options) (cards : List GuestCard) : Type 0 where
  pub each : (k : ℕ) → k < 27 → sound_card o k (card_of cards k) ≡ true
  pub once : (j k : ℕ) → j < 27 → k < 27 → (j ≡ k → ⊥) → is_here (card_of cards j) ≡ true → holds (card_of cards j).card (card_of cards k) ≡ false

-- two cards are the same, whichever is asked first
holds-both : (g f : GuestCard) → is_here g ≡ true → is_here g && holds g.card f ≡ false → holds g.card f ≡ false
holds-both g f here none = sym (ap (λ (b : Bool). b && holds g.card f) here) ∙ none

holds_other : (g f : GuestCard) → is_here g ≡ true → is_here f && holds f.card g ≡ false → holds g.card f ≡ false
holds_other g f here none = go (holds g.card f) refl
  where
    go : (b : Bool) → holds g.card f ≡ b → b ≡ false
    go true e =
        let (sits, same) = (and-eq-true_iff (is_here f) (eqb f.card g.card)).0 e in
        let back : is_here f && holds f.card g ≡ true = ap₂ ◌&&◌ sits (ap₂ ◌&&◌ here (eq-eqb g.card f.card (sym (eqb-true f.card g.card same)))) in
        absurd (true≢false (sym back ∙ none))
    go false e = refl

pub cards_facts : (o : Options) (cards : List GuestCard) → sound_cards o cards ≡ true → SoundCards o cards
unfolding sound_cards each_once
cards_facts o cards h =
    let (every, single) = (and-eq-true_iff (all_below (λ k. sound_card o k (card_of cards k)) 27) (each_once cards)).0 h in
    record { each = λ k l. all_below_lem (λ j. sound_card o j (card_of cards j)) 27 k every l; once = pair single }
  where
    pair : each_once cards ≡ true → (j k : ℕ) → j < 27 → k < 27 → (j ≡ k → ⊥) → is_here (card_of cards j) ≡ true → holds (card_of cards j).card (card_of cards k) ≡ false
    pair single j k hj hk other here = go (dec_le j k)
      where
        before : (a b : ℕ) → b < 27 → a < b → is_here (card_of cards a) && holds (card_of cards a).card (card_of cards b) ≡ false
        before a b hb l =
            not-true (is_here (card_of cards a) && holds (card_of cards a).card (card_of cards b))
            (all_below_lem (λ x. not (is_here (card_of cards x) && holds (card_of cards x).card (card_of cards b))) b a
            (all_below_lem (λ y. all_below (λ x. not (is_here (card_of cards x) && holds (card_of cards x).card (card_of cards y))) y) 27 b single hb) l)

        go : Dec (j ≤ k) → holds (card_of cards j).card (card_of cards k) ≡ false
        go (yes le) = holds-both (card_of cards j) (card_of cards k) here (before j k hk (omega arith))
        go (no gt) = holds_other (card_of cards j) (card_of cards k) here (before k j hj (omega arith))

pub facts_cards : (o : Options) (cards : List GuestCard) → SoundCards o cards → sound_cards o cards ≡ true
unfolding sound_cards each_once
facts_cards o cards f =
    ap₂ ◌&&◌ (below_all (λ k. sound_card o k (card_of cards k)) 27 f.each)
    (below_all (λ k. all_below (λ j. not (is_here (card_of cards j) && holds (card_of cards j).card (card_of cards k))) k) 27
    (λ k hk. below_all (λ j. not (is_here (card_of cards j) && holds (card_of cards j).card (card_of cards k))) k (λ j hj. ap not (single j k hk hj (is_here (card_of cards j)) refl))))
  where
    single : (j k : ℕ) → k < 27 → j < k → (b : Bool) → is_here (card_of cards j) ≡ b → b && holds (card_of cards j).card (card_of cards k) ≡ false
    single j k hk hj true e = f.once j k (omega arith) hk (λ same. omega arith) e
    single j k hk hj false e = refl

-- one card changed for another
module _ (o : Options) (h : Hosted) (k : ℕ) (g : GuestCard) (long : length h.cards ≡ 27) (inside : k < 27) (f : SoundCards o h.cards) where
  pub put-sound : sound_card o k g ≡ true → (is_here g ≡ true → (j : ℕ) → j < 27 → (j ≡ k → ⊥) → holds g.card (card_of h.cards j) ≡ false) → SoundCards o (with_card h k g).cards
  put-sound fits new =
      record {
        each = λ j hj. each-place j hj (ℕ_discrete j k);
        once = λ i j hi hj other here. once-place i j hi hj other here (ℕ_discrete i k) (ℕ_discrete j k);
      }
    where
      there : card_of (with_card h k g).cards k ≡ g
      there = put_there h k g long inside

      elsewhere : (j : ℕ) → (j ≡ k → ⊥) → card_of (with_card h k g).cards j ≡ card_of h.cards j
      elsewhere j other = put_elsewhere h k g long j other

      not_there : (i : ℕ) → i < 27 → (i ≡ k → ⊥) → (b : Bool) → is_here g ≡ b → b && holds g.card (card_of h.cards i) ≡ false
      not_there i hi oi true e = new e i hi oi
      not_there i hi oi false e = refl

      each-place : (j : ℕ) → j < 27 → Dec (j ≡ k) → sound_card o j (card_of (with_card h k g).cards j) ≡ true
      each-place j hj (yes same) = rw (same, there) fits
      each-place j hj (no other) = ap (sound_card o j) (elsewhere j other) ∙ f.each j hj

      once-place : (i j : ℕ) → i < 27 → j < 27 → (i ≡ j → ⊥) → is_here (card_of (with_card h k g).cards i) ≡ true → Dec (i ≡ k) → Dec (j ≡ k)
          → holds (card_of (with_card h k g).cards i).card (card_of (with_card h k g).cards j) ≡ false
      once-place i j hi hj other here (yes si) (yes sj) = absurd (other (si ∙ sym sj))
      once-place i j hi hj other here (yes si) (no oj) =
          let is-g : card_of (with_card h k g).cards i ≡ g = ap (card_of (with_card h k g).cards) si ∙ there in
          ap₂ (λ (a b : GuestCard). holds a.card b) is-g (elsewhere j oj) ∙ new (sym (ap is_here is-g) ∙ here) j hj oj
      once-place i j hi hj other here (no oi) (yes sj) =
          let is-g : card_of (with_card h k g).cards j ≡ g = ap (card_of (with_card h k g).cards) sj ∙ there in
          ap₂ (λ (a b : GuestCard). holds a.card b) (elsewhere i oi) is-g
          ∙ holds_other (card_of h.cards i) g (sym (ap is_here (elsewhere i oi)) ∙ here) (not_there i hi oi (is_here g) refl)
      once-place i j hi hj other here (no oi) (no oj) =
          ap₂ (λ (a b : GuestCard). holds a.card b) (elsewhere i oi) (elsewhere j oj) ∙ f.once i j hi hj other (sym (ap is_here (elsewhere i oi)) ∙ here)

-- a card that has arrived at a seat of the option and was nowhere before; a position that is left
pub arrived-sound : (o : Options) (k card : ℕ) → k / 3 < o.seats → sound_card o k (arrived card) ≡ true
unfolding sound_card sound_tally
arrived-sound o k card h = simp (lt-ltb (k / 3) o.seats h)

pub left-sound : (o : Options) (k : ℕ) → sound_card o k no_card ≡ true
unfolding sound_card
left-sound o k = refl

-- nobody holds a card that sits nowhere
pub nowhere : (h : Hosted) (card j : ℕ) → length h.cards ≡ 27 → sits_here h card ≡ false → j < 27 → holds card (card_of h.cards j) ≡ false
nowhere h card j long none hj = any_not_at (holds card) h.cards j no_card (omega arith) none

-- the place of a card that sits somewhere
module _ (h : Hosted) (card : ℕ) (long : length h.cards ≡ 27) (sits : sits_here h card ≡ true) where
  pub place-within : place_of h card < 27
  place-within = omega (arith, ltb-true (place_of h card) (length h.cards) (first_inside (holds card) h.cards ∙ sits))

  pub place-holds : holds card (card_of h.cards (place_of h card)) ≡ true
  place-holds = first_passes (holds card) h.cards no_card (omega (arith, place-within))
