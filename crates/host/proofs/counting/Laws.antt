-- What a close adds to the card of a place: nothing where no card sits, no stake lies or the tally stands still; what is added is small. And the walk over all places.
use mathlib.Core.Path.{◌≡◌, sym, ◌∙◌, ap, ap₂}
use mathlib.Core.Bool.{Bool, true, false, cond, ◌&&◌, and-false}
use mathlib.Core.List.{List, [], ◌∷◌, ◌++◌, append-nil}
use Prim.Native.Nat.{ℕ, suc, ◌+◌, ◌/◌, ◌%◌, ◌≤◌, ◌<◌}
use native.Mathlib.Numerals.{add-one}
use native.Mathlib.Omega.{arith}
use lib.Dec.{ltb}
use lib.ListN.{length, get_or, take, drop, set}
use lib.Seq.{take_all, drop-length, drop-cons, take-suc-set, append_snoc}
use borrow.Author.Tests.{eq-eqb, ne_eqb, lt-ltb, le-ltb}
use Rattle.call.specs.Refusal.{first}
use Rattle.table.specs.declared.Seat.{Seat}
use Rattle.table.specs.declared.Table.{Table}
use Rattle.table.specs.Seat.{is_staked, stake, purse, laid}
use Rattle.table.specs.Table.{guest_of}
use Rattle.table.specs.Shape.{Shaped}
use Rattle.close_spec.specs.Close.{close_conditions, close_effect}
use Rattle.host_spec.specs.declared.Tally.{Tally}
use Rattle.host_spec.specs.declared.GuestCard.{GuestCard}
use Rattle.host_spec.specs.Cards.{make_card, no_card, is_here}
use Rattle.host_spec.specs.Broken.{most_rounds, most_laid, most_back}
use Rattle.host_spec.specs.Close.{with_round, came_back, counts, counted_card, counted_from}
use Rattle.host_spec.proofs.Bounds.{round-laid, round_back}
use Rattle.host.proofs.Gains.{purse_gained}

module _ (t after : Table) (i p : ℕ) (g : GuestCard) where
  abbrev more : GuestCard
  more = make_card g.here g.card (with_round g.tally (laid (guest_of t i p)) (came_back t after i p))

  decided : (b : Bool) → counts t i p g ≡ b → cond b more g ≡ counted_card t after i p g
  unfolding counted_card
  decided b e = ap (λ (x : Bool). cond x more g) (sym e)

  pub not_here : (g.here ≡ 1 → ⊥) → g ≡ counted_card t after i p g
  not_here away = decided false (ap (λ (b : Bool). b && is_staked (guest_of t i p) && ltb g.tally.rounds most_rounds) (ne_eqb g.here 1 away))

  pub stands_still : most_rounds ≤ g.tally.rounds → g ≡ counted_card t after i p g
  stands_still full =
      decided false (ap (λ (b : Bool). is_here g && is_staked (guest_of t i p) && b) (le-ltb g.tally.rounds most_rounds full) ∙ and-false (is_here g && is_staked (guest_of t i p)))

  pub not_staked : (s : Seat) → s ≡ guest_of t i p → stake s ≡ 0 → g ≡ counted_card t after i p g
  not_staked s same none =
      decided false
      (ap (λ (b : Bool). is_here g && b && ltb g.tally.rounds most_rounds) (ap is_staked (sym same) ∙ le-ltb 0 (stake s) (omega arith))
      ∙ ap (λ (b : Bool). b && ltb g.tally.rounds most_rounds) (and-false (is_here g)))

  pub counts_there : g.here ≡ 1 → g.tally.rounds < most_rounds → (s : Seat) → s ≡ guest_of t i p → (stake s ≡ 0 → ⊥) → (tally : Tally)
      → tally ≡ with_round g.tally (laid (guest_of t i p)) (came_back t after i p) → make_card g.here g.card tally ≡ counted_card t after i p g
  counts_there here room s same some tally is =
      ap (make_card g.here g.card) is
      ∙ decided true (ap₂ ◌&&◌ (ap₂ ◌&&◌ (eq-eqb g.here 1 here) (ap is_staked (sym same) ∙ lt-ltb 0 (stake s) (omega (arith, some)))) (lt-ltb g.tally.rounds most_rounds room))

-- at an accepted close
module _ (t after : Table) (shaped : Shaped t) (e : first (close_conditions t) ≡ 0) (closed : after ≡ close_effect t) (k : ℕ) (inside : k < 27) where
  abbrev i : ℕ
  i = k / 3

  abbrev p : ℕ
  p = k % 3

  pub gains : purse (guest_of t i p) ≤ purse (guest_of after i p)
  gains = omega (arith, ap (λ (u : Table). purse (guest_of u i p)) closed, purse_gained t shaped i p (omega arith) (omega arith))

  pub back_small : came_back t after i p ≤ most_back
  back_small =
      omega (
        arith,
        ap (λ (u : Table). purse (guest_of u i p)) closed,
        purse_gained t shaped i p (omega arith) (omega arith),
        round_back t shaped e i p (omega arith) (omega arith),
      )

  pub laid-small : laid (guest_of t i p) ≤ most_laid
  laid-small = round-laid t shaped e i p (omega arith) (omega arith)

-- the walk: the first k places are counted, the others still to come
module _ (t after : Table) (cards : List GuestCard) where
  abbrev pub Walked : ℕ → List GuestCard → Type 0
  Walked k next = take k next ++ counted_from t after k (drop k cards) ≡ counted_from t after 0 cards

  pub walked_next : (k : ℕ) (next : List GuestCard) (g : GuestCard) → k < length cards → k < length next → g ≡ counted_card t after (k / 3) (k % 3) (get_or cards k no_card) → Walked k next
      → Walked (k + 1) (set next k g)
  unfolding counted_from
  walked_next k next g h room is so_far =
      let rest = counted_from t after (suc k) (drop (suc k) cards) in
      rw add-one
      (ap (λ (l : List GuestCard). l ++ rest) (take-suc-set next k g room)
      ∙ append_snoc (take k next) g rest
      ∙ ap (λ (x : GuestCard). take k next ++ x ∷ rest) is
      ∙ ap (λ (l : List GuestCard). take k next ++ counted_from t after k l) (sym (drop-cons cards k no_card h))
      ∙ so_far)

  pub walked_all : (k : ℕ) (next : List GuestCard) → k ≡ length cards → length next ≡ k → Walked k next → next ≡ counted_from t after 0 cards
  unfolding counted_from
  walked_all k next all long so_far =
      let none : drop k cards ≡ [] = ap (λ (n : ℕ). drop n cards) all ∙ drop-length cards in
      sym (ap₂ (λ (a b : List GuestCard). a ++ b) (take_all k next (omega arith)) (ap (counted_from t after k) none) ∙ append-nil next) ∙ so_far
