-- A card sits somewhere exactly if the search for it finds a place; an accepted leaving has one of the 27.
use mathlib.Core.Path.{◌≡◌, refl, sym, ◌∙◌, ap}
use mathlib.Core.Bool.{Bool, true, false}
use native.Mathlib.Omega.{arith}
use Rattle.std.specs.Prelude.{Option, Some, None, position, unwrap_or}
use Rattle.std.specs.Option.{is_some}
use Rattle.std.proofs.lemmas.Option.{cond_some}
use Rattle.lists.proofs.Chains.{first_place-position}
use Prim.Native.Nat.{ℕ, ◌/◌, ◌%◌, ◌<◌}
use lib.Dec.{ltb}
use lib.ListN.{length}
use borrow.Author.Tests.{not-false, le-ltb}
use Rattle.lists.specs.Tests.{all_of}
use Rattle.lists.proofs.Tests.{first_inside}
use Rattle.call.specs.Refusal.{asked, first}
use Rattle.call.proofs.Refusals.{none_hold}
use Rattle.table.specs.declared.Money.{Money}
use Rattle.table.specs.Table.{guest_of, is_dealt}
use Rattle.host_spec.specs.declared.Hosted.{Hosted}
use Rattle.host_spec.specs.Cards.{holds, sits_here, place_of}
use Rattle.host_spec.specs.Broken.{host_broken}
use Rattle.host_spec.specs.Leave.{leave_conditions}
use Rattle.host_spec.proofs.Sound.{place-within}

pub left_inside : (h : Hosted) (card : ℕ) → length h.cards ≡ 27 → first (leave_conditions h card) ≡ 0 → place_of h card < 27
unfolding leave_conditions all_of
left_inside h card long e = let (whole, (between, (sits, _))) = none_hold (leave_conditions h card) refl e in place-within h card long (not-false (sits_here h card) sits)

-- a place that is found is one of the 27
pub found_inside : (h : Hosted) (card : ℕ) {k : ℕ} → length h.cards ≡ 27 → (place_of h card ≡ k) × (sits_here h card ≡ true) → k < 27
found_inside h card long (same, sits) = omega (arith, place-within h card long sits)

-- as the search for its place finds it, or does not
module _ (h : Hosted) (card : ℕ) where
  pub place-found : (k : ℕ) → position (holds card) h.cards ≡ Some k → (place_of h card ≡ k) × (sits_here h card ≡ true)
  place-found k at =
      let here : place_of h card ≡ k = first_place-position (holds card) h.cards ∙ ap (λ (o : Option ℕ). unwrap_or o (length h.cards)) at in
      let (inside, same) = cond_some _ _ _ at in
      (here, sym (first_inside (holds card) h.cards) ∙ ap (λ (j : ℕ). ltb j (length h.cards)) (here ∙ sym same) ∙ inside)

  pub place_nowhere : position (holds card) h.cards ≡ None → sits_here h card ≡ false
  place_nowhere at =
      let past : place_of h card ≡ length h.cards = first_place-position (holds card) h.cards ∙ ap (λ (o : Option ℕ). unwrap_or o (length h.cards)) at in
      sym (first_inside (holds card) h.cards) ∙ le-ltb (place_of h card) (length h.cards) (omega (arith, past))

  pub sits-found : (o : Option ℕ) → o ≡ position (holds card) h.cards → is_some o ≡ sits_here h card
  sits-found (Some k) e = sym (place-found k (sym e)).1
  sits-found None e = sym (place_nowhere (sym e))

-- the number of a leaving, condition by condition
module _ (h : Hosted) (card : ℕ) (whole : host_broken h ≡ false) where
  pub leave_dealt : is_dealt h.table ≡ true → 4 ≡ first (leave_conditions h card)
  unfolding first leave_conditions
  leave_dealt dealt = rw (whole, dealt) refl

  pub leave_absent : is_dealt h.table ≡ false → sits_here h card ≡ false → 29 ≡ first (leave_conditions h card)
  unfolding first leave_conditions
  leave_absent between away = rw (whole, between, away) refl

  pub leave-asked : (place : ℕ) (m : Money) (staked : Bool) → is_dealt h.table ≡ false → (place_of h card ≡ place) × (sits_here h card ≡ true) → m ≡ (guest_of h.table (place / 3) (place % 3)).money → ltb 0 m.stake ≡ staked
      → asked 9 staked 0 ≡ first (leave_conditions h card)
  unfolding first leave_conditions
  leave-asked place m staked between found money e = rw (whole, between, found.1, found.0, ap (λ (x : Money). ltb 0 x.stake) (sym money) ∙ e) refl
