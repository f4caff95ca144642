-- The list at a place, decision by decision: what is chosen, and the list that is left on the table behind it.
use mathlib.Core.Path.{◌≡◌, refl, sym, ◌∙◌, ap, subst}
use mathlib.Core.Bool.{Bool, true, false}
use mathlib.Core.List.{List, [], ◌∷◌, ◌++◌, append-nil, append_assoc}
use Prim.Native.Nat.{ℕ, suc, ◌+◌, ◌-◌, ◌≤◌, ◌<◌}
use native.Mathlib.Numerals.{add-one}
use native.Mathlib.Omega.{arith}
use lib.Dec.{eqb}
use lib.ListN.{length, take, get_or, set, length-set}
use lib.Seq.{take-suc-set}
use borrow.Author.Tests.{eqb-true, eqb-false}
use Rattle.call.specs.declared.At.{At}
use Rattle.call.specs.declared.Call.TheVariants.{Close}
use Rattle.table.specs.declared.Table.{Table}
use Rattle.engine.specs.Step.{number}
use Rattle.engine.specs.Run.{run}
use Rattle.ways.specs.declared.pick.Onward.{Onward}
use Rattle.ways.specs.Decisions.{plays}
use Rattle.ways.specs.Ways.{ways_from}
use Rattle.ways.specs.Aids.Picked.{GoesOn, Ends}
use Rattle.ways.proofs.Counting.{ended, stuck, spent}

-- where there is a list, and it does not end, a hand waits; where no decision is left, it ends
pub some_waits_lem : (n : ℕ) (at : At) (t : Table) → 0 < length (ways_from n at t) → (number t Close [] ≡ 0 → ⊥) → number t Close [] ≡ 7
some_waits_lem n at t some on = go (eqb (number t Close []) 7) refl
  where
    go : (b : Bool) → eqb (number t Close []) 7 ≡ b → number t Close [] ≡ 7
    go true e = eqb-true _ _ e
    go false e = absurd (omega (arith, ap length (stuck at t n on (eqb-false _ _ e))))

pub spent_ends : (at : At) (t : Table) → 0 < length (ways_from 0 at t) → number t Close [] ≡ 0
spent_ends at t some = go (eqb (number t Close []) 0) refl
  where
    go : (b : Bool) → eqb (number t Close []) 0 ≡ b → number t Close [] ≡ 0
    go true e = eqb-true _ _ e
    go false e = absurd (omega (arith, ap length (spent at t (some_waits_lem 0 at t some (eqb-false _ _ e)))))

-- n decisions are chosen, and the list goes on as the one at `rest` of the table behind them
pub record Picking (t : Table) (at : At) (place : ℕ) (u : Table) (rest n : ℕ) (decisions : List ℕ) : Type 0 where
  pub few : n ≤ 8
  pub full : length decisions ≡ 8
  pub inside : rest < length (ways_from (8 - n) at u)
  pub list : take n decisions ++ get_or (ways_from (8 - n) at u) rest [] ≡ get_or (ways_from 8 at t) place []
  pub behind : run u (plays at (get_or (ways_from (8 - n) at u) rest [])) ≡ run t (plays at (get_or (ways_from 8 at t) place []))

pub none_picked : (t : Table) (at : At) (place : ℕ) (decisions : List ℕ) → length decisions ≡ 8 → place < length (ways_from 8 at t) → Picking t at place t place 0 decisions
none_picked t at place decisions full inside = record { few = omega arith; full = full; inside = inside; list = refl; behind = refl }

module _ (t : Table) (at : At) (place : ℕ) (u : Table) (rest n : ℕ) (decisions : List ℕ) (p : Picking t at place u rest n decisions) where
  pub one_picked : n < 8 → (r : Onward) → GoesOn u at (7 - n) rest r → Picking t at place r.table r.place (n + 1) (set decisions n r.kind)
  unfolding run
  one_picked h r on =
      let lists : List (List ℕ) = ways_from (7 - n) at r.table in
      let now : suc (7 - n) ≡ 8 - n = omega arith in
      let later : 7 - n ≡ 8 - (n + 1) = omega arith in
      let goes : get_or (ways_from (8 - n) at u) rest [] ≡ r.kind ∷ get_or lists r.place [] = subst (λ (k : ℕ). get_or (ways_from k at u) rest [] ≡ r.kind ∷ get_or lists r.place []) now on.begins in
      let same : ways_from (7 - n) at r.table ≡ ways_from (8 - (n + 1)) at r.table = ap (λ (k : ℕ). ways_from k at r.table) later in
      let left : get_or (ways_from (8 - (n + 1)) at r.table) r.place [] ≡ get_or lists r.place [] = ap (λ (l : List (List ℕ)). get_or l r.place []) (sym same) in
      record {
        few = omega arith;
        full = length-set decisions n r.kind ∙ p.full;
        inside = subst (λ (l : List (List ℕ)). r.place < length l) same on.inside;
        list =
            ap (λ (l : List ℕ). l ++ get_or (ways_from (8 - (n + 1)) at r.table) r.place []) (ap (λ (k : ℕ). take k (set decisions n r.kind)) (add-one n) ∙ take-suc-set decisions n r.kind (omega (arith, p.full)))
            ∙ append_assoc (take n decisions) (r.kind ∷ []) (get_or (ways_from (8 - (n + 1)) at r.table) r.place [])
            ∙ ap (λ (l : List ℕ). take n decisions ++ r.kind ∷ l) left
            ∙ ap (λ (l : List ℕ). take n decisions ++ l) (sym goes)
            ∙ p.list;
        behind =
            ap (λ (l : List ℕ). run r.table (plays at l)) left
            ∙ ap (λ (x : Table). run x (plays at (get_or lists r.place []))) on.after
            ∙ ap (λ (l : List ℕ). run u (plays at l)) (sym goes)
            ∙ p.behind;
      }

  -- where close is accepted the list is chosen
  pub all_picked : number u Close [] ≡ 0 → Ends t at place (record { table = u; length = n; decisions = decisions })
  unfolding run
  all_picked e =
      let lists = ended at u (8 - n) e in
      let first : rest ≡ 0 = omega (arith, p.inside, ap length lists) in
      let none : get_or (ways_from (8 - n) at u) rest [] ≡ [] = ap (λ (l : List (List ℕ)). get_or l rest []) lists ∙ ap (λ (k : ℕ). get_or ([] ∷ []) k []) first in
      record {
        list = sym (append-nil (take n decisions)) ∙ ap (λ (l : List ℕ). take n decisions ++ l) (sym none) ∙ p.list;
        behind = ap (λ (l : List ℕ). run u (plays at l)) (sym none) ∙ p.behind;
        ends = e;
      }
