-- Each lawful list stands once among the ways and none is missing: by the number of decisions that are left, and by the list. Its first decision is the only one of the six that it can
-- begin with, and an accepted decision was taken where a hand waits.
use mathlib.Core.Path.{◌≡◌, refl, sym, ◌∙◌, ap, ap₂, subst}
use mathlib.Core.Bool.{Bool, true, false, cond, ◌&&◌}
use mathlib.Core.List.{List, [], ◌∷◌, map}
use Prim.Native.Nat.{ℕ, zero, suc, ◌+◌, ◌≤◌}
use native.Mathlib.Decide.{dec_le}
use native.Mathlib.Omega.{arith}
use lib.Dec.{leb, eqb, leb-zero}
use lib.ListN.{length, get_or}
use borrow.Author.Tests.{eqb-true, eqb-false, ne_eqb, le-leb, lt-leb}
use Rattle.lists.specs.Sum.{sum_of}
use Rattle.lists.specs.Tests.{all_of, any_of}
use Rattle.lists.proofs.Sums.{sum-flat, sum-at-same}
use Rattle.lists.proofs.Tests.{cond_same}
use Rattle.call.specs.declared.At.{At}
use Rattle.call.specs.declared.Call.TheVariants.{Close}
use Rattle.table.specs.declared.Table.{Table}
use Rattle.engine.specs.Step.{number, next}
use Rattle.engine.specs.Run.{run, answers}
use Rattle.ways.specs.Decisions.{decision_kinds, is_decision, decision, plays}
use Rattle.ways.specs.Lawful.{lawful_within, player, most_decisions}
use Rattle.ways.specs.Ways.{beginning, ways_from}
use Rattle.ways.specs.Laws.{same_list, times_in, EachOnce}
use Rattle.ways.proofs.Counting.{ended, stuck, spent, goes}
use Rattle.ways.proofs.Waiting.{decision_seven}

-- among lists that begin with one decision
times_map : (d kind : ℕ) (ds : List ℕ) (b : Bool) → eqb d kind ≡ b → (lists : List (List ℕ)) → times_in (d ∷ ds) (map (λ decisions. kind ∷ decisions) lists) ≡ cond b (times_in ds lists) 0
unfolding sum_of same_list
times_map d kind ds true e [] = refl
times_map d kind ds true e (l ∷ ls) = ap₂ (λ (x y : ℕ). x + y) (ap (λ (b : Bool). cond {A = ℕ} (b && same_list ds l) 1 0) e) (times_map d kind ds true e ls)
times_map d kind ds false e [] = refl
times_map d kind ds false e (l ∷ ls) = ap₂ (λ (x y : ℕ). x + y) (ap (λ (b : Bool). cond {A = ℕ} (b && same_list ds l) 1 0) e) (times_map d kind ds false e ls)

none-map : (kind : ℕ) (lists : List (List ℕ)) → times_in [] (map (λ decisions. kind ∷ decisions) lists) ≡ 0
unfolding sum_of same_list
none-map kind [] = refl
none-map kind (l ∷ ls) = ap (λ (n : ℕ). 0 + n) (none-map kind ls)

module _ (n : ℕ) (at : At) (t : Table) where
  -- how often the rest of a list stands behind its first decision
  abbrev behind : List ℕ → ℕ → ℕ
  behind ds kind = cond (eqb (number t (decision at kind) []) 0) (times_in ds (ways_from n at (next t (decision at kind) []))) 0

  times-beginning : (d : ℕ) (ds : List ℕ) (kind : ℕ) → times_in (d ∷ ds) (beginning (ways_from n at) t at kind) ≡ cond (eqb d kind) (behind ds kind) 0
  unfolding beginning sum_of
  times-beginning d ds kind = go (eqb (number t (decision at kind) []) 0)
    where
      go : (b : Bool) → times_in (d ∷ ds) (cond b (map (λ decisions. kind ∷ decisions) (ways_from n at (next t (decision at kind) []))) [])
          ≡ cond (eqb d kind) (cond b (times_in ds (ways_from n at (next t (decision at kind) []))) 0) 0
      go true = times_map d kind ds (eqb d kind) refl (ways_from n at (next t (decision at kind) []))
      go false = sym (cond_same (eqb d kind) 0)

  none-beginning : (kind : ℕ) → times_in [] (beginning (ways_from n at) t at kind) ≡ 0
  unfolding beginning sum_of
  none-beginning kind = go (eqb (number t (decision at kind) []) 0)
    where
      go : (b : Bool) → times_in [] (cond b (map (λ decisions. kind ∷ decisions) (ways_from n at (next t (decision at kind) []))) []) ≡ 0
      go true = none-map kind (ways_from n at (next t (decision at kind) []))
      go false = refl

-- of the six only the first decision itself counts
picks : (f : ℕ → ℕ) (d : ℕ) → sum_of (λ kind. cond (eqb d kind) (f kind) 0) decision_kinds ≡ cond (is_decision d) (f d) 0
unfolding sum_of is_decision any_of
picks f d = go (eqb d 8) (eqb d 9) (eqb d 10) (eqb d 11) (eqb d 13) (eqb d 14) refl refl refl refl refl refl
  where
    at-kind : (kind : ℕ) → eqb d kind ≡ true → (P : ℕ → Type 0) → P kind → P d
    at-kind kind e P p = subst P (sym (eqb-true d kind e)) p

    Picks : ℕ → Type 0
    Picks k = sum_of (λ kind. cond (eqb k kind) (f kind) 0) decision_kinds ≡ cond (is_decision k) (f k) 0

    go : (a b c e g h : Bool) → eqb d 8 ≡ a → eqb d 9 ≡ b → eqb d 10 ≡ c → eqb d 11 ≡ e → eqb d 13 ≡ g → eqb d 14 ≡ h → Picks d
    go true b c e g h p q r s u v = at-kind 8 p Picks (omega arith)
    go false true c e g h p q r s u v = at-kind 9 q Picks (omega arith)
    go false false true e g h p q r s u v = at-kind 10 r Picks (omega arith)
    go false false false true g h p q r s u v = at-kind 11 s Picks (omega arith)
    go false false false false true h p q r s u v = at-kind 13 u Picks (omega arith)
    go false false false false false true p q r s u v = at-kind 14 v Picks (omega arith)
    go false false false false false false p q r s u v = simp (p, q, r, s, u, v)

-- the tests of a list by those of its first decision and of its rest
joined : (a b c bs cs e : Bool) → cond b (cond c (cond {A = ℕ} (a && bs && cs && e) 1 0) 0) 0 ≡ cond (a && (b && bs) && (c && cs) && e) 1 0
joined a true true bs cs e = refl
joined true true false true cs e = refl
joined true true false false cs e = refl
joined false true false bs cs e = refl
joined true false c bs cs e = refl
joined false false c bs cs e = refl

suc_leb : (a b : ℕ) → leb (suc a) (suc b) ≡ leb a b
suc_leb a b = go (dec_le a b)
  where
    go : Dec (a ≤ b) → leb (suc a) (suc b) ≡ leb a b
    go (yes h) = le-leb (suc a) (suc b) (omega arith) ∙ sym (le-leb a b h)
    go (no h) = lt-leb (suc a) (suc b) (omega arith) ∙ sym (lt-leb a b (omega arith))

module _ (at : At) (t : Table) where
  -- the empty list
  empty-once : (n : ℕ) → times_in [] (ways_from n at t) ≡ cond (eqb (number t Close []) 0) 1 0
  unfolding sum_of same_list
  empty-once n = go n (eqb (number t Close []) 0) (eqb (number t Close []) 7) refl refl
    where
      go : (n : ℕ) (a b : Bool) → eqb (number t Close []) 0 ≡ a → eqb (number t Close []) 7 ≡ b → times_in [] (ways_from n at t) ≡ cond a 1 0
      go n true b e f = ap (times_in []) (ended at t n (eqb-true _ _ e))
      go zero false true e f = ap (times_in []) (spent at t (eqb-true _ _ f))
      go (suc n) false true e f =
          ap (times_in []) (goes at t n (eqb-true _ _ f))
          ∙ sum-flat (λ other. cond (same_list [] other) 1 0) (beginning (ways_from n at) t at) decision_kinds
          ∙ omega (
            arith,
            none-beginning n at t 8,
            none-beginning n at t 9,
            none-beginning n at t 10,
            none-beginning n at t 11,
            none-beginning n at t 13,
            none-beginning n at t 14,
          )
      go n false false e f = ap (times_in []) (stuck at t n (eqb-false _ _ e) (eqb-false _ _ f))

  -- a list with a first decision, where no hand waits
  other_none : (n d : ℕ) (ds : List ℕ) → (number t Close [] ≡ 7 → ⊥) → times_in (d ∷ ds) (ways_from n at t) ≡ 0
  unfolding sum_of same_list
  other_none n d ds still = go (eqb (number t Close []) 0) refl
    where
      go : (a : Bool) → eqb (number t Close []) 0 ≡ a → times_in (d ∷ ds) (ways_from n at t) ≡ 0
      go true e = ap (times_in (d ∷ ds)) (ended at t n (eqb-true _ _ e))
      go false e = ap (times_in (d ∷ ds)) (stuck at t n (eqb-false _ _ e) still)

  -- and where one waits: with no decision left, and with one
  spent-none : (d : ℕ) (ds : List ℕ) → times_in (d ∷ ds) (ways_from 0 at t) ≡ 0
  unfolding sum_of
  spent-none d ds = go (eqb (number t Close []) 7) refl
    where
      go : (b : Bool) → eqb (number t Close []) 7 ≡ b → times_in (d ∷ ds) (ways_from 0 at t) ≡ 0
      go true e = ap (times_in (d ∷ ds)) (spent at t (eqb-true _ _ e))
      go false e = other_none 0 d ds (eqb-false _ _ e)

  goes-times : (n d : ℕ) (ds : List ℕ) → number t Close [] ≡ 7 → times_in (d ∷ ds) (ways_from (suc n) at t) ≡ cond (is_decision d) (behind n at t ds d) 0
  goes-times n d ds waits =
      ap (times_in (d ∷ ds)) (goes at t n waits)
      ∙ sum-flat (λ other. cond (same_list (d ∷ ds) other) 1 0) (beginning (ways_from n at) t at) decision_kinds
      ∙ sum-at-same (λ kind. times_in (d ∷ ds) (beginning (ways_from n at) t at kind)) (λ kind. cond (eqb d kind) (behind n at t ds kind) 0) decision_kinds 0 (λ i h. times-beginning n at t d ds (get_or decision_kinds i 0))
      ∙ picks (behind n at t ds) d

-- a list that begins with d is lawful where d is an accepted decision and the rest is lawful behind it
lawful_tests : (n : ℕ) (at : At) (t : Table) (d : ℕ) (ds : List ℕ)
    → cond (is_decision d) (cond (eqb (number t (decision at d) []) 0) (cond {A = ℕ} (lawful_within n (next t (decision at d) []) at ds) 1 0) 0) 0 ≡ cond (lawful_within (suc n) t at (d ∷ ds)) 1 0
unfolding lawful_within all_of answers run number
lawful_tests n at t d ds =
    let u = next t (decision at d) [] in
    let bs = all_of is_decision ds in
    let c = eqb (number t (decision at d) []) 0 in
    let cs = all_of (λ a. eqb a.number 0) (answers u (plays at ds)) in
    let e = eqb (number (run u (plays at ds)) Close []) 0 in
    joined (leb (length ds) n) (is_decision d) c bs cs e
    ∙ ap (λ (a : Bool). cond {A = ℕ} (a && (is_decision d && bs) && (c && cs) && e) 1 0) (sym (suc_leb (length ds) n))

-- a list that begins with d, told how often the rest stands behind it
module _ (n : ℕ) (at : At) (t : Table) (d : ℕ) (ds : List ℕ) where
  first-once : times_in ds (ways_from n at (next t (decision at d) [])) ≡ cond (lawful_within n (next t (decision at d) []) at ds) 1 0
      → times_in (d ∷ ds) (ways_from (suc n) at t) ≡ cond (lawful_within (suc n) t at (d ∷ ds)) 1 0
  first-once rest = go (eqb (number t Close []) 7) refl
    where
      go : (b : Bool) → eqb (number t Close []) 7 ≡ b → times_in (d ∷ ds) (ways_from (suc n) at t) ≡ cond (lawful_within (suc n) t at (d ∷ ds)) 1 0
      go true e = goes-times at t n d ds (eqb-true _ _ e) ∙ ap (λ (k : ℕ). cond (is_decision d) (cond (eqb (number t (decision at d) []) 0) k 0) 0) rest ∙ lawful_tests n at t d ds
      go false e =
          let barred : eqb (number t (decision at d) []) 0 ≡ false = ne_eqb (number t (decision at d) []) 0 (λ accept. eqb-false (number t Close []) 7 e (decision_seven t at d accept)) in
          let lawful-behind : ℕ = cond (lawful_within n (next t (decision at d) []) at ds) 1 0 in
          other_none at t (suc n) d ds (eqb-false _ _ e)
          ∙ sym (ap (λ (b : Bool). cond (is_decision d) (cond b lawful-behind 0) 0) barred ∙ cond_same (is_decision d) 0)
          ∙ lawful_tests n at t d ds

once : (n : ℕ) (at : At) (t : Table) (ds : List ℕ) → times_in ds (ways_from n at t) ≡ cond (lawful_within n t at ds) 1 0
unfolding lawful_within all_of answers run
once n at t [] = empty-once at t n ∙ ap (λ (b : Bool). cond {A = ℕ} (b && true && true && eqb (number t Close []) 0) 1 0) (sym (leb-zero n))
once zero at t (d ∷ ds) = spent-none at t d ds ∙ simp (lt-leb (suc (length ds)) 0 (omega arith))
once (suc n) at t (d ∷ ds) = first-once n at t d ds (once n at (next t (decision at d) []) ds)

pub each_once_lem : (t : Table) → EachOnce t
each_once_lem t decisions = once most_decisions (player t) t decisions
