-- The conditions of a block whose check is right: all are 26, so they may be asked in groups, and in one test.
use mathlib.Core.Path.{◌≡◌, refl, sym, ap, ap₂, ◌∙◌}
use mathlib.Core.Bool.{Bool, true, false, cond, not, ◌&&◌, ◌||◌, or-false, and-true, and_assoc}
use mathlib.Core.List.{List, [], ◌∷◌}
use Prim.Native.Nat.{ℕ, zero, suc, ◌+◌, ◌-◌, ◌*◌, ◌≤◌}
use native.Mathlib.Omega.{arith}
use lib.Dec.{ltb, eqb}
use lib.ListN.{length, take, drop, get_or}
use lib.Pointwise.{pointwise}
use Rattle.std.proofs.lemmas.Slice.{between_is}
use Rattle.std.specs.List.{list_any, list_all}
use Rattle.lists.specs.Tests.{any_of, all_of}
use Rattle.lists.specs.Below.{all_below}
use Rattle.lists.proofs.Tests.{any_both}
use Rattle.options.specs.Ranges.{in_range}
use Rattle.table.specs.Shoe.{valid_order}
use Rattle.call.specs.Refusal.{asked, first}
use Rattle.file_spec.specs.Block.{content, checks, zeros}
use Rattle.file_spec.specs.TableBlock.{options_in, cards_in, order_in, table_conditions}
use Rattle.file_spec.specs.CallBlock.{most, many_in, codes_in, code_kind, code_seat, code_amount, has_seat, has_amount, is_load_code, ends_in_load, call_conditions}
use Rattle.file_block.specs.Aids.Codes.{faulty_code, ends_badly, has_calls}
use Rattle.file_block.specs.Aids.Tables.{all_zero, has_table}

-- the library's tests over a list
pub any_is : {A : Type 0} (f : A → Bool) (xs : List A) → list_any f xs ≡ any_of f xs
unfolding any_of
any_is f [] = refl
any_is f (x ∷ xs) = ap (λ (b : Bool). f x || b) (any_is f xs)

pub all_is : {A : Type 0} (f : A → Bool) (xs : List A) → list_all f xs ≡ all_of f xs
unfolding all_of
all_is f [] = refl
all_is f (x ∷ xs) = ap (λ (b : Bool). f x && b) (all_is f xs)

-- the library's comparison of the first bytes of two lists
below_first : (f : ℕ → Bool) (n : ℕ) → all_below f (suc n) ≡ f 0 && all_below (λ k. f (suc k)) n
unfolding all_below
below_first f zero = sym (and-true (f 0))
below_first f (suc n) = ap (λ (b : Bool). b && f (suc n)) (below_first f n) ∙ and_assoc (f 0) (all_below (λ k. f (suc k)) n) (f (suc n))

pub same_first : (n : ℕ) (a b : List ℕ) → n ≤ length a → n ≤ length b → pointwise eqb (take n a) (take n b) ≡ all_below (λ k. eqb (get_or a k 0) (get_or b k 0)) n
unfolding all_below
same_first zero a b h k = refl
same_first (suc n) [] b h k = absurd (omega arith)
same_first (suc n) (x ∷ a) [] h k = absurd (omega arith)
same_first (suc n) (x ∷ a) (y ∷ b) h k =
    ap (λ (c : Bool). eqb x y && c) (same_first n a b (omega arith) (omega arith)) ∙ sym (below_first (λ i. eqb (get_or (x ∷ a) i 0) (get_or (y ∷ b) i 0)) n)

-- zeros by the library's test, and those behind a place of a block's content
zeros_are : (bytes : List ℕ) → zeros bytes ≡ all_zero bytes
zeros_are bytes = sym (all_is (λ b. eqb b 0) bytes)

zeros-behind : (block : List ℕ) (end : ℕ) → zeros (drop end (content block)) ≡ all_zero (take (508 - end) (drop end block))
zeros-behind block end = zeros_are (drop end (take 508 block)) ∙ ap all_zero (sym (between_is block end 508))

four : (a b c d : Bool) → asked 26 (not a) (asked 26 (not b) (asked 26 (not c) (asked 26 (not d) 0))) ≡ asked 26 (not (a && b && c && d)) 0
four false b c d = refl
four true false c d = refl
four true true false d = refl
four true true true d = refl

pub table_first : (block : List ℕ) → checks block ≡ true → first (table_conditions block) ≡ asked 26 (not (has_table block)) 0
unfolding first table_conditions
table_first block e =
    let between = take 9 (drop 23 block) in
    rw e (four (in_range (options_in block)) (valid_order (get_or block 1 0) (order_in block)) (zeros between) (zeros (drop (32 + cards_in block) (content block)))
    ∙ ap₂ (λ (b end : Bool). asked 26 (not (in_range (options_in block) && valid_order (get_or block 1 0) (order_in block) && b && end)) 0) (zeros_are between) (zeros-behind block (32 + cards_in block)))

groups : (m k s a l z x y : Bool)
    → asked 26 m (asked 26 k (asked 26 s (asked 26 a (asked 26 l (asked 26 z (asked 26 x (asked 26 y 0)))))))
    ≡ asked 26 m (asked 26 (k || s || a) (asked 26 l (asked 26 z (asked 26 (x || y) 0))))
groups true k s a l z x y = refl
groups false true s a l z x y = refl
groups false false true a l z x y = refl
groups false false false true l z x y = refl
groups false false false false true z x y = refl
groups false false false false false true x y = refl
groups false false false false false false true y = refl
groups false false false false false false false y = refl

-- a test for the last block, another for those before it
either : (last a b y : Bool) → (not last && a && b) || (last && y) ≡ cond last y (a && b)
either true a b y = refl
either false a b y = or-false (a && b)

-- three tests over a list in one walk
any_three : (f g h : List ℕ → Bool) (xs : List (List ℕ)) → any_of (λ x. f x || g x || h x) xs ≡ any_of f xs || any_of g xs || any_of h xs
any_three f g h xs = any_both (λ x. f x || g x) h true xs ∙ ap (λ (b : Bool). b || any_of h xs) (any_both f g true xs)

pub call_first : (last : Bool) (block : List ℕ) → checks block ≡ true
    → first (call_conditions last block)
    ≡ asked 26 (eqb (many_in block) 0 || ltb most (many_in block))
    (asked 26 (any_of faulty_code (codes_in block))
    (asked 26 (any_of is_load_code (take (many_in block - 1) (codes_in block)))
    (asked 26 (not (zeros (drop (1 + 10 * many_in block) (content block))))
    (asked 26 (ends_badly last block) 0))))
unfolding first call_conditions faulty_code
call_first last block e =
    let kinds : List ℕ → Bool = λ code. eqb (code_kind code) 0 || ltb 21 (code_kind code) in
    let seats : List ℕ → Bool = λ code. not (has_seat (code_kind code)) && not (eqb (code_seat code) 0) in
    let amounts : List ℕ → Bool = λ code. not (has_amount (code_kind code)) && not (eqb (code_amount code) 0) in
    let codes = codes_in block in
    let some = eqb (many_in block) 0 || ltb most (many_in block) in
    let loads = any_of is_load_code (take (many_in block - 1) codes) in
    let tail = not (zeros (drop (1 + 10 * many_in block) (content block))) in
    let few = ltb (many_in block) most in
    let load = ends_in_load block in
    rw e
    (groups some (any_of kinds codes) (any_of seats codes) (any_of amounts codes) loads tail (not last && few && not load) (last && load)
    ∙ ap₂ (λ (faults badly : Bool). asked 26 some (asked 26 faults (asked 26 loads (asked 26 tail (asked 26 badly 0)))))
    (sym (any_three kinds seats amounts codes)) (either last few (not load) load))

-- the five are one test
one_test : (n p f l z x : Bool) → asked 26 (n || p) (asked 26 f (asked 26 l (asked 26 (not z) (asked 26 x 0)))) ≡ asked 26 (not (not n && not p && not f && not l && z && not x)) 0
one_test true p f l z x = refl
one_test false true f l z x = refl
one_test false false true l z x = refl
one_test false false false true z x = refl
one_test false false false false false x = refl
one_test false false false false true true = refl
one_test false false false false true false = refl

pub has_calls-first : (last : Bool) (block : List ℕ) → checks block ≡ true → first (call_conditions last block) ≡ asked 26 (not (has_calls last block)) 0
has_calls-first last block e =
    let codes = codes_in block in
    let before = take (many_in block - 1) codes in
    let end = 1 + 10 * many_in block in
    let faults : any_of faulty_code codes ≡ list_any faulty_code codes = sym (any_is faulty_code codes) in
    let loads : any_of is_load_code before ≡ list_any is_load_code before = sym (any_is is_load_code before) in
    call_first last block e
    ∙ one_test (eqb (many_in block) 0) (ltb most (many_in block)) (any_of faulty_code codes) (any_of is_load_code before) (zeros (drop end (content block))) (ends_badly last block)
    ∙ rw (faults, loads, zeros-behind block end)
