-- The recursion counts what the definition lists: a draw's first card is one of the cards left, the points of the others are theirs but for one, and behind the bank's end every draw counts.
use mathlib.Core.Path.{◌≡◌, refl, sym, ◌∙◌, ap}
use mathlib.Core.Bool.{Bool, true, false}
use mathlib.Core.List.{List, [], ◌∷◌, ◌++◌, map}
use Prim.Native.Nat.{ℕ, zero, suc, ◌+◌, ◌-◌, ◌*◌, ◌<◌}
use native.Mathlib.Nat.{mul_comm, mul-one}
use native.Mathlib.Decide.{ℕ_discrete}
use native.Mathlib.Omega.{arith}
use lib.ListN.{length, get_or, length-set}
use lib.Seq.{get_or-set_same, get_or-set_other}
use Rattle.lists.specs.Sum.{sum_of, is_it}
use Rattle.lists.proofs.Below.{sum_below-same}
use Rattle.lists.proofs.Sums.{sum-map, sum_ones}
use Rattle.payment.specs.Bank.{must_draw, bank_takes}
use Rattle.payment.proofs.bank.Draws.{stands_all}
use Rattle.bank_chances.specs.Chances.{draws_ending}
use Rattle.bank_chances.specs.Draws.{draws, first_cards, falling}
use Rattle.bank_chances.specs.Ending.{ending_of, ends_in}
use Rattle.bank_chances.specs.Aids.Ways.{stand_in, standing, without, ways}
use Rattle.bank_chances.proofs.Draws.{Drawn, first-sum, draws-sum, draws_many}
use Rattle.bank_chances.proofs.Groups.{sum_same, sum-each, sum_by_group, is_it_lem, is_not}
use Rattle.bank_chances.proofs.StandIns.{stand_in_below, alike-draws, alike-ends, alike_more}

-- ten counts, by stand-in
abbrev pub Counted : List ℕ → List ℕ → Type 0
Counted cards left = (p : ℕ) → p < 10 → get_or left p 0 ≡ standing cards p

-- a card drawn: one of its points less
drawn-counted : (card : ℕ) (rest cards left : List ℕ) → length left ≡ 10 → Drawn card rest cards → Counted cards left → Counted rest (without left (stand_in card))
drawn-counted card rest cards left ten drawn counted p h = go (ℕ_discrete p (stand_in card))
  where
    one : standing cards p ≡ is_it p (stand_in card) + standing rest p
    one = drawn (λ c. is_it p (stand_in c))

    go : Dec (p ≡ stand_in card) → get_or (without left (stand_in card)) p 0 ≡ standing rest p
    go (yes same) = rw (← same, get_or-set_same left p (get_or left p 0 - 1) 0 (omega arith)) (omega (arith, counted p h, one, is_it_lem p (stand_in card) (sym same)))
    go (no other) = rw (get_or-set_other left (stand_in card) p (get_or left (stand_in card) 0 - 1) 0 other) (omega (arith, counted p h, one, is_not p (stand_in card) (λ e. other (sym e))))

-- the draws that end so, one by one
as_sum : (e : ℕ) (bank cards : List ℕ) (k : ℕ) → draws_ending bank cards k e ≡ sum_of (λ draw. is_it e (ends_in bank draw)) (draws k cards)
unfolding draws_ending
as_sum e bank cards k = sum-map (is_it e) (ends_in bank) (draws k cards)

-- a bank that stands: every draw ends as it stands
stood : (e : ℕ) (bank cards : List ℕ) (k : ℕ) → must_draw bank ≡ false → draws_ending bank cards k e ≡ is_it e (ending_of bank) * falling (length cards) k
stood e bank cards k stands =
    as_sum e bank cards k
    ∙ sum_same (λ draw. is_it e (ends_in bank draw)) (λ draw. is_it e (ending_of bank)) (λ draw. ap (λ (b : List ℕ). is_it e (ending_of b)) (stands_all bank draw stands)) (draws k cards)
    ∙ sum-each (is_it e (ending_of bank)) (draws k cards)
    ∙ ap (λ (n : ℕ). n * is_it e (ending_of bank)) (draws_many k cards)
    ∙ mul_comm (falling (length cards) k) (is_it e (ending_of bank))

-- a bank that draws: by the first card
drew : (e : ℕ) (bank cards : List ℕ) (k : ℕ) → must_draw bank ≡ true
    → draws_ending bank cards (suc k) e ≡ sum_of (λ drawn. draws_ending (bank ++ (drawn.0 ∷ [])) drawn.1 k e) (first_cards cards)
unfolding bank_takes
drew e bank cards k must =
    as_sum e bank cards (suc k)
    ∙ draws-sum (λ draw. is_it e (ends_in bank draw)) k cards
    ∙ sum_same (λ drawn. sum_of (λ draw. is_it e (ends_in bank (drawn.0 ∷ draw))) (draws k drawn.1)) (λ drawn. draws_ending (bank ++ (drawn.0 ∷ [])) drawn.1 k e)
    (λ drawn. rw must (sym (as_sum e (bank ++ (drawn.0 ∷ [])) drawn.1 k))) (first_cards cards)

pub ways_count : (e k : ℕ) (bank likes cards left : List ℕ) (n : ℕ) → map stand_in bank ≡ map stand_in likes → length left ≡ 10 → Counted cards left → n ≡ length cards
    → draws_ending bank cards k e ≡ ways e likes left n k
unfolding ways draws bank_takes sum_of falling
ways_count e zero bank likes cards left n alike ten counted many =
    as_sum e bank cards 0 ∙ omega (arith, mul-one (is_it e (ending_of likes)), ap (is_it e) (alike-ends bank likes alike))
ways_count e (suc k) bank likes cards left n alike ten counted many =
    go (must_draw bank) refl (λ card rest drawn.
    ways_count e k (bank ++ (card ∷ [])) (likes ++ (stand_in card ∷ [])) rest (without left (stand_in card)) (n - 1) (alike_more bank likes card alike)
    (length-set left (stand_in card) (get_or left (stand_in card) 0 - 1) ∙ ten) (drawn-counted card rest cards left ten drawn counted)
    (omega (arith, drawn (λ x. 1), sum_ones rest, sum_ones cards)))
  where
    next : ℕ → ℕ
    next p = ways e (likes ++ (p ∷ [])) (without left p) (n - 1) k

    go : (b : Bool) → must_draw bank ≡ b → ((card : ℕ) (rest : List ℕ) → Drawn card rest cards → draws_ending (bank ++ (card ∷ [])) rest k e ≡ next (stand_in card))
        → draws_ending bank cards (suc k) e ≡ ways e likes left n (suc k)
    go true must rec =
        drew e bank cards k must
        ∙ first-sum (λ card rest. draws_ending (bank ++ (card ∷ [])) rest k e) (λ card. next (stand_in card)) cards rec
        ∙ sum_by_group stand_in next 10 stand_in_below cards
        ∙ sum_below-same (λ p. standing cards p * next p) (λ p. get_or left p 0 * next p) 10 (λ p h. ap (λ (c : ℕ). c * next p) (sym (counted p h)))
        ∙ sym (simp (sym (alike-draws bank likes alike) ∙ must))
    go false stands rec =
        stood e bank cards (suc k) stands
        ∙ sym (simp (sym (alike-draws bank likes alike) ∙ stands, alike-ends bank likes alike, many))
