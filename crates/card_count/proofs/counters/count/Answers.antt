-- A turn takes four cards off the front, or one; behind the last nothing is left.
use Rattle.std.proofs.Common.{◌≡◌, refl, ap, ◌∙◌, get_or, drop, take, ℕ, zero, suc, List, [], ◌+◌, ◌*◌, ◌/◌, ◌<◌, length, arith}
use Rattle.std.specs.Simd.{first_chunks}
use Rattle.std.proofs.lemmas.List.{drop-drop, drop_all}
use Rattle.card_count.specs.Aids.Counters.{counted_all}
use Rattle.card_count.proofs.counters.Counts.{left_next, left_chunk}
use Rattle.card_count.proofs.counters.count.Goals as goal

-- the four cards of the chunk in a place
chunk_at : (many : ℕ) (xs : List ℕ) (k : ℕ) → k < many → get_or (first_chunks 4 many xs) k [] ≡ take 4 (drop (4 * k) xs)
chunk_at zero xs k h = absurd (omega (arith, h))
chunk_at (suc many) xs zero h = refl
chunk_at (suc many) xs (suc k) h =
    let on : 4 + 4 * k ≡ 4 * suc k = omega arith in
    chunk_at many (drop 4 xs) k (omega arith) ∙ ap (take 4) (drop-drop (4 * k) 4 xs ∙ ap (λ (n : ℕ). drop n xs) on)

pub loop-four-preserved : goal.loop-four-preserved
loop-four-preserved c =
    let cards = c.args.cards.now in
    let k = c.loop-four.four-index in
    let four : get_or c.as_chunks.result.0.now k [] ≡ take 4 (drop (4 * k) cards)
    = ap (λ (l : List (List ℕ)). get_or l k []) c.as_chunks.ensures.front ∙ chunk_at (length cards / 4) cards k (omega (arith, c.as_chunks.ensures.front_len)) in
    let on : 4 * k + 4 ≡ 4 * (k + 1) = omega arith in
    rw (← on) (left_chunk cards (4 * k) 4 c.loop-four.invariant (c.count_four.ensures ∙ ap (counted_all c.loop-four.of) four))

pub loop-card-preserved : goal.loop-card-preserved
loop-card-preserved c = left_next _ c.loop-card.card-index (omega arith) c.loop-card.invariant c.count_one.ensures

pub returns : goal.returns
unfolding counted_all
returns c = rw (drop_all _ _ c.loop-card-test.false) at c.loop-card.invariant.come_to
