-- The four elements are the whole list, counted from the front.
use Rattle.std.proofs.Common.{◌≡◌, refl, rules, get_or, ℕ, List, [], ◌∷◌, length, arith}
use Rattle.card_count.specs.Aids.Counters.{counted, counted_all}
use Rattle.card_count.proofs.counters.count_four.Goals as goal

four_of : (of four : List ℕ) → length four ≡ 4 → counted_all of four ≡ counted (counted (counted (counted of (get_or four 0 0)) (get_or four 1 0)) (get_or four 2 0)) (get_or four 3 0)
unfolding counted_all
four_of of (a ∷ b ∷ c ∷ d ∷ []) e = refl
four_of of [] e = absurd (omega arith)
four_of of (a ∷ []) e = absurd (omega arith)
four_of of (a ∷ b ∷ []) e = absurd (omega arith)
four_of of (a ∷ b ∷ c ∷ []) e = absurd (omega arith)
four_of of (a ∷ b ∷ c ∷ d ∷ x ∷ xs) e = absurd (omega arith)

pub returns : goal.returns
returns c = rw (four_of c.args.of.now c.args.four.now (search rules), ← c.count_one.ensures, ← c.count_one-2.ensures, ← c.count_one-3.ensures) c.count_one-4.ensures
