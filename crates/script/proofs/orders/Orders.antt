-- Laws of orders that cards are placed in: placing cards one by one, a face several times, one more face, and how often a face is among them.
use Rattle.std.proofs.Common.{◌≡◌, refl, List, [], ◌∷◌, ℕ, ◌+◌, arith, add-one}
use Rattle.std.specs.List.{fold, count_by}
use lib.Dec.{eqb}
use Rattle.lists.specs.Sum.{is_it, sum_of, count_of}
use Rattle.script.specs.Begun.{placed, placed_all, placed_face, placed_faces}
use Rattle.script.specs.declared.orders.Order.{Order}

pub fold-placed_all : (o : Order) (cards : List ℕ) → fold placed o cards ≡ placed_all o cards
unfolding placed_all
fold-placed_all o [] = refl
fold-placed_all o (card ∷ cards) = fold-placed_all (placed o card) cards

-- the faces below a number, and the one there
pub faces-next : (o : Order) (first : List ℕ) (decks n : ℕ) → placed_faces o first decks (n + 1) ≡ placed_face (placed_faces o first decks n) n decks (count_of n first)
unfolding placed_faces
faces-next o first decks n = rw add-one

fold-count_of : (face n : ℕ) (cards : List ℕ) → fold (λ a card. a + is_it face card) n cards ≡ n + count_of face cards
unfolding sum_of
fold-count_of face n [] = omega arith
fold-count_of face n (card ∷ cards) = omega (arith, fold-count_of face (n + is_it face card) cards)

pub count_by-count_of : (face : ℕ) (cards : List ℕ) → count_by (λ card. eqb card face) cards ≡ count_of face cards
count_by-count_of face cards = omega (arith, fold-count_of face 0 cards)
