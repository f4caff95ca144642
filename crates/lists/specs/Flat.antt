-- One list of several: the cards of a seat's hands, of all seats.
use Rattle.std.specs.Prelude.{List, [], ◌∷◌, ◌++◌}

module _ {A B : Type 0} where
  -- what `f` gives for each element, one behind the other
  unfoldable pub flat : (A → List B) → List A → List B
  flat f [] = []
  flat f (x ∷ xs) = f x ++ flat f xs
