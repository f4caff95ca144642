-- Request 2.10 beside 2.7: of each face, those that are seen, in hands, as up card and among the discards, and those that are left make up the decks. So the faces left follow
-- from what is seen, and no count tells the box's hidden card.
use Rattle.std.specs.Prelude.{◌≡◌, true, false, List, [], ◌∷◌, ◌++◌, ℕ, ◌+◌, ◌<◌}
use Rattle.lists.specs.Sum.{count_of}
use Rattle.table.specs.declared.Table.{Table}
use Rattle.table.specs.Broken.{broken}
use Rattle.table.specs.Table.{hand_cards, table_discards, is_dealt, up}
use Rattle.faces_left.specs.FacesLeft.{unseen}

abbrev pub seen : Table → List ℕ
seen t = hand_cards t ++ (up t ∷ []) ++ table_discards t

abbrev pub SeenAndLeft : Type 0
SeenAndLeft = (t : Table) → broken t ≡ false → is_dealt t ≡ true → (face : ℕ) → face < 52 → count_of face (seen t) + count_of face (unseen t) ≡ t.options.decks
