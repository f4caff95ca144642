-- Cards stored one by one onto the discards are all of them discarded: what every loop that discards cites.
use mathlib.Core.Path.{◌≡◌}
use mathlib.Core.List.{List}
use Prim.Native.Nat.{ℕ, ◌+◌}
use lib.ListN.{length}
use lib.Seq.{sets}
use Rattle.table.specs.declared.Shoe.{Shoe}
use Rattle.table.specs.Shoe.{make_shoe, discard}

-- all of them are, and their number counts
pub discard_stored : (sh : Shoe) (l cards : List ℕ) (n : ℕ) → l ≡ sets sh.discards sh.discarded cards → n ≡ length cards
    → make_shoe sh.order sh.drawn l (sh.discarded + n) sh.begun ≡ discard sh cards
discard_stored sh l cards n stored counted = rw (stored, counted)
