-- An entry of the list from its two parts, as the lemmas of the calls name it.
use Rattle.std.specs.Prelude.{List, ℕ}
use Rattle.call.specs.declared.Call.{Call}
use Rattle.history.specs.Entry.{Entry}

abbrev pub entry : Call → List ℕ → Entry
entry c order = record { call = c; order = order }
