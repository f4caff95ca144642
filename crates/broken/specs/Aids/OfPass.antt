-- The one pass over the seats: whether each of the nine is sound, and, where each is, the table's sums, and the hands' cards counted beside what the counters held.
use Rattle.std.specs.Prelude.{◌≡◌, List, ℕ, Option, is_some, IfSome}
use Rattle.lists.specs.Below.{all_below}
use Rattle.table.specs.declared.Table.{Table}
use Rattle.table.specs.Broken.{seat_sound}
use Rattle.table.specs.Table.{hand_cards}
use Rattle.money.specs.Sums.{table_sums}
use Rattle.card_count.specs.Aids.Counted.{Counted}
use Rattle.broken.specs.declared.Held.{Held}

pub record OfPass (t : Table) (before after : List ℕ) (v : Option Held) : Type 0 where
  pub each : is_some v ≡ all_below (seat_sound t) 9
  pub sums : IfSome v (λ held. held.sums ≡ table_sums t)
  pub counted : IfSome v (λ held. Counted before after (hand_cards t) held.cards 720)
