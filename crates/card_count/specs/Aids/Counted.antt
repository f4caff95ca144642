-- What a function that counts gives: the counters with its cards counted, and the number of these cards, which is within a bound.
use Rattle.std.specs.Prelude.{◌≡◌, List, ℕ, ◌≤◌, length}
use Rattle.card_count.specs.Aids.Counters.{counted_all}

pub record Counted (before after cards : List ℕ) (many most : ℕ) : Type 0 where
  pub counters : after ≡ counted_all before cards
  pub number : many ≡ length cards
  pub few : many ≤ most
