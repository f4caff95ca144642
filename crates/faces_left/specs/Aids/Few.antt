-- So few cards of each face that a byte holds their number.
use Rattle.std.specs.Prelude.{List, ℕ, ◌+◌, ◌≤◌, ◌<◌}
use Rattle.lists.specs.Sum.{count_of}

pub record Few (first second : List ℕ) : Type 0 where
  pub each : (face : ℕ) → face < 52 → count_of face first + count_of face second ≤ 8
