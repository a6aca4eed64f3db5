-- Nodes that are put together.
use Rattle.std.specs.Prelude.{◌≡◌, ◌≤◌, List, ◌++◌, length}

-- at most one row is added at the end
pub record Grows {N : Type 0} (old new : List N) : Type 0 where
  pub more : List N
  pub is : new ≡ old ++ more
  pub one : length more ≤ 1
