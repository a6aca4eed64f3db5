-- The writer's spelling of a value: its shortest.
use Rattle.std.specs.Prelude.{◌≡◌, ◌≤◌, ℕ, List, ◌++◌, length}
use Rattle.hessian_scalars.specs.declared.scalar.Scalar.{Scalar}
use Rattle.hessian_scalars.specs.ScalarSpelling.{ScalarSpelling}

-- these bytes spell v, and no fewer do
pub record IsShortest (v : Scalar) (bytes : List ℕ) : Type 0 where
  pub spells : ScalarSpelling v bytes
  pub shortest : (other : List ℕ) → ScalarSpelling v other → length bytes ≤ length other

-- new is old and, behind it, the writer's spelling of v
pub record Appends (old new : List ℕ) (v : Scalar) : Type 0 where
  pub spelling : List ℕ
  pub written : IsShortest v spelling
  pub joined : new ≡ old ++ spelling
