-- What stands at a place of bytes.
use Rattle.std.specs.Prelude.{◌≡◌, ◌≢◌, ℕ, ◌≤◌, ℤ, List, [], ◌∷◌, ◌++◌, length, slice_range}
use Rattle.hessian_scalars.specs.declared.scalar.Scalar.{Scalar}
use Rattle.hessian_scalars.specs.declared.scalar.Scalar.TheVariants as scalars
use Rattle.hessian_scalars.specs.ScalarSpelling.{ScalarSpelling, IsDoubleCode}

-- bytes[at..end] spell v
pub record IsSpelledAt (bytes : List ℕ) (at : ℕ) (v : Scalar) (end : ℕ) : Type 0 where
  pub within : end ≤ length bytes
  pub spells : ScalarSpelling v (slice_range bytes at end)

-- some spelling goes on behind these bytes
pub record IsProperPrefix (bytes : List ℕ) : Type 0 where
  pub value : Scalar
  pub more : List ℕ
  pub lacks : more ≢ []
  pub spells : ScalarSpelling value (bytes ++ more)

-- some spelling of an int goes on behind these bytes
pub record IsIntPrefix (bytes : List ℕ) : Type 0 where
  pub number : ℤ
  pub more : List ℕ
  pub lacks : more ≢ []
  pub spells : ScalarSpelling (scalars.Int number) (bytes ++ more)

-- no spelling begins with this code, and no double does
pub record BeginsNothing (code : ℕ) : Type 0 where
  pub no_scalar : (v : Scalar) (more : List ℕ) → ScalarSpelling v (code ∷ more) → ⊥
  pub no_double : IsDoubleCode code → ⊥

-- a spelling of an int begins with this code
pub record BeginsInt (code : ℕ) : Type 0 where
  pub number : ℤ
  pub more : List ℕ
  pub spells : ScalarSpelling (scalars.Int number) (code ∷ more)

-- an int
pub record IsInt (v : Scalar) : Type 0 where
  pub number : ℤ
  pub is : v ≡ scalars.Int number

-- no spelling of an int begins with this code
abbrev pub BeginsNoInt : ℕ → Type 0
BeginsNoInt code = (z : ℤ) (more : List ℕ) → ScalarSpelling (scalars.Int z) (code ∷ more) → ⊥
