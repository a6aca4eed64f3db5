-- What is still to come where a reading stands between two bytes.
use Rattle.std.specs.Prelude.{◌≡◌, ℕ, ◌<◌, ◌+◌, ◌*◌, List, [], ◌∷◌, ◌++◌}
use Rattle.hessian_text.specs.declared.stage.Kind.{Kind}
use Rattle.hessian_text.specs.declared.stage.Part.{Part}
use Rattle.hessian_text.specs.declared.stage.Part.TheVariants.{Inner, Final}
use Rattle.hessian_text.specs.declared.stage.Begun.{Begun}
use Rattle.hessian_text.specs.declared.stage.Begun.TheVariants.{Nothing, One, Two, Three, Four, Five}
use Rattle.hessian_text.specs.declared.stage.Stage.{Stage}
use Rattle.hessian_text.specs.declared.stage.Stage.TheVariants.{Code, High, Low, Inside, Ended}
use Rattle.hessian_text.specs.Items.{Contents}
use Rattle.hessian_text.specs.Spelling.{Spelling}

-- the bytes of a character that has begun
abbrev pub begun_bytes : Begun → List ℕ
begun_bytes Nothing = []
begun_bytes (One a) = a ∷ []
begun_bytes (Two a b) = a ∷ b ∷ []
begun_bytes (Three a b c) = a ∷ b ∷ c ∷ []
begun_bytes (Four a b c d) = a ∷ b ∷ c ∷ d ∷ []
begun_bytes (Five a b c d e) = a ∷ b ∷ c ∷ d ∷ e ∷ []

-- behind a chunk: nothing where it was the last, else a spelling
abbrev pub Follows : Kind → Part → List ℕ → List ℕ → Type 0
Follows kind Final value bytes = (value ≡ []) × (bytes ≡ [])
Follows kind Inner value bytes = Spelling kind value bytes

-- the bytes are so many units of a chunk, and what follows it
pub record IsRest (kind : Kind) (part : Part) (left : ℕ) (value bytes : List ℕ) : Type 0 where
  pub inside : List ℕ
  pub values : List ℕ
  pub forms : List ℕ
  pub after : List ℕ
  pub contents : Contents kind inside left forms
  pub follows : Follows kind part values after
  pub value_is : value ≡ inside ++ values
  pub bytes_are : bytes ≡ forms ++ after

-- the low byte of a length, and so many units
pub record IsLowRest (kind : Kind) (part : Part) (high : ℕ) (value bytes : List ℕ) : Type 0 where
  pub b0 : ℕ
  pub rest : List ℕ
  pub small : b0 < 256
  pub bytes_are : bytes ≡ b0 ∷ rest
  pub goes_on : IsRest kind part (high * 256 + b0) value rest

-- both bytes of a length, and so many units
pub record IsHighRest (kind : Kind) (part : Part) (value bytes : List ℕ) : Type 0 where
  pub b1 : ℕ
  pub rest : List ℕ
  pub small : b1 < 256
  pub bytes_are : bytes ≡ b1 ∷ rest
  pub goes_on : IsLowRest kind part b1 value rest

-- what came before, followed by these bytes, spells what was read before, followed by this value
abbrev pub Completes : Kind → Stage → List ℕ → List ℕ → Type 0
Completes kind Code value bytes = Spelling kind value bytes
Completes kind (High part) value bytes = IsHighRest kind part value bytes
Completes kind (Low part high) value bytes = IsLowRest kind part high value bytes
Completes kind (Inside part left begun) value bytes = IsRest kind part left value (begun_bytes begun ++ bytes)
Completes kind Ended value bytes = (value ≡ []) × (bytes ≡ [])
