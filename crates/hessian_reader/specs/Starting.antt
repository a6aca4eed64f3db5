-- What a first byte may begin, in a place that takes such elements.
use Rattle.std.specs.Prelude.{◌≡◌, ℕ, ◌<◌, List, [], ◌++◌, length, slice_index, Some, None}
use Rattle.hessian_scalars.specs.Read.{BeginsInt}
use Rattle.hessian_text.specs.declared.stage.Kind.{Kind}
use Rattle.hessian_text.specs.declared.stage.Kind.TheVariants as kinds
use Rattle.hessian_text.specs.declared.stage.Stage.TheVariants as stages
use Rattle.hessian_text.specs.Reader.{Reading, Advances}
use Rattle.hessian_reader.specs.declared.element.Want.{Want}
use Rattle.hessian_reader.specs.declared.element.Want.TheVariants as wants
use Rattle.hessian_reader.specs.Codes.{head_of, kind_of}

-- a scalar, or nothing, begins here with this byte
abbrev pub StartsScalar : Want → ℕ → Type 0
StartsScalar wants.AnyValue code = (kind_of code ≡ None) × (head_of code ≡ None)
StartsScalar wants.AnInt code = BeginsInt code
StartsScalar wants.AType code = BeginsInt code
StartsScalar wants.AText code = ⊥

-- a text or a binary of this kind, or nothing, begins here with this byte
abbrev pub StartsChunks : Want → Kind → ℕ → Type 0
StartsChunks wants.AnyValue kind code = kind_of code ≡ Some kind
StartsChunks wants.AnInt kind code = ⊥
StartsChunks wants.AType kind code = (kind ≡ kinds.Text) × (BeginsInt code → ⊥)
StartsChunks wants.AText kind code = kind ≡ kinds.Text

-- the first of these bytes may begin a scalar here
pub record LeadsScalar (w : Want) (bytes : List ℕ) : Type 0 where
  pub some : 0 < length bytes
  pub starts : StartsScalar w (slice_index bytes 0)

-- these bytes led into a text or a binary that may stand here, and others follow
pub record LeadsChunks (w : Want) (r : Reading) (came piece : List ℕ) : Type 0 where
  pub some : 0 < length (came ++ piece)
  pub starts : StartsChunks w r.kind (slice_index (came ++ piece) 0)
  pub advances : Advances (record { kind = r.kind; done = []; stage = stages.Code }) came r
