-- An element of which some bytes came, and what more bytes make of it.
use Rattle.std.specs.Prelude.{◌≡◌, ◌≢◌, ℕ, ◌<◌, ◌≤◌, List, [], ◌++◌, take}
use Rattle.hessian_scalars.specs.Read.{IsProperPrefix, IsIntPrefix}
use Rattle.hessian_text.specs.declared.stage.Kind.{Kind}
use Rattle.hessian_text.specs.declared.stage.Kind.TheVariants as kinds
use Rattle.hessian_text.specs.declared.stage.Stage.TheVariants as stages
use Rattle.hessian_text.specs.Reader.{Reading, Advances}
use Rattle.hessian_reader.specs.declared.element.Want.{Want}
use Rattle.hessian_reader.specs.declared.element.Want.TheVariants as wants
use Rattle.hessian_reader.specs.declared.lexer.Inside.{Inside}
use Rattle.hessian_reader.specs.declared.lexer.Inside.TheVariants as insides
use Rattle.hessian_reader.specs.declared.lexer.Lexer.{Lexer}
use Rattle.hessian_reader.specs.declared.lexer.Lexed.{Lexed}
use Rattle.hessian_reader.specs.declared.lexer.Lexed.TheVariants as lexed
use Rattle.hessian_reader.specs.Elements.{IsElement, HasNoElement}

-- a scalar may stand here, and these bytes are the beginning of one
abbrev pub BeginsScalar : Want → List ℕ → Type 0
BeginsScalar wants.AnyValue bytes = IsProperPrefix bytes
BeginsScalar wants.AnInt bytes = IsIntPrefix bytes
BeginsScalar wants.AType bytes = IsIntPrefix bytes
BeginsScalar wants.AText bytes = ⊥

-- a text or a binary may stand here
abbrev pub TakesChunks : Want → Kind → Type 0
TakesChunks wants.AnyValue kind = Unit {0}
TakesChunks wants.AnInt kind = ⊥
TakesChunks wants.AType kind = kind ≡ kinds.Text
TakesChunks wants.AText kind = kind ≡ kinds.Text

-- these bytes led into a text or a binary, and not to its end
pub record BeginsChunks (w : Want) (r : Reading) (came : List ℕ) : Type 0 where
  pub some : came ≢ []
  pub takes : TakesChunks w r.kind
  pub advances : Advances (record { kind = r.kind; done = []; stage = stages.Code }) came r
  pub still_open : r.stage ≢ stages.Ended

-- these bytes of an element came
abbrev pub Holds : Want → Inside → List ℕ → Type 0
Holds w insides.Nothing came = came ≡ []
Holds w (insides.Scalar bytes) came = (came ≡ bytes) × (bytes ≢ []) × BeginsScalar w bytes
Holds w (insides.Chunks c) came = BeginsChunks w c.reader came

-- what a piece made stands within it
abbrev pub IsWithin : ℕ → Lexed → Type 0
IsWithin total lexed.More = Unit {0}
IsWithin total (lexed.Whole x used) = used ≤ total
IsWithin total (lexed.Double code) = Unit {0}
IsWithin total (lexed.NoCode place code) = place < total
IsWithin total (lexed.NoText place begun) = place < total

-- what a piece makes of an element of which these bytes came
abbrev pub Lexes : Want → List ℕ → List ℕ → Lexer → Lexed → Type 0
Lexes w came piece new lexed.More = (new.want ≡ w) × Holds w new.inside (came ++ piece)
Lexes w came piece new (lexed.Whole x used) = IsElement w (came ++ take used piece) x
Lexes w came piece new (lexed.Double code) = HasNoElement w (came ++ piece)
Lexes w came piece new (lexed.NoCode place code) = HasNoElement w (came ++ piece)
Lexes w came piece new (lexed.NoText place begun) = HasNoElement w (came ++ piece)
