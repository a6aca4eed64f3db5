-- Texts and binaries are any number of chunks that are not the last, and then the last.
use Rattle.std.specs.Prelude.{◌≢◌, ℕ, ◌<◌, ◌≤◌, List, [], ◌++◌, length, slice_index, slice_range}
use Rattle.hessian_text.specs.declared.stage.Kind.{Kind}
use Rattle.hessian_text.specs.declared.stage.Kind.TheVariants.{Text, Binary}
use Rattle.hessian_text.specs.declared.stage.Part.TheVariants.{Inner, Final}
use Rattle.hessian_text.specs.ChunkHead.{ChunkHead}
use Rattle.hessian_text.specs.Items.{Contents}

-- the bytes spell this value, which is what the chunks contain
pub data Spelling (kind : Kind) : List ℕ → List ℕ → Type 0 where
  last : (value head forms : List ℕ) (units : ℕ) → ChunkHead kind Final units head → Contents kind value units forms → Spelling kind value (head ++ forms)
  chunk : (value values head forms rest : List ℕ) (units : ℕ) → ChunkHead kind Inner units head → Contents kind value units forms → Spelling kind values rest → Spelling kind (value ++ values) (head ++ (forms ++ rest))

-- a text, in UTF-8, and its bytes
abbrev pub TextSpelling : List ℕ → List ℕ → Type 0
TextSpelling text bytes = Spelling Text text bytes

abbrev pub BinarySpelling : List ℕ → List ℕ → Type 0
BinarySpelling contents bytes = Spelling Binary contents bytes

-- bytes[at..end] spell the value
pub record IsSpelledAt (kind : Kind) (bytes : List ℕ) (at : ℕ) (value : List ℕ) (end : ℕ) : Type 0 where
  pub after : at ≤ end
  pub within : end ≤ length bytes
  pub spells : Spelling kind value (slice_range bytes at end)

-- a spelling goes on after all of these bytes
pub record IsCutShort (kind : Kind) (bytes : List ℕ) : Type 0 where
  pub value : List ℕ
  pub more : List ℕ
  pub lacks : more ≢ []
  pub spells : Spelling kind value (bytes ++ more)

-- each number is a byte
pub record AreBytes (bytes : List ℕ) : Type 0 where
  pub small : (i : ℕ) → i < length bytes → slice_index bytes i < 256
