-- Why no text and no binary stands at a place.
use Rattle.std.specs.Prelude.{◌≡◌, ℕ, ◌<◌, ◌≤◌, ◌+◌, List, [], ◌∷◌, ◌++◌, length, drop, slice_index, slice_range}
use Rattle.hessian_text.specs.declared.stage.Kind.{Kind}
use Rattle.hessian_text.specs.declared.stage.Kind.TheVariants.{Text, Binary}
use Rattle.hessian_text.specs.declared.stage.Part.{Part}
use Rattle.hessian_text.specs.declared.stage.Part.TheVariants.{Inner}
use Rattle.hessian_text.specs.declared.fault.TextFault.{TextFault}
use Rattle.hessian_text.specs.declared.fault.TextFault.TheVariants as texts
use Rattle.hessian_text.specs.declared.fault.BinaryFault.{BinaryFault}
use Rattle.hessian_text.specs.declared.fault.BinaryFault.TheVariants as binaries
use Rattle.hessian_text.specs.ChunkHead.{ChunkHead}
use Rattle.hessian_text.specs.Items.{Contents, IsItem}
use Rattle.hessian_text.specs.Spelling.{Spelling, IsCutShort}

-- whole chunks, none of them the last: a code stands behind them
pub data InnerChunks (kind : Kind) : List ℕ → Type 0 where
  none : InnerChunks kind []
  chunk : (value head forms rest : List ℕ) (units : ℕ) → ChunkHead kind Inner units head → Contents kind value units forms → InnerChunks kind rest → InnerChunks kind (head ++ (forms ++ rest))

-- whole chunks, a head, and whole items: an item stands behind them, in a chunk with so many units left
pub record IsBeforeItem (kind : Kind) (part : Part) (left : ℕ) (bytes : List ℕ) : Type 0 where
  pub chunks : List ℕ
  pub head : List ℕ
  pub forms : List ℕ
  pub value : List ℕ
  pub stated : ℕ
  pub units : ℕ
  pub earlier : InnerChunks kind chunks
  pub begins : ChunkHead kind part stated head
  pub contents : Contents kind value units forms
  pub some_left : 0 < left
  pub are_left : units + left ≡ stated
  pub bytes_are : bytes ≡ chunks ++ (head ++ forms)

-- no spelling begins with this code
abbrev pub BeginsNothing : Kind → ℕ → Type 0
BeginsNothing kind code = (value more : List ℕ) → Spelling kind value (code ∷ more) → ⊥

-- however the bytes go on, no item that fits the units left stands at their front
abbrev pub BeginsNoItem : Kind → ℕ → List ℕ → Type 0
BeginsNoItem kind left bytes = (value form more after : List ℕ) (units : ℕ) → IsItem kind value units form → units ≤ left → bytes ++ more ≡ form ++ after → ⊥

-- the code at p, behind whole chunks that begin at `at`, begins no chunk
pub record IsBadCode (kind : Kind) (bytes : List ℕ) (at p code : ℕ) : Type 0 where
  pub after : at ≤ p
  pub within : p < length bytes
  pub behind : InnerChunks kind (slice_range bytes at p)
  pub code_is : code ≡ slice_index bytes p
  pub begins : BeginsNothing kind code

-- the bytes from p on, in a character's place of a text that begins at `at`, are no character
pub record IsBadText (bytes : List ℕ) (at p : ℕ) : Type 0 where
  pub after : at ≤ p
  pub within : p < length bytes
  pub part : Part
  pub left : ℕ
  pub behind : IsBeforeItem Text part left (slice_range bytes at p)
  pub begins : BeginsNoItem Text left (drop p bytes)

-- the bytes end inside a spelling that begins at `at`
pub record IsShort (kind : Kind) (bytes : List ℕ) (at p : ℕ) : Type 0 where
  pub at_end : p ≡ length bytes
  pub cut : IsCutShort kind (drop at bytes)

abbrev pub RefusesText : List ℕ → ℕ → TextFault → Type 0
RefusesText bytes at (texts.Short p) = IsShort Text bytes at p
RefusesText bytes at (texts.BadCode p code) = IsBadCode Text bytes at p code
RefusesText bytes at (texts.BadText p) = IsBadText bytes at p
RefusesText bytes at texts.OutOfMemory = Unit {0}

abbrev pub RefusesBinary : List ℕ → ℕ → BinaryFault → Type 0
RefusesBinary bytes at (binaries.Short p) = IsShort Binary bytes at p
RefusesBinary bytes at (binaries.BadCode p code) = IsBadCode Binary bytes at p code
RefusesBinary bytes at binaries.OutOfMemory = Unit {0}
