-- What reading a text or a binary answers.
use Rattle.std.specs.Prelude.{◌≡◌, ℕ, List}
use Rattle.hessian_text.specs.declared.stage.Kind.{Kind}
use Rattle.hessian_text.specs.declared.stage.Kind.TheVariants.{Text}
use Rattle.hessian_text.specs.declared.reading.ChunkFault.{ChunkFault}
use Rattle.hessian_text.specs.declared.reading.ChunkFault.TheVariants as chunks
use Rattle.hessian_text.specs.Refusal.{IsShort, IsBadCode, IsBadText}

abbrev pub RefusesChunk : Kind → List ℕ → ℕ → ChunkFault → Type 0
RefusesChunk kind bytes at (chunks.Short p) = IsShort kind bytes at p
RefusesChunk kind bytes at (chunks.BadCode p code) = IsBadCode kind bytes at p code
RefusesChunk kind bytes at (chunks.BadText p) = (kind ≡ Text) × IsBadText bytes at p
RefusesChunk kind bytes at chunks.OutOfMemory = Unit {0}
