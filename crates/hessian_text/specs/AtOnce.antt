-- A text that can be told at once.
use Rattle.std.specs.Prelude.{◌≡◌, ℕ, ◌+◌, ◌≤◌, List, length, take, drop}
use Rattle.std.specs.Str.{IsAscii}
use Rattle.hessian_text.specs.declared.stage.Kind.TheVariants.{Text}
use Rattle.hessian_text.specs.declared.stage.Part.TheVariants.{Final}
use Rattle.hessian_text.specs.ChunkHead.{ChunkHead}

-- a text in ASCII whose only chunk, with a head of one byte or two, lies whole at the front of a piece
pub record LiesAtOnce (piece text : List ℕ) (len : ℕ) : Type 0 where
  pub short : len ≤ 2
  pub head : ChunkHead Text Final (length text) (take len piece)
  pub within : len + length text ≤ length piece
  pub characters : text ≡ take (length text) (drop len piece)
  pub ascii : IsAscii text
