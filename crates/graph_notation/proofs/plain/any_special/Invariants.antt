use Rattle.std.proofs.Common.{◌≡◌, ℕ, ◌<◌, get_or, false}
use Rattle.graph_notation.specs.Unquoting.{is_special}
use Rattle.graph_notation.proofs.plain.any_special.Given as goal

abbrev pub invariant-loop-byte : goal.invariant-loop-byte
invariant-loop-byte l = l.any ≡ false → (k : ℕ) → k < l.byte-index → is_special (get_or l.block k 0) ≡ false
