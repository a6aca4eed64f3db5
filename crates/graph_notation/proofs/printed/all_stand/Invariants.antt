use Rattle.std.proofs.Common.{◌≡◌, ℕ, ◌<◌, [], ◌∷◌, get_or}
use Rattle.graph_notation.specs.Elements.{escaped}
use Rattle.graph_notation.proofs.printed.all_stand.Given as goal

abbrev pub invariant-loop-byte : goal.invariant-loop-byte
invariant-loop-byte l = l.most ≡ 0 → (k : ℕ) → k < l.byte-index → escaped (get_or l.block k 0) ≡ get_or l.block k 0 ∷ []
