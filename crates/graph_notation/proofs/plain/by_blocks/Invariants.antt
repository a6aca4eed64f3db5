use Rattle.std.proofs.Common.{◌-◌, ◌≤◌, length}
use Rattle.graph_notation.specs.Unquoting.{ArePlain}
use Rattle.graph_notation.proofs.plain.by_blocks.Given as goal

abbrev pub invariant-loop-end : goal.invariant-loop-end
invariant-loop-end l = record { low : l.fn.at ≤ l.end; within : l.end ≤ length l.text; plain : ArePlain l.text l.fn.at l.end }

abbrev pub decreases-loop-end : goal.decreases-loop-end
decreases-loop-end l = length l.text - l.end
