use Rattle.std.proofs.Common.{◌-◌, ◌≤◌}
use Rattle.graph_notation.specs.Unquoting.{ArePlain}
use Rattle.graph_notation.proofs.plain.one_by_one.Given as goal

abbrev pub invariant-loop-end : goal.invariant-loop-end
invariant-loop-end l = record { low : l.fn.at ≤ l.end; within : l.end ≤ l.limit; plain : ArePlain l.text l.fn.at l.end }

abbrev pub decreases-loop-end : goal.decreases-loop-end
decreases-loop-end l = l.limit - l.end
