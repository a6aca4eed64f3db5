use Rattle.std.proofs.Common.{◌≤◌, ◌-◌, length}
use Rattle.graph_notation.specs.Appending.{BeginsWith}
use Rattle.graph_notation.specs.Pressing.{IsOn}
use Rattle.graph_notation.proofs.printed.write_content.Given as goal

abbrev pub invariant-loop-at : goal.invariant-loop-at
invariant-loop-at l = record { low : l.from ≤ l.at; within : l.at ≤ length l.text; written : IsOn l.initial.out.items l.text l.out.items l.from l.at; begins : BeginsWith l.initial.out.items l.out.items }

abbrev pub decreases-loop-at : goal.decreases-loop-at
decreases-loop-at l = length l.text - l.at
