use Rattle.std.proofs.Common.{◌-◌, ◌≤◌, length}
use Rattle.graph_notation.proofs.Runs.{StandTo}
use Rattle.graph_notation.proofs.printed.stand_by_blocks.Given as goal

-- the bytes before the place stand for themselves
abbrev pub invariant-loop-at : goal.invariant-loop-at
invariant-loop-at l = record { within : l.at ≤ length l.text; stand : StandTo l.text l.at }

abbrev pub decreases-loop-at : goal.decreases-loop-at
decreases-loop-at l = length l.text - l.at
