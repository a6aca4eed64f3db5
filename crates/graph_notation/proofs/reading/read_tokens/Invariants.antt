use Rattle.std.proofs.Common.{◌≡◌, ◌≤◌, ◌-◌, length, drop}
use Rattle.graph_notation.specs.Limit.{node_limit}
use Rattle.graph_notation.specs.Progress.{SoFar}
use Rattle.graph_notation.specs.View.{state_of, Fine}
use Rattle.graph_notation.proofs.reading.read_tokens.Given as goal

abbrev pub invariant-loop-at : goal.invariant-loop-at
invariant-loop-at l = record { within : l.at ≤ length l.text; so_far : SoFar node_limit l.text (drop l.at l.text) (state_of l.reader); fine : Fine l.reader; limit : l.reader.limit ≡ node_limit }

abbrev pub decreases-loop-at : goal.decreases-loop-at
decreases-loop-at l = length l.text - l.at
