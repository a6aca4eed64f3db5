use Rattle.std.proofs.Common.{◌≡◌, ◌-◌, ◌<◌, ◌≤◌, length, take}
use Rattle.std.specs.Prelude.{decimal}
use Rattle.graph_notation.proofs.numbers.small.Given as goal

abbrev pub invariant-loop-at : goal.invariant-loop-at
invariant-loop-at l = record { within : l.at ≤ length l.bytes; some : 0 < l.value; few : l.value < 1000000000000000000; written : take l.at l.bytes ≡ decimal l.value }

abbrev pub decreases-loop-at : goal.decreases-loop-at
decreases-loop-at l = length l.bytes - l.at
