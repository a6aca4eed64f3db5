use Rattle.std.proofs.Common.{◌≡◌, ◌-◌, ◌≤◌, length, drop}
use Rattle.graph_notation.specs.Unquoting.{unhexed, behind}
use Rattle.graph_notation.proofs.hex.add_blocks.Given as goal

abbrev pub invariant-loop-at : goal.invariant-loop-at
invariant-loop-at l = record { within : l.at ≤ length l.digits; so_far : unhexed l.digits ≡ behind l.out.items (unhexed (drop l.at l.digits)) }

abbrev pub decreases-loop-at : goal.decreases-loop-at
decreases-loop-at l = length l.digits - l.at
