use Rattle.std.proofs.Common.{◌≡◌, ◌-◌, ◌≤◌, length, drop}
use Rattle.graph_notation.specs.Unquoting.{unhexed, behind}
use Rattle.graph_notation.proofs.hex.add_pairs.Given as goal

abbrev pub invariant-loop-at : goal.invariant-loop-at
invariant-loop-at l = (l.at ≤ length l.digits) × (unhexed l.digits ≡ behind l.out.items (unhexed (drop l.at l.digits)))

abbrev pub decreases-loop-at : goal.decreases-loop-at
decreases-loop-at l = length l.digits - l.at
