use Rattle.std.proofs.Common.{◌≡◌, ◌-◌, ◌≤◌, length, take}
use Rattle.std.specs.List.{sum_by}
use Rattle.hessian_text.specs.Units.{byte_units}
use Rattle.hessian_text.proofs.units.unit_count.Given as goal

abbrev pub invariant-loop-at : goal.invariant-loop-at
invariant-loop-at l = record { within : l.at ≤ length l.text; so_far : l.units ≡ sum_by byte_units (take l.at l.text) }

abbrev pub decreases-loop-at : goal.decreases-loop-at
decreases-loop-at l = length l.text - l.at
