use Rattle.std.proofs.Common.{◌-◌}
use Rattle.hessian_reader.specs.Runs.{AddsValues}
use Rattle.hessian_reader.proofs.values.push_values.Given as goal

-- the values so far were added
abbrev pub invariant-loop-count : goal.invariant-loop-count
invariant-loop-count l = AddsValues l.nodes l.fn.values l.piece l.most l.values (record { values = l.count; bytes = l.bytes })

abbrev pub decreases-loop-count : goal.decreases-loop-count
decreases-loop-count l = l.most - l.count
