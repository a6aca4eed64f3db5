use Rattle.std.proofs.Common.{◌≡◌}
use Rattle.std.specs.Prelude.{None, replicate}
use Rattle.hessian_graph.proofs.names.ClassTable.new.Given as goal

abbrev pub invariant-loop-class : goal.invariant-loop-class
invariant-loop-class l = l.known.items ≡ replicate l._class-index None
