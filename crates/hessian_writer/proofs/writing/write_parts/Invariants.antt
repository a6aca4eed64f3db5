use Rattle.std.proofs.Common.{◌≡◌, List, [], drop}
use Rattle.hessian_graph.specs.Shape.{shape_of}
use Rattle.hessian_writer.specs.Leaves.{hessian_forms}
use Rattle.hessian_writer.specs.Course.{Due, values_then, GoesOn}
use Rattle.hessian_writer.specs.Progress.{Fine, state_of, begun_state}
use Rattle.hessian_writer.proofs.writing.write_parts.Given as goal

-- what leads on from here leads on from the first root
abbrev pub invariant-loop-root : goal.invariant-loop-root
invariant-loop-root l = record {
  fine : Fine l.parts l.writer;
  empty : l.writer.stack.items ≡ [];
  goes_on : (ds : List Due) → GoesOn hessian_forms (shape_of l.parts) (begun_state l.fn.out.items) (values_then l.parts.roots ds) (state_of l.parts l.writer) (values_then (drop l.root-index l.parts.roots) ds);
}
