use Rattle.std.proofs.Common.{List}
use Rattle.std.specs.Prelude.{reverse}
use Rattle.hessian_graph.specs.Shape.{shape_of}
use Rattle.hessian_writer.specs.Leaves.{hessian_forms}
use Rattle.hessian_writer.specs.Course.{Due, GoesOn}
use Rattle.hessian_writer.specs.Progress.{Fine, state_of, due_on, work}
use Rattle.hessian_writer.proofs.writer.Writer.drain.Given as goal

-- what leads on from here leads on from where the loop began
abbrev pub invariant-loop-top : goal.invariant-loop-top
invariant-loop-top l = record {
  fine : Fine l.parts l.self;
  goes_on : (ds : List Due) → GoesOn hessian_forms (shape_of l.parts) (state_of l.parts l.fn.self) (due_on (shape_of l.parts) (reverse l.fn.self.stack.items) ds) (state_of l.parts l.self) (due_on (shape_of l.parts) (reverse l.self.stack.items) ds);
}

abbrev pub decreases-loop-top : goal.decreases-loop-top
decreases-loop-top l = work l.parts l.self
