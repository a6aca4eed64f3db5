use Rattle.std.proofs.Common.{ℕ, List}
use Rattle.std.specs.Prelude.{reverse}
use Rattle.hessian_graph.specs.declared.value.Value.{Value}
use Rattle.hessian_graph.specs.Shape.{shape_of}
use Rattle.hessian_graph.specs.Canon.{Visit}
use Rattle.hessian_graph.specs.Work.{Fine, todo, work}
use Rattle.hessian_graph.proofs.walk.Walk.drain.Given as goal

-- what leads on from here leads on from where the loop began
abbrev pub invariant-loop-top : goal.invariant-loop-top
invariant-loop-top l = record {
  fine : Fine (shape_of l.parts) l.self;
  leads : (last : List Value) (out : List ℕ) → Visit (shape_of l.parts) l.self.order.items (todo (shape_of l.parts) (reverse l.self.stack.items) last) out → Visit (shape_of l.parts) l.fn.self.order.items (todo (shape_of l.parts) (reverse l.fn.self.stack.items) last) out;
}

abbrev pub decreases-loop-top : goal.decreases-loop-top
decreases-loop-top l = work (shape_of l.parts) l.self
