use Rattle.std.proofs.Common.{◌≡◌, ℕ, List, [], drop}
use Rattle.hessian_graph.specs.Shape.{shape_of}
use Rattle.hessian_graph.specs.Canon.{Visit}
use Rattle.hessian_graph.specs.Work.{Fine}
use Rattle.hessian_graph.proofs.walk.visit.Given as goal

-- what leads on from here leads on from the roots
abbrev pub invariant-loop-root : goal.invariant-loop-root
invariant-loop-root l = record {
  fine : Fine (shape_of l.parts) l.walk;
  empty : l.walk.stack.items ≡ [];
  leads : (out : List ℕ) → Visit (shape_of l.parts) l.walk.order.items (drop l.root-index l.roots) out → Visit (shape_of l.parts) [] l.roots out;
}
