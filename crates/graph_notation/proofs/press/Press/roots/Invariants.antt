use Rattle.std.proofs.Common.{◌≡◌, []}
use Rattle.hessian_graph.specs.Shape.{shape_of}
use Rattle.graph_notation.specs.Pressing.{Pressed}
use Rattle.graph_notation.proofs.press.Press.roots.Given as goal

-- the roots so far are printed
abbrev pub invariant-loop-root : goal.invariant-loop-root
invariant-loop-root l = record {
  pressed : Pressed (shape_of l.parts) l.self;
  empty : l.self.stack.items ≡ [];
  roots : l.self.roots ≡ l.root-index;
}
