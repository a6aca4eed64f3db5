use Rattle.std.proofs.Common.{◌≡◌}
use Rattle.hessian_graph.specs.Shape.{shape_of}
use Rattle.graph_notation.specs.Pressing.{Pressed, work}
use Rattle.graph_notation.proofs.press.Press.drain.Given as goal

-- what is printed so far is read
abbrev pub invariant-loop-step : goal.invariant-loop-step
invariant-loop-step l = record {
  pressed : Pressed (shape_of l.parts) l.self;
  roots : l.self.roots ≡ l.fn.self.roots;
}

abbrev pub decreases-loop-step : goal.decreases-loop-step
decreases-loop-step l = work (shape_of l.parts) l.self
