use Rattle.std.proofs.Common.{arith}
use Rattle.std.specs.Prelude.{reverse}
use Rattle.hessian_graph.specs.Shape.{shape_of}
use Rattle.graph_notation.proofs.Printing.{step_below, indexed, same_work}
use Rattle.graph_notation.proofs.press.Press.go_on.Goals as goal

pub bounds-as_slice-step : goal.bounds-as_slice-step
bounds-as_slice-step c = rw c.as_slice.ensures (step_below c.args.parts.now c.args.self.now.out.items c.args.self.now.begun c.args.self.now.roots c.args.step (reverse c.args.self.now.stack.items) c.requires.pressed)

pub leaves-requires-clause-below : goal.leaves-requires-clause-below
leaves-requires-clause-below c = step_below c.args.parts.now c.args.self.now.out.items c.args.self.now.begun c.args.self.now.roots c.args.step (reverse c.args.self.now.stack.items) c.requires.pressed

pub leaves-requires-clause-here : goal.leaves-requires-clause-here
leaves-requires-clause-here c =
    let below = step_below c.args.parts.now c.args.self.now.out.items c.args.self.now.begun c.args.self.now.roots c.args.step (reverse c.args.self.now.stack.items) c.requires.pressed in
    indexed c.as_slice.result.now c.args.parts.now.nodes c.args.step.node c.index-as_slice-step.result c.index-as_slice-step.is c.as_slice.ensures below

pub turn-requires-clause-below : goal.turn-requires-clause-below
turn-requires-clause-below c = step_below c.args.parts.now c.args.self.now.out.items c.args.self.now.begun c.args.self.now.roots c.args.step (reverse c.args.self.now.stack.items) c.requires.pressed

pub turn-requires-clause-here : goal.turn-requires-clause-here
turn-requires-clause-here c =
    let below = step_below c.args.parts.now c.args.self.now.out.items c.args.self.now.begun c.args.self.now.roots c.args.step (reverse c.args.self.now.stack.items) c.requires.pressed in
    indexed c.as_slice.result.now c.args.parts.now.nodes c.args.step.node c.index-as_slice-step.result c.index-as_slice-step.is c.as_slice.ensures below

pub returns-clause-work : goal.returns-clause-work
returns-clause-work c =
    let told = c.in_ok-at.ensures {u = tt} in
    let same = same_work (shape_of c.args.parts.now) c.leaves.new.self c.args.self.now told.same.0 told.same.1 in
    let low = told.further in
    let done = c.in_ok-turn.ensures.work in
    omega (arith, same, low, done)
