use Rattle.std.proofs.Common.{◌≡◌, ℕ, List, ◌∷◌, sym, subst}
use Rattle.std.specs.Prelude.{reverse}
use Rattle.std.proofs.lemmas.Result.{IfOk-weaker}
use Rattle.hessian_graph.specs.declared.value.Value.{Value}
use Rattle.hessian_graph.specs.Shape.{Kind, Shape, shape_of, values_at, values_of, kind_at, kind_of}
use Rattle.graph_notation.specs.declared.press.Press.{Press}
use Rattle.graph_notation.specs.declared.press.Step.{Step}
use Rattle.graph_notation.specs.PrintedLeaves.{PrintsLeaves}
use Rattle.graph_notation.specs.Pressing.{PressedOn, before}
use Rattle.graph_notation.proofs.Printing.{there_here, kind_here, values_here, step_fits}
use Rattle.graph_notation.proofs.PrintedLeaves.{leaves_pressed}
use Rattle.graph_notation.proofs.press.Press.leaves.Goals as goal

pub write_leaves-requires-clause-there : goal.write_leaves-requires-clause-there
write_leaves-requires-clause-there c = there_here c.args.parts.now c.args.step.node c.args.node.now c.requires.ready c.requires.below c.requires.here

pub returns-clause-pressed : goal.returns-clause-pressed
returns-clause-pressed c =
    let p = c.args.parts.now in
    let g : Shape = shape_of p in
    let s : Press = c.args.self.now in
    let t : Step = c.args.step in
    let new : List ℕ = c.write_leaves.new.out.items in
    let vs : values_at g t.node ≡ values_of c.args.node.now = values_here p t.node c.args.node.now c.requires.here in
    let kind : kind_at g t.node ≡ kind_of p.types p.classes c.args.node.now = kind_here p t.node c.args.node.now c.requires.here in
    let fits = step_fits p s.out.items s.begun s.roots t (reverse s.stack.items) c.requires.ready c.requires.pressed in
    IfOk-weaker c.write_leaves.result
    (λ end. PrintsLeaves (before (kind_of p.types p.classes c.args.node.now)) (values_of c.args.node.now) s.begun s.out.items t.at end new)
    (λ end. PressedOn g new s.begun s.roots (record { node = t.node; at = end } ∷ reverse s.stack.items))
    (λ end w. leaves_pressed g s.begun s.roots t (reverse s.stack.items) s.out.items end new fits c.requires.pressed
    (subst (λ (xs : List Value). PrintsLeaves (before (kind_at g t.node)) xs s.begun s.out.items t.at end new) (sym vs)
    (subst (λ (k : Kind). PrintsLeaves (before k) (values_of c.args.node.now) s.begun s.out.items t.at end new) (sym kind) w)))
    c.write_leaves.ensures.written
