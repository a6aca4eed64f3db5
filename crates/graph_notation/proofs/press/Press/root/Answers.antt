use Rattle.std.proofs.Common.{◌+◌, sym, subst, List}
use Rattle.std.specs.Prelude.{reverse}
use Rattle.hessian_graph.specs.Shape.{shape_of}
use Rattle.graph_notation.specs.declared.press.Step.{Step}
use Rattle.graph_notation.specs.Pressing.{PressedOn, AwaitsOn}
use Rattle.graph_notation.proofs.Printing.{awaits_root}
use Rattle.graph_notation.proofs.press.Press.root.Goals as goal

pub value-requires-clause-awaits : goal.value-requires-clause-awaits
value-requires-clause-awaits c =
    let pressed = subst (λ (ts : List Step). PressedOn (shape_of c.args.parts.now) c.args.self.now.out.items c.args.self.now.begun c.args.self.now.roots (reverse ts)) c.requires.empty c.requires.pressed in
    subst (λ (ts : List Step). AwaitsOn (shape_of c.args.parts.now) c.args.root.now c.write_comma.new.out.items c.args.self.now.begun (c.args.self.now.roots + 1) (reverse ts)) (sym c.requires.empty)
    (awaits_root (shape_of c.args.parts.now) c.args.self.now.out.items c.write_comma.new.out.items c.args.self.now.begun c.args.self.now.roots c.args.root.now c.requires.within c.requires.is pressed c.in_ok-write_comma.ensures)
