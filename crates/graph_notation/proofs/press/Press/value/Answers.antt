use Rattle.std.proofs.Common.{sym, ◌∙◌, arith}
use Rattle.std.specs.Prelude.{reverse}
use Rattle.hessian_graph.specs.Shape.{shape_of}
use Rattle.hessian_graph.proofs.Values.{node_is}
use Rattle.graph_notation.proofs.Printing.{pressed_leaf}
use Rattle.graph_notation.proofs.press.Press.value.Goals.{in_default-via-in-Node+else-number-self, in_default-via-in_default}
use Rattle.graph_notation.proofs.press.Press.value.Goals as goal

pub returns-in_ok-write_leaf-in_default-clause-pressed : goal.returns-in_ok-write_leaf-in_default-clause-pressed
returns-in_ok-write_leaf-in_default-clause-pressed c =
    pressed_leaf (shape_of c.args.parts.now) c.args.self.now.out.items c.write_leaf.new.out.items c.args.self.now.begun c.args.self.now.roots (reverse c.args.self.now.stack.items) c.args.value.now
    (elim c.in_default.branch [
      | in_default-via-in-Node+else-number-self w ↦ λ k e. let same = node_is w.in-Node.number k (sym w.in-Node.is ∙ e) in let low = w.if-number-self.false in omega (arith, same, low)
      | in_default-via-in_default w ↦ λ k e. absurd (w.in_default.not-Node k e)
    ])
    c.requires.awaits c.in_ok-write_leaf-in_default.ensures
