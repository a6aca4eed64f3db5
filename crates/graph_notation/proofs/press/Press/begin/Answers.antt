use Rattle.std.proofs.Common.{◌<◌, length, sym, subst}
use Rattle.std.specs.Prelude.{reverse}
use Rattle.hessian_graph.specs.Shape.{shape_of}
use Rattle.graph_notation.proofs.Printing.{met_in_order, node_below}
use Rattle.graph_notation.proofs.press.Press.begin.Goals as goal

pub returns-else-is_next-clause-order : goal.returns-else-is_next-clause-order
returns-else-is_next-clause-order c = λ halts canon.
    let p = c.args.parts.now in
    let s = c.args.self.now in
    met_in_order (shape_of p) s.out.items s.begun s.roots c.args.number (reverse s.stack.items) c.requires.new c.requires.awaits
    (λ is room. let no = c.if-is_next.false in let yes = c.is_next.ensures.1 (is, node_below p c.args.number (subst (λ n. n < length (shape_of p).nodes) (sym is) room)) in cc)
    canon
