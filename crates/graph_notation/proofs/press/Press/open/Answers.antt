use Rattle.std.proofs.Common.{◌≡◌, ◌+◌, ◌<◌, get_or, length, subst, sym}
use Rattle.std.specs.Prelude.{reverse}
use Rattle.hessian_graph.specs.Shape.{Kind, shape_of, no_vertex}
use Rattle.graph_notation.specs.Pressing.{Prints, head_of}
use Rattle.graph_notation.proofs.Printing.{shape_below, indexed, there_here, kind_here, pressed_node, from_top, work_node}
use Rattle.graph_notation.proofs.press.Press.open.Goals as goal

pub bounds-as_slice-number : goal.bounds-as_slice-number
bounds-as_slice-number c = rw c.as_slice.ensures c.requires.there

pub write_head-requires-clause-there : goal.write_head-requires-clause-there
write_head-requires-clause-there c =
    there_here c.args.parts.now c.args.number c.index-as_slice-number.result c.requires.ready c.requires.there
    (indexed c.as_slice.result.now c.args.parts.now.nodes c.args.number c.index-as_slice-number.result c.index-as_slice-number.is c.as_slice.ensures c.requires.there)

pub returns-clause-pressed : goal.returns-clause-pressed
returns-clause-pressed c =
    let here : c.index-as_slice-number.result ≡ get_or c.args.parts.now.nodes c.args.number no_vertex = indexed c.as_slice.result.now c.args.parts.now.nodes c.args.number c.index-as_slice-number.result c.index-as_slice-number.is c.as_slice.ensures c.requires.there in
    let prints = subst (λ (k : Kind). Prints c.args.self.now.out.items (head_of k) c.write_head.new.out.items) (sym (kind_here c.args.parts.now c.args.number c.index-as_slice-number.result here)) c.in_ok-write_head.ensures in
    let room = shape_below c.args.parts.now c.args.self.now.begun (subst (λ n. n < length c.args.parts.now.nodes) c.requires.next c.requires.there) in
    from_top (shape_of c.args.parts.now) c.write_head.new.out.items (c.args.self.now.begun + 1) c.args.self.now.roots (record { node = c.args.number; at = 0 }) c.push.new.self.items c.args.self.now.stack.items c.in_ok-push.ensures.items
    (pressed_node (shape_of c.args.parts.now) c.args.self.now.out.items c.write_head.new.out.items c.args.self.now.begun c.args.self.now.roots (reverse c.args.self.now.stack.items) c.args.number c.requires.ready.closed.few c.requires.next room c.requires.awaits prints)

pub returns-clause-work : goal.returns-clause-work
returns-clause-work c =
    let room = shape_below c.args.parts.now c.args.self.now.begun (subst (λ n. n < length c.args.parts.now.nodes) c.requires.next c.requires.there) in
    work_node (shape_of c.args.parts.now) c.args.self.now.begun c.args.number c.args.self.now.stack.items c.push.new.self.items c.requires.next room c.in_ok-push.ensures.items
