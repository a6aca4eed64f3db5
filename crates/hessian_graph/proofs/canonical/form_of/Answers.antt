use Rattle.std.proofs.Common.{arith, ◌≡◌, ◌<◌, ◌^◌, sym, subst, length}
use Rattle.std.proofs.lemmas.List.{length-map}
use Rattle.hessian_graph.specs.Shape.{shape_of, node_shape}
use Rattle.hessian_graph.specs.Work.{IsClosed}
use Rattle.hessian_graph.proofs.Closed.{closed_of}
use Rattle.hessian_graph.proofs.Rebuilding.{there_of, order_nodes, sound_of, form_closed, form_few}
use Rattle.hessian_graph.proofs.canonical.form_of.Goals as goal

pub visit-requires : goal.visit-requires
visit-requires c = record { closed = closed_of c.args.parts.now c.requires.sound c.requires.few }

pub rebuild-requires-clause-closed : goal.rebuild-requires-clause-closed
rebuild-requires-clause-closed c = closed_of c.args.parts.now c.requires.sound c.requires.few

pub rebuild-requires-clause-there : goal.rebuild-requires-clause-there
rebuild-requires-clause-there c = there_of c.args.parts.now c.requires.sound

pub rebuild-requires-clause-nodes : goal.rebuild-requires-clause-nodes
rebuild-requires-clause-nodes c = order_nodes c.args.parts.now c.in_ok-walk.walk.order.items (closed_of c.args.parts.now c.requires.sound c.requires.few) c.in_ok-walk.ensures.visit

pub returns-clause-canon : goal.returns-clause-canon
returns-clause-canon c = (c.in_ok-walk.walk.order.items, c.in_ok-walk.ensures.visit, c.in_ok-form.ensures.shape)

pub returns-clause-sound : goal.returns-clause-sound
returns-clause-sound c =
    let count = c.in_ok-walk.ensures.fine.count in
    let long : length (shape_of c.args.parts.now).nodes ≡ length c.args.parts.now.nodes = length-map c.args.parts.now.nodes (node_shape c.args.parts.now.types c.args.parts.now.classes) in
    let few : length c.in_ok-walk.walk.order.items < 2 ^ 32 = let h = c.requires.few in omega (arith, count, long, h) in
    sound_of c.in_ok-form.form
    (subst IsClosed (sym c.in_ok-form.ensures.shape) (form_closed (shape_of c.args.parts.now) c.in_ok-walk.walk.order.items (closed_of c.args.parts.now c.requires.sound c.requires.few) c.in_ok-walk.ensures.visit few))
    c.in_ok-form.ensures.there

pub returns-clause-few : goal.returns-clause-few
returns-clause-few c =
    let count = c.in_ok-walk.ensures.fine.count in
    let long : length (shape_of c.args.parts.now).nodes ≡ length c.args.parts.now.nodes = length-map c.args.parts.now.nodes (node_shape c.args.parts.now.types c.args.parts.now.classes) in
    let few : length c.in_ok-walk.walk.order.items < 2 ^ 32 = let h = c.requires.few in omega (arith, count, long, h) in
    form_few c.args.parts.now c.in_ok-form.form c.in_ok-walk.walk.order.items c.in_ok-form.ensures.shape few
