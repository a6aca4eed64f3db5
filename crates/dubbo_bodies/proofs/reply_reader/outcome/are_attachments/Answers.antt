use Rattle.std.proofs.Common.{◌≡◌, sym, subst, ap, ◌∙◌, List}
use Rattle.std.specs.Prelude.{slice_get, Some}
use Rattle.hessian_graph.specs.declared.node.Node.{Node}
use Rattle.hessian_graph.specs.declared.parts.Parts.{Parts}
use Rattle.hessian_graph.specs.Shape.{shape_of}
use Rattle.dubbo_bodies.specs.ReplyBody.{AreSome}
use Rattle.dubbo_bodies.proofs.ReplyOutcome.{null_is_some, value_answer, item_there}
use Rattle.dubbo_bodies.proofs.reply_reader.outcome.are_attachments.Goals as goal

pub returns-in-Null : goal.returns-in-Null
returns-in-Null c = subst (AreSome (shape_of c.args.graph.now)) (sym c.in-Null.is) (null_is_some (shape_of c.args.graph.now))

pub returns-in-Some : goal.returns-in-Some
returns-in-Some c =
    let nodes : c.as_slice.result.now ≡ c.args.graph.now.nodes = c.as_slice.ensures ∙ ap (λ (p : Parts). p.nodes) c.parts.ensures.parts in
    let there : slice_get c.as_slice.result.now c.in-Node.number ≡ Some c.in-Some.node.now = item_there c.as_slice.result.now c.in-Node.number c.get.result c.in-Some.node c.get.ensures.lookup c.in-Some.is in
    value_answer c.args.graph.now c.args.value.now c.in-Node.number c.in-Some.node.now c.is_text_map.result c.in-Node.is (subst (λ (ns : List Node). slice_get ns c.in-Node.number ≡ Some c.in-Some.node.now) nodes there) c.is_text_map.ensures
