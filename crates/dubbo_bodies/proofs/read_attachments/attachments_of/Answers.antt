use Rattle.std.proofs.Common.{◌≡◌, sym, subst, ◌∙◌, ap}
use Rattle.hessian_graph.specs.declared.value.Value.TheVariants as values
use Rattle.hessian_graph.specs.Shape.{shape_of}
use Rattle.std.specs.Prelude.{IfOk}
use Rattle.hessian_graph.specs.declared.parts.Parts.{Parts}
use Rattle.dubbo_bodies.specs.Attachments.{AttachmentsOf, NoAttachments}
use Rattle.dubbo_bodies.specs.Attachments.AttachmentsOf.{nothing}
use Rattle.dubbo_bodies.specs.AttachmentsRead.{FindsAttachments, FindsInNode}
use Rattle.dubbo_bodies.proofs.Bodies.{if_ok}
use Rattle.dubbo_bodies.proofs.ReadPairs.{found_at, found_past}
use Rattle.dubbo_bodies.proofs.read_attachments.attachments_of.Goals as goal

pub returns-in-Null : goal.returns-in-Null
returns-in-Null c =
    let g = shape_of c.args.graph.now in
    subst (λ v. AttachmentsOf g v c.from.result) (sym c.in-Null.is) (subst (AttachmentsOf g values.Null) (sym (c.from.ensures ∙ c.new.ensures.items)) nothing)

pub returns-in-Some : goal.returns-in-Some
returns-in-Some c =
    let p = c.args.graph.now in
    let n = c.in-Node.number in
    let nodes : c.as_slice.result.now ≡ p.nodes = c.as_slice.ensures ∙ ap (λ (q : Parts). q.nodes) c.parts.ensures.parts in
    subst (λ v. IfOk c.node_texts.result (FindsAttachments (shape_of p) v)) (sym c.in-Node.is)
    (if_ok c.node_texts.result (FindsInNode c.in-Some.node.now) (FindsAttachments (shape_of p) (values.Node n)) (λ found f. found_at p c.as_slice.result.now n c.in-Some.node.now found nodes c.in-Some.ensures.lookup.0 c.in-Some.ensures.lookup.1 f) c.node_texts.ensures)

pub returns-in-None : goal.returns-in-None
returns-in-None c =
    let p = c.args.graph.now in
    let nodes : c.as_slice.result.now ≡ p.nodes = c.as_slice.ensures ∙ ap (λ (q : Parts). q.nodes) c.parts.ensures.parts in
    subst (λ v. NoAttachments (shape_of p) v) (sym c.in-Node.is) (found_past p c.as_slice.result.now c.in-Node.number nodes c.in-None.ensures.lookup.0)
