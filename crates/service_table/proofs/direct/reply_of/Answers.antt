use Rattle.std.proofs.Common.{◌≡◌, suc, ◌≤◌, length, sym, ap, ◌∙◌, subst, arith}
use Rattle.std.proofs.lemmas.List.{length-map}
use Rattle.hessian_graph.specs.declared.parts.Parts.{Parts}
use Rattle.hessian_graph.specs.Shape.{Shape, shape_of, node_shape}
use Rattle.hessian_graph.specs.Canon.{renumbered}
use Rattle.hessian_graph.specs.Work.{IsClosed}
use Rattle.hessian_graph.proofs.Closed.{closed_of}
use Rattle.hessian_writer.specs.Writable.{IsWritable}
use Rattle.service_table.specs.Replies.{answer}
use Rattle.service_table.proofs.CanonForms.{few_nodes}
use Rattle.service_table.proofs.Closed.{OfGraph, answer_nodes}
use Rattle.service_table.proofs.Grown.{few_classes}
use Rattle.service_table.proofs.Outcomes.{ends_as, reply_writable, reply_nodes, then_ok}
use Rattle.service_table.proofs.Writing.{canon_writable, answer_writable}
use Rattle.service_table.proofs.direct.reply_of.Goals as goal

-- the canonical form has no more nodes than the arguments
few : (c : goal.After-parts-form) → length c.in_ok-form.form.nodes ≤ length c.args.args.now.nodes
few c =
    let p : Parts = c.args.args.now in
    let q : Parts = c.in_ok-form.form in
    let a : length (shape_of p).nodes ≡ length p.nodes = length-map p.nodes (node_shape p.types p.classes) in
    let b : length (shape_of q).nodes ≡ length q.nodes = length-map q.nodes (node_shape q.types q.classes) in
    let k = few_nodes (shape_of p) (shape_of q) (closed_of p c.parts-args.ensures.sound c.parts-args.ensures.few) c.in_ok-form.ensures.canon in
    omega (arith, a, b, k)

pub answer-requires-clause-few : goal.answer-requires-clause-few
answer-requires-clause-few c = let k = few c in let h = c.requires.few in omega (arith, k, h)

pub answer-requires-clause-classes : goal.answer-requires-clause-classes
answer-requires-clause-classes c =
    let k = few c in let h = c.requires.few in let n = few_classes c.in_ok-form.form c.in_ok-form.ensures.tables in omega (arith, k, h, n)

pub returns-clause-ends : goal.returns-clause-ends
returns-clause-ends c =
    let p : Parts = c.args.args.now in
    let q : Parts = c.in_ok-form.form in
    let a : length (shape_of p).nodes ≡ length p.nodes = length-map p.nodes (node_shape p.types p.classes) in
    let b : length (shape_of q).nodes ≡ length q.nodes = length-map q.nodes (node_shape q.types q.classes) in
    let k = few c.before in
    let h = c.requires.few in
    then_ok c.answer.result (λ reply e. ends_as c.args.kind (shape_of p) (shape_of q) reply
    (closed_of p c.parts-args.ensures.sound c.parts-args.ensures.few) (closed_of q c.parts-form.ensures.sound c.parts-form.ensures.few)
    c.in_ok-form.ensures.canon (omega (arith, a, h)) (omega (arith, b, k, h)) e) c.answer.ensures

pub returns-clause-writable : goal.returns-clause-writable
returns-clause-writable c =
    let p : Parts = c.args.args.now in
    let q : Parts = c.in_ok-form.form in
    let b : length (shape_of q).nodes ≡ length q.nodes = length-map q.nodes (node_shape q.types q.classes) in
    let k = few c.before in
    let h = c.requires.few in
    let r = c.requires.roots in
    let closed : IsClosed (shape_of q) = closed_of q c.parts-form.ensures.sound c.parts-form.ensures.few in
    let w : IsWritable (shape_of q) = canon_writable (shape_of p) (shape_of q) (closed_of p c.parts-args.ensures.sound c.parts-args.ensures.few) c.in_ok-form.ensures.canon c.requires.writable in
    let roots : length q.roots ≡ length p.roots = ap (λ (x : Shape). length x.roots) c.in_ok-form.ensures.canon.2 ∙ length-map p.roots (renumbered c.in_ok-form.ensures.canon.0) in
    let all : OfGraph IsWritable (answer c.args.kind (shape_of q)) = answer_writable c.args.kind (shape_of q) closed w (omega (arith, b, k, h)) (omega (arith, roots, r)) in
    then_ok c.answer.result (λ reply e. reply_writable reply (subst (OfGraph IsWritable) (sym e) all)) c.answer.ensures

pub returns-clause-nodes : goal.returns-clause-nodes
returns-clause-nodes c =
    let q : Parts = c.in_ok-form.form in
    let b : length (shape_of q).nodes ≡ length q.nodes = length-map q.nodes (node_shape q.types q.classes) in
    let k = few c.before in
    then_ok c.answer.result (λ reply e. reply_nodes reply (suc (length (shape_of q).nodes)) (suc (length c.args.args.now.nodes)) (omega (arith, b, k))
    (subst (OfGraph (λ (x : Shape). length x.nodes ≤ suc (length (shape_of q).nodes))) (sym e) (answer_nodes c.args.kind (shape_of q)))) c.answer.ensures
