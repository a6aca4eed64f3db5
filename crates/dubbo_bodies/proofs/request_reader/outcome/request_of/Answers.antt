use Rattle.std.proofs.Common.{refl, sym, subst}
use Rattle.hessian_graph.specs.declared.parts.Parts.{Parts}
use Rattle.hessian_graph.specs.Canon.{IsCanon}
use Rattle.hessian_graph.specs.Shape.{shape_of}
use Rattle.dubbo_bodies.specs.AttachmentsRead.{FindsBehind}
use Rattle.dubbo_bodies.proofs.LastRoots.{lacks_last, values_of_request}
use Rattle.dubbo_bodies.proofs.request_reader.outcome.request_of.Goals as goal

pub returns-in_default-clause-why : goal.returns-in_default-clause-why
returns-in_default-clause-why c = λ count e some.
    let g = shape_of c.args.graph in
    (refl, lacks_last g count (subst (FindsBehind g count) c.in_default.is (c.in_ok-attachments.ensures count e)))

pub returns-clause-ok : goal.returns-clause-ok
returns-clause-ok c = λ count e.
    let g = shape_of c.args.graph in
    let dropped = c.without_last.result in
    let canon : IsCanon (shape_of dropped) (shape_of c.with_texts.result.args) = subst (λ (h : Parts). IsCanon (shape_of dropped) (shape_of h)) (sym c.with_texts.ensures.args) c.in_ok-args.ensures.canon in
    (c.with_texts.ensures.texts, values_of_request c.args.graph dropped count c.in-Some.attachments c.with_texts.result (subst (FindsBehind g count) c.in-Some.is (c.in_ok-attachments.ensures count e)) c.without_last.ensures canon c.with_texts.ensures.attachments)
