use Rattle.std.proofs.Common.{refl, sym, ap, ◌∙◌}
use Rattle.hessian_graph.specs.Shape.{Shape, shape_of}
use Rattle.hessian_graph.specs.Canon.{in_order}
use Rattle.hessian_graph.proofs.Visits.{some_visit, one_visit}
use Rattle.hessian_graph.proofs.Closed.{closed_of}
use Rattle.hessian_graph.proofs.laws.has_one_canonical_form.Goals as goal

pub returns-clause-some : goal.returns-clause-some
returns-clause-some c =
    let g : Shape = shape_of c.args.graph.now in
    let v = some_visit g (closed_of c.args.graph.now c.parts-parts.ensures.sound c.parts-parts.ensures.few) in
    (in_order g v.0, (v.0, v.1, refl))

pub returns-clause-one : goal.returns-clause-one
returns-clause-one c = λ a b p q. p.2 ∙ ap (in_order (shape_of c.args.graph.now)) (one_visit p.1 q.1) ∙ sym q.2
