use Rattle.hessian_graph.specs.Shape.{shape_of}
use Rattle.hessian_graph.proofs.Closed.{closed_of}
use Rattle.hessian_graph.proofs.Again.{form_stays}
use Rattle.hessian_graph.proofs.laws.canonical_form_stays.Goals as goal

pub returns : goal.returns
returns c = λ p. form_stays (shape_of c.args.graph.now) (shape_of c.args.form.now)
    (closed_of c.args.graph.now c.parts-graph.ensures.sound c.parts-graph.ensures.few)
    (closed_of c.args.form.now c.parts-form.ensures.sound c.parts-form.ensures.few) p
