use Rattle.hessian_graph.specs.Shape.{shape_of}
use Rattle.hessian_graph.proofs.Closed.{closed_of}
use Rattle.hessian_graph.proofs.Back.{iso_exactly}
use Rattle.hessian_graph.proofs.canonical.same_shape.Goals as goal

pub returns : goal.returns
returns c =
    let iso = iso_exactly (shape_of c.args.left.now) (shape_of c.args.right.now) (shape_of c.in_ok-one.one) (shape_of c.in_ok-other.other)
    (closed_of c.args.left.now c.parts-left.ensures.sound c.parts-left.ensures.few)
    (closed_of c.args.right.now c.parts-right.ensures.sound c.parts-right.ensures.few) c.in_ok-one.ensures.canon c.in_ok-other.ensures.canon in
    ((λ t. iso.1 (c.same_graph.ensures.0 t)), (λ i. c.same_graph.ensures.1 (iso.0 i)))
