use Rattle.hessian_graph.specs.Shape.{shape_of}
use Rattle.hessian_graph.proofs.Closed.{closed_of}
use Rattle.hessian_graph.proofs.Back.{iso_exactly}
use Rattle.hessian_graph.proofs.laws.isomorphic_where_equal.Goals as goal

pub returns : goal.returns
returns c = λ a b p q. iso_exactly (shape_of c.args.left.now) (shape_of c.args.right.now) a b
    (closed_of c.args.left.now c.parts-left.ensures.sound c.parts-left.ensures.few)
    (closed_of c.args.right.now c.parts-right.ensures.sound c.parts-right.ensures.few) p q
