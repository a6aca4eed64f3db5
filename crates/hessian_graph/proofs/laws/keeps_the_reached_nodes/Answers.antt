use Rattle.hessian_graph.specs.Shape.{shape_of}
use Rattle.hessian_graph.proofs.Reaching.{kept_exactly}
use Rattle.hessian_graph.proofs.laws.keeps_the_reached_nodes.Goals as goal

pub returns : goal.returns
returns c = λ order visit n. kept_exactly (shape_of c.args.graph.now) order visit n
