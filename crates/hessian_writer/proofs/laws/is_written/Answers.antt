use Rattle.hessian_graph.specs.Shape.{shape_of}
use Rattle.hessian_writer.proofs.SomeCourses.{some_written}
use Rattle.hessian_writer.proofs.laws.is_written.Goals as goal

pub returns : goal.returns
returns c = some_written (shape_of c.args.graph.now) c.graph_is_carried.ensures.closed c.graph_is_carried.ensures.carried c.requires
