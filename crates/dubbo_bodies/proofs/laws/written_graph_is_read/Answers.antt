use Rattle.dubbo_bodies.proofs.OneHessian.{graph_read, as_many_roots}
use Rattle.dubbo_bodies.proofs.laws.written_graph_is_read.Goals as goal

pub returns : goal.returns
returns c = λ graph form bytes written canon few. (graph_read graph form bytes written canon few, as_many_roots graph form canon)
