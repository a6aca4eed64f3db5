use Rattle.hessian_reader.proofs.OneWay.{one_graph}
use Rattle.hessian_reader.proofs.Further.{as_many_roots}
use Rattle.hessian_reader.proofs.law.bytes_denote_one_graph.Goals as goal

pub returns : goal.returns
returns c = λ bytes g h small dg dh. one_graph bytes g h small dg dh (as_many_roots bytes g h small dg dh)
