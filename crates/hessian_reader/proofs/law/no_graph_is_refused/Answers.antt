use Rattle.hessian_reader.proofs.RefusalLaws.{denoted_not_refused}
use Rattle.hessian_reader.proofs.law.no_graph_is_refused.Goals as goal

pub returns : goal.returns
returns c = λ roots bytes g cause d e r. denoted_not_refused roots bytes g cause d e r
