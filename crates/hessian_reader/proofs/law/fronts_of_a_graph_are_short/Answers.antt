use Rattle.hessian_reader.proofs.RefusalLaws.{front_is_short}
use Rattle.hessian_reader.proofs.law.fronts_of_a_graph_are_short.Goals as goal

pub returns : goal.returns
returns c = λ front more g small some d. front_is_short front more g small some d
