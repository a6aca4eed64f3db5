use Rattle.hessian_graph.proofs.FormsSpell.{are_spelled}
use Rattle.hessian_graph.proofs.spelling_laws.is_spelled_where_written.Goals as goal

pub returns : goal.returns
returns g c = λ inc shape vs t u bytes all. are_spelled inc all
