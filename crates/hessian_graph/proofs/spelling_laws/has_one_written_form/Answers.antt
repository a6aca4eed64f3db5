use Rattle.hessian_graph.proofs.OneForm.{one_written}
use Rattle.hessian_graph.proofs.spelling_laws.has_one_written_form.Goals as goal

pub returns : goal.returns
returns g c = λ one shape a b left right. one_written g.W.LeafSpellings.leaves shape a b one left right
