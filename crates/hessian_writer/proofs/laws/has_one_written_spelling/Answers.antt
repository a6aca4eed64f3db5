use Rattle.hessian_graph.proofs.OneForm.{one_written}
use Rattle.hessian_writer.specs.Leaves.{hessian_forms}
use Rattle.hessian_writer.proofs.LeafLaws.{one_form}
use Rattle.hessian_writer.proofs.laws.has_one_written_spelling.Goals as goal

pub returns : goal.returns
returns c = λ g a b p q. one_written hessian_forms g a b one_form p q
