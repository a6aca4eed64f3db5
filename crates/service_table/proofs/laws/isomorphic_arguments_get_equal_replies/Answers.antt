use Rattle.service_table.proofs.Alike.{same_answer}
use Rattle.service_table.proofs.laws.isomorphic_arguments_get_equal_replies.Goals as goal

pub returns : goal.returns
returns c = λ kind left right a b iso p q. same_answer iso.0 left right iso.1 kind a b p q
