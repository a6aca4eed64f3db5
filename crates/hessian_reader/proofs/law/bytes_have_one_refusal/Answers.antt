use Rattle.hessian_reader.proofs.OneCause.{one_refusal}
use Rattle.hessian_reader.proofs.law.bytes_have_one_refusal.Goals as goal

pub returns : goal.returns
returns c = λ roots bytes one other p q. one_refusal roots bytes one other p q
