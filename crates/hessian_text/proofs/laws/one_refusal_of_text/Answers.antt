use Rattle.hessian_text.proofs.OneAnswer.{one_text_fault}
use Rattle.hessian_text.proofs.laws.one_refusal_of_text.Goals as goal

pub returns : goal.returns
returns c = λ bytes at one other small r s m n. one_text_fault bytes at one other small r s m n
