use Rattle.hessian_text.proofs.OneAnswer.{one_binary_fault}
use Rattle.hessian_text.proofs.laws.one_refusal_of_binary.Goals as goal

pub returns : goal.returns
returns c = λ bytes at one other small r s m n. one_binary_fault bytes at one other small r s m n
