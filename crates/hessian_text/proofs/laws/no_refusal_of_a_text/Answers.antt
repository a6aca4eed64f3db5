use Rattle.hessian_text.proofs.OneAnswer.{text_or_fault}
use Rattle.hessian_text.proofs.laws.no_refusal_of_a_text.Goals as goal

pub returns : goal.returns
returns c = λ bytes value at end fault small h r. text_or_fault bytes value at end fault small h r
