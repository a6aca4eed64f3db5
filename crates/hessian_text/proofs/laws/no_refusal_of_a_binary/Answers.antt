use Rattle.hessian_text.proofs.OneAnswer.{binary_or_fault}
use Rattle.hessian_text.proofs.laws.no_refusal_of_a_binary.Goals as goal

pub returns : goal.returns
returns c = λ bytes value at end fault small h r. binary_or_fault bytes value at end fault small h r
