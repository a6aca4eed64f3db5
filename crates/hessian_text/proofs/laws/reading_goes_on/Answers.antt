use Rattle.hessian_text.proofs.Answering.{goes_on}
use Rattle.hessian_text.proofs.laws.reading_goes_on.Goals as goal

pub returns : goal.returns
returns c = λ kind after bytes value rest small a. goes_on kind after bytes value rest small a
