use Rattle.hessian_text.proofs.Running.{spelled_once}
use Rattle.hessian_text.proofs.laws.spelled_once.Goals as goal

pub returns : goal.returns
returns c = λ kind value other bytes more small s t. spelled_once kind value other bytes more small s t
