use Rattle.hessian_reader.proofs.RefusalLaws.{refusal_stays}
use Rattle.hessian_reader.proofs.law.a_refusal_stays.Goals as goal

pub returns : goal.returns
returns c = λ roots bytes more cause some r. refusal_stays roots bytes more cause some r
