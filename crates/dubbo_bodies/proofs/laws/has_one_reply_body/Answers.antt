use Rattle.hessian_writer.proofs.LeafLaws.{one_form}
use Rattle.dubbo_bodies.proofs.OneBody.{one_reply}
use Rattle.dubbo_bodies.proofs.laws.has_one_reply_body.Goals as goal

pub returns : goal.returns
returns c = λ reply a b p q. one_reply one_form p q
