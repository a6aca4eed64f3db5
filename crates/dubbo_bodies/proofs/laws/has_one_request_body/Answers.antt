use Rattle.hessian_writer.specs.Leaves.{hessian_forms}
use Rattle.hessian_writer.proofs.LeafLaws.{one_form}
use Rattle.dubbo_bodies.proofs.OneBody.{one_request}
use Rattle.dubbo_bodies.proofs.laws.has_one_request_body.Goals as goal

pub returns : goal.returns
returns c = λ request a b p q. one_request hessian_forms request a b one_form p q
