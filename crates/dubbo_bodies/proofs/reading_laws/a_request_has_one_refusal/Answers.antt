use Rattle.dubbo_bodies.proofs.OneRequestRefusal.{one_cause_of_request}
use Rattle.dubbo_bodies.proofs.reading_laws.a_request_has_one_refusal.Goals as goal

pub returns : goal.returns
returns c = one_cause_of_request
