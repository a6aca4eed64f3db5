use Rattle.dubbo_bodies.proofs.RequestBytes.{one_reading}
use Rattle.dubbo_bodies.proofs.reading_laws.a_body_is_one_request.Goals as goal

pub returns : goal.returns
returns c = one_reading
