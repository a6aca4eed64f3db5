use Rattle.dubbo_bodies.proofs.RequestBytes.{one_reading}
use Rattle.dubbo_bodies.proofs.EqualRequests.{equal_requests}
use Rattle.dubbo_bodies.proofs.reading_laws.a_body_is_read_in_one_way.Goals as goal

pub returns : goal.returns
returns c header body r s sound others_sound tables others_tables one other =
    equal_requests r s sound others_sound tables others_tables (one_reading header body r s one other)
