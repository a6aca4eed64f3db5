use Rattle.dubbo_bodies.proofs.RequestBytes.{never_refused}
use Rattle.dubbo_bodies.proofs.reading_laws.no_request_is_refused.Goals as goal

pub returns : goal.returns
returns c = never_refused
