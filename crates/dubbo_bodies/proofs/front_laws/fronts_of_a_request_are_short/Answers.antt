use Rattle.dubbo_bodies.proofs.FrontsShort.{front_of_request}
use Rattle.dubbo_bodies.proofs.front_laws.fronts_of_a_request_are_short.Goals as goal

pub returns : goal.returns
returns c = front_of_request
