use Rattle.dubbo_play.proofs.Places.{int_within}
use Rattle.dubbo_play.proofs.first_frames.int_at.Goals as goal

pub returns-clause-within : goal.returns-clause-within
returns-clause-within c = rw c.ok.ensures.value (int_within c.args.bytes.now c.args.at c.read_int.result c.read_int.ensures.ok)
