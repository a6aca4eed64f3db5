use Rattle.dubbo_bodies.proofs.ReplyBytes.{one_reading}
use Rattle.dubbo_bodies.proofs.reply_laws.are_one_reply.Goals as goal

pub returns : goal.returns
returns c = one_reading
