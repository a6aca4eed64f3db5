use Rattle.dubbo_bodies.proofs.ReplyBytes.{never_refused}
use Rattle.dubbo_bodies.proofs.reply_laws.no_reply_is_refused.Goals as goal

pub returns : goal.returns
returns c = never_refused
