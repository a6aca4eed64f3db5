use Rattle.dubbo_bodies.proofs.OneReplyRefusal.{one_cause_of_reply}
use Rattle.dubbo_bodies.proofs.reply_laws.a_reply_has_one_refusal.Goals as goal

pub returns : goal.returns
returns c = one_cause_of_reply
