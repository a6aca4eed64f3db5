use Rattle.std.proofs.Common.{subst}
use Rattle.hessian_graph.specs.Reading.{Leaves}
use Rattle.dubbo_bodies.specs.ReplyBody.{ReplyOf}
use Rattle.dubbo_bodies.proofs.OneHessian.{one_hessian}
use Rattle.dubbo_bodies.proofs.ReplyBack.{reply_read}
use Rattle.dubbo_bodies.proofs.laws.reply_is_read_as_written.Goals as goal

pub returns : goal.returns
returns c = λ bound header body serial goes written canon few.
    subst (λ (l : Leaves). ReplyOf l bound header body c.args.canonical.now) one_hessian
    (reply_read bound header c.look_at_reply.ensures c.look_at_reply-2.ensures serial goes written canon few)
