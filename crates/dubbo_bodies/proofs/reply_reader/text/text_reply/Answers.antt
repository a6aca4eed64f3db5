use Rattle.std.proofs.Common.{sym, subst, ap, ◌∙◌}
use Rattle.hessian_reader.specs.Leaves.{hessian, node_limit}
use Rattle.dubbo_bodies.specs.declared.message.Reply.TheVariants.{Status}
use Rattle.dubbo_bodies.specs.ReplyBody.{ReplyOf}
use Rattle.dubbo_bodies.proofs.ReplyText.{text_whole, text_short, true_false}
use Rattle.dubbo_bodies.proofs.reply_reader.text.text_reply.Goals as goal

pub returns-then-is_ended-clause-ok : goal.returns-then-is_ended-clause-ok
returns-then-is_ended-clause-ok c =
    subst (ReplyOf hessian node_limit c.args.came.now.header c.args.came.now.fed.bytes) (sym (c.status_reply.ensures ∙ ap (Status c.args.came.now.header.status) c.into_text.ensures))
    (text_whole c.args.came.now.header c.args.came.now.fed.bytes c.args.reader c.requires (c.is_ended.ensures.0 c.if-is_ended.true))

pub returns-else-is_ended-clause-why : goal.returns-else-is_ended-clause-why
returns-else-is_ended-clause-why c = λ some. text_short c.args.came.now.header c.args.came.now.fed.bytes c.args.reader c.args.came.now.count c.requires c.args.came.now.counted (λ e. true_false c.is_ended.result (c.is_ended.ensures.1 e) c.if-is_ended.false)
