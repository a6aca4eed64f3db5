use Rattle.std.proofs.Common.{sym, subst, ap, ◌∙◌}
use Rattle.hessian_reader.specs.Leaves.{hessian, node_limit}
use Rattle.dubbo_bodies.specs.declared.message.Reply.TheVariants.{Status}
use Rattle.dubbo_bodies.specs.ReplyBody.{ReplyOf}
use Rattle.dubbo_bodies.specs.ReplyStages.{Stands, AtKind, AtNull, StaysRefused}
use Rattle.dubbo_bodies.proofs.ReplyAnswers.{refused_now, kind_cut_short}
use Rattle.dubbo_bodies.proofs.ReplyKind.{kind_short}
use Rattle.dubbo_bodies.proofs.ReplyText.{null_whole}
use Rattle.dubbo_bodies.proofs.reply_reader.stage.Stage.finish.Goals as goal

pub returns-in-Kind-clause-why : goal.returns-in-Kind-clause-why
returns-in-Kind-clause-why c = λ some.
    let at : AtKind c.args.came.now.header c.args.came.now.fed.bytes c.in-Kind.field-0 = subst (Stands c.args.came.now.header c.args.came.now.fed.bytes) c.in-Kind.is c.requires.stands in
    kind_cut_short c.args.came.now.header c.args.came.now.fed.bytes c.in-Kind.field-0 c.args.came.now.count at c.args.came.now.counted (kind_short c.args.came.now.header c.args.came.now.fed.bytes c.in-Kind.field-0 at)

pub returns-in-NoText-clause-ok : goal.returns-in-NoText-clause-ok
returns-in-NoText-clause-ok c =
    let at : AtNull c.args.came.now.header c.args.came.now.fed.bytes = subst (Stands c.args.came.now.header c.args.came.now.fed.bytes) c.in-NoText.is c.requires.stands in
    subst (ReplyOf hessian node_limit c.args.came.now.header c.args.came.now.fed.bytes) (sym (c.status_reply.ensures ∙ ap (Status c.args.came.now.header.status) c.new.ensures.bytes))
    (null_whole c.args.came.now.header c.args.came.now.fed.bytes at)

pub returns-in-Refused-clause-why : goal.returns-in-Refused-clause-why
returns-in-Refused-clause-why c = λ some.
    let stays : StaysRefused c.args.came.now.header c.args.came.now.fed.bytes c.in-Refused.fault = subst (Stands c.args.came.now.header c.args.came.now.fed.bytes) c.in-Refused.is c.requires.stands in
    refused_now c.args.came.now.header c.args.came.now.fed.bytes c.in-Refused.fault stays some
