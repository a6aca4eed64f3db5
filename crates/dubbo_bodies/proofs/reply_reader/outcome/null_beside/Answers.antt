use Rattle.hessian_graph.specs.Shape.{shape_of}
use Rattle.dubbo_bodies.specs.ReplyBody.Outcome.{null_beside as a_null_beside}
use Rattle.dubbo_bodies.proofs.ReplyOutcome.{last_alone}
use Rattle.dubbo_bodies.proofs.reply_reader.outcome.null_beside.Goals as goal

pub returns-clause-ok : goal.returns-clause-ok
returns-clause-ok c =
    let l = last_alone (shape_of c.args.graph.now) c.requires c.if-not-ends_in_attachments.ensures in
    a_null_beside l.0 c.in_ok-form.form l.1 l.2 c.in_ok-form.ensures
