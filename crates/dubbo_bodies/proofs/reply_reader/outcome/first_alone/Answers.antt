use Rattle.hessian_graph.specs.Shape.{shape_of}
use Rattle.dubbo_bodies.proofs.ReplyOutcome.{first_beside}
use Rattle.dubbo_bodies.proofs.reply_reader.outcome.first_alone.Goals as goal

pub returns-clause-ok : goal.returns-clause-ok
returns-clause-ok c = first_beside c.args.graph c.without_last-first.result (shape_of c.in_ok-form.form) c.requires c.if-not-ends_in_attachments.ensures c.without_last-first.ensures c.in_ok-form.ensures.canon
