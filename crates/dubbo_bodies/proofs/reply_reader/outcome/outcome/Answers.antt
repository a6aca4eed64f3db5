use Rattle.hessian_graph.specs.Shape.{shape_of}
use Rattle.dubbo_bodies.proofs.ReplyOutcome.{an_exception, a_value, a_null, an_exception_beside, a_value_beside, lacks_exception, lacks_value, lacks_null}
use Rattle.dubbo_bodies.proofs.reply_reader.outcome.outcome.Goals as goal

pub returns-in-Threw-clause-ok : goal.returns-in-Threw-clause-ok
returns-in-Threw-clause-ok c = an_exception c.args.graph c.args.kind c.in-Threw.is c.requires.roots c.requires.canonical

pub returns-in-Value-clause-ok : goal.returns-in-Value-clause-ok
returns-in-Value-clause-ok c = a_value c.args.graph c.args.kind c.in-Value.is c.requires.roots c.requires.canonical

pub returns-in_ok-null_graph-in-Null-clause-ok : goal.returns-in_ok-null_graph-in-Null-clause-ok
returns-in_ok-null_graph-in-Null-clause-ok c = a_null c.args.graph c.in_ok-null_graph-in-Null.field-0 c.args.kind c.in-Null.is c.requires.roots c.in_ok-null_graph-in-Null.ensures

pub returns-in-Ok-clause-ok : goal.returns-in-Ok-clause-ok
returns-in-Ok-clause-ok c = an_exception_beside c.args.graph c.in-Ok.form c.args.kind c.in-ThrewBeside.is c.in-Ok.ensures.ok

pub returns-in-Ok-first_alone-clause-ok : goal.returns-in-Ok-first_alone-clause-ok
returns-in-Ok-first_alone-clause-ok c = a_value_beside c.args.graph c.in-Ok-first_alone.form c.args.kind c.in-ValueBeside.is c.in-Ok-first_alone.ensures.ok

pub returns-in-Err-clause-why : goal.returns-in-Err-clause-why
returns-in-Err-clause-why c = λ some. let q = c.in-Err.ensures.why some in (q.0, lacks_exception (shape_of c.args.graph) c.args.kind c.in-ThrewBeside.is q.1)

pub returns-in-Err-first_alone-clause-why : goal.returns-in-Err-first_alone-clause-why
returns-in-Err-first_alone-clause-why c = λ some. let q = c.in-Err-first_alone.ensures.why some in (q.0, lacks_value (shape_of c.args.graph) c.args.kind c.in-ValueBeside.is q.1)

pub returns-in-NullBeside-clause-why : goal.returns-in-NullBeside-clause-why
returns-in-NullBeside-clause-why c = lacks_null (shape_of c.args.graph) c.args.kind c.null_beside.result c.in-NullBeside.is c.null_beside.ensures.why
