use Rattle.std.proofs.Common.{[]}
use Rattle.dubbo_bodies.proofs.ReplyAnswers.{serial_refused}
use Rattle.dubbo_bodies.proofs.ReplyKind.{kind_new}
use Rattle.dubbo_bodies.proofs.ReplyText.{text_new}
use Rattle.dubbo_bodies.proofs.reply_reader.stage.Stage.begin.Goals as goal

pub returns-then-header-ne-HESSIAN : goal.returns-then-header-ne-HESSIAN
returns-then-header-ne-HESSIAN c = serial_refused c.args.header.now [] c.if-header-ne-HESSIAN.true

pub returns-then-header-eq-OK : goal.returns-then-header-eq-OK
returns-then-header-eq-OK c = kind_new c.args.header.now c.new.result (record { serial = c.if-header-ne-HESSIAN.false; status = c.if-header-eq-OK.true }) c.new.ensures

pub returns-else-header-eq-OK : goal.returns-else-header-eq-OK
returns-else-header-eq-OK c = text_new c.args.header.now c.new-else-header-eq-OK.result (record { serial = c.if-header-ne-HESSIAN.false; status = c.if-header-eq-OK.false }) c.new-else-header-eq-OK.ensures
