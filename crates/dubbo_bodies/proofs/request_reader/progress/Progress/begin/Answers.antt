use Rattle.std.proofs.Common.{[], arith}
use Rattle.dubbo_bodies.proofs.FieldSteps.{begins_none, serial_refused}
use Rattle.dubbo_bodies.proofs.request_reader.progress.Progress.begin.Goals as goal

pub returns-then-header-eq-HESSIAN-clause-stands : goal.returns-then-header-eq-HESSIAN-clause-stands
returns-then-header-eq-HESSIAN-clause-stands c = c.begin.ensures.stands c.args.header.now (begins_none c.args.header.now c.if-header-eq-HESSIAN.true)

pub returns-else-header-eq-HESSIAN-clause-stands : goal.returns-else-header-eq-HESSIAN-clause-stands
returns-else-header-eq-HESSIAN-clause-stands c = serial_refused c.args.header.now [] (λ e. absurd (omega (arith, c.if-header-eq-HESSIAN.false, e)))
