use Rattle.std.proofs.Common.{length, ap, arith, codes}
use Rattle.call_plan.specs.Pieces.{pieces}
use Rattle.call_plan.proofs.Fielding.{lack_few}
use Rattle.call_plan.proofs.scripts.fields.service_fields.Goals as goal

pub returns-in_err-target : goal.returns-in_err-target
returns-in_err-target c = rw c.from_residual-in_err-target.ensures (lack_few (codes "service") 5 (pieces 9 c.args.line.now)
    (omega (arith, ap length (c.in_ok-word.ensures 8), c.in_err-target.ensures 5)))

pub returns-in_err-desc : goal.returns-in_err-desc
returns-in_err-desc c = rw c.from_residual-in_err-desc.ensures (lack_few (codes "service") 5 (pieces 9 c.args.line.now)
    (omega (arith, ap length (c.in_ok-word.ensures 8), ap length (c.in_ok-target.ensures 5), ap length (c.in_err-desc.ensures 5))))
