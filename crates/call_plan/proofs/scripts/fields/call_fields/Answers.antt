use Rattle.std.proofs.Common.{length, ap, arith, codes}
use Rattle.call_plan.specs.Pieces.{pieces}
use Rattle.call_plan.proofs.Fielding.{lack_few}
use Rattle.call_plan.proofs.scripts.fields.call_fields.Goals as goal

pub returns-in_err-numbers : goal.returns-in_err-numbers
returns-in_err-numbers c = rw c.from_residual-in_err-numbers.ensures (lack_few (codes "call") 8 (pieces 9 c.args.line.now)
    (omega (arith, ap length (c.in_ok-word.ensures 8), ap length (c.in_ok-mode.ensures 7), c.in_err-numbers.ensures 4)))

pub returns-in_err-target : goal.returns-in_err-target
returns-in_err-target c = rw c.from_residual-in_err-target.ensures (lack_few (codes "call") 8 (pieces 9 c.args.line.now)
    (omega (arith, ap length (c.in_ok-word.ensures 8), ap length (c.in_ok-mode.ensures 7), ap length (c.in_ok-numbers.ensures 4), c.in_err-target.ensures 1)))
