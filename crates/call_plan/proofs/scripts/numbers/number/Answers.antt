use Rattle.std.proofs.Common.{arith}
use Rattle.call_plan.proofs.Numerals.{not_low, not_high}
use Rattle.call_plan.proofs.scripts.numbers.number.Goals as goal

pub returns-then-number-least : goal.returns-then-number-least
returns-then-number-least c =
    let said = c.in_ok-number.ensures {u = tt} in
    not_low c.args.least c.args.most c.args.default c.in_ok-number.number c.args.field.now (omega (arith, c.ranges.most.fits)) said.0 said.1 c.if-number-least.true

pub returns-then-most-number : goal.returns-then-most-number
returns-then-most-number c =
    let said = c.in_ok-number.ensures {u = tt} in
    not_high c.args.least c.args.most c.args.default c.in_ok-number.number c.args.field.now (omega (arith, c.ranges.most.fits)) said.0 said.1 c.if-most-number.true
