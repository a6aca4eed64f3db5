use Rattle.std.proofs.Common.{arith}
use Rattle.hessian_writer.specs.Carried.{IsCarriedValue}
use Rattle.hessian_writer.proofs.Carrying.{one_more}
use Rattle.hessian_writer.proofs.carried.values_are_carried.Goals as goal

pub loop-value-preserved : goal.loop-value-preserved
loop-value-preserved c = one_more IsCarriedValue c.args.values.now c.loop-value.value-index c.value-item.result c.loop-value.invariant c.value-item.is c.loop-value-test.true c.value_is_carried.ensures

pub returns : goal.returns
returns c = λ k d h. c.loop-value.invariant k d (let t = c.loop-value-test.false in omega (arith, h, t))
