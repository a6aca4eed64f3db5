use Rattle.std.proofs.Common.{arith, IsUtf8}
use Rattle.hessian_writer.proofs.Carrying.{one_more}
use Rattle.hessian_writer.proofs.carried.texts_are_carried.Goals as goal

pub loop-text-preserved : goal.loop-text-preserved
loop-text-preserved c = one_more (λ t. IsUtf8 t) c.args.texts.now c.loop-text.text-index c.text-item.result c.loop-text.invariant c.text-item.is c.loop-text-test.true c.text_is_carried.ensures

pub returns : goal.returns
returns c = λ k d h. c.loop-text.invariant k d (let t = c.loop-text-test.false in omega (arith, h, t))
