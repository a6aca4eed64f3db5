use Rattle.std.proofs.Common.{arith}
use Rattle.hessian_graph.specs.declared.value.Pair.{Pair}
use Rattle.hessian_writer.specs.Carried.{IsCarriedValue}
use Rattle.hessian_writer.proofs.Carrying.{one_more, pairs_all}
use Rattle.hessian_writer.proofs.carried.pairs_are_carried.Goals as goal

pub loop-pair-preserved : goal.loop-pair-preserved
loop-pair-preserved c = one_more (λ (p : Pair). IsCarriedValue p.key × IsCarriedValue p.value) c.args.pairs.now c.loop-pair.pair-index c.pair-item.result c.loop-pair.invariant c.pair-item.is c.loop-pair-test.true (c.value_is_carried.ensures, c.value_is_carried-in-loop-pair.ensures)

pub returns : goal.returns
returns c = pairs_all c.args.pairs.now (λ k d h. c.loop-pair.invariant k d (let t = c.loop-pair-test.false in omega (arith, h, t)))
