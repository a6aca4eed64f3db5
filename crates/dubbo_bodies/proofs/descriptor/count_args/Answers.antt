use Rattle.std.proofs.Common.{arith}
use Rattle.dubbo_bodies.proofs.Counting.{exactly, small}
use Rattle.dubbo_bodies.proofs.descriptor.count_args.Goals as goal

pub returns : goal.returns
returns c = let e = exactly c.args.desc.now c.counted.result (small c.args.desc.now (λ i. omega (arith, c.type_inv.desc i))) c.counted.ensures in record { ok = e.ok; bad = e.bad; many = e.many }
