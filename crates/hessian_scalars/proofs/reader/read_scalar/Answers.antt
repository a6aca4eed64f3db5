use Rattle.std.proofs.Common.{arith}
use Rattle.hessian_scalars.proofs.Scalars.{ok_iff, short_iff, double_iff, other_iff}
use Rattle.hessian_scalars.proofs.reader.read_scalar.Goals as goal

pub returns-clause-ok : goal.returns-clause-ok
returns-clause-ok c = rw c.scalar_from.ensures (ok_iff c.args.bytes.now c.args.at c.requires (λ i. omega (arith, c.type_inv.bytes i)))

pub returns-clause-short : goal.returns-clause-short
returns-clause-short c = rw c.scalar_from.ensures (short_iff c.args.bytes.now c.args.at c.requires (λ i. omega (arith, c.type_inv.bytes i)))

pub returns-clause-double : goal.returns-clause-double
returns-clause-double c = rw c.scalar_from.ensures (double_iff c.args.bytes.now c.args.at c.requires (λ i. omega (arith, c.type_inv.bytes i)))

pub returns-clause-other : goal.returns-clause-other
returns-clause-other c = rw c.scalar_from.ensures (other_iff c.args.bytes.now c.args.at c.requires (λ i. omega (arith, c.type_inv.bytes i)))
