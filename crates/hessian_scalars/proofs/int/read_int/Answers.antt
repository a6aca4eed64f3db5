use Rattle.std.proofs.Common.{arith}
use Rattle.hessian_scalars.proofs.Ints.{ok_iff, short_iff, other_iff, no_double}
use Rattle.hessian_scalars.proofs.int.read_int.Goals as goal

pub returns-clause-ok : goal.returns-clause-ok
returns-clause-ok c = rw c.int_from.ensures (ok_iff c.args.bytes.now c.args.at c.requires (λ i. omega (arith, c.type_inv.bytes i)))

pub returns-clause-short : goal.returns-clause-short
returns-clause-short c = rw c.int_from.ensures (short_iff c.args.bytes.now c.args.at c.requires (λ i. omega (arith, c.type_inv.bytes i)))

pub returns-clause-other : goal.returns-clause-other
returns-clause-other c = rw c.int_from.ensures (other_iff c.args.bytes.now c.args.at c.requires (λ i. omega (arith, c.type_inv.bytes i)))

pub returns-clause-no_double : goal.returns-clause-no_double
returns-clause-no_double c = rw c.int_from.ensures (no_double c.args.bytes.now c.args.at c.requires (λ i. omega (arith, c.type_inv.bytes i)))
