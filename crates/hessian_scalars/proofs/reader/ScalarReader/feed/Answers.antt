use Rattle.std.proofs.Common.{arith, ◌∙◌}
use Rattle.hessian_scalars.proofs.Fed.{whole_iff, part_iff, double_iff, other_iff, goes_on, anew}
use Rattle.hessian_scalars.proofs.reader.ScalarReader.feed.Goals as goal

pub returns-clause-whole : goal.returns-clause-whole
returns-clause-whole c = rw c.take.ensures.exact (whole_iff _ _ c.take.ensures.begun (λ i. omega (arith, c.type_inv.piece i)))

pub returns-clause-part : goal.returns-clause-part
returns-clause-part c = rw c.take.ensures.exact (part_iff _ _ c.take.ensures.begun (λ i. omega (arith, c.type_inv.piece i)))

pub returns-clause-double : goal.returns-clause-double
returns-clause-double c = rw c.take.ensures.exact (double_iff _ _ c.take.ensures.begun (λ i. omega (arith, c.type_inv.piece i)))

pub returns-clause-other : goal.returns-clause-other
returns-clause-other c = rw c.take.ensures.exact (other_iff _ _ c.take.ensures.begun (λ i. omega (arith, c.type_inv.piece i)))

pub returns-clause-goes_on : goal.returns-clause-goes_on
returns-clause-goes_on c = rw c.take.ensures.exact (λ h. c.take.ensures.kept ∙ goes_on _ _ c.take.ensures.begun (λ i. omega (arith, c.type_inv.piece i)) h)

pub returns-clause-anew : goal.returns-clause-anew
returns-clause-anew c = rw c.take.ensures.exact (λ h. c.take.ensures.kept ∙ anew _ _ c.take.ensures.begun (λ i. omega (arith, c.type_inv.piece i)) h)
