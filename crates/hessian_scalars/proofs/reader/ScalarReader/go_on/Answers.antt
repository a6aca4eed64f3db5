use Rattle.std.proofs.Common.{arith}
use Rattle.hessian_scalars.proofs.Feeding.{nothing_came}
use Rattle.hessian_scalars.proofs.Going.{going, going_end, going_whole, going_whole_kept, going_part, going_part_kept, going_part_begun, going_double, going_double_kept, going_other, going_other_kept}
use Rattle.hessian_scalars.proofs.reader.ScalarReader.go_on.Goals as goal

pub overflow_sub-result : goal.overflow_sub-result
overflow_sub-result c = going_end _ _ _ _ _ _ _ (going _ _ _ _ _ _ _ c.self.view_is c.self.invariant c.self.told c.min-taken.ensures c.joined-bytes.ensures c.peek.ensures.exact (λ i. omega (arith, c.type_inv.piece i))) _ _ c.in-Whole.is

pub returns-in-Whole-clause-exact : goal.returns-in-Whole-clause-exact
returns-in-Whole-clause-exact c = going_whole _ _ _ _ _ _ _ (going _ _ _ _ _ _ _ c.self.view_is c.self.invariant c.self.told c.min-taken.ensures c.joined-bytes.ensures c.peek.ensures.exact (λ i. omega (arith, c.type_inv.piece i))) _ _ c.in-Whole.is

pub returns-in-Whole-clause-kept : goal.returns-in-Whole-clause-kept
returns-in-Whole-clause-kept c = going_whole_kept _ _ _ _ _ _ _ (going _ _ _ _ _ _ _ c.self.view_is c.self.invariant c.self.told c.min-taken.ensures c.joined-bytes.ensures c.peek.ensures.exact (λ i. omega (arith, c.type_inv.piece i))) _ _ c.in-Whole.is

pub invariant_of-self-in-Part : goal.invariant_of-self-in-Part
invariant_of-self-in-Part c = going_part_begun _ _ _ _ _ _ _ (going _ _ _ _ _ _ _ c.self.view_is c.self.invariant c.self.told c.min-taken.ensures c.joined-bytes.ensures c.peek.ensures.exact (λ i. omega (arith, c.type_inv.piece i))) c.in-Part.is

pub returns-in-Part-clause-exact : goal.returns-in-Part-clause-exact
returns-in-Part-clause-exact c = going_part _ _ _ _ _ _ _ (going _ _ _ _ _ _ _ c.self.view_is c.self.invariant c.self.told c.min-taken.ensures c.joined-bytes.ensures c.peek.ensures.exact (λ i. omega (arith, c.type_inv.piece i))) c.in-Part.is

pub returns-in-Part-clause-kept : goal.returns-in-Part-clause-kept
returns-in-Part-clause-kept c = going_part_kept _ _ _ _ _ _ _ (going _ _ _ _ _ _ _ c.self.view_is c.self.invariant c.self.told c.min-taken.ensures c.joined-bytes.ensures c.peek.ensures.exact (λ i. omega (arith, c.type_inv.piece i))) c.in-Part.is

pub invariant_of-self-in-Double : goal.invariant_of-self-in-Double
invariant_of-self-in-Double c = (omega arith, nothing_came)

pub returns-in-Double-clause-exact : goal.returns-in-Double-clause-exact
returns-in-Double-clause-exact c = going_double _ _ _ _ _ _ _ (going _ _ _ _ _ _ _ c.self.view_is c.self.invariant c.self.told c.min-taken.ensures c.joined-bytes.ensures c.peek.ensures.exact (λ i. omega (arith, c.type_inv.piece i))) _ c.in-Double.is

pub returns-in-Double-clause-kept : goal.returns-in-Double-clause-kept
returns-in-Double-clause-kept c = going_double_kept _ _ _ _ _ _ _ (going _ _ _ _ _ _ _ c.self.view_is c.self.invariant c.self.told c.min-taken.ensures c.joined-bytes.ensures c.peek.ensures.exact (λ i. omega (arith, c.type_inv.piece i))) _ c.in-Double.is

pub invariant_of-self-in-Other : goal.invariant_of-self-in-Other
invariant_of-self-in-Other c = (omega arith, nothing_came)

pub returns-in-Other-clause-exact : goal.returns-in-Other-clause-exact
returns-in-Other-clause-exact c = going_other _ _ _ _ _ _ _ (going _ _ _ _ _ _ _ c.self.view_is c.self.invariant c.self.told c.min-taken.ensures c.joined-bytes.ensures c.peek.ensures.exact (λ i. omega (arith, c.type_inv.piece i))) _ c.in-Other.is

pub returns-in-Other-clause-kept : goal.returns-in-Other-clause-kept
returns-in-Other-clause-kept c = going_other_kept _ _ _ _ _ _ _ (going _ _ _ _ _ _ _ c.self.view_is c.self.invariant c.self.told c.min-taken.ensures c.joined-bytes.ensures c.peek.ensures.exact (λ i. omega (arith, c.type_inv.piece i))) _ c.in-Other.is
