use Rattle.std.proofs.Common.{take, subst}
use Rattle.hessian_scalars.specs.declared.scalar.Scalar.{Scalar}
use Rattle.hessian_scalars.specs.ScalarSpelling.{ScalarSpelling}
use Rattle.hessian_reader.specs.declared.element.Want.TheVariants.{AnInt}
use Rattle.hessian_reader.specs.Elements.IsElement.{number}
use Rattle.hessian_reader.specs.Elements.TakesInt.{int}
use Rattle.hessian_reader.proofs.leaves.number_at_once.Goals as goal

pub returns-clause-is : goal.returns-clause-is
returns-clause-is c =
    let bytes = take c.in_ok-scalar.used c.args.piece.now in
    number AnInt _ bytes int (subst (λ (v : Scalar). ScalarSpelling v bytes) c.in_ok-number.ensures c.in_ok-scalar.ensures.spells)
