use Rattle.std.proofs.Common.{take, sym, subst}
use Rattle.hessian_reader.specs.declared.element.Want.TheVariants.{AnyValue}
use Rattle.hessian_reader.specs.declared.element.Element.TheVariants.{Plain}
use Rattle.hessian_reader.specs.Elements.{IsElement}
use Rattle.hessian_reader.proofs.Elements.{scalar_is}
use Rattle.hessian_reader.proofs.leaves.leaf_at_once.Goals as goal

pub returns-in-Some-clause-is : goal.returns-in-Some-clause-is
returns-in-Some-clause-is c =
    let bytes = take c.in-Some.used c.args.piece.now in
    subst (λ v. IsElement AnyValue bytes (Plain v)) (sym c.value_of.ensures) (scalar_is AnyValue c.in-Some.scalar bytes tt c.in-Some.ensures.spells)
