use Rattle.std.proofs.Common.{take, sym, subst}
use Rattle.hessian_reader.specs.declared.element.Want.TheVariants.{AnyValue}
use Rattle.hessian_reader.specs.declared.element.Element.TheVariants.{Plain}
use Rattle.hessian_reader.specs.Elements.{IsElement}
use Rattle.hessian_reader.proofs.Elements.{scalar_is}
use Rattle.hessian_reader.proofs.Runs.{one_leaf}
use Rattle.hessian_reader.proofs.values.push_scalar.Goals as goal

pub returns-in_ok-push-in-Some : goal.returns-in_ok-push-in-Some
returns-in_ok-push-in-Some c = λ nodes.
    let bytes = take c.in-Some.used c.args.piece.now in
    let is : IsElement AnyValue bytes (Plain c.value_of.result) = subst (λ v. IsElement AnyValue bytes (Plain v)) (sym c.value_of.ensures) (scalar_is AnyValue c.in-Some.scalar bytes tt c.in-Some.ensures.spells) in
    record {
      value = c.value_of.result;
      values = one_leaf nodes c.value_of.result bytes is;
      is = c.in_ok-push-in-Some.ensures;
      within = c.in-Some.ensures.within;
    }
