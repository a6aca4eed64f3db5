use Rattle.std.proofs.Common.{◌≤◌, length, take, subst}
use Rattle.std.specs.Prelude.{IfSome}
use Rattle.hessian_reader.specs.declared.element.Want.TheVariants.{AnyValue}
use Rattle.hessian_reader.specs.declared.element.Element.TheVariants.{Plain}
use Rattle.hessian_reader.specs.Elements.{IsElement}
use Rattle.hessian_reader.proofs.Runs.{one_leaf}
use Rattle.hessian_reader.proofs.values.push_text.Goals as goal

pub returns-in_ok-push-in-Some : goal.returns-in_ok-push-in-Some
returns-in_ok-push-in-Some c = λ nodes.
    let piece = c.args.piece.now in
    let is = subst (λ o. IfSome o (λ p. IsElement AnyValue (take p.1 piece) (Plain p.0))) c.in-Some.is c.in_ok-value.ensures.is in
    record {
      value = c.in-Some.value;
      values = one_leaf nodes c.in-Some.value (take c.in-Some.used piece) is;
      is = c.in_ok-push-in-Some.ensures;
      within = subst (λ o. IfSome o (λ p. p.1 ≤ length piece)) c.in-Some.is c.in_ok-value.ensures.within;
    }
