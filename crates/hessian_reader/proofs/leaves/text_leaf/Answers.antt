use Rattle.std.proofs.Common.{take, sym, subst}
use Rattle.std.specs.Prelude.{IfSome, string_bytes}
use Rattle.hessian_graph.specs.declared.value.Value.TheVariants.{Text}
use Rattle.hessian_text.specs.Spelling.{TextSpelling}
use Rattle.hessian_reader.specs.declared.element.Want.TheVariants.{AnyValue}
use Rattle.hessian_reader.specs.declared.element.Element.TheVariants.{Plain}
use Rattle.hessian_reader.specs.Elements.{IsElement}
use Rattle.hessian_reader.specs.Elements.IsElement.{text}
use Rattle.hessian_reader.proofs.leaves.text_leaf.Goals as goal

pub returns-in-Some-clause-is : goal.returns-in-Some-clause-is
returns-in-Some-clause-is c =
    let bytes = take c.in-Some.used c.args.piece.now in
    let spells = subst (λ found. IfSome found (λ p. TextSpelling (string_bytes p.0) (take p.1 c.args.piece.now))) c.in-Some.is c.in_ok-text.ensures.spells in
    subst (λ t. IsElement AnyValue bytes (Plain (Text t))) (sym c.from.ensures) (text (string_bytes c.in-Some.text) bytes spells)
