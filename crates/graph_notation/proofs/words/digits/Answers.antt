use Rattle.std.proofs.Common.{sym, subst}
use Rattle.std.specs.Int.{w32, w64}
use Rattle.std.proofs.lemmas.Int.{to_z-of_z}
use Rattle.hessian_graph.specs.declared.value.Value.TheVariants as values
use Rattle.graph_notation.specs.declared.element.Element.TheVariants.{Plain}
use Rattle.graph_notation.specs.Elements.{Reads}
use Rattle.graph_notation.specs.Elements.Reads.{int, long}
use Rattle.graph_notation.proofs.words.digits.Goals as goal

pub returns-in-Some : goal.returns-in-Some
returns-in-Some c =
    subst (λ z. Reads c.args.token.now (Plain (values.Long z))) (sym (to_z-of_z w64 c.in-Some.number c.in-Some.ensures.0))
    (long c.in-Some.number c.args.token.now c.in-Some.ensures.0 c.in-Some.ensures.1)

pub returns-in-Some-int : goal.returns-in-Some-int
returns-in-Some-int c =
    subst (λ z. Reads c.args.token.now (Plain (values.Int z))) (sym (to_z-of_z w32 c.in-Some-int.number c.in-Some-int.ensures.0))
    (int c.in-Some-int.number c.args.token.now c.in-Some-int.ensures.0 c.in-Some-int.ensures.1)
