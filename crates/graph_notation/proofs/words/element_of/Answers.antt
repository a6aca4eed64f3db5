use Rattle.std.proofs.Common.{sym, subst}
use Rattle.graph_notation.specs.declared.element.Element.TheVariants.{Sign}
use Rattle.graph_notation.specs.Elements.{Reads}
use Rattle.graph_notation.specs.Elements.Reads.{sign}
use Rattle.graph_notation.proofs.words.element_of.Goals as goal

pub returns-in-Some : goal.returns-in-Some
returns-in-Some c = subst (λ t. Reads t (Sign c.in-Some.mark)) (sym c.in-Some.ensures) (sign c.in-Some.mark)
