use Rattle.std.proofs.Common.{◌≡◌, ◌∙◌, ◌∷◌, [], List, ap, subst, get_or}
use Rattle.std.proofs.lemmas.List.{get_or_default}
use Rattle.hessian_graph.specs.Shape.{Text}
use Rattle.graph_notation.specs.declared.element.Element.TheVariants.{Words}
use Rattle.graph_notation.specs.Pressing.{Prints}
use Rattle.graph_notation.proofs.Repeating.{prints_both}
use Rattle.graph_notation.proofs.class_texts.write_field.Goals as goal

pub returns : goal.returns
returns c =
    let name : c.index-as_slice-at.result ≡ get_or c.args.class.now.fields c.args.at [] =
    c.index-as_slice-at.is ∙ ap (λ (xs : List Text). get_or xs c.args.at c.index-as_slice-at.result) c.as_slice.ensures ∙ get_or_default c.args.class.now.fields c.args.at c.index-as_slice-at.result [] c.requires in
    prints_both (subst (λ (x : Text). Prints c.args.out.now.items (Words x ∷ []) c.write_words.new.out.items) name c.in_ok-write_words.ensures) c.in_ok-write_mark.ensures
