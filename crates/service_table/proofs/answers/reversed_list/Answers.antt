use Rattle.std.proofs.Common.{◌≡◌, List, reverse, sym, ap, ◌∙◌, subst}
use Rattle.hessian_graph.specs.declared.value.Value.{Value}
use Rattle.hessian_graph.specs.declared.node.Node.TheVariants as nodes
use Rattle.hessian_graph.specs.Shape.{shape_of}
use Rattle.service_table.specs.Growing.{AddsAs}
use Rattle.service_table.specs.Replies.{reversed}
use Rattle.service_table.proofs.Reversing.{reversed_adds}
use Rattle.service_table.proofs.answers.reversed_list.Goals as goal

pub returns-in_ok-items-in-Some-List : goal.returns-in_ok-items-in-Some-List
returns-in_ok-items-in-Some-List c =
    let first = c.in-Some-List.ensures in
    let turned : c.from.result ≡ reverse c.in-Some-List.items = c.from.ensures ∙ c.in_ok-items-in-Some-List.ensures ∙ ap (λ (vs : List Value). reverse vs) c.as_slice.ensures in
    subst (λ (vs : List Value). AddsAs c.args.args.now (reversed (shape_of c.args.args.now)) (nodes.List c.in-Some-List.type_name vs)) (sym turned)
    (reversed_adds c.args.args.now first.number c.in-Some-List.type_name c.in-Some-List.items c.requires.sound c.requires.few first.named first.within (sym c.in-Some-List.field-0-is ∙ first.is))
