use Rattle.std.proofs.Common.{length, sym, ap, ◌∙◌}
use Rattle.std.proofs.lemmas.List.{length-map}
use Rattle.hessian_graph.specs.Shape.{shape_of, node_shape}
use Rattle.dubbo_main.proofs.Totalling.{one_form}
use Rattle.dubbo_main.proofs.commands.generate.totals.form_nodes.Goals as goal

pub returns-clause-form : goal.returns-clause-form
returns-clause-form c = λ form is.
    let same = one_form _ (shape_of c.in_ok-form.form) form c.in_ok-form.ensures.canon is in
    ap length (c.as_slice.ensures ∙ ap (λ p. p.nodes) c.parts.ensures.parts)
    ∙ sym (length-map c.in_ok-form.form.nodes (node_shape c.in_ok-form.form.types c.in_ok-form.form.classes)) ∙ ap (λ g. length g.nodes) same
