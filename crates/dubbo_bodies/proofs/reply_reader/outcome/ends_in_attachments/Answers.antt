use Rattle.std.proofs.Common.{◌≡◌, length, ◌≤◌, ap, subst, ◌∙◌}
use Rattle.std.specs.Prelude.{List, get_or, ◌-◌}
use Rattle.hessian_graph.specs.declared.value.Value.{Value}
use Rattle.hessian_graph.specs.declared.parts.Parts.{Parts}
use Rattle.hessian_graph.specs.Shape.{shape_of}
use Rattle.dubbo_bodies.proofs.ReplyOutcome.{last_answer}
use Rattle.dubbo_bodies.proofs.reply_reader.outcome.ends_in_attachments.Goals as goal

pub returns : goal.returns
returns c =
    let roots : c.as_slice.result.now ≡ c.args.graph.now.roots = c.as_slice.ensures ∙ ap (λ (p : Parts). p.roots) c.parts.ensures.parts in
    last_answer (shape_of c.args.graph.now) c.last-item.result c.are_attachments.result
    (subst (λ (vs : List Value). 1 ≤ length vs) roots c.in-len1-up.len_at_least)
    (subst (λ (vs : List Value). c.last-item.result ≡ get_or vs (length vs - 1) c.last-item.result) roots c.last-item.is)
    c.are_attachments.ensures
