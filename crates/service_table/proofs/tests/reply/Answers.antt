use Rattle.std.proofs.Common.{arith, subst, ap, length, ◌≡◌, ◌∙◌}
use Rattle.hessian_graph.specs.declared.parts.Parts.{Parts}
use Rattle.dubbo_bodies.specs.Descriptor.{HasArgs}
use Rattle.service_table.proofs.tests.reply.Goals as goal

pub call-requires-clause-args : goal.call-requires-clause-args
call-requires-clause-args c =
    let seen : HasArgs c.as_bytes.result.now c.in-Ok.count = (c.count_args.ensures.ok c.in-Ok.count).0 c.in-Ok.is in
    let has : HasArgs c.args.request.now.desc c.in-Ok.count = subst (λ b. HasArgs b c.in-Ok.count) (c.as_bytes.ensures.value ∙ c.as_str.ensures) seen in
    let roots : length c.as_slice-roots.result.now ≡ length c.args.request.now.args.roots = ap length c.as_slice-roots.ensures ∙ ap (λ (p : Parts). length p.roots) c.parts-parts.ensures.parts in
    subst (HasArgs c.args.request.now.desc) (omega (arith, roots, c.if-count-roots.true)) has
