use Rattle.std.proofs.Common.{suc, ◌<◌, ◌^◌, List, length, sym, ◌∙◌, subst, arith}
use Rattle.hessian_graph.specs.declared.value.Value.{Value}
use Rattle.hessian_graph.specs.declared.parts.Parts.{Parts}
use Rattle.hessian_graph.specs.Faults.{IsSound}
use Rattle.service_table.proofs.Closed.{more_below}
use Rattle.service_table.proofs.Grown.{none_sound, roots_below, with_roots}
use Rattle.service_table.proofs.answers.listed.Goals as goal

pub with_new-requires-clause-sound : goal.with_new-requires-clause-sound
with_new-requires-clause-sound c =
    let p : Parts = c.into_parts-roots.result in
    let sound : IsSound p = subst IsSound (sym c.into_parts-roots.ensures.parts) c.into_parts-roots.ensures.sound in
    let few : length p.nodes < 2 ^ 32 = subst (λ (q : Parts). length q.nodes < 2 ^ 32) (sym c.into_parts-roots.ensures.parts) c.into_parts-roots.ensures.few in
    subst (λ (vs : List Value). IsSound (with_roots vs p)) (sym (c.from.ensures ∙ c.new.ensures.items)) (none_sound p sound few)

pub with_new-requires-clause-can : goal.with_new-requires-clause-can
with_new-requires-clause-can c =
    let p : Parts = c.into_parts-roots.result in
    let sound : IsSound p = subst IsSound (sym c.into_parts-roots.ensures.parts) c.into_parts-roots.ensures.sound in
    let few : length p.nodes < 2 ^ 32 = subst (λ (q : Parts). length q.nodes < 2 ^ 32) (sym c.into_parts-roots.ensures.parts) c.into_parts-roots.ensures.few in
    record { there = tt; below = more_below (length p.nodes) (suc (length p.nodes)) (omega arith) p.roots (roots_below p sound few) }
