use Rattle.std.proofs.Common.{◌≡◌, ◌-◌, take, sym, subst, ap, ◌∙◌}
use Rattle.hessian_graph.specs.Faults.{IsSound}
use Rattle.dubbo_bodies.proofs.LastRoots.{fewer_sound}
use Rattle.dubbo_bodies.proofs.read_attachments.without_last.Goals as goal

pub from_sound-requires-clause-sound : goal.from_sound-requires-clause-sound
from_sound-requires-clause-sound c =
    let p = c.into_parts-roots.result in
    let k = c.into_inner-roots.result.len - 1 in
    let sound : IsSound p = subst IsSound (sym c.into_parts-roots.ensures.parts) c.into_parts-roots.ensures.sound in
    let roots : take k p.roots ≡ c.from.result = ap (take k) (sym c.into_inner-roots.ensures) ∙ sym c.pop.ensures.rest ∙ sym c.from.ensures in
    subst (λ rs. IsSound (record { roots = rs; nodes = p.nodes; types = p.types; classes = p.classes })) roots (fewer_sound p k sound)
