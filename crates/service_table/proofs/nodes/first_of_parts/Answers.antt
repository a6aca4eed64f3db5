use Rattle.std.proofs.Common.{◌≡◌, List, [], ◌∷◌, ◌++◌, get_or, sym, ap, ◌∙◌, subst}
use Rattle.hessian_graph.specs.declared.value.Value.{Value}
use Rattle.hessian_graph.specs.declared.value.Value.TheVariants.{Null}
use Rattle.hessian_graph.specs.Faults.{IsSound}
use Rattle.service_table.proofs.Grown.{first_sound, with_roots}
use Rattle.service_table.proofs.nodes.first_of_parts.Goals as goal

pub from_sound-requires-clause-sound : goal.from_sound-requires-clause-sound
from_sound-requires-clause-sound c =
    let first : c.in_ok-first_of.field-0 ≡ get_or c.args.args.roots 0 Null = c.in_ok-first_of.ensures ∙ ap (λ (vs : List Value). get_or vs 0 Null) c.as_slice.ensures in
    let is : c.from.result ≡ get_or c.args.args.roots 0 Null ∷ [] =
    c.from.ensures ∙ c.in_ok-push.ensures.items ∙ ap (λ (vs : List Value). vs ++ c.in_ok-first_of.field-0 ∷ []) c.in_ok-roots.ensures.items ∙ ap (λ v. v ∷ []) first in
    subst (λ (roots : List Value). IsSound (with_roots roots c.args.args)) (sym is) (first_sound c.args.args c.requires.sound c.requires.few)
