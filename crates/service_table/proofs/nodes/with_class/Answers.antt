use Rattle.std.proofs.Common.{◌≡◌, List, [], ◌∷◌, ◌++◌, sym, ap, ◌∙◌, subst}
use Rattle.hessian_graph.specs.declared.node.Class.{Class}
use Rattle.hessian_graph.specs.Faults.{IsSound}
use Rattle.service_table.proofs.Grown.{class_sound}
use Rattle.service_table.proofs.nodes.with_class.Goals as goal

pub returns-clause-sound : goal.returns-clause-sound
returns-clause-sound c =
    let is : c.from.result ≡ c.args.args.classes ++ c.args.class ∷ [] = c.from.ensures ∙ c.in_ok-push.ensures.items ∙ ap (λ (ks : List Class). ks ++ c.args.class ∷ []) c.into_inner-classes.ensures in
    subst (λ (ks : List Class). IsSound (record c.args.args { classes = ks })) (sym is) (class_sound c.args.args c.args.class c.requires.sound c.requires.few)
