use Rattle.std.proofs.Common.{ap, sym, subst, ◌∙◌}
use Rattle.hessian_reader.specs.Finish.{AreNodesOf}
use Rattle.hessian_reader.specs.Views.{state_of}
use Rattle.hessian_reader.proofs.Finishing.{graph_named}
use Rattle.hessian_reader.proofs.finish.graph_of.Goals as goal

pub from_sound-requires-clause-sound : goal.from_sound-requires-clause-sound
from_sound-requires-clause-sound c = c.requires.sound _ (record {
  roots = c.from.ensures;
  nodes = subst (AreNodesOf c.args.work.store.nodes) (sym c.from-2.ensures) c.in_ok-nodes.ensures;
  types = c.into_tables-types.ensures.types;
  classes = c.into_tables-types.ensures.classes;
})

pub returns-clause-shape : goal.returns-clause-shape
returns-clause-shape c = λ whole.
    graph_named (state_of c.args.work) c.from_sound.result c.in_ok-nodes.nodes.items
    (ap (λ p. p.roots) c.from_sound.ensures ∙ c.from.ensures)
    (ap (λ p. p.nodes) c.from_sound.ensures ∙ c.from-2.ensures)
    (ap (λ p. p.types) c.from_sound.ensures ∙ c.into_tables-types.ensures.types)
    (ap (λ p. p.classes) c.from_sound.ensures ∙ c.into_tables-types.ensures.classes)
    c.in_ok-nodes.ensures whole
