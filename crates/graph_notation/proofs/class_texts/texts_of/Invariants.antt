use Rattle.graph_notation.specs.Preparing.{HaveFirst}
use Rattle.graph_notation.proofs.class_texts.texts_of.Given as goal

-- the classes before the place have their texts
abbrev pub invariant-loop-at : goal.invariant-loop-at
invariant-loop-at l = HaveFirst l.classes l.at l.texts.items
