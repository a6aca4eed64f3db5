use Rattle.graph_notation.specs.Preparing.{AreFieldTexts}
use Rattle.graph_notation.proofs.class_texts.field_texts.Given as goal

-- the fields before the place have their texts
abbrev pub invariant-loop-at : goal.invariant-loop-at
invariant-loop-at l = AreFieldTexts l.class l.at l.texts.items
