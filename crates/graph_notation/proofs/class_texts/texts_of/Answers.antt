use Rattle.graph_notation.proofs.Preparing.{first_more}
use Rattle.graph_notation.proofs.class_texts.texts_of.Goals as goal

pub loop-at-preserved : goal.loop-at-preserved
loop-at-preserved c =
    rw c.in_ok-push.ensures.items
    (first_more c.args.classes.now c.loop-at.at c.loop-at.texts.items c.index-classes-at.result c.in_ok-class_texts.field-0 c.loop-at-test.true c.index-classes-at.is c.loop-at.invariant c.in_ok-class_texts.ensures)
