use Rattle.graph_notation.proofs.Repeating.{prints_both}
use Rattle.graph_notation.proofs.class_texts.write_class.Goals as goal

pub returns : goal.returns
returns c = prints_both c.in_ok-write_mark.ensures (prints_both c.in_ok-write_words.ensures c.in_ok-write_mark-2.ensures)
