use Rattle.std.proofs.Common.{vec_len}
use Rattle.graph_notation.proofs.Assembling.{Building}
use Rattle.graph_notation.proofs.building.parts_of.Given as goal

abbrev pub invariant-loop-whole : goal.invariant-loop-whole
invariant-loop-whole l = Building l.fn.reader.nodes.items l.left.items l.tables l.built.items

abbrev pub decreases-loop-whole : goal.decreases-loop-whole
decreases-loop-whole l = vec_len l.left
