use Rattle.hessian_reader.proofs.MapPairs.{ArePaired}
use Rattle.hessian_reader.proofs.table.NodeTable.into_nodes.Given as goal

-- the maps so far have their pairs
abbrev pub invariant-loop-map : goal.invariant-loop-map
invariant-loop-map l = ArePaired l.yielded l.initial.nodes.items l.nodes.items
