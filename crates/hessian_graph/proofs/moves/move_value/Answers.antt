use Rattle.std.proofs.Common.{ap}
use Rattle.hessian_graph.specs.Shape.{node_of}
use Rattle.hessian_graph.proofs.moves.move_value.Goals as goal

pub place-requires-clause-within : goal.place-requires-clause-within
place-requires-clause-within c = c.requires.below c.in-Node.number (ap node_of c.in-Node.is)
