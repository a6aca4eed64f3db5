use Rattle.std.proofs.Common.{arith}
use Rattle.graph_notation.proofs.SmallNumbers.{too_large}
use Rattle.graph_notation.proofs.numbers.int.Goals as goal

pub returns-in-Some-2 : goal.returns-in-Some-2
returns-in-Some-2 c = too_large c.in-Some.number c.args.bytes.now c.in-Some.ensures.0 c.in-Some.ensures.1 (omega arith)
