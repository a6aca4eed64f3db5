use Rattle.std.proofs.Common.{arith}
use Rattle.graph_notation.proofs.Repeating.{small_bytes}
use Rattle.graph_notation.proofs.written_bytes.see.Goals as goal

pub returns : goal.returns
returns c = small_bytes c.args.bytes.now (λ i. omega (arith, c.type_inv.bytes i))
