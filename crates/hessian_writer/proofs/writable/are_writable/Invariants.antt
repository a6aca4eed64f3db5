use Rattle.std.proofs.Common.{ℕ, ◌<◌}
use Rattle.hessian_graph.specs.Shape.{shape_of, kind_at, values_at}
use Rattle.hessian_writer.specs.Writable.{IsShortKind}
use Rattle.hessian_writer.proofs.writable.are_writable.Given as goal

-- the nodes so far are short
abbrev pub invariant-loop-node : goal.invariant-loop-node
invariant-loop-node l = (n : ℕ) → n < l.node-index → IsShortKind (kind_at (shape_of l.parts) n) (values_at (shape_of l.parts) n)
