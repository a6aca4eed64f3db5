use Rattle.std.proofs.Common.{◌≡◌, take}
use Rattle.hessian_graph.proofs.same.same_nodes.Given as goal

-- the items so far are the same
abbrev pub invariant-loop-place : goal.invariant-loop-place
invariant-loop-place l = take l.place l.left ≡ take l.place l.right
