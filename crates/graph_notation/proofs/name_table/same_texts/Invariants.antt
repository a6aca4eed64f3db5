use Rattle.std.proofs.Common.{◌≡◌, take}
use Rattle.graph_notation.proofs.name_table.same_texts.Given as goal

-- the texts so far are the same
abbrev pub invariant-loop-place : goal.invariant-loop-place
invariant-loop-place l = take l.place l.left ≡ take l.place l.right
