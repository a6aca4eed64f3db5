use Rattle.dubbo_bodies.proofs.ReadPairs.{Found}
use Rattle.dubbo_bodies.proofs.read_attachments.text_pairs.Given as goal

-- what was found in the pairs so far
abbrev pub invariant-loop-pair : goal.invariant-loop-pair
invariant-loop-pair l = Found l.pairs l.pair-index l.found.items
