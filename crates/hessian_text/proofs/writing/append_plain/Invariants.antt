use Rattle.std.proofs.Common.{◌-◌, length}
use Rattle.hessian_text.proofs.Writings.{PlainSoFar}
use Rattle.hessian_text.proofs.writing.append_plain.Given as goal

abbrev pub invariant-loop-at : goal.invariant-loop-at
invariant-loop-at l = PlainSoFar l.kind l.fn.out.items l.bytes l.at l.out.items

abbrev pub decreases-loop-at : goal.decreases-loop-at
decreases-loop-at l = length l.bytes - l.at
