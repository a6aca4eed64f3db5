use Rattle.std.proofs.Common.{◌-◌, drop, length}
use Rattle.hessian_text.specs.Units.{IsFirstChunk}
use Rattle.hessian_text.proofs.Writings.{TextSoFar}
use Rattle.hessian_text.proofs.writing.append_chunks.Given as goal

abbrev pub invariant-loop-chunk : goal.invariant-loop-chunk
invariant-loop-chunk l = record { so_far : TextSoFar l.fn.out.items l.text l.at l.out.items; chunk : IsFirstChunk (drop l.at l.text) l.chunk.len l.chunk.units }

abbrev pub decreases-loop-chunk : goal.decreases-loop-chunk
decreases-loop-chunk l = length l.text - l.at
