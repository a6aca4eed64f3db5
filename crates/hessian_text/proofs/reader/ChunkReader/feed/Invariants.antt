use Rattle.std.proofs.Common.{◌≤◌, ◌-◌, length, take}
use Rattle.hessian_text.specs.Reader.{Advances}
use Rattle.hessian_text.proofs.reader.ChunkReader.feed.Given as goal

abbrev pub invariant-loop-taken : goal.invariant-loop-taken
invariant-loop-taken l = record { within : l.taken ≤ length l.piece; advances : Advances l.fn.self (take l.taken l.piece) l.self }

abbrev pub decreases-loop-taken : goal.decreases-loop-taken
decreases-loop-taken l = length l.piece - l.taken
