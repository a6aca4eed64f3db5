use Rattle.std.proofs.Common.{length, ◌-◌}
use Rattle.dubbo_bodies.proofs.PieceSteps.{Going}
use Rattle.dubbo_bodies.proofs.request_reader.progress.Progress.fed.Given as goal

-- the front of the piece was fed
abbrev pub invariant-loop-taken : goal.invariant-loop-taken
invariant-loop-taken l = Going l.fn.self l.at l.piece l.taken l.progress

abbrev pub decreases-loop-taken : goal.decreases-loop-taken
decreases-loop-taken l = length l.piece - l.taken
