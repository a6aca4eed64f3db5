use Rattle.std.proofs.Common.{arith}
use Rattle.hash_ring.specs.Held.{pairs}
use Rattle.hash_ring.proofs.Growing.{on_error, rounds_partly, rounds_more, rounds_all}
use Rattle.hash_ring.proofs.held.put_points.Goals as goal

pub returns-in_err-put_round-clause-partly : goal.returns-in_err-put_round-clause-partly
returns-in_err-put_round-clause-partly c = on_error c.from_residual.result (rounds_partly c.args.name.now c.loop-round.round (pairs c.args.points.now)
    (pairs c.loop-round.points) (pairs c.put_round.new.points) (omega arith) c.loop-round.invariant c.in_err-put_round.ensures.partly)

pub loop-round-preserved : goal.loop-round-preserved
loop-round-preserved c = rounds_more c.args.name.now c.loop-round.round (pairs c.args.points.now)
    (pairs c.loop-round.points) (pairs c.put_round.new.points) c.loop-round.invariant c.in_ok-put_round.ensures.came

pub returns-clause-came : goal.returns-clause-came
returns-clause-came c = rounds_all c.args.name.now c.loop-round.round (pairs c.args.points.now) (pairs c.loop-round.points) (omega arith) c.loop-round.invariant
