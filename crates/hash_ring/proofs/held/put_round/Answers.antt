use Rattle.std.proofs.Common.{refl, arith}
use Rattle.hash_ring.specs.Held.{pairs}
use Rattle.hash_ring.proofs.Growing.{on_error}
use Rattle.hash_ring.proofs.Pointing.{round_more, round_partly}
use Rattle.hash_ring.proofs.held.put_round.Goals as goal

pub returns-in_err-from_str-clause-partly : goal.returns-in_err-from_str-clause-partly
returns-in_err-from_str-clause-partly c = on_error c.from_residual.result (round_partly c.args.name.now c.args.round c.loop-quarter.quarter (pairs c.args.points.now)
    c.loop-quarter.points.keys c.loop-quarter.points.keys (omega arith) refl c.loop-quarter.invariant)

pub returns-in_err-insert-clause-partly : goal.returns-in_err-insert-clause-partly
returns-in_err-insert-clause-partly c = on_error c.from_residual-in_err-insert.result (round_partly c.args.name.now c.args.round c.loop-quarter.quarter (pairs c.args.points.now)
    c.loop-quarter.points.keys c.insert.new.self.keys (omega arith) c.in_err-insert.ensures.err c.loop-quarter.invariant)

pub loop-quarter-preserved : goal.loop-quarter-preserved
loop-quarter-preserved c = round_more c.args.name.now c.args.round c.loop-quarter.quarter c.digest_of-digest.result
    (record { number = c.number_at.result; name = c.in_ok-from_str.field-0 }) (pairs c.args.points.now) c.loop-quarter.points.keys c.insert.new.self.keys
    c.number_at.ensures c.digest_of-digest.ensures c.in_ok-from_str.ensures.ok c.in_ok-insert.ensures.keys c.loop-quarter.invariant
