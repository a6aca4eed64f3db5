use Rattle.std.proofs.Common.{◌≤◌, ◌-◌, vec_len}
use Rattle.dubbo_io.specs.Source.{GoesOn}
use Rattle.dubbo_io.proofs.reading.read_all.Given as goal

abbrev pub invariant-loop-want : goal.invariant-loop-want
invariant-loop-want g l =
    GoesOn (g.S.Source.state l.initial.source) (g.S.Source.state l.source) l.bytes.items × (vec_len l.bytes ≤ l.limit)

abbrev pub decreases-loop-want : goal.decreases-loop-want
decreases-loop-want g l = l.limit - vec_len l.bytes
