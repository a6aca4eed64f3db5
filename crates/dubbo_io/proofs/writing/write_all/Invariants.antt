use Rattle.std.proofs.Common.{◌≤◌, ◌-◌, length, take}
use Rattle.dubbo_io.specs.Sink.{Sends}
use Rattle.dubbo_io.proofs.writing.write_all.Given as goal

abbrev pub invariant-loop-gone : goal.invariant-loop-gone
invariant-loop-gone g l =
    Sends (g.K.Sink.state l.initial.sink) (g.K.Sink.state l.sink) (take l.gone l.bytes) × (l.gone ≤ length l.bytes)

abbrev pub decreases-loop-gone : goal.decreases-loop-gone
decreases-loop-gone g l = length l.bytes - l.gone
