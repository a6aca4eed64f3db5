use Rattle.std.proofs.Common.{◌-◌}
use Rattle.dubbo_io.specs.Count.{last_count}
use Rattle.provider_pool.proofs.SoFar.{SoFar}
use Rattle.provider_pool.proofs.serving.serve_link.Given as goal

abbrev pub invariant-frames : goal.invariant-frames
invariant-frames g l =
    SoFar (g.S.Source.state l.initial.reader.source) (g.S.Source.state l.reader.source) l.reader.paused (g.K.Sink.state l.initial.sink) (g.K.Sink.state l.sink) l.services l.served
    × (g.K.Sink.state l.sink).open_to_all

abbrev pub decreases-frames : goal.decreases-frames
decreases-frames g l = last_count - l.reader.paused.place
