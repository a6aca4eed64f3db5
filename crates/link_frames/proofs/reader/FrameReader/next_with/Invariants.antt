use Rattle.std.proofs.Common.{◌≡◌, List, ℕ, ◌-◌}
use Rattle.dubbo_io.specs.Count.{last_count}
use Rattle.link_frames.specs.declared.next.Ending.{Ending}
use Rattle.link_frames.specs.Paused.{HasEnded}
use Rattle.link_frames.specs.NextWith.{HoldsFed, StandsFed}
use Rattle.link_frames.proofs.FedNext.{CameFed}
use Rattle.link_frames.proofs.reader.FrameReader.next_with.Given as goal

abbrev pub invariant-loop-next : goal.invariant-loop-next
invariant-loop-next g l =
    ((held : List ℕ) → HoldsFed l.initial.self.paused (g.B.BodySink.fed l.initial.body) held → CameFed (g.S.Source.state l.initial.self.source) (g.S.Source.state l.self.source) l.initial.self.paused l.self.paused (g.B.BodySink.fed l.body) held)
    × ((ending : Ending) → HasEnded l.initial.self.paused ending → (l.self.paused ≡ l.initial.self.paused) × (l.self.source ≡ l.initial.self.source))
    × StandsFed l.self.paused (g.B.BodySink.started l.body) (g.B.BodySink.fed l.body)

abbrev pub decreases-loop-next : goal.decreases-loop-next
decreases-loop-next g l = last_count - (g.S.Source.state l.self.source).count
