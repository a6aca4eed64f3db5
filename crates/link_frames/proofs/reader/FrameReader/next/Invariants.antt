use Rattle.std.proofs.Common.{◌≡◌, ℕ, List, ◌-◌}
use Rattle.dubbo_io.specs.Count.{last_count}
use Rattle.link_frames.specs.declared.next.Ending.{Ending}
use Rattle.link_frames.specs.Paused.{Holds, HasEnded}
use Rattle.link_frames.proofs.NextLemmas.{CameSoFar}
use Rattle.link_frames.proofs.reader.FrameReader.next.Given as goal

abbrev pub invariant-loop-next : goal.invariant-loop-next
invariant-loop-next g l =
    ((held : List ℕ) → Holds l.initial.self.paused held → CameSoFar (g.S.Source.state l.initial.self.source) (g.S.Source.state l.self.source) l.initial.self.paused l.self.paused held)
    × ((ending : Ending) → HasEnded l.initial.self.paused ending → (l.self.paused ≡ l.initial.self.paused) × (l.self.source ≡ l.initial.self.source))

abbrev pub decreases-loop-next : goal.decreases-loop-next
decreases-loop-next g l = last_count - (g.S.Source.state l.self.source).count
