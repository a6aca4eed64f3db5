-- When a heartbeat is due.
use Rattle.std.specs.Prelude.{◌≡◌, ℕ, ◌+◌, ◌≤◌}
use Rattle.link_frames.specs.declared.beat.Beat.{Beat}
use Rattle.link_frames.specs.declared.beat.BeatAct.{BeatAct}
use Rattle.link_frames.specs.declared.beat.BeatAct.TheVariants.{SendBeat}

-- the moment of the last beat, or of the opening before any
abbrev pub last_of : Beat → ℕ
last_of beat = beat.last

-- how many beats were asked for
abbrev pub sent_of : Beat → ℕ
sent_of beat = beat.sent

-- a minute has passed since the last beat
abbrev pub IsDue : Beat → ℕ → Type 0
IsDue beat now = last_of beat + 60000 ≤ now

-- the next beat is asked for, at this moment
pub record AsksBeat (old new : Beat) (now : ℕ) (answer : BeatAct) : Type 0 where
  pub act : answer ≡ SendBeat (4294967296 + sent_of old)
  pub last : last_of new ≡ now
  pub sent : sent_of new ≡ sent_of old + 1
