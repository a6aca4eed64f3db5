-- What has gone into a sink, and what a write or a flush does to that.
use Rattle.std.specs.Prelude.{◌≡◌, ◌↔◌, ℕ, ◌<◌, ◌≤◌, List, [], ◌++◌, length, take, Option, ⊤}
use Rattle.std.specs.Io.KnownBytes.{append_known}
use Rattle.dubbo_io.specs.Count.{last_count, Rose}
use Rattle.dubbo_io.specs.declared.sink.Took.{Took}
use Rattle.dubbo_io.specs.declared.sink.Took.TheVariants.{Bytes, Failed as NotTaken}
use Rattle.dubbo_io.specs.declared.sink.Flushed.{Flushed}
use Rattle.dubbo_io.specs.declared.sink.Flushed.TheVariants.{Done, Failed as NotFlushed}

-- what contracts see of a sink
pub record SinkState (Badge : Type 0) : Type 1 where
  -- all bytes that are gone, where the sink tells them
  pub gone : Option (List ℕ)
  -- which pieces may be written next
  pub admits : List ℕ → Type 0
  -- every piece may be written, now and behind every call
  pub open_to_all : Type 0
  -- how often it failed
  pub faults : ℕ
  -- what else its caller must know
  pub badge : Badge

-- what holds of every sink at all times
pub record IsSoundSink {Badge : Type 0} (state : SinkState Badge) : Type 0 where
  pub front : (piece rest : List ℕ) → state.admits (piece ++ rest) → state.admits piece
  pub all : state.open_to_all → (piece : List ℕ) → state.admits piece
  pub faults : state.faults ≤ last_count

-- between the old state and the new the sink took exactly these bytes
pub record Sends {Badge : Type 0} (old new : SinkState Badge) (bytes : List ℕ) : Type 0 where
  pub gone : new.gone ≡ append_known old.gone bytes
  -- what was admitted behind these bytes is admitted now
  pub rest : (more : List ℕ) → old.admits (bytes ++ more) → new.admits more
  pub open_to_all : old.open_to_all → new.open_to_all
  pub faults : old.faults ≤ new.faults
  pub badge : new.badge ≡ old.badge

-- a front of the bytes is gone, and nothing else
abbrev pub SentFront : {Badge : Type 0} → SinkState Badge → SinkState Badge → List ℕ → Type 0
SentFront old new bytes = (n : ℕ) × (n ≤ length bytes) × Sends old new (take n bytes)

-- the same pieces may be written
abbrev pub AdmitsSame : {Badge : Type 0} → SinkState Badge → SinkState Badge → Type 0
AdmitsSame old new = (piece : List ℕ) → old.admits piece ↔ new.admits piece

-- the bytes of a piece that a write took
abbrev pub taken_of : Took → List ℕ → List ℕ
taken_of (Bytes n) piece = take n piece
taken_of NotTaken piece = []

-- when each answer of a write comes, at a piece of so many bytes
abbrev pub WriteAnswers : {Badge : Type 0} → SinkState Badge → SinkState Badge → ℕ → Took → Type 0
WriteAnswers old new size (Bytes n) = (n ≤ size) × (0 < size → 0 < n)
WriteAnswers old new size NotTaken = Rose old.faults new.faults × AdmitsSame old new

-- what one write did
pub record Writes {Badge : Type 0} (old new : SinkState Badge) (piece : List ℕ) (took : Took) : Type 0 where
  pub sends : Sends old new (taken_of took piece)
  pub answer : WriteAnswers old new (length piece) took

-- when each answer of a flush comes
abbrev pub FlushAnswers : {Badge : Type 0} → SinkState Badge → SinkState Badge → Flushed → Type 0
FlushAnswers old new Done = ⊤
FlushAnswers old new NotFlushed = Rose old.faults new.faults

-- what one flush did
pub record Flushes {Badge : Type 0} (old new : SinkState Badge) (flushed : Flushed) : Type 0 where
  pub sends : Sends old new []
  pub same : AdmitsSame old new
  pub answer : FlushAnswers old new flushed
