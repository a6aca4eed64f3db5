-- What serving a link does to its source and its sink.
use Rattle.std.specs.Prelude.{◌≡◌, ◌≢◌, ℕ, ◌≤◌, ◌⊎◌, List, [], ◌++◌, length, take, Option, Some, None, IsTrue}
use Rattle.std.specs.List.{AllByRecursion}
use Rattle.dubbo_io.specs.Count.{Rose}
use Rattle.dubbo_io.specs.Source.{SourceState, GoesOn}
use Rattle.dubbo_io.specs.Sink.{SinkState, Sends}
use Rattle.dubbo_header.specs.Header.{SpellsNone}
use Rattle.link_frames.specs.Frames.{Frame, IsFrame, BeginsNoFrame, HasFrames, joined}
use Rattle.link_frames.specs.Paused.{Holds, IsUnfinished}
use Rattle.link_frames.specs.declared.paused.Paused.{Paused}
use Rattle.service_table.specs.declared.row.Row.{Row}
use Rattle.provider_pool.specs.declared.session.Session.{Session}
use Rattle.provider_pool.specs.declared.session.ServeFault.{ServeFault}
use Rattle.provider_pool.specs.declared.session.ServeFault.TheVariants.{Lost, Broken, CutShort, OutOfMemory}
use Rattle.provider_pool.specs.Answers.{AllAnswers, requests_among}

-- a reader that has passed nothing and holds nothing
pub record IsNew (paused : Paused) : Type 0 where
  pub holds : Holds paused []
  pub place : paused.place ≡ 0

-- all that is owed has gone
abbrev pub IsPaid : (owed gone : List ℕ) → Type 0
IsPaid owed gone = gone ≡ owed

-- a front of what is owed has gone
abbrev pub IsPaidInPart : (owed gone : List ℕ) → Type 0
IsPaidInPart owed gone = (more : List ℕ) × (owed ≡ gone ++ more)

-- a count of faults rose, and the fault tells some of them
pub record CountRose (before now told : ℕ) : Type 0 where
  pub rose : Rose before now
  pub some : 1 ≤ told
  pub among : told ≤ now

-- When serving stops. The bytes `behind` stand at the place `at` of the stream, behind the frames that were read; `owed`
-- are the bytes of the answers, and `gone` those that went into the sink.
abbrev pub Stops : {SourceBadge SinkBadge : Type 0} → SourceState SourceBadge → SourceState SourceBadge → SinkState SinkBadge → SinkState SinkBadge → (at : ℕ) (behind owed gone : List ℕ) → Option ServeFault → Type 0
-- the source ended between two frames
Stops source source' sink sink' at behind owed gone None =
    IsPaid owed gone × (behind ≡ []) × IsTrue source'.ended
-- the source or the sink failed
Stops source source' sink sink' at behind owed gone (Some (Lost faults)) =
    IsPaidInPart owed gone × (CountRose source.faults source'.faults faults ⊎ CountRose sink.faults sink'.faults faults)
-- sixteen bytes stand where a header must, and are none
Stops source source' sink sink' at behind owed gone (Some (Broken place)) =
    IsPaid owed gone × (place ≡ at) × (16 ≤ length behind) × SpellsNone (take 16 behind) × BeginsNoFrame behind
-- the source ended inside a frame
Stops source source' sink sink' at behind owed gone (Some (CutShort place)) =
    IsPaid owed gone × (place ≡ at) × (behind ≢ []) × IsUnfinished behind × IsTrue source'.ended
-- there was no memory
Stops source source' sink sink' at behind owed gone (Some OutOfMemory) = IsPaidInPart owed gone

-- The frames that were read are the first of what the source gave, the answers to them are owed in their order, and
-- nothing else has gone into the sink.
pub record Serves {SourceBadge SinkBadge : Type 0} (source source' : SourceState SourceBadge) (sink sink' : SinkState SinkBadge) (services : List Row) (session : Session) : Type 0 where
  pub came : List ℕ
  pub gave : GoesOn source source' came
  -- the frames that were read, and the bytes behind them
  pub read : List Frame
  pub behind : List ℕ
  pub whole : AllByRecursion IsFrame read
  pub split : came ≡ joined read ++ behind
  -- the answers to them, and the bytes that have gone
  pub answers : List Frame
  pub are : AllAnswers services read answers
  pub gone : List ℕ
  pub sends : Sends sink sink' gone
  -- the frames that have gone whole
  pub written : List Frame
  pub part : List ℕ
  pub went : HasFrames gone written part
  pub requests : session.served.requests ≡ requests_among read
  pub wrote : session.served.answers ≡ length written
  pub stops : Stops source source' sink sink' (length (joined read)) behind (joined answers) gone session.fault
