-- What one turn of serving does: it reads the next frame and answers it, or serving ends.
use Rattle.std.specs.Prelude.{◌≡◌, ◌≢◌, ℕ, ◌+◌, ◌≤◌, take, None, IsTrue, List, [], ◌∷◌, ◌++◌, length, Option, Some, if◌then◌else◌}
use Rattle.std.specs.List.{AllByRecursion}
use Rattle.dubbo_header.specs.declared.header.Header.{Header}
use Rattle.dubbo_io.specs.Source.{SourceState, GoesOn}
use Rattle.dubbo_io.specs.Sink.{SinkState, Sends}
use Rattle.dubbo_header.specs.Header.{SpellsNone}
use Rattle.link_frames.specs.Frames.{Frame as AFrame, IsFrame, BeginsNoFrame, HasFrames, frame_bytes, joined}
use Rattle.link_frames.specs.Paused.{IsBetween, IsUnfinished}
use Rattle.link_frames.specs.declared.paused.Paused.{Paused}
use Rattle.service_table.specs.declared.row.Row.{Row}
use Rattle.provider_pool.specs.declared.sending.Outcome.{Outcome}
use Rattle.provider_pool.specs.declared.sending.Outcome.TheVariants.{Answered, Lost, OutOfMemory}
use Rattle.provider_pool.specs.declared.reading.Reading.{Reading}
use Rattle.provider_pool.specs.declared.reading.Reading.TheVariants.{Frame, Over}
use Rattle.provider_pool.specs.declared.turn.Turn.{Turn}
use Rattle.provider_pool.specs.declared.turn.Turn.TheVariants.{Goes, Ends}
use Rattle.provider_pool.specs.declared.session.Served.{Served}
use Rattle.provider_pool.specs.declared.session.ServeFault.{ServeFault}
use Rattle.provider_pool.specs.declared.session.ServeFault.TheVariants as stop
use Rattle.provider_pool.specs.Answers.{Answers, AllAnswers, is_request, requests_among}
use Rattle.provider_pool.specs.Serving.{CountRose, Stops}
use Rattle.provider_pool.specs.Writes.{frame_of}

-- what a turn comes to, by what became of the answers
abbrev pub turn_of : Outcome → Turn
turn_of (Answered count) = Goes
turn_of (Lost faults count) = Ends (Some (stop.Lost faults))
turn_of OutOfMemory = Ends (Some stop.OutOfMemory)

-- one for a request that is no event, and else none
abbrev pub count_of : Header → ℕ
count_of header = if is_request header then 1 else 0

-- a reader between two frames read one more, and stands behind it
pub record ReadsFrame {Badge : Type 0} (source source' : SourceState Badge) (paused paused' : Paused) (frame : AFrame) : Type 0 where
  pub came : List ℕ
  pub gave : GoesOn source source' came
  pub whole : IsFrame frame
  pub split : paused.window ++ came ≡ frame_bytes frame ++ paused'.window
  pub place : paused'.place ≡ paused.place + length (frame_bytes frame)
  pub between : IsBetween paused'

-- Why a source gives no frame any more: `behind` are the bytes that stand at the place `at`, where the next would begin.
abbrev pub Ceases : {Badge : Type 0} → SourceState Badge → SourceState Badge → (at : ℕ) (behind : List ℕ) → Option ServeFault → Type 0
Ceases source source' at behind None = (behind ≡ []) × IsTrue source'.ended
Ceases source source' at behind (Some (stop.Lost told)) = CountRose source.faults source'.faults told
Ceases source source' at behind (Some (stop.Broken place)) = (place ≡ at) × (16 ≤ length behind) × SpellsNone (take 16 behind) × BeginsNoFrame behind
Ceases source source' at behind (Some (stop.CutShort place)) = (place ≡ at) × (behind ≢ []) × IsUnfinished behind × IsTrue source'.ended
Ceases source source' at behind (Some stop.OutOfMemory) = ⊥

-- no frame is read any more
pub record ReadsNone {Badge : Type 0} (source source' : SourceState Badge) (paused : Paused) (fault : Option ServeFault) : Type 0 where
  pub came : List ℕ
  pub gave : GoesOn source source' came
  pub ceases : Ceases source source' paused.place (paused.window ++ came) fault

-- what a reader between two frames reads next, the body being what was fed
abbrev pub ReadsNext : {Badge : Type 0} → SourceState Badge → SourceState Badge → Paused → Paused → Option Header → List ℕ → Reading → Type 0
ReadsNext source source' paused paused' started fed (Frame header) =
    (started ≡ Some header) × ReadsFrame source source' paused paused' (frame_of header fed)
ReadsNext source source' paused paused' started fed (Over fault) = ReadsNone source source' paused fault

-- a frame was read and answered
pub record GoesOnBy {SourceBadge SinkBadge : Type 0} (source source' : SourceState SourceBadge) (paused paused' : Paused) (sink sink' : SinkState SinkBadge) (services : List Row) (served served' : Served) : Type 0 where
  pub frame : AFrame
  pub reads : ReadsFrame source source' paused paused' frame
  pub answers : List AFrame
  pub sound : AllByRecursion IsFrame answers
  pub are : Answers services frame answers
  pub sends : Sends sink sink' (joined answers)
  pub requests : served'.requests ≡ served.requests + requests_among (frame ∷ [])
  pub wrote : served'.answers ≡ served.answers + length answers

-- serving ended, perhaps behind one more frame
pub record EndsBy {SourceBadge SinkBadge : Type 0} (source source' : SourceState SourceBadge) (paused : Paused) (sink sink' : SinkState SinkBadge) (services : List Row) (served served' : Served) (fault : Option ServeFault) : Type 0 where
  pub came : List ℕ
  pub gave : GoesOn source source' came
  pub read : List AFrame
  pub behind : List ℕ
  pub whole : AllByRecursion IsFrame read
  pub split : paused.window ++ came ≡ joined read ++ behind
  pub answers : List AFrame
  pub are : AllAnswers services read answers
  pub gone : List ℕ
  pub sends : Sends sink sink' gone
  pub written : List AFrame
  pub part : List ℕ
  pub went : HasFrames gone written part
  pub requests : served'.requests ≡ served.requests + requests_among read
  pub wrote : served'.answers ≡ served.answers + length written
  pub stops : Stops source source' sink sink' (paused.place + length (joined read)) behind (joined answers) gone fault

-- what a turn did
abbrev pub Turns : {SourceBadge SinkBadge : Type 0} → SourceState SourceBadge → SourceState SourceBadge → Paused → Paused → SinkState SinkBadge → SinkState SinkBadge → List Row → Served → Served → Turn → Type 0
Turns source source' paused paused' sink sink' services served served' Goes = GoesOnBy source source' paused paused' sink sink' services served served'
Turns source source' paused paused' sink sink' services served served' (Ends fault) = EndsBy source source' paused sink sink' services served served' fault
