-- A turn, by what was read and what became of the answers.
use Rattle.std.proofs.Common.{◌≡◌, ℕ, ◌+◌, List, [], ◌∷◌, ◌++◌, refl, ap, sym, subst, ◌∙◌, inl, inr, arith}
use Rattle.std.specs.Prelude.{Option, Some, None}
use Rattle.std.specs.List.{AllByRecursion}
use Rattle.std.proofs.lemmas.List.{append-nil}
use Rattle.dubbo_io.specs.Source.{SourceState}
use Rattle.dubbo_io.specs.Sink.{SinkState}
use Rattle.dubbo_io.proofs.Sending.{Sends-none}
use Rattle.link_frames.specs.Frames.{Frame, IsFrame, frame_bytes, joined}
use Rattle.link_frames.specs.declared.paused.Paused.{Paused}
use Rattle.service_table.specs.declared.row.Row.{Row}
use Rattle.provider_pool.specs.declared.sending.Outcome.{Outcome}
use Rattle.provider_pool.specs.declared.sending.Outcome.TheVariants.{Answered, Lost, OutOfMemory}
use Rattle.provider_pool.specs.declared.session.Served.{Served}
use Rattle.provider_pool.specs.declared.session.ServeFault.{ServeFault}
use Rattle.provider_pool.specs.declared.session.ServeFault.TheVariants as stop
use Rattle.provider_pool.specs.Answers.{Answers, requests_among}
use Rattle.provider_pool.specs.Answers.AllAnswers.{none}
use Rattle.provider_pool.specs.Serving.{Stops}
use Rattle.provider_pool.specs.Turns.{Ceases, EndsBy, ReadsFrame, ReadsNone, Turns, count_of, turn_of}
use Rattle.provider_pool.specs.Writes.{Writes, WritesAnswers, answers_of}
use Rattle.provider_pool.proofs.SendLemmas.{frames_none}
use Rattle.provider_pool.proofs.SoFar.{all_one}

one_request : (frame : Frame) → count_of frame.header ≡ requests_among (frame ∷ [])
one_request frame = refl

-- ---- a frame was read

read_behind : (frame : Frame) (bytes behind : List ℕ) → bytes ≡ frame_bytes frame ++ behind → bytes ≡ joined (frame ∷ []) ++ behind
read_behind frame bytes behind split = split ∙ ap (λ x. x ++ behind) (sym (append-nil (frame_bytes frame)))

module _ {SourceBadge SinkBadge : Type 0} (s s' : SourceState SourceBadge) (p p' : Paused) (k k' : SinkState SinkBadge) (services : List Row) (served counted : Served) (frame : Frame) (reads : ReadsFrame s s' p p' frame) (owed : List Frame) (whole : AllByRecursion IsFrame owed) (are : Answers services frame owed) (requests : counted.requests ≡ served.requests + count_of frame.header) where
  requests_too : counted.requests ≡ served.requests + requests_among (frame ∷ [])
  requests_too = requests ∙ ap (λ n. served.requests + n) (one_request frame)

  turned_by : (outcome : Outcome) → Writes k k' owed outcome → counted.answers ≡ served.answers + answers_of outcome → Turns s s' p p' k k' services served counted (turn_of outcome)
  turned_by (Answered count) (sends, many) answers = record {
    frame = frame;
    reads = reads;
    answers = owed;
    sound = whole;
    are = are;
    sends = sends;
    requests = requests_too;
    wrote = answers ∙ ap (λ n. served.answers + n) many;
  }
  turned_by (Lost told count) part answers = record {
    came = reads.came;
    gave = reads.gave;
    read = frame ∷ [];
    behind = p'.window;
    whole = (reads.whole, tt);
    split = read_behind frame (p.window ++ reads.came) p'.window reads.split;
    answers = owed;
    are = all_one services frame owed are;
    gone = part.gone;
    sends = part.sends;
    written = part.written;
    part = part.part;
    went = part.went;
    requests = requests_too;
    wrote = answers ∙ ap (λ n. served.answers + n) part.wrote;
    stops = (part.front, inr part.rose);
  }
  turned_by OutOfMemory (sends, empty) answers = record {
    came = reads.came;
    gave = reads.gave;
    read = frame ∷ [];
    behind = p'.window;
    whole = (reads.whole, tt);
    split = read_behind frame (p.window ++ reads.came) p'.window reads.split;
    answers = owed;
    are = all_one services frame owed are;
    gone = [];
    sends = sends;
    written = [];
    part = [];
    went = frames_none;
    requests = requests_too;
    wrote = answers;
    stops = (joined owed, refl);
  }

pub turned : {SourceBadge SinkBadge : Type 0} (s s' : SourceState SourceBadge) (p p' : Paused) (k k' : SinkState SinkBadge) (services : List Row) (served counted : Served) (frame : Frame) (outcome : Outcome) → ReadsFrame s s' p p' frame → WritesAnswers k k' services frame outcome → counted.requests ≡ served.requests + count_of frame.header → counted.answers ≡ served.answers + answers_of outcome → Turns s s' p p' k k' services served counted (turn_of outcome)
turned s s' p p' k k' services served counted frame outcome reads w requests answers = turned_by s s' p p' k k' services served counted frame reads w.owed w.whole w.are requests outcome w.writes answers

-- ---- no frame was read

over_stops : {SourceBadge SinkBadge : Type 0} (s s' : SourceState SourceBadge) (k : SinkState SinkBadge) (at : ℕ) (behind : List ℕ) (fault : Option ServeFault) → Ceases s s' at behind fault → Stops s s' k k at behind [] [] fault
over_stops s s' k at behind None (empty, over) = (refl, empty, over)
over_stops s s' k at behind (Some (stop.Lost told)) rose = (([], refl), inl rose)
over_stops s s' k at behind (Some (stop.Broken place)) (here, many, bad, begins) = (refl, here, many, bad, begins)
over_stops s s' k at behind (Some (stop.CutShort place)) (here, some, inside, over) = (refl, here, some, inside, over)
over_stops s s' k at behind (Some stop.OutOfMemory) never = absurd never

pub over : {SourceBadge SinkBadge : Type 0} (s s' : SourceState SourceBadge) (p : Paused) (k : SinkState SinkBadge) (services : List Row) (served : Served) (fault : Option ServeFault) → ReadsNone s s' p fault → EndsBy s s' p k k services served served fault
over s s' p k services served fault reads = record {
  came = reads.came;
  gave = reads.gave;
  read = [];
  behind = p.window ++ reads.came;
  whole = tt;
  split = refl;
  answers = [];
  are = none;
  gone = [];
  sends = Sends-none k;
  written = [];
  part = [];
  went = frames_none;
  requests = omega arith;
  wrote = omega arith;
  stops = over_stops s s' k (p.place + 0) (p.window ++ reads.came) fault (subst (λ at. Ceases s s' at (p.window ++ reads.came) fault) (omega arith) reads.ceases);
}
