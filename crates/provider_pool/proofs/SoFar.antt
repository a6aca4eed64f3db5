-- Serving a link so far: frames that were read and answered, one behind another, and how serving ends behind them.
use Rattle.std.proofs.Common.{◌≡◌, ℕ, suc, ◌+◌, ◌<◌, ◌≤◌, List, [], ◌∷◌, ◌++◌, length, refl, ap, sym, subst, ◌∙◌, append_assoc, length-append, inl, inr, arith}
use Rattle.std.specs.Prelude.{Option, Some, None, true, false, if◌then◌else◌}
use Rattle.std.specs.List.{AllByRecursion}
use Rattle.std.proofs.lemmas.List.{append-nil}
use Rattle.dubbo_io.specs.Source.{SourceState, GoesOn}
use Rattle.dubbo_io.specs.Sink.{SinkState, Sends}
use Rattle.dubbo_io.proofs.Going.{GoesOn-none, GoesOn-join}
use Rattle.dubbo_io.proofs.Sending.{Sends-none, Sends-join}
use Rattle.link_frames.specs.Frames.{Frame, IsFrame, frame_bytes, joined}
use Rattle.link_frames.specs.Paused.{HoldsPart, IsBetween}
use Rattle.link_frames.specs.declared.paused.Paused.{Paused}
use Rattle.link_frames.proofs.FramesLemmas.{length-frame_bytes}
use Rattle.service_table.specs.declared.row.Row.{Row}
use Rattle.provider_pool.specs.declared.session.Served.{Served}
use Rattle.provider_pool.specs.declared.session.Session.{Session}
use Rattle.provider_pool.specs.declared.session.ServeFault.{ServeFault}
use Rattle.provider_pool.specs.declared.session.ServeFault.TheVariants as stop
use Rattle.link_frames.specs.Begun.{header_of}
use Rattle.link_frames.specs.declared.paused.Part.{Part}
use Rattle.link_frames.specs.declared.paused.Part.TheVariants as part
use Rattle.provider_pool.specs.declared.asked.Asked.{Asked}
use Rattle.provider_pool.specs.declared.asked.Asked.TheVariants.{Sign, Reply, Call, Nothing}
use Rattle.provider_pool.specs.Asked.{asked_by}
use Rattle.provider_pool.specs.Answers.{Answers, AnswersAsked, AllAnswers, is_request, requests_among}
use Rattle.provider_pool.specs.Answers.AllAnswers.{none, more}
use Rattle.provider_pool.specs.Serving.{IsNew, CountRose, IsPaidInPart, Stops, Serves}
use Rattle.provider_pool.specs.Turns.{EndsBy, GoesOnBy}
use Rattle.provider_pool.specs.Writes.{frame_of}
use Rattle.provider_pool.proofs.SendLemmas.{joined_both, whole_both, frames_behind}

-- ---- lists of answers

all_both : (services : List Row) (read later answers others : List Frame) → AllAnswers services read answers → AllAnswers services later others → AllAnswers services (read ++ later) (answers ++ others)
all_both services read later answers others none b = b
all_both services read later answers others (more frame frames first rest are all) b =
    subst (AllAnswers services (frame ∷ (frames ++ later))) (sym (append_assoc first rest others)) (more frame (frames ++ later) first (rest ++ others) are (all_both services frames later rest others all b))

pub all_one : (services : List Row) (frame : Frame) (answers : List Frame) → Answers services frame answers → AllAnswers services (frame ∷ []) answers
all_one services frame answers are = subst (AllAnswers services (frame ∷ [])) (append-nil answers) (more frame [] answers [] are none)

requests_both : (read later : List Frame) → requests_among (read ++ later) ≡ requests_among read + requests_among later
requests_both [] later = omega arith
requests_both (frame ∷ read) later = elim (is_request frame.header) as (λ b. (if b then suc (requests_among (read ++ later)) else requests_among (read ++ later)) ≡ (if b then suc (requests_among read) else requests_among read) + requests_among later) [
  | true ↦ omega (arith, requests_both read later)
  | false ↦ requests_both read later
]

-- ---- what has been served

pub record SoFar {SourceBadge SinkBadge : Type 0} (source source' : SourceState SourceBadge) (paused : Paused) (sink sink' : SinkState SinkBadge) (services : List Row) (served : Served) : Type 0 where
  pub came : List ℕ
  pub gave : GoesOn source source' came
  pub read : List Frame
  pub whole : AllByRecursion IsFrame read
  pub split : came ≡ joined read ++ paused.window
  pub between : IsBetween paused
  pub place : paused.place ≡ length (joined read)
  pub answers : List Frame
  pub sound : AllByRecursion IsFrame answers
  pub are : AllAnswers services read answers
  pub sends : Sends sink sink' (joined answers)
  pub requests : served.requests ≡ requests_among read
  pub wrote : served.answers ≡ length answers

pub served_none : {SourceBadge SinkBadge : Type 0} (source : SourceState SourceBadge) (paused : Paused) (sink : SinkState SinkBadge) (services : List Row) (served : Served) → IsBetween paused → paused.window ≡ [] → paused.place ≡ 0 → served.requests ≡ 0 → served.answers ≡ 0 → SoFar source source paused sink sink services served
served_none source paused sink services served between empty first requests answers = record {
  came = [];
  gave = GoesOn-none source;
  read = [];
  whole = tt;
  split = sym empty;
  between = between;
  place = first;
  answers = [];
  sound = tt;
  are = none;
  sends = Sends-none sink;
  requests = requests;
  wrote = answers;
}

-- what came before, and then what came now
came_both : (came first window new bytes later : List ℕ) → came ≡ first ++ window → window ++ new ≡ bytes ++ later → came ++ new ≡ (first ++ bytes) ++ later
came_both came first window new bytes later before now =
    ap (λ x. x ++ new) before ∙ append_assoc first window new ∙ ap (λ x. first ++ x) now ∙ sym (append_assoc first bytes later)

pub served_more : {SourceBadge SinkBadge : Type 0} (s0 s1 s2 : SourceState SourceBadge) (p1 p2 : Paused) (k0 k1 k2 : SinkState SinkBadge) (services : List Row) (served counted : Served) → SoFar s0 s1 p1 k0 k1 services served → GoesOnBy s1 s2 p1 p2 k1 k2 services served counted → SoFar s0 s2 p2 k0 k2 services counted
served_more s0 s1 s2 p1 p2 k0 k1 k2 services served counted so by =
    let bytes : List ℕ = frame_bytes by.frame in
    let one : joined (by.frame ∷ []) ≡ bytes = append-nil bytes in
    let all : joined (so.read ++ by.frame ∷ []) ≡ joined so.read ++ bytes = joined_both so.read (by.frame ∷ []) ∙ ap (λ x. joined so.read ++ x) one in
    record {
      came = so.came ++ by.reads.came;
      gave = GoesOn-join s0 s1 s2 so.came by.reads.came so.gave by.reads.gave;
      read = so.read ++ by.frame ∷ [];
      whole = whole_both so.read (by.frame ∷ []) so.whole (by.reads.whole, tt);
      split = came_both so.came (joined so.read) p1.window by.reads.came bytes p2.window so.split by.reads.split ∙ ap (λ x. x ++ p2.window) (sym all);
      between = by.reads.between;
      place = let long = length-append (joined so.read) bytes in let same = ap length all in omega (arith, long, same, by.reads.place, so.place);
      answers = so.answers ++ by.answers;
      sound = whole_both so.answers by.answers so.sound by.sound;
      are = all_both services so.read (by.frame ∷ []) so.answers by.answers so.are (all_one services by.frame by.answers by.are);
      sends = subst (Sends k0 k2) (sym (joined_both so.answers by.answers)) (Sends-join k0 k1 k2 (joined so.answers) (joined by.answers) so.sends by.sends);
      requests = omega (arith, requests_both so.read (by.frame ∷ []), so.requests, by.requests);
      wrote = omega (arith, length-append so.answers by.answers, so.wrote, by.wrote);
    }

-- ---- how serving ends

rose_since : (first before now told : ℕ) → first ≤ before → CountRose before now told → CountRose first now told
rose_since first before now told early c = record { rose = omega (arith, early, c.rose); some = c.some; among = c.among }

paid_behind : (front owed gone : List ℕ) → IsPaidInPart owed gone → IsPaidInPart (front ++ owed) (front ++ gone)
paid_behind front owed gone (left, split) = (left, ap (λ x. front ++ x) split ∙ sym (append_assoc front gone left))

-- the answers that were owed before have all gone, and serving ends for the same cause
stops_behind : {SourceBadge SinkBadge : Type 0} (s0 s1 s2 : SourceState SourceBadge) (k0 k1 k2 : SinkState SinkBadge) (at at' : ℕ) (behind front owed gone : List ℕ) (fault : Option ServeFault) → s0.faults ≤ s1.faults → k0.faults ≤ k1.faults → at ≡ at' → Stops s1 s2 k1 k2 at behind owed gone fault → Stops s0 s2 k0 k2 at' behind (front ++ owed) (front ++ gone) fault
stops_behind s0 s1 s2 k0 k1 k2 at at' behind front owed gone None sources sinks same (paid, none_left, over) = (ap (λ x. front ++ x) paid, none_left, over)
stops_behind s0 s1 s2 k0 k1 k2 at at' behind front owed gone (Some (stop.Lost told)) sources sinks same (paid, inl c) = (paid_behind front owed gone paid, inl (rose_since s0.faults s1.faults s2.faults told sources c))
stops_behind s0 s1 s2 k0 k1 k2 at at' behind front owed gone (Some (stop.Lost told)) sources sinks same (paid, inr c) = (paid_behind front owed gone paid, inr (rose_since k0.faults k1.faults k2.faults told sinks c))
stops_behind s0 s1 s2 k0 k1 k2 at at' behind front owed gone (Some (stop.Broken place)) sources sinks same (paid, here, many, bad, begins) = (ap (λ x. front ++ x) paid, here ∙ same, many, bad, begins)
stops_behind s0 s1 s2 k0 k1 k2 at at' behind front owed gone (Some (stop.CutShort place)) sources sinks same (paid, here, some, inside, over) = (ap (λ x. front ++ x) paid, here ∙ same, some, inside, over)
stops_behind s0 s1 s2 k0 k1 k2 at at' behind front owed gone (Some stop.OutOfMemory) sources sinks same paid = paid_behind front owed gone paid

pub served_all : {SourceBadge SinkBadge : Type 0} (s0 s1 s2 : SourceState SourceBadge) (paused : Paused) (k0 k1 k2 : SinkState SinkBadge) (services : List Row) (served : Served) (session : Session) → SoFar s0 s1 paused k0 k1 services served → EndsBy s1 s2 paused k1 k2 services served session.served session.fault → Serves s0 s2 k0 k2 services session
served_all s0 s1 s2 paused k0 k1 k2 services served session so by =
    let all : joined (so.read ++ by.read) ≡ joined so.read ++ joined by.read = joined_both so.read by.read in
    let place : paused.place + length (joined by.read) ≡ length (joined (so.read ++ by.read)) = let long = length-append (joined so.read) (joined by.read) in let same = ap length all in omega (arith, long, same, so.place) in
    let stops = stops_behind s0 s1 s2 k0 k1 k2 (paused.place + length (joined by.read)) (length (joined (so.read ++ by.read))) by.behind (joined so.answers) (joined by.answers) by.gone session.fault so.gave.faults so.sends.faults place by.stops in
    record {
      came = so.came ++ by.came;
      gave = GoesOn-join s0 s1 s2 so.came by.came so.gave by.gave;
      read = so.read ++ by.read;
      behind = by.behind;
      whole = whole_both so.read by.read so.whole by.whole;
      split = came_both so.came (joined so.read) paused.window by.came (joined by.read) by.behind so.split by.split ∙ ap (λ x. x ++ by.behind) (sym all);
      answers = so.answers ++ by.answers;
      are = all_both services so.read by.read so.answers by.answers so.are by.are;
      gone = joined so.answers ++ by.gone;
      sends = Sends-join k0 k1 k2 (joined so.answers) by.gone so.sends by.sends;
      written = so.answers ++ by.written;
      part = by.part;
      went = frames_behind so.answers by.gone by.written by.part so.sound by.went;
      requests = omega (arith, requests_both so.read by.read, so.requests, by.requests);
      wrote = omega (arith, length-append so.answers by.written, so.wrote, by.wrote);
      stops = subst (λ owed. Stops s0 s2 k0 k2 (length (joined (so.read ++ by.read))) by.behind owed (joined so.answers ++ by.gone) session.fault) (sym (joined_both so.answers by.answers)) stops;
    }

-- ---- counts stay in range

requests_few : (read : List Frame) → requests_among read ≤ length (joined read)
requests_few [] = omega arith
requests_few (frame ∷ read) = elim (is_request frame.header) as (λ b. (if b then suc (requests_among read) else requests_among read) ≤ length (frame_bytes frame ++ joined read)) [
  | true ↦ omega (arith, requests_few read, length-append (frame_bytes frame) (joined read), length-frame_bytes frame)
  | false ↦ omega (arith, requests_few read, length-append (frame_bytes frame) (joined read), length-frame_bytes frame)
]

answers_one : (asked : Asked) (services : List Row) (frame : Frame) (answers : List Frame) → AnswersAsked asked services frame answers → length answers ≤ 1
answers_one Sign services frame answers are = omega (arith, ap length are)
answers_one Reply services frame answers (answer, replies, are) = omega (arith, ap length are)
answers_one Call services frame answers are = omega (arith, ap length are)
answers_one Nothing services frame answers are = omega (arith, ap length are)

answers_few : (services : List Row) (read answers : List Frame) → AllAnswers services read answers → length answers ≤ length (joined read)
answers_few services read answers none = omega arith
answers_few services read answers (more frame frames first rest are all) =
    omega (arith, answers_one (asked_by frame.header) services frame first are, answers_few services frames rest all, length-append first rest, length-append (frame_bytes frame) (joined frames), length-frame_bytes frame)

-- so the counts are no greater than the place of the reader
pub counts_few : {SourceBadge SinkBadge : Type 0} (source source' : SourceState SourceBadge) (paused : Paused) (sink sink' : SinkState SinkBadge) (services : List Row) (served : Served) → SoFar source source' paused sink sink' services served → (served.requests ≤ paused.place) × (served.answers ≤ paused.place)
counts_few source source' paused sink sink' services served so =
    (omega (arith, so.requests, so.place, requests_few so.read), omega (arith, so.wrote, so.place, answers_few services so.read so.answers so.are))

-- a turn that goes on takes the reader further
pub goes_further : {SourceBadge SinkBadge : Type 0} (s s' : SourceState SourceBadge) (p p' : Paused) (k k' : SinkState SinkBadge) (services : List Row) (served counted : Served) → GoesOnBy s s' p p' k k' services served counted → p.place < p'.place
goes_further s s' p p' k k' services served counted by = omega (arith, by.reads.place, length-frame_bytes by.frame)

-- ---- a new reader

new_part : (p : Part) (taken : List ℕ) → HoldsPart p taken → taken ≡ [] → p ≡ part.Head []
new_part (part.Head head) taken is e = ap part.Head (sym is ∙ e)
new_part (part.Begun begun) taken (body, took, is) e = absurd (omega (arith, ap length (sym is ∙ e), length-frame_bytes (frame_of (header_of begun) body)))
new_part (part.Ended ending) taken is e = absurd is

none_both : (front behind : List ℕ) → [] ≡ front ++ behind → (front ≡ []) × (behind ≡ [])
none_both [] behind e = (refl, sym e)
none_both (x ∷ front) behind e = absurd cc

pub new_between : (paused : Paused) → IsNew paused → IsBetween paused × (paused.window ≡ [])
new_between paused new =
    let empty = none_both new.holds.taken paused.window new.holds.split in
    (new_part paused.part new.holds.taken new.holds.part empty.0, empty.1)
