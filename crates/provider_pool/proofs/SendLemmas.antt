-- What became of one frame that was sent.
use Rattle.std.proofs.Common.{◌≡◌, ◌≢◌, ℕ, ◌+◌, ◌<◌, List, [], ◌∷◌, ◌++◌, length, take, drop, refl, ap, sym, subst, ◌∙◌, append_assoc, length-append, arith}
use Rattle.std.specs.List.{AllByRecursion}
use Rattle.std.proofs.Math.Seq.{take-length}
use Rattle.std.proofs.lemmas.Bool.{eqb-true, eqb-false}
use Rattle.std.proofs.lemmas.List.{append-nil, take-append-drop, length-take}
use Rattle.dubbo_io.specs.Sink.{SinkState, Sends}
use Rattle.link_frames.specs.Frames.{Frame, IsFrame, BeginsNoFrame, HasFrames, frame_bytes, joined}
use Rattle.link_frames.proofs.FramesLemmas.{first_frame, length-frame_bytes, short_none}
use Rattle.dubbo_io.specs.declared.writing.WriteFault.{WriteFault}
use Rattle.dubbo_io.specs.WriteFault.{StopsWriting, faults_of, gone_of}
use Rattle.provider_pool.specs.Writes.{WritesPart, whole_of}
use Rattle.std.specs.Prelude.{Bool, true, false, nat_eq, if◌then◌else◌}

-- a shorter front of a frame's bytes begins no frame
pub front_begins_none : (frame : Frame) (n : ℕ) → IsFrame frame → n < length (frame_bytes frame) → BeginsNoFrame (take n (frame_bytes frame))
front_begins_none frame n whole less other more is split =
    let bytes : List ℕ = frame_bytes frame in
    let all : frame_bytes other ++ (more ++ drop n bytes) ≡ frame_bytes frame ++ [] =
    sym (append_assoc (frame_bytes other) more (drop n bytes)) ∙ ap (λ front. front ++ drop n bytes) (sym split) ∙ take-append-drop n bytes ∙ sym (append-nil bytes) in
    let same = first_frame other frame (more ++ drop n bytes) [] is whole all in
    let long : length (take n bytes) ≡ length (frame_bytes other ++ more) = ap length split in
    omega (arith, less, long, length-take n bytes, length-append (frame_bytes other) more, ap (λ f. length (frame_bytes f)) same.0)

-- ---- lists of frames

joined_one : (frame : Frame) → joined (frame ∷ []) ≡ frame_bytes frame
joined_one frame = append-nil (frame_bytes frame)

pub joined_both : (first others : List Frame) → joined (first ++ others) ≡ joined first ++ joined others
joined_both [] others = refl
joined_both (frame ∷ first) others = ap (λ bytes. frame_bytes frame ++ bytes) (joined_both first others) ∙ sym (append_assoc (frame_bytes frame) (joined first) (joined others))

pub whole_both : (first others : List Frame) → AllByRecursion IsFrame first → AllByRecursion IsFrame others → AllByRecursion IsFrame (first ++ others)
whole_both [] others a b = b
whole_both (frame ∷ first) others a b = (a.0, whole_both first others a.1 b)

pub nothing_begins : BeginsNoFrame []
nothing_begins = short_none [] (omega arith)

pub frames_none : HasFrames [] [] []
frames_none = record { whole = tt; split = refl; none = nothing_begins }

-- whole frames, and then a stream
pub frames_behind : (frames : List Frame) (bytes : List ℕ) (later : List Frame) (rest : List ℕ) → AllByRecursion IsFrame frames → HasFrames bytes later rest → HasFrames (joined frames ++ bytes) (frames ++ later) rest
frames_behind frames bytes later rest whole has = record {
  whole = whole_both frames later whole has.whole;
  split = ap (λ more. joined frames ++ more) has.split ∙ sym (append_assoc (joined frames) (joined later) rest) ∙ ap (λ front. front ++ rest) (sym (joined_both frames later));
  none = has.none;
}

-- ---- one frame that was sent

in_part : {Badge : Type 0} (old new : SinkState Badge) (frame : Frame) (fault : WriteFault) → IsFrame frame → StopsWriting old new (frame_bytes frame) fault → (b : Bool) → nat_eq (gone_of fault) (16 + length frame.body) ≡ b → WritesPart old new (frame ∷ []) (faults_of fault) (if b then 1 else 0)
in_part old new frame fault whole stops true same =
    let gone : gone_of fault ≡ 16 + length frame.body = eqb-true (gone_of fault) (16 + length frame.body) same in
    let all : take (gone_of fault) (frame_bytes frame) ≡ frame_bytes frame = ap (λ n. take n (frame_bytes frame)) (gone ∙ sym (length-frame_bytes frame)) ∙ take-length (frame_bytes frame) in
    record {
      gone = frame_bytes frame;
      front = ([], refl);
      sends = subst (Sends old new) all stops.sends;
      written = frame ∷ [];
      part = [];
      went = record { whole = (whole, tt); split = sym (append-nil (joined (frame ∷ [])) ∙ joined_one frame); none = nothing_begins };
      wrote = refl;
      rose = record { rose = stops.rose; some = stops.some; among = stops.told };
    }
in_part old new frame fault whole stops false other =
    let bytes : List ℕ = frame_bytes frame in
    let apart : gone_of fault ≢ 16 + length frame.body = eqb-false (gone_of fault) (16 + length frame.body) other in
    let less : gone_of fault < length bytes = omega (arith, apart, stops.within, length-frame_bytes frame) in
    record {
      gone = take (gone_of fault) bytes;
      front = (drop (gone_of fault) bytes, joined_one frame ∙ sym (take-append-drop (gone_of fault) bytes));
      sends = stops.sends;
      written = [];
      part = take (gone_of fault) bytes;
      went = record { whole = tt; split = refl; none = front_begins_none frame (gone_of fault) whole less };
      wrote = refl;
      rose = record { rose = stops.rose; some = stops.some; among = stops.told };
    }

pub sent_in_part : {Badge : Type 0} (old new : SinkState Badge) (frame : Frame) (fault : WriteFault) → IsFrame frame → StopsWriting old new (frame_bytes frame) fault → WritesPart old new (frame ∷ []) (faults_of fault) (whole_of (gone_of fault) (length frame.body))
sent_in_part old new frame fault whole stops = in_part old new frame fault whole stops (nat_eq (gone_of fault) (16 + length frame.body)) refl
