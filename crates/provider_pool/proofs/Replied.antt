-- Replies, by what was read of a request.
use Rattle.std.proofs.Common.{◌≡◌, ℕ, ◌<◌, ◌≤◌, ◌^◌, List, [], ◌∷◌, ◌++◌, length, refl, ap, sym, subst, ◌∙◌, length-append, arith, lit<}
use Rattle.std.proofs.Math.Utf8.{encode}
use Rattle.std.specs.Prelude.{Result, Ok, Err, IfOk, codes, true, false}
use Rattle.dubbo_header.specs.declared.header.Header.{Header}
use Rattle.link_frames.specs.Frames.{Frame, IsFrame}
use Rattle.dubbo_bodies.specs.declared.fault.RequestFault.{RequestFault}
use Rattle.dubbo_bodies.specs.declared.message.Reply.{Reply}
use Rattle.dubbo_bodies.specs.declared.message.Request.{Request}
use Rattle.dubbo_bodies.specs.FaultTexts.{request_words}
use Rattle.dubbo_bodies.specs.RequestReading.{IsRefusedRequest}
use Rattle.service_table.specs.declared.row.Row.{Row}
use Rattle.service_table.specs.Direct.{IsDirect, IsSendable}
use Rattle.service_table.specs.Endings.{status_of}
use Rattle.hessian_text.specs.Written.{WrittenText}
use Rattle.hessian_text.specs.Written.WrittenUnits.{last as last_units}
use Rattle.dubbo_bodies.specs.WrittenBody.WrittenReply.{status as a_status}
use Rattle.dubbo_io.specs.Sink.{SinkState}
use Rattle.provider_pool.specs.declared.asked.Asked.{Asked}
use Rattle.provider_pool.specs.declared.asked.Asked.TheVariants as asked
use Rattle.provider_pool.specs.declared.sending.Outcome.{Outcome}
use Rattle.provider_pool.specs.Asked.{asked_by}
use Rattle.provider_pool.specs.Answers.{AnswersAsked, answer_header, sign_of_life}
use Rattle.provider_pool.specs.Replies.{HasReading, Replies, bad_request, no_memory}
use Rattle.provider_pool.specs.Replies.Replies.{direct, unread, starved}
use Rattle.provider_pool.specs.Writes.{RepliesWith, Writes, WritesAnswers, WritesReply, frame_of}
use Rattle.provider_pool.proofs.ShortTexts.{status_short}

pub called : {E : Type 0} (services : List Row) (frame : Frame) (request : Request) (answer : Result Reply E) → HasReading frame request → IfOk answer (IsDirect services request) → IfOk answer (λ reply. Replies services frame reply)
called services frame request (Ok reply) reading is = direct request reading is
called services frame request (Err e) reading is = tt

pub refused : {E : Type 0} (services : List Row) (frame : Frame) (fault : RequestFault) (answer : Result Reply E) → IsRefusedRequest frame.header frame.body fault → IfOk answer (λ reply. reply ≡ bad_request fault) → IfOk answer (λ reply. Replies services frame reply)
refused services frame fault (Ok reply) why is = unread fault why is
refused services frame fault (Err e) why is = tt

-- the reply to a request that can't be read has room in a frame, where the text of the fault is short
pub refusal_sendable : (fault : RequestFault) → length (request_words fault) ≤ 48 → IsSendable (bad_request fault)
refusal_sendable fault few = record {
  writable = tt;
  short = λ body w. status_short 40 (codes "bad request: " ++ request_words fault) body w (let long = length-append (codes "bad request: ") (request_words fault) in omega (arith, few, long));
  goes = (refl, λ e. absurd (omega (arith, e)));
}

-- ---- frames of answers

pub answer_whole : (header : Header) (body : List ℕ) (status id size : ℕ) → status < 256 → id < 2 ^ 64 → header ≡ answer_header false status id size → size ≡ length body → length body ≤ 8388608 → IsFrame (frame_of header body)
answer_whole header body status id size small known is long few =
    subst (λ (h : Header). IsFrame (frame_of h body)) (sym is) (record {
      header = record { serial = lit< tt; status = small; id = known; length = omega (arith, long, few) };
      length = sym long;
    })

pub sign_whole : (header : Header) (id : ℕ) → id < 2 ^ 64 → header ≡ answer_header true 20 id 1 → IsFrame (frame_of header (0x4e ∷ []))
sign_whole header id known is =
    subst (λ (h : Header). IsFrame (frame_of h (0x4e ∷ []))) (sym is) (record {
      header = record { serial = lit< tt; status = lit< tt; id = known; length = omega arith };
      length = refl;
    })

-- the reply for want of memory: a text of 13 units
no_memory_text : WrittenText (codes "out of memory") (0x0d ∷ codes "out of memory")
unfolding encode
no_memory_text = record { chars = codes "out of memory"; scalar = refl; are_chars = refl; written = last_units (codes "out of memory") (omega arith) }

pub starved_with : (services : List Row) (frame : Frame) → RepliesWith services frame 80 (0x0d ∷ codes "out of memory")
starved_with services frame = record {
  reply = no_memory;
  is = starved refl;
  written = a_status 80 (codes "out of memory") (0x0d ∷ codes "out of memory") no_memory_text;
  status_is = refl;
  small = omega arith;
  short = omega arith;
}

-- ---- what became of answers

pub sends_reply : {Badge : Type 0} (old new : SinkState Badge) (services : List Row) (frame : Frame) (header : Header) (body : List ℕ) (status id size : ℕ) (outcome : Outcome) → RepliesWith services frame status body → id ≡ frame.header.id → header ≡ answer_header false status id size → size ≡ length body → IsFrame (frame_of header body) → Writes old new (frame_of header body ∷ []) outcome → WritesReply old new services frame outcome
sends_reply old new services frame header body status id size outcome r same is long whole writes = record {
  answer = frame_of header body;
  whole = whole;
  is = record {
    reply = r.reply;
    is = r.is;
    written = r.written;
    header = is ∙ ap (λ n. answer_header false n id size) r.status_is ∙ ap (λ n. answer_header false (status_of r.reply) n size) same ∙ ap (answer_header false (status_of r.reply) frame.header.id) long;
  };
  writes = writes;
}

pub owes_reply : {Badge : Type 0} (old new : SinkState Badge) (services : List Row) (frame : Frame) (outcome : Outcome) → asked.Reply ≡ asked_by frame.header → WritesReply old new services frame outcome → WritesAnswers old new services frame outcome
owes_reply old new services frame outcome asks w = record {
  owed = w.answer ∷ [];
  whole = (w.whole, tt);
  are = subst (λ (a : Asked). AnswersAsked a services frame (w.answer ∷ [])) asks (w.answer, w.is, refl);
  writes = w.writes;
}

pub owes_sign : {Badge : Type 0} (old new : SinkState Badge) (services : List Row) (frame : Frame) (outcome : Outcome) → asked.Sign ≡ asked_by frame.header → IsFrame frame → Writes old new (sign_of_life frame.header.id ∷ []) outcome → WritesAnswers old new services frame outcome
owes_sign old new services frame outcome asks whole writes = record {
  owed = sign_of_life frame.header.id ∷ [];
  whole = (sign_whole (answer_header true 20 frame.header.id 1) frame.header.id whole.header.id refl, tt);
  are = subst (λ (a : Asked). AnswersAsked a services frame (sign_of_life frame.header.id ∷ [])) asks refl;
  writes = writes;
}
