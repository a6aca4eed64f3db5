-- How far the provider and the printer have come, at a place of the bytes that they read.
use Rattle.std.proofs.Common.{◌≡◌, ℕ, ◌+◌, ◌*◌, ◌/◌, ◌<◌, ◌≤◌, ℤ, List, [], ◌∷◌, ◌++◌, length, Some, None, refl, sym, ap, ap₂, subst, ◌∙◌, length-append, FitsSigned, to_z, of_z, w32, arith}
use Rattle.std.proofs.lemmas.Int.{to_z-of_z}
use Rattle.dubbo_play.specs.FirstForm.{Call, AreCalls}
use Rattle.dubbo_play.specs.FirstFrames.{IsReply, IsRequestFrame, IsReplyFrame, AreRequests, AreReplies}
use Rattle.dubbo_play.specs.FirstRun.{Adds, RequestAt, ReplyAt, FindsFrame}
use Rattle.dubbo_play.specs.FirstTranscript.{ok_line, ok_lines, summary, transcript}
use Rattle.dubbo_play.specs.declared.first_frames.Found.{Found}
use Rattle.dubbo_play.proofs.Runs.{Split, Next, request_stands, reply_stands, next_found, all_found, adds-snoc, adds_none, ok_lines-snoc}

-- an int as a callee has it
abbrev pub passed : ℤ → ℤ
passed v = to_z w32 (of_z w32 v)

passed_is : (v argument : ℤ) → v ≡ argument → FitsSigned w32 argument → passed v ≡ argument
passed_is v argument e f = to_z-of_z w32 v (subst (λ (z : ℤ). FitsSigned w32 z) (sym e) f) ∙ e

-- the calls before a place are answered
pub record Answered (calls : List Call) (asks : List ℕ) (at : ℕ) (old new : List ℕ) : Type 0 where
  pub done : List Call
  pub split : Split IsRequestFrame calls asks at done
  pub added : Adds (AreReplies done) old new

pub none_answered : (calls : List Call) (asks old : List ℕ) → AreRequests calls asks → Answered calls asks 0 old old
none_answered calls asks old js = record {
  done = [];
  split = record { todo = calls; split = refl; left = js };
  added = adds_none IsReplyFrame old;
}

reply_of : (id n : ℕ) (v w : ℤ) (frame : List ℕ) → id ≡ n → v ≡ w → IsReply id v frame → IsReply n w frame
reply_of id n v w frame e f r = subst (λ (z : ℤ). IsReply n z frame) f (subst (λ (i : ℕ). IsReply i v frame) e r)

pub answered_more : (calls : List Call) (asks : List ℕ) (at : ℕ) (found : Found) (old mid new : List ℕ) → AreCalls calls →
    at < found.end → found.end ≤ length asks → FindsFrame (RequestAt asks at) (Some found) →
    Answered calls asks at old mid → Adds (IsReply found.id (passed found.value)) mid new → Answered calls asks found.end old new
answered_more calls asks at found old mid new fit l w f a one =
    let n : Next IsRequestFrame calls asks a.done found = next_found IsRequestFrame (RequestAt asks at) calls fit asks at (request_stands asks at) a.done found a.split l w f in
    let frame : IsReplyFrame (length a.done) n.call one.added = reply_of found.id (16 * length a.done) (passed found.value) n.call.argument one.added n.id (passed_is found.value n.call.argument n.value n.fits.argument) one.holds in
    record {
      done = a.done ++ n.call ∷ [];
      split = n.split;
      added = adds-snoc IsReplyFrame a.done n.call old mid new a.added (record { added = one.added; holds = frame; joined = one.joined });
    }

pub all_answered : (calls : List Call) (asks : List ℕ) (at : ℕ) (old new : List ℕ) → AreCalls calls → FindsFrame (RequestAt asks at) None →
    Answered calls asks at old new → Adds (AreReplies calls) old new
all_answered calls asks at old new fit f a =
    let all : a.done ≡ calls = all_found IsRequestFrame (RequestAt asks at) calls fit asks at (request_stands asks at) a.done a.split f in
    subst (λ (x : List Call). Adds (AreReplies x) old new) all a.added

-- the calls before a place are printed
pub record Printed (calls : List Call) (answers : List ℕ) (at : ℕ) (printed : List ℕ) (count : ℕ) : Type 0 where
  pub done : List Call
  pub split : Split IsReplyFrame calls answers at done
  pub lines : printed ≡ ok_lines 0 done
  pub counted : count ≡ length done

pub none_printed : (calls : List Call) (answers printed : List ℕ) → printed ≡ [] → AreReplies calls answers → Printed calls answers 0 printed 0
none_printed calls answers printed e js = record {
  done = [];
  split = record { todo = calls; split = refl; left = js };
  lines = e;
  counted = refl;
}

pub printed_more : (calls : List Call) (answers : List ℕ) (at : ℕ) (found : Found) (mid new : List ℕ) (count : ℕ) → AreCalls calls →
    at < found.end → found.end ≤ length answers → FindsFrame (ReplyAt answers at) (Some found) →
    Printed calls answers at mid count → new ≡ mid ++ ok_line (found.id / 16) (passed found.value) → Printed calls answers found.end new (count + 1)
printed_more calls answers at found mid new count fit l w f p e =
    let n : Next IsReplyFrame calls answers p.done found = next_found IsReplyFrame (ReplyAt answers at) calls fit answers at (reply_stands answers at) p.done found p.split l w f in
    let number : found.id / 16 ≡ length p.done = omega (arith, n.id) in
    let line : ok_line (found.id / 16) (passed found.value) ≡ ok_line (length p.done) n.call.argument = ap₂ ok_line number (passed_is found.value n.call.argument n.value n.fits.argument) in
    let sum : length (p.done ++ n.call ∷ []) ≡ length p.done + 1 = length-append p.done (n.call ∷ []) in
    record {
      done = p.done ++ n.call ∷ [];
      split = n.split;
      lines = e ∙ ap₂ (λ (x y : List ℕ). x ++ y) p.lines line ∙ sym (snoc p.done n.call);
      counted = ap (λ (x : ℕ). x + 1) p.counted ∙ sym sum;
    }
  where
    snoc : (done : List Call) (call : Call) → ok_lines 0 (done ++ call ∷ []) ≡ ok_lines 0 done ++ ok_line (length done) call.argument
    snoc done call = ok_lines-snoc 0 done call ∙ ap (λ (n : ℕ). ok_lines 0 done ++ ok_line n call.argument) (omega arith)

pub all_printed : (calls : List Call) (answers : List ℕ) (at : ℕ) (printed whole : List ℕ) (count : ℕ) → AreCalls calls → FindsFrame (ReplyAt answers at) None →
    Printed calls answers at printed count → whole ≡ printed ++ summary count → whole ≡ transcript calls
all_printed calls answers at printed whole count fit f p e =
    let all : p.done ≡ calls = all_found IsReplyFrame (ReplyAt answers at) calls fit answers at (reply_stands answers at) p.done p.split f in
    e ∙ ap₂ (λ (x : List ℕ) (n : ℕ). x ++ summary n) (p.lines ∙ ap (λ (x : List Call). ok_lines 0 x) all) (p.counted ∙ ap (λ (x : List Call). length x) all)
