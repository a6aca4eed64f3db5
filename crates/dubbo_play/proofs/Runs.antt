-- A run through the calls: which of them are done, and what the bytes from a place on still have of the others.
use Rattle.std.proofs.Common.{◌≡◌, ℕ, suc, ◌+◌, ◌*◌, ◌<◌, ◌≤◌, ℤ, List, [], ◌∷◌, ◌++◌, length, take, drop, get_or, Some, None, Result, Ok, Err, OnErr, refl, sym, ap, subst, ◌∙◌, append_assoc, append-nil, add-zero, add-one, length-append, length-drop, take-suc, length-take-le, arith}
use Rattle.std.proofs.Math.Seq.{get_or-append_seam}
use Rattle.dubbo_play.specs.FirstForm.{Call, IsCall, AreCalls}
use Rattle.dubbo_play.specs.FirstFrames.{IsRequest, IsRequestFrame, IsReplyFrame, Joined, AreRequests}
use Rattle.dubbo_play.specs.FirstFrames.Joined.{none, next}
use Rattle.dubbo_play.specs.FirstRun.{Grows, Adds, RequestAt, ReplyAt, FindsFrame}
use Rattle.dubbo_play.specs.FirstTranscript.{ok_line, ok_lines}
use Rattle.dubbo_play.specs.declared.first_frames.Found.{Found}
use Rattle.dubbo_play.proofs.Places.{behind}
use Rattle.dubbo_play.proofs.Frames.{some_is}

-- ---- what grows

pub grows_more : (old mid new : List ℕ) → Grows old mid → Grows mid new → Grows old new
grows_more old mid new (a, p) (b, q) = (a ++ b, q ∙ ap (λ (x : List ℕ). x ++ b) p ∙ append_assoc old a b)

pub adds_grows : {Holds : List ℕ → Type 0} (old new : List ℕ) → Adds Holds old new → Grows old new
adds_grows old new a = (a.added, a.joined)

pub grows_same : (old : List ℕ) → Grows old old
grows_same old = ([], sym (append-nil old))

pub on_err : {A E P : Type 0} (r : Result A E) → P → OnErr r P
on_err (Ok x) p = tt
on_err (Err e) p = p

-- ---- one call more at the end

pub joined-snoc : (IsFrame : ℕ → Call → List ℕ → Type 0) (k : ℕ) (calls : List Call) (bytes : List ℕ) (call : Call) (frame : List ℕ) →
    Joined IsFrame k calls bytes → IsFrame (k + length calls) call frame → Joined IsFrame k (calls ++ call ∷ []) (bytes ++ frame)
joined-snoc IsFrame k calls bytes call frame (none n) f =
    let g : IsFrame k call frame = subst (λ (i : ℕ). IsFrame i call frame) (add-zero k) f in
    subst (λ (x : List ℕ). Joined IsFrame k (call ∷ []) x) (append-nil frame) (next k call [] frame [] g (none (suc k)))
joined-snoc IsFrame k calls bytes call frame (next n first others head rest h js) f =
    let place : k + length (first ∷ others) ≡ suc k + length others = omega arith in
    let g : IsFrame (suc k + length others) call frame = subst (λ (i : ℕ). IsFrame i call frame) place f in
    subst (λ (x : List ℕ). Joined IsFrame k (first ∷ (others ++ call ∷ [])) x) (sym (append_assoc head rest frame))
    (next k first (others ++ call ∷ []) head (rest ++ frame) h (joined-snoc IsFrame (suc k) others rest call frame js g))

pub adds-snoc : (IsFrame : ℕ → Call → List ℕ → Type 0) (calls : List Call) (call : Call) (old mid new : List ℕ) →
    Adds (Joined IsFrame 0 calls) old mid → Adds (IsFrame (length calls) call) mid new → Adds (Joined IsFrame 0 (calls ++ call ∷ [])) old new
adds-snoc IsFrame calls call old mid new a b = record {
  added = a.added ++ b.added;
  holds = joined-snoc IsFrame 0 calls a.added call b.added a.holds (subst (λ (i : ℕ). IsFrame i call b.added) (omega arith) b.holds);
  joined = b.joined ∙ ap (λ (x : List ℕ). x ++ b.added) a.joined ∙ append_assoc old a.added b.added;
}

pub adds_none : (IsFrame : ℕ → Call → List ℕ → Type 0) (old : List ℕ) → Adds (Joined IsFrame 0 []) old old
adds_none IsFrame old = record { added = []; holds = none 0; joined = sym (append-nil old) }

pub ok_lines-snoc : (k : ℕ) (calls : List Call) (call : Call) → ok_lines k (calls ++ call ∷ []) ≡ ok_lines k calls ++ ok_line (k + length calls) call.argument
ok_lines-snoc k [] call = append-nil (ok_line k call.argument) ∙ ap (λ (n : ℕ). ok_line n call.argument) (sym (add-zero k))
ok_lines-snoc k (first ∷ others) call =
    let place : suc k + length others ≡ k + length (first ∷ others) = omega arith in
    ap (λ (x : List ℕ). ok_line k first.argument ++ x) (ok_lines-snoc (suc k) others call ∙ ap (λ (n : ℕ). ok_lines (suc k) others ++ ok_line n call.argument) place)
    ∙ sym (append_assoc (ok_line k first.argument) (ok_lines (suc k) others) (ok_line (k + length (first ∷ others)) call.argument))

-- ---- the requests of the first calls

renamed : (id : ℕ) (p q m n : List ℕ) (a b : ℤ) (frame : List ℕ) → p ≡ q → m ≡ n → a ≡ b → IsRequest id p m a frame → IsRequest id q n b frame
renamed id p q m n a b frame e f g r =
    subst (λ (z : ℤ). IsRequest id q n z frame) g (subst (λ (x : List ℕ). IsRequest id q x a frame) f (subst (λ (x : List ℕ). IsRequest id x m a frame) e r))

pub asked_more : (calls : List Call) (i : ℕ) (call : Call) (p m : List ℕ) (a : ℤ) (old mid new : List ℕ) → i < length calls → call ≡ get_or calls i call →
    p ≡ call.path → m ≡ call.method → a ≡ call.argument →
    Adds (AreRequests (take i calls)) old mid → Adds (IsRequest (16 * i) p m a) mid new → Adds (AreRequests (take (i + 1) calls)) old new
asked_more calls i call p m a old mid new l e ep em ea done one =
    let long : length (take i calls) ≡ i = omega (arith, length-take-le i calls) in
    let frame : IsRequestFrame i call one.added = renamed (16 * i) p call.path m call.method a call.argument one.added ep em ea one.holds in
    let more : Adds (IsRequestFrame (length (take i calls)) call) mid new = record { added = one.added; holds = subst (λ (n : ℕ). IsRequestFrame n call one.added) (sym long) frame; joined = one.joined } in
    let all : take i calls ++ call ∷ [] ≡ take (i + 1) calls = sym (ap (λ (n : ℕ). take n calls) (add-one i) ∙ take-suc calls i call l ∙ ap (λ (x : Call). take i calls ++ x ∷ []) (sym e)) in
    subst (λ (x : List Call). Adds (AreRequests x) old new) all (adds-snoc IsRequestFrame (take i calls) call old mid new done more)

-- ---- the frames that are left

pub record Split (IsFrame : ℕ → Call → List ℕ → Type 0) (calls : List Call) (bytes : List ℕ) (at : ℕ) (done : List Call) : Type 0 where
  pub todo : List Call
  pub split : calls ≡ done ++ todo
  pub left : Joined IsFrame (length done) todo (drop at bytes)

-- what is found at a place is the frame of the next call
pub record Next (IsFrame : ℕ → Call → List ℕ → Type 0) (calls : List Call) (bytes : List ℕ) (done : List Call) (found : Found) : Type 0 where
  pub call : Call
  pub fits : IsCall call
  pub id : found.id ≡ 16 * length done
  pub value : found.value ≡ call.argument
  pub split : Split IsFrame calls bytes found.end (done ++ call ∷ [])

-- a frame of a script's call stands where it is
abbrev pub Standing : (ℕ → Call → List ℕ → Type 0) → (ℕ → ℤ → ℕ → Type 0) → List ℕ → ℕ → Type 0
Standing IsFrame Stands bytes at = (k : ℕ) (call : Call) (frame rest : List ℕ) → k < 4096 → IsCall call → IsFrame k call frame →
    drop at bytes ≡ frame ++ rest → Stands (16 * k) call.argument (at + length frame)

pub request_stands : (bytes : List ℕ) (at : ℕ) → Standing IsRequestFrame (RequestAt bytes at) bytes at
request_stands bytes at k call frame rest l i f d = record {
  path = call.path;
  method = call.method;
  frame = frame;
  rest = rest;
  fits = omega arith;
  short_path = i.path.short;
  short_method = i.method.short;
  request = f;
  stands = d;
  ends = refl;
}

pub reply_stands : (bytes : List ℕ) (at : ℕ) → Standing IsReplyFrame (ReplyAt bytes at) bytes at
reply_stands bytes at k call frame rest l i f d = record { frame = frame; rest = rest; fits = omega arith; reply = f; stands = d; ends = refl }

-- the next of the calls is a call of the script
next_fits : (calls done rest : List Call) (call : Call) → AreCalls calls → calls ≡ done ++ call ∷ rest → (length done < 4096) × IsCall call
next_fits calls done rest call fit e =
    let long : length calls ≡ length done + suc (length rest) = ap length e ∙ length-append done (call ∷ rest) in
    let here : get_or calls (length done) call ≡ call = ap (λ (x : List Call). get_or x (length done) call) e ∙ get_or-append_seam done call rest call in
    (omega (arith, fit.few), subst (λ (x : Call). IsCall x) here (fit.each (length done) call (omega arith)))

module _ (IsFrame : ℕ → Call → List ℕ → Type 0) (Stands : ℕ → ℤ → ℕ → Type 0) (calls : List Call) (fit : AreCalls calls) (bytes : List ℕ) (at : ℕ) (stand : Standing IsFrame Stands bytes at) where
  next_at : (done todo : List Call) (k : ℕ) (rest : List ℕ) (found : Found) → calls ≡ done ++ todo → k ≡ length done → drop at bytes ≡ rest → Joined IsFrame k todo rest →
      at < found.end → found.end ≤ length bytes → FindsFrame Stands (Some found) → Next IsFrame calls bytes done found
  next_at done todo k rest found e n d (none i) l w f = absurd (omega (arith, length-drop at bytes, ap length d))
  next_at done todo k rest found e n d (next i call others frame more h js) l w f =
      let ok = next_fits calls done others call fit e in
      let same : found ≡ record { id = 16 * k; value = call.argument; end = at + length frame } =
      some_is _ _ (f (16 * k) call.argument (at + length frame) (stand k call frame more (omega (arith, ok.0)) ok.1 h d)) in
      let ends : found.end ≡ at + length frame = ap (λ (x : Found). x.end) same in
      let long : suc k ≡ length (done ++ call ∷ []) = omega (arith, length-append done (call ∷ [])) in
      let rests : more ≡ drop found.end bytes = sym (behind bytes frame more at d) ∙ ap (λ (x : ℕ). drop x bytes) (sym ends) in
      record {
        call = call;
        fits = ok.1;
        id = ap (λ (x : Found). x.id) same ∙ ap (λ (x : ℕ). 16 * x) n;
        value = ap (λ (x : Found). x.value) same;
        split = record {
          todo = others;
          split = e ∙ sym (append_assoc done (call ∷ []) others);
          left = subst (λ (x : ℕ). Joined IsFrame x others (drop found.end bytes)) long (subst (λ (x : List ℕ). Joined IsFrame (suc k) others x) rests js);
        };
      }

  pub next_found : (done : List Call) (found : Found) → Split IsFrame calls bytes at done → at < found.end → found.end ≤ length bytes →
      FindsFrame Stands (Some found) → Next IsFrame calls bytes done found
  next_found done found s l w f = next_at done s.todo (length done) (drop at bytes) found s.split refl refl s.left l w f

  end_at : (done todo : List Call) (k : ℕ) (rest : List ℕ) → calls ≡ done ++ todo → k ≡ length done → drop at bytes ≡ rest → Joined IsFrame k todo rest →
      FindsFrame Stands None → done ≡ calls
  end_at done todo k rest e n d (none i) f = sym (e ∙ append-nil done)
  end_at done todo k rest e n d (next i call others frame more h js) f =
      let ok = next_fits calls done others call fit e in
      let same = f (16 * k) call.argument (at + length frame) (stand k call frame more (omega (arith, ok.0)) ok.1 h d) in
      cc

  pub all_found : (done : List Call) → Split IsFrame calls bytes at done → FindsFrame Stands None → done ≡ calls
  all_found done s f = end_at done s.todo (length done) (drop at bytes) s.split refl refl s.left f
