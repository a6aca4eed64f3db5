-- When the bytes that are held decide the next answer.
use Rattle.std.proofs.Common.{◌≡◌, ℕ, ◌-◌, ◌<◌, ◌≤◌, min, List, [], ◌∷◌, ◌++◌, length, take, drop, inl, inr, refl, sym, ap, subst, ◌∙◌, append_assoc, length-append, arith}
use Rattle.dubbo_header.specs.declared.header.Header.{Header}
use Rattle.dubbo_header.specs.Header.{IsHeader, header_bytes, Spells, SpellsNone}
use Rattle.dubbo_header.proofs.HeaderLemmas.{length-header_bytes, same_header}
use Rattle.link_frames.specs.Frames.{Frame, IsFrame, HasFrames, frame_bytes, joined}
use Rattle.link_frames.specs.Begun.{header_of, left_of}
use Rattle.link_frames.specs.Paused.{HoldsPart, Holds, IsUnfinished}
use Rattle.link_frames.specs.Steps.{IsReady}
use Rattle.link_frames.specs.declared.begun.Begun.{Begun}
use Rattle.link_frames.specs.declared.next.Ending.{Ending}
use Rattle.link_frames.specs.declared.paused.Part.TheVariants as part
use Rattle.link_frames.specs.declared.paused.Paused.{Paused}
use Rattle.link_frames.proofs.PausedLemmas.{take-header, unfinished_body, filled_split, front_of, holds_begun}
use Rattle.link_frames.proofs.StepLemmas.{some_body}

-- bytes that hold a whole frame are decided
pub decided_whole : (held : List ℕ) (header : Header) (behind : List ℕ) → IsHeader header → held ≡ header_bytes header ++ behind → header.length ≤ length behind → IsUnfinished held → ⊥
decided_whole held header behind fits split long (inl short) =
    omega (arith, ap length split, length-append (header_bytes header) behind, length-header_bytes header)
decided_whole held header behind fits split long (inr u) =
    let front : take 16 held ≡ header_bytes header = rw split (take-header header behind) in
    let both : header_bytes u.0 ++ [] ≡ header_bytes header ++ [] = ap (λ (l : List ℕ). l ++ []) (sym u.1.0 ∙ front) in
    let same : u.0 ≡ header = same_header u.0 header [] [] u.1.1 fits both in
    let lengths : u.0.length ≡ header.length = ap (λ h. h.length) same in
    omega (arith, u.2, ap length split, length-append (header_bytes header) behind, length-header_bytes header)

-- bytes that begin with no header are decided
decided_broken : (held front rest : List ℕ) → held ≡ front ++ rest → length front ≡ 16 → SpellsNone front → IsUnfinished held → ⊥
decided_broken held front rest split sixteen none (inl short) = omega (arith, ap length split, length-append front rest)
decided_broken held front rest split sixteen none (inr u) =
    none u.0 (sym (front_of held front rest split sixteen) ∙ u.1.0, u.1.1)

-- a reader whose bytes are all unfinished waits
waits : (paused : Paused) → ((held : List ℕ) → Holds paused held → IsUnfinished held) → ((e : Ending) → paused.part ≡ part.Ended e → ⊥) → IsReady paused → ⊥
waits paused unfinished going (inl e) = going e.0 e.1
waits paused unfinished going (inr h) = h.2 (unfinished h.0 h.1)

-- ---- a frame that has begun

pub ready_begun : (paused : Paused) (begun : Begun) → paused.part ≡ part.Begun begun → left_of begun ≤ length paused.window → IsReady paused
ready_begun paused begun is_part long =
    let some = some_body begun in
    let body = some.0 in
    let taken = header_bytes (header_of begun) ++ body in
    let part_holds : HoldsPart (part.Begun begun) taken = (body, some.1, refl) in
    let holds : Holds paused (taken ++ paused.window) = record { taken = taken; part = subst (λ p. HoldsPart p taken) (sym is_part) part_holds; split = refl } in
    let split = append_assoc (header_bytes (header_of begun)) body paused.window in
    inr (taken ++ paused.window, holds, decided_whole (taken ++ paused.window) (header_of begun) (body ++ paused.window) begun.whole split (omega (arith, some.1.count, length-append body paused.window)))

pub waits_begun : (paused : Paused) (begun : Begun) → paused.part ≡ part.Begun begun → length paused.window < left_of begun → IsReady paused → ⊥
waits_begun paused begun is_part short =
    let unfinished : (held : List ℕ) → Holds paused held → IsUnfinished held = λ held holds.
    let has = holds_begun paused begun held is_part holds in
    subst IsUnfinished (sym has.split) (unfinished_body (header_of begun) (has.body ++ paused.window) begun.whole (omega (arith, has.took.count, length-append has.body paused.window))) in
    waits paused unfinished (λ e has. let both = sym is_part ∙ has in absurd cc)

-- ---- a header

module _ (paused : Paused) (head : List ℕ) (is_part : paused.part ≡ part.Head head) (n : ℕ) (front : List ℕ) (count : n ≡ min (16 - length head) (length paused.window)) (filled : front ≡ head ++ take n paused.window) where
  head_holds : Holds paused (head ++ paused.window)
  head_holds = record { taken = head; part = subst (λ p. HoldsPart p head) (sym is_part) refl; split = refl }

  only_held : (held : List ℕ) → Holds paused held → held ≡ head ++ paused.window
  only_held held holds =
      let taken : holds.taken ≡ head = subst (λ p. HoldsPart p holds.taken) is_part holds.part in
      holds.split ∙ ap (λ (l : List ℕ). l ++ paused.window) taken

  going : (e : Ending) → paused.part ≡ part.Ended e → ⊥
  going e has = let both = sym is_part ∙ has in absurd cc

  head_split : head ++ paused.window ≡ front ++ drop n paused.window
  head_split = filled_split head paused.window front (drop n paused.window) n filled refl

  pub waits_head : length (head ++ paused.window) < 16 → IsReady paused → ⊥
  waits_head short = waits paused (λ held holds. subst IsUnfinished (sym (only_held held holds)) (inl short)) going

  pub ready_broken : length front ≡ 16 → SpellsNone front → IsReady paused
  ready_broken sixteen none = inr (head ++ paused.window, head_holds, decided_broken (head ++ paused.window) front (drop n paused.window) head_split sixteen none)

  pub ready_whole : (header : Header) → Spells front header → header.length ≤ length (drop n paused.window) → IsReady paused
  ready_whole header spells long =
      let split : head ++ paused.window ≡ header_bytes header ++ drop n paused.window = head_split ∙ ap (λ (l : List ℕ). l ++ drop n paused.window) spells.0 in
      inr (head ++ paused.window, head_holds, decided_whole (head ++ paused.window) header (drop n paused.window) spells.1 split long)

  pub waits_body : (header : Header) → Spells front header → length (drop n paused.window) < header.length → IsReady paused → ⊥
  waits_body header spells short =
      let split : head ++ paused.window ≡ header_bytes header ++ drop n paused.window = head_split ∙ ap (λ (l : List ℕ). l ++ drop n paused.window) spells.0 in
      let unfinished : IsUnfinished (head ++ paused.window) = subst IsUnfinished (sym split) (unfinished_body header (drop n paused.window) spells.1 short) in
      waits paused (λ held holds. subst IsUnfinished (sym (only_held held holds)) unfinished) going

-- ---- the frames of what is read

pub first_of : (bytes behind : List ℕ) (frame : Frame) (frames : List Frame) (rest : List ℕ) → IsFrame frame → bytes ≡ frame_bytes frame ++ behind → HasFrames behind frames rest → HasFrames bytes (frame ∷ frames) rest
first_of bytes behind frame frames rest whole split has = record {
  whole = (whole, has.whole);
  split = split ∙ ap (λ (l : List ℕ). frame_bytes frame ++ l) has.split ∙ sym (append_assoc (frame_bytes frame) (joined frames) rest);
  none = has.none;
}

pub unfinished_rest : (bytes : List ℕ) → IsUnfinished bytes → HasFrames bytes [] bytes
unfinished_rest bytes unfinished = record {
  whole = tt;
  split = refl;
  none = λ frame more whole e. decided_whole bytes frame.header (frame.body ++ more) whole.header (e ∙ append_assoc (header_bytes frame.header) frame.body more) (omega (arith, whole.length, length-append frame.body more)) unfinished;
}

pub broken_rest : (bytes : List ℕ) → SpellsNone (take 16 bytes) → HasFrames bytes [] bytes
broken_rest bytes broken = record {
  whole = tt;
  split = refl;
  none = λ frame more whole e.
      let front = e ∙ append_assoc (header_bytes frame.header) frame.body more in
      broken frame.header (front_of bytes (header_bytes frame.header) (frame.body ++ more) front (length-header_bytes frame.header), whole.header);
}
