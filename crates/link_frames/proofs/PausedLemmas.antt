-- What a reader holds once it took up bytes of its window.
use Rattle.std.proofs.Common.{◌≡◌, ℕ, ◌+◌, ◌-◌, ◌<◌, min, List, [], ◌++◌, length, take, drop, Some, None, inl, inr, refl, sym, ap, subst, ◌∙◌, append_assoc, length-append, length-take, arith}
use Rattle.std.proofs.lemmas.List.{take-append-drop}
use Rattle.std.proofs.Math.Seq.{take-append_seam, drop-length}
use Rattle.dubbo_header.specs.declared.header.Header.{Header}
use Rattle.dubbo_header.specs.Header.{IsHeader, header_bytes, SpellsNone}
use Rattle.dubbo_header.proofs.HeaderLemmas.{length-header_bytes}
use Rattle.link_frames.specs.Frames.{Frame}
use Rattle.link_frames.specs.Begun.{header_of, left_of, Took, Finishes}
use Rattle.link_frames.specs.Paused.{HoldsPart, Holds, IsUnfinished, Passes, Breaks, Advances}
use Rattle.link_frames.specs.declared.begun.Begun.{Begun}
use Rattle.link_frames.specs.declared.next.Next.{Next}
use Rattle.link_frames.specs.declared.next.Next.TheVariants as next
use Rattle.link_frames.specs.declared.next.Ending.TheVariants as ending
use Rattle.link_frames.specs.declared.paused.Part.TheVariants as part
use Rattle.link_frames.specs.declared.paused.Paused.{Paused}
use Rattle.link_frames.proofs.FramesLemmas.{length-frame_bytes}

pub take-header : (header : Header) (behind : List ℕ) → take 16 (header_bytes header ++ behind) ≡ header_bytes header
take-header header behind = rw (length-header_bytes header) at (take-append_seam (header_bytes header) behind)

-- a front of the window is taken up behind what was
pub split_window : (front body window : List ℕ) (n : ℕ) → front ++ (body ++ window) ≡ (front ++ (body ++ take n window)) ++ drop n window
split_window front body window n =
    let inner = append_assoc body (take n window) (drop n window) ∙ ap (λ (l : List ℕ). body ++ l) (take-append-drop n window) in
    sym (append_assoc front (body ++ take n window) (drop n window) ∙ ap (λ (l : List ℕ). front ++ l) inner)

pub unfinished_body : (header : Header) (behind : List ℕ) → IsHeader header → length behind < header.length → IsUnfinished (header_bytes header ++ behind)
unfinished_body header behind fits short =
    inr (header, (take-header header behind, fits), omega (arith, length-append (header_bytes header) behind, length-header_bytes header))

all_taken : (n : ℕ) (window : List ℕ) → n ≡ length window → drop n window ≡ []
all_taken n window e = rw e (drop-length window)

-- a frame that has begun took up a front of the window
pub record TakesUp (begun later : Begun) (window : List ℕ) (n : ℕ) : Type 0 where
  pub count : n ≡ min (left_of begun) (length window)
  pub header : header_of later ≡ header_of begun
  pub left : left_of later + n ≡ left_of begun
  pub took : (body : List ℕ) → Took begun body → Took later (body ++ take n window)

module _ (begun later : Begun) (window : List ℕ) (n : ℕ) (takes : TakesUp begun later window n) (place : ℕ) (after : Paused) (left_over : after.window ≡ drop n window) where
  pub more_body : 0 < left_of later → after.part ≡ part.Begun later → after.place ≡ place → (body : List ℕ) → Took begun body → Advances place (header_bytes (header_of begun) ++ (body ++ window)) after None
  more_body more is_part is_place body has =
      let header = header_of begun in
      let taken = header_bytes header ++ (body ++ take n window) in
      let short : length (body ++ window) < header.length = omega (arith, takes.count, takes.left, has.count, length-append body window) in
      let left : n ≡ length window = omega (arith, takes.count, takes.left) in
      let part_holds : HoldsPart (part.Begun later) taken = (body ++ take n window, takes.took body has, ap (λ h. header_bytes h ++ (body ++ take n window)) (sym takes.header)) in
      let held : Holds after (header_bytes header ++ (body ++ window)) = record {
        taken = taken;
        part = subst (λ p. HoldsPart p taken) (sym is_part) part_holds;
        split = rw left_over (split_window (header_bytes header) body window n);
      } in
      (unfinished_body header (body ++ window) begun.whole short, held, is_place, left_over ∙ all_taken n window left)

  pub passes_body : left_of later ≡ 0 → after.part ≡ part.Head [] → after.place ≡ place + (16 + (header_of later).length) → (body : List ℕ) → Took begun body → Passes place (header_bytes (header_of begun) ++ (body ++ window)) after (record { header = header_of later; body = body ++ take n window })
  passes_body whole is_part is_place body has =
      let frame : Frame = record { header = header_of later; body = body ++ take n window } in
      let count = (takes.took body has).count in
      let sized : length (body ++ take n window) ≡ (header_of later).length = omega (arith, count, whole) in
      record {
        whole = record { header = later.whole; length = sized };
        rest = drop n window;
        split = rw takes.header (split_window (header_bytes (header_of begun)) body window n);
        holds = record { taken = []; part = subst (λ p. HoldsPart p []) (sym is_part) refl; split = sym left_over };
        moved = omega (arith, is_place, sized, length-frame_bytes frame);
        between = is_part;
      }

  pub whole_body : left_of later ≡ 0 → after.part ≡ part.Head [] → after.place ≡ place + (16 + (header_of later).length) → (answer : Next) → ((body : List ℕ) → Took later body → Finishes (header_of later) body answer) → (body : List ℕ) → Took begun body → Advances place (header_bytes (header_of begun) ++ (body ++ window)) after (Some answer)
  whole_body whole is_part is_place (next.Frame header bytes) ends body has =
      let same = ends (body ++ take n window) (takes.took body has) in
      rw (same.0, same.1) (passes_body whole is_part is_place body has)
  whole_body whole is_part is_place (next.NoMemory header) ends body has =
      let same = ends (body ++ take n window) (takes.took body has) in
      (body ++ take n window, rw same (passes_body whole is_part is_place body has))
  whole_body whole is_part is_place next.End ends body has = absurd (ends (body ++ take n window) (takes.took body has))
  whole_body whole is_part is_place (next.Lost faults) ends body has = absurd (ends (body ++ take n window) (takes.took body has))
  whole_body whole is_part is_place (next.Broken at head) ends body has = absurd (ends (body ++ take n window) (takes.took body has))
  whole_body whole is_part is_place (next.CutShort at) ends body has = absurd (ends (body ++ take n window) (takes.took body has))

-- ---- the header

front_taken : (head window : List ℕ) (n : ℕ) → head ++ window ≡ (head ++ take n window) ++ drop n window
front_taken head window n =
    sym (append_assoc head (take n window) (drop n window) ∙ ap (λ (l : List ℕ). head ++ l) (take-append-drop n window))

pub filled_split : (head window filled rest : List ℕ) (n : ℕ) → filled ≡ head ++ take n window → rest ≡ drop n window → head ++ window ≡ filled ++ rest
filled_split head window filled rest n f r = rw (f, r) (front_taken head window n)

pub begins_at : (head window filled rest : List ℕ) (n : ℕ) (header begun : Header) → filled ≡ head ++ take n window → rest ≡ drop n window → filled ≡ header_bytes header → begun ≡ header → head ++ window ≡ header_bytes begun ++ rest
begins_at head window filled rest n header begun f r s e =
    filled_split head window filled rest n f r ∙ ap (λ (l : List ℕ). l ++ rest) (s ∙ ap header_bytes (sym e))

pub front_of : (bytes front rest : List ℕ) → bytes ≡ front ++ rest → length front ≡ 16 → take 16 bytes ≡ front
front_of bytes front rest e l = rw e (rw l at (take-append_seam front rest))

pub record HasBegun (paused : Paused) (begun : Begun) (held : List ℕ) : Type 0 where
  pub body : List ℕ
  pub took : Took begun body
  pub split : held ≡ header_bytes (header_of begun) ++ (body ++ paused.window)

pub holds_begun : (paused : Paused) (begun : Begun) (held : List ℕ) → paused.part ≡ part.Begun begun → Holds paused held → HasBegun paused begun held
holds_begun paused begun held e holds =
    let has : HoldsPart (part.Begun begun) holds.taken = subst (λ p. HoldsPart p holds.taken) e holds.part in
    record {
      body = has.0;
      took = has.1;
      split = holds.split ∙ ap (λ (l : List ℕ). l ++ paused.window) has.2 ∙ append_assoc (header_bytes (header_of begun)) has.0 paused.window;
    }

pub more_head : (head window later : List ℕ) (n place : ℕ) (after : Paused) → n ≡ min (16 - length head) (length window) → later ≡ head ++ take n window → length later < 16 → after.part ≡ part.Head later → after.window ≡ drop n window → after.place ≡ place → Advances place (head ++ window) after None
more_head head window later n place after count filled short is_part is_window is_place =
    let counted : length later ≡ length head + min n (length window) = ap length filled ∙ length-append head (take n window) ∙ ap (λ m. length head + m) (length-take n window) in
    let left : n ≡ length window = omega arith in
    let held : Holds after (head ++ window) = record {
      taken = later;
      part = subst (λ p. HoldsPart p later) (sym is_part) refl;
      split = filled_split head window later after.window n filled is_window;
    } in
    (inl (omega (arith, length-append head window)), held, is_place, is_window ∙ all_taken n window left)

pub broken_head : (head window later rest : List ℕ) (n place : ℕ) (after : Paused) → later ≡ head ++ take n window → rest ≡ drop n window → length later ≡ 16 → SpellsNone later → after.part ≡ part.Ended (ending.Broken place later) → after.place ≡ place → Breaks place (head ++ window) after place later
broken_head head window later rest n place after filled left sixteen none is_part is_place = record {
  here = refl;
  front = front_of (head ++ window) later rest (filled_split head window later rest n filled left) sixteen;
  sixteen = sixteen;
  none = none;
  ended = is_part;
  stays = is_place;
}
