-- What a reader holds once it fed bytes of its window to a body.
use Rattle.std.proofs.Common.{◌≡◌, ℕ, ◌+◌, ◌-◌, ◌<◌, min, List, [], ◌++◌, length, take, drop, Option, None, Some, refl, sym, ap, subst, ◌∙◌, length-append, length-take, arith}
use Rattle.std.specs.Prelude.{IfSome}
use Rattle.dubbo_header.specs.declared.header.Header.{Header}
use Rattle.dubbo_header.specs.Header.{header_bytes}
use Rattle.link_frames.specs.Begun.{header_of, left_of, Took, KeepsNone}
use Rattle.link_frames.specs.Next.{next_of}
use Rattle.link_frames.specs.Paused.{Advances}
use Rattle.link_frames.specs.NextWith.{HoldsPartFed, HoldsFed, StandsFed, AdvancesFed, next_fed, with_of}
use Rattle.link_frames.specs.declared.begun.Begun.{Begun}
use Rattle.link_frames.specs.declared.next.Ending.{Ending}
use Rattle.link_frames.specs.declared.next.Ending.TheVariants as ending
use Rattle.link_frames.specs.declared.next_with.NextWith.TheVariants as outcome
use Rattle.link_frames.specs.declared.paused.Part.TheVariants as part
use Rattle.link_frames.specs.declared.paused.Paused.{Paused}
use Rattle.link_frames.proofs.PausedLemmas.{TakesUp, more_body, passes_body, split_window, filled_split, more_head}

-- a body of which nothing is kept may be any of its length
took_none : (begun : Begun) (body : List ℕ) → KeepsNone begun → length body + left_of begun ≡ (header_of begun).length → Took begun body
took_none begun body none count = record { count = count; kept = subst (λ k. IfSome k (λ bytes. bytes.items ≡ body)) (sym none) tt }

pub record Feeds (begun later : Begun) (window fed after : List ℕ) (n : ℕ) : Type 0 where
  pub count : n ≡ min (left_of begun) (length window)
  pub header : header_of later ≡ header_of begun
  pub left : left_of later + n ≡ left_of begun
  pub none : KeepsNone begun
  pub still : KeepsNone later
  pub size : length fed + left_of begun ≡ (header_of begun).length
  pub grows : after ≡ fed ++ take n window

module _ (begun later : Begun) (window fed fed_then : List ℕ) (n : ℕ) (feeds : Feeds begun later window fed fed_then n) (place : ℕ) (after : Paused) (left_over : after.window ≡ drop n window) (started : Option Header) (is_started : started ≡ Some (header_of begun)) where
  takes : TakesUp begun later window n
  takes = record {
    count = feeds.count;
    header = feeds.header;
    left = feeds.left;
    took = λ body has. took_none later (body ++ take n window) feeds.still (omega (arith, feeds.count, feeds.left, has.count, length-append body (take n window), length-take n window, ap (λ h. h.length) feeds.header));
  }

  size_then : length fed_then + left_of later ≡ (header_of begun).length
  size_then = omega (arith, ap length feeds.grows, feeds.count, feeds.left, feeds.size, length-append fed (take n window), length-take n window)

  pub more_fed : 0 < left_of later → after.part ≡ part.Begun later → after.place ≡ place → AdvancesFed place (header_bytes (header_of begun) ++ (fed ++ window)) after started fed_then None
  more_fed more is_part is_place =
      let plain = more_body begun later window n takes place after left_over more is_part is_place fed (took_none begun fed feeds.none feeds.size) in
      let taken = header_bytes (header_of begun) ++ fed_then in
      let part_holds : HoldsPartFed (part.Begun later) fed_then taken = (size_then ∙ ap (λ h. h.length) (sym feeds.header), ap (λ h. header_bytes h ++ fed_then) (sym feeds.header)) in
      let held : HoldsFed after fed_then (header_bytes (header_of begun) ++ (fed ++ window)) = record {
        taken = taken;
        part = subst (λ p. HoldsPartFed p fed_then taken) (sym is_part) part_holds;
        split = rw (left_over, feeds.grows) (split_window (header_bytes (header_of begun)) fed window n);
      } in
      let of_later : (b : Begun) → after.part ≡ part.Begun b → later ≡ b = λ b e. let both = sym is_part ∙ e in cc in
      record {
        plain = plain;
        holding = λ _. held;
        stands = record {
          header = λ b e. is_started ∙ ap Some (sym feeds.header ∙ ap header_of (of_later b e));
          count = λ b e. subst (λ x. length fed_then + left_of x ≡ (header_of x).length) (of_later b e) (size_then ∙ ap (λ h. h.length) (sym feeds.header));
        };
        frame = λ header e. absurd cc;
        between = λ header e. absurd cc;
      }

  pub whole_fed : (header : Header) → header ≡ header_of later → left_of later ≡ 0 → after.part ≡ part.Head [] → after.place ≡ place + (16 + (header_of later).length) → AdvancesFed place (header_bytes (header_of begun) ++ (fed ++ window)) after started fed_then (Some (outcome.Frame header))
  whole_fed header is_header whole is_part is_place =
      let passes = passes_body begun later window n takes place after left_over whole is_part is_place fed (took_none begun fed feeds.none feeds.size) in
      record {
        plain = rw (is_header, feeds.grows) passes;
        holding = λ e. absurd cc;
        stands = record {
          header = λ b e. absurd (let both = sym is_part ∙ e in cc);
          count = λ b e. absurd (let both = sym is_part ∙ e in cc);
        };
        frame = λ h e. is_started ∙ ap Some (sym feeds.header ∙ sym is_header ∙ (let x = e in cc));
        between = λ h e. is_part;
      }

-- ---- the header

pub not_begun : (after : Paused) (head : List ℕ) (started : Option Header) (fed : List ℕ) → after.part ≡ part.Head head → StandsFed after started fed
not_begun after head started fed is_part = record {
  header = λ b e. absurd (let both = sym is_part ∙ e in cc);
  count = λ b e. absurd (let both = sym is_part ∙ e in cc);
}

pub more_head_fed : (head window later : List ℕ) (n place : ℕ) (after : Paused) (started : Option Header) (fed : List ℕ) → n ≡ min (16 - length head) (length window) → later ≡ head ++ take n window → length later < 16 → after.part ≡ part.Head later → after.window ≡ drop n window → after.place ≡ place → AdvancesFed place (head ++ window) after started fed None
more_head_fed head window later n place after started fed count filled short is_part is_window is_place =
    let held : HoldsFed after fed (head ++ window) = record {
      taken = later;
      part = subst (λ p. HoldsPartFed p fed later) (sym is_part) refl;
      split = filled_split head window later after.window n filled is_window;
    } in
    record {
      plain = more_head head window later n place after count filled short is_part is_window is_place;
      holding = λ _. held;
      stands = not_begun after later started fed is_part;
      frame = λ header e. absurd cc;
      between = λ header e. absurd cc;
    }

pub fed_ending : (fed : List ℕ) (e : Ending) → next_fed fed (with_of e) ≡ next_of e
fed_ending fed ending.End = refl
fed_ending fed (ending.Lost faults) = refl
fed_ending fed (ending.Broken at head) = refl
fed_ending fed (ending.CutShort at) = refl

pub no_frame : (e : Ending) (header : Header) → with_of e ≡ outcome.Frame header → ⊥
no_frame ending.End header x = cc
no_frame (ending.Lost faults) header x = cc
no_frame (ending.Broken at head) header x = cc
no_frame (ending.CutShort at) header x = cc

-- an answer that a reader stays with
pub ended_fed : (place : ℕ) (held : List ℕ) (after : Paused) (started : Option Header) (fed : List ℕ) (e : Ending) → after.part ≡ part.Ended e → Advances place held after (Some (next_of e)) → AdvancesFed place held after started fed (Some (with_of e))
ended_fed place held after started fed e is_part a = record {
  plain = subst (λ answer. Advances place held after (Some answer)) (sym (fed_ending fed e)) a;
  holding = λ x. absurd cc;
  stands = record {
    header = λ b x. absurd (let both = sym is_part ∙ x in cc);
    count = λ b x. absurd (let both = sym is_part ∙ x in cc);
  };
  frame = λ header x. absurd (no_frame e header (let y = x in cc));
  between = λ header x. absurd (no_frame e header (let y = x in cc));
}
