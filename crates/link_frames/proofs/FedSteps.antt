-- What a step leaves that feeds a body, over plain states.
use Rattle.std.proofs.Common.{◌≡◌, ℕ, ◌+◌, ◌<◌, ◌⊎◌, List, [], ◌++◌, length, Option, None, Some, IsTrue, inl, inr, refl, sym, ap, subst, ◌∙◌, append_assoc, length-append, arith}
use Rattle.std.proofs.lemmas.Bool.{cases_lt}
use Rattle.std.proofs.lemmas.List.{append-nil}
use Rattle.dubbo_header.specs.declared.header.Header.{Header}
use Rattle.dubbo_header.specs.Header.{header_bytes}
use Rattle.dubbo_header.proofs.HeaderLemmas.{length-header_bytes}
use Rattle.dubbo_io.specs.Source.{SourceState, GoesOn}
use Rattle.dubbo_io.proofs.Going.{GoesOn-none}
use Rattle.link_frames.specs.Begun.{header_of, left_of}
use Rattle.link_frames.specs.Next.{next_of}
use Rattle.link_frames.specs.Paused.{HoldsPart, HasEnded, IsUnfinished, Advances, count_at, held_count}
use Rattle.link_frames.specs.Steps.{EndsAt, StepAnswers, IsReady}
use Rattle.link_frames.specs.NextWith.{HoldsPartFed, HoldsFed, StandsFed, AdvancesFed, StepsFed, next_fed, with_of}
use Rattle.link_frames.specs.declared.begun.Begun.{Begun}
use Rattle.link_frames.specs.declared.next.Ending.{Ending}
use Rattle.link_frames.specs.declared.next.Ending.TheVariants as ending
use Rattle.link_frames.specs.declared.next_with.NextWith.{NextWith}
use Rattle.link_frames.specs.declared.next_with.NextWith.TheVariants as outcome
use Rattle.link_frames.specs.declared.paused.Part.{Part}
use Rattle.link_frames.specs.declared.paused.Part.TheVariants as part
use Rattle.link_frames.specs.declared.paused.Paused.{Paused}
use Rattle.link_frames.proofs.PausedLemmas.{unfinished_body}
use Rattle.link_frames.proofs.ReadyLemmas.{decided_whole}
use Rattle.link_frames.proofs.FedLemmas.{fed_ending, no_frame}

-- ---- what a reader holds

taken_fed : (p : Part) (fed : List ℕ) → ((begun : Begun) → p ≡ part.Begun begun → length fed + left_of begun ≡ (header_of begun).length) → ((e : Ending) × (p ≡ part.Ended e)) ⊎ ((taken : List ℕ) × HoldsPartFed p fed taken)
taken_fed (part.Head head) fed count = inr (head, refl)
taken_fed (part.Begun begun) fed count = inr (header_bytes (header_of begun) ++ fed, (count begun refl, refl))
taken_fed (part.Ended e) fed count = inl (e, refl)

pub stands_fed : (paused : Paused) (started : Option Header) (fed : List ℕ) → StandsFed paused started fed → ((e : Ending) × HasEnded paused e) ⊎ ((held : List ℕ) × HoldsFed paused fed held)
stands_fed paused started fed stands = elim (taken_fed paused.part fed stands.count) as (λ _. ((e : Ending) × HasEnded paused e) ⊎ ((held : List ℕ) × HoldsFed paused fed held)) [
  | inl e ↦ inl e
  | inr t ↦ inr (t.0 ++ paused.window, record { taken = t.0; part = t.1; split = refl })
]

pub going_fed : (paused : Paused) (started : Option Header) (fed : List ℕ) → StandsFed paused started fed → ((e : Ending) → HasEnded paused e → ⊥) → (held : List ℕ) × HoldsFed paused fed held
going_fed paused started fed stands going = elim (stands_fed paused started fed stands) as (λ _. (held : List ℕ) × HoldsFed paused fed held) [
  | inl e ↦ absurd (going e.0 e.1)
  | inr h ↦ h
]

count_fed : (p : Part) (fed taken : List ℕ) (behind : ℕ) → HoldsPartFed p fed taken → length taken + behind ≡ count_at p behind
count_fed (part.Head head) fed taken behind h = ap (λ (l : List ℕ). length l + behind) h
count_fed (part.Begun begun) fed taken behind h =
    omega (arith, ap length h.1, length-append (header_bytes (header_of begun)) fed, length-header_bytes (header_of begun), h.0)
count_fed (part.Ended e) fed taken behind h = absurd h

pub length-fed : (paused : Paused) (fed held : List ℕ) → HoldsFed paused fed held → length held ≡ held_count paused
length-fed paused fed held h =
    ap length h.split ∙ length-append h.taken paused.window ∙ count_fed paused.part fed h.taken (length paused.window) h.part

pub holds_more_fed : (mid later : Paused) (fed held came : List ℕ) → HoldsFed mid fed held → mid.window ≡ [] → later.part ≡ mid.part → later.window ≡ came → HoldsFed later fed (held ++ came)
holds_more_fed mid later fed held came h empty same window = record {
  taken = h.taken;
  part = subst (λ p. HoldsPartFed p fed h.taken) (sym same) h.part;
  split = rw (window, h.split, empty, append-nil) refl;
}

pub stands_same : (paused later : Paused) (started : Option Header) (fed : List ℕ) → later.part ≡ paused.part → StandsFed paused started fed → StandsFed later started fed
stands_same paused later started fed same stands = record {
  header = λ b e. stands.header b (sym same ∙ e);
  count = λ b e. stands.count b (sym same ∙ e);
}

pub stands_ended : (later : Paused) (e : Ending) (started : Option Header) (fed : List ℕ) → HasEnded later e → StandsFed later started fed
stands_ended later e started fed ended = record {
  header = λ b x. absurd (let both = sym ended ∙ x in cc);
  count = λ b x. absurd (let both = sym ended ∙ x in cc);
}

-- ---- whether the bytes are decided

same_part : (p : Part) (window fed taken other : List ℕ) → HoldsPartFed p fed taken → HoldsPart p other → IsUnfinished (taken ++ window) → IsUnfinished (other ++ window)
same_part (part.Head head) window fed taken other h k u = subst (λ (l : List ℕ). IsUnfinished (l ++ window)) (h ∙ sym k) u
same_part (part.Begun begun) window fed taken other h k u =
    let header = header_of begun in
    let split = ap (λ (l : List ℕ). l ++ window) h.1 ∙ append_assoc (header_bytes header) fed window in
    let other_split = ap (λ (l : List ℕ). l ++ window) k.2 ∙ append_assoc (header_bytes header) k.0 window in
    elim (cases_lt (length (k.0 ++ window)) header.length) as (λ _. IsUnfinished (other ++ window)) [
      | inl short ↦ subst IsUnfinished (sym other_split) (unfinished_body header (k.0 ++ window) begun.whole short)
      | inr long ↦ absurd (decided_whole (taken ++ window) header (fed ++ window) begun.whole split (omega (arith, h.0, k.1.count, length-append fed window, length-append k.0 window)) u)
    ]
same_part (part.Ended e) window fed taken other h k u = absurd h

-- a reader that found its bytes unfinished was not ready
pub not_ready : (paused : Paused) (fed held : List ℕ) → HoldsFed paused fed held → IsUnfinished held → ((e : Ending) → HasEnded paused e → ⊥) → IsReady paused → ⊥
not_ready paused fed held h u going (inl e) = going e.0 e.1
not_ready paused fed held h u going (inr r) =
    let same = same_part paused.part paused.window fed h.taken (r.1).taken h.part (r.1).part (subst IsUnfinished h.split u) in
    r.2 (subst IsUnfinished (sym (r.1).split) same)

-- ---- the answers of a step

some_answers : {Badge : Type 0} (old new : SourceState Badge) (place : ℕ) (bytes came : List ℕ) (after : Paused) (fed : List ℕ) (answer : NextWith) → Advances place bytes after (Some (next_fed fed answer)) → StepAnswers old new place bytes came after (Some (next_fed fed answer))
some_answers old new place bytes came after fed (outcome.Frame header) a = a
some_answers old new place bytes came after fed outcome.End a = absurd a
some_answers old new place bytes came after fed (outcome.Lost faults) a = absurd a
some_answers old new place bytes came after fed (outcome.Broken at head) a = a
some_answers old new place bytes came after fed (outcome.CutShort at) a = absurd a

pub fed_held : {Badge : Type 0} (now : SourceState Badge) (place : ℕ) (held : List ℕ) (after : Paused) (started : Option Header) (fed : List ℕ) (answer : NextWith) → AdvancesFed place held after started fed (Some answer) → StepsFed now now place held after started fed (Some answer)
fed_held now place held after started fed answer a = record {
  came = [];
  goes_on = GoesOn-none now;
  answers = some_answers now now place (held ++ []) [] after fed answer (subst (λ (l : List ℕ). Advances place l after (Some (next_fed fed answer))) (sym (append-nil held)) a.plain);
  holding = λ e. absurd cc;
  frame = a.frame;
  between = a.between;
}

pub fed_more : {Badge : Type 0} (old new : SourceState Badge) (place : ℕ) (held came : List ℕ) (after : Paused) (started : Option Header) (fed : List ℕ) (answer : Option NextWith) → GoesOn old new came → 0 < length came → AdvancesFed place (held ++ came) after started fed answer → StepsFed old new place held after started fed answer
fed_more old new place held came after started fed None goes some a = record {
  came = came;
  goes_on = goes;
  answers = (some, a.plain.0, a.plain.1, a.plain.2);
  holding = a.holding;
  frame = a.frame;
  between = a.between;
}
fed_more old new place held came after started fed (Some answer) goes some a = record {
  came = came;
  goes_on = goes;
  answers = some_answers old new place (held ++ came) came after fed answer a.plain;
  holding = a.holding;
  frame = a.frame;
  between = a.between;
}

end_answers : {Badge : Type 0} (old new : SourceState Badge) (place : ℕ) (bytes came : List ℕ) (after : Paused) (e : Ending) → IsUnfinished bytes → EndsAt place bytes e → HasEnded after e → IsTrue new.ended → StepAnswers old new place bytes came after (Some (next_of e))
end_answers old new place bytes came after ending.End u ends has over = (ends, over, has)
end_answers old new place bytes came after (ending.Lost faults) u ends has over = absurd ends
end_answers old new place bytes came after (ending.Broken at head) u ends has over = absurd ends
end_answers old new place bytes came after (ending.CutShort at) u ends has over = (ends.0, ends.1, u, over, has)

-- a step that ended the reader
pub fed_ended : {Badge : Type 0} (old new : SourceState Badge) (place : ℕ) (held came : List ℕ) (after : Paused) (started : Option Header) (fed : List ℕ) (e : Ending) → GoesOn old new came → StepAnswers old new place (held ++ came) came after (Some (next_of e)) → StepsFed old new place held after started fed (Some (with_of e))
fed_ended old new place held came after started fed e goes answers = record {
  came = came;
  goes_on = goes;
  answers = subst (λ answer. StepAnswers old new place (held ++ came) came after (Some answer)) (sym (fed_ending fed e)) answers;
  holding = λ x. absurd cc;
  frame = λ header x. absurd (no_frame e header (let y = x in cc));
  between = λ header x. absurd (no_frame e header (let y = x in cc));
}

pub fed_end : {Badge : Type 0} (old new : SourceState Badge) (place : ℕ) (held came : List ℕ) (after : Paused) (started : Option Header) (fed : List ℕ) (e : Ending) → GoesOn old new came → came ≡ [] → IsUnfinished held → EndsAt place (held ++ came) e → HasEnded after e → IsTrue new.ended → StepsFed old new place held after started fed (Some (with_of e))
fed_end old new place held came after started fed e goes none unfinished ends has over =
    let same : held ++ came ≡ held = ap (λ (l : List ℕ). held ++ l) none ∙ append-nil held in
    fed_ended old new place held came after started fed e goes (end_answers old new place (held ++ came) came after e (subst IsUnfinished (sym same) unfinished) ends has over)
