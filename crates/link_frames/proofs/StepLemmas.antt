-- What a step leaves, over plain states of a reader and its source.
use Rattle.std.proofs.Common.{◌≡◌, ◌≢◌, ℕ, ◌+◌, ◌-◌, ◌<◌, ◌≤◌, ◌⊎◌, List, [], ◌++◌, length, replicate, Option, None, Some, IsTrue, inl, inr, refl, sym, ap, subst, ◌∙◌, append_assoc, length-append, arith}
use Rattle.std.specs.Prelude.{IfSome}
use Rattle.std.specs.Option.{ForSome}
use Rattle.std.proofs.lemmas.List.{append-nil, length-replicate}
use Rattle.dubbo_header.specs.Header.{header_bytes}
use Rattle.dubbo_header.proofs.HeaderLemmas.{length-header_bytes}
use Rattle.dubbo_io.specs.Count.{Rose}
use Rattle.dubbo_io.specs.Source.{SourceState, GoesOn}
use Rattle.dubbo_io.proofs.Going.{GoesOn-none, GoesOn-join}
use Rattle.link_frames.specs.Frames.{frame_bytes}
use Rattle.link_frames.specs.Begun.{header_of, Took}
use Rattle.link_frames.specs.Next.{next_of}
use Rattle.link_frames.specs.Paused.{HoldsPart, Holds, HasEnded, IsUnfinished, Advances, count_at, held_count}
use Rattle.link_frames.specs.Steps.{GoesWith, EndsAt, StepAnswers, Steps}
use Rattle.link_frames.specs.declared.begun.Begun.{Begun}
use Rattle.link_frames.specs.declared.next.Next.{Next}
use Rattle.link_frames.specs.declared.next.Next.TheVariants as next
use Rattle.link_frames.specs.declared.next.Ending.{Ending}
use Rattle.link_frames.specs.declared.next.Ending.TheVariants as ending
use Rattle.link_frames.specs.declared.paused.Part.{Part}
use Rattle.link_frames.specs.declared.paused.Part.TheVariants as part
use Rattle.link_frames.specs.declared.paused.Paused.{Paused}

-- ---- what a reader holds

kept_body : {V : Type 0} (items : V → List ℕ) (kept : Option V) (size left : ℕ) → left ≤ size → ForSome kept (λ v. length (items v) + left ≡ size) → (body : List ℕ) × (length body + left ≡ size) × IfSome kept (λ v. items v ≡ body)
kept_body items None size left within fits =
    (replicate (size - left) 0, omega (arith, length-replicate {A = ℕ} (size - left) 0), tt)
kept_body items (Some v) size left within fits = (items v, fits v refl, refl)

pub some_body : (begun : Begun) → (body : List ℕ) × Took begun body
some_body begun =
    let body = kept_body (λ v. v.items) begun.kept begun.header.length begun.left begun.within (λ v e. omega (arith, (begun.fits v e).0, v.ok.0)) in
    (body.0, record { count = body.1; kept = body.2 })

some_taken : (p : Part) → ((e : Ending) × (p ≡ part.Ended e)) ⊎ ((taken : List ℕ) × HoldsPart p taken)
some_taken (part.Head head) = inr (head, refl)
some_taken (part.Begun begun) =
    let body = some_body begun in
    inr (header_bytes (header_of begun) ++ body.0, (body.0, body.1, refl))
some_taken (part.Ended e) = inl (e, refl)

-- a reader has ended, or holds some bytes
pub stands : (paused : Paused) → ((e : Ending) × HasEnded paused e) ⊎ ((held : List ℕ) × Holds paused held)
stands paused = elim (some_taken paused.part) as (λ _. ((e : Ending) × HasEnded paused e) ⊎ ((held : List ℕ) × Holds paused held)) [
  | inl e ↦ inl e
  | inr t ↦ inr (t.0 ++ paused.window, record { taken = t.0; part = t.1; split = refl })
]

pub open_holds : (paused : Paused) → ((e : Ending) → HasEnded paused e → ⊥) → (held : List ℕ) × Holds paused held
open_holds paused going = elim (stands paused) as (λ _. (held : List ℕ) × Holds paused held) [
  | inl e ↦ absurd (going e.0 e.1)
  | inr h ↦ h
]

count_taken : (p : Part) (taken : List ℕ) (behind : ℕ) → HoldsPart p taken → length taken + behind ≡ count_at p behind
count_taken (part.Head head) taken behind h = ap (λ (l : List ℕ). length l + behind) h
count_taken (part.Begun begun) taken behind h =
    omega (arith, ap length h.2, length-append (header_bytes (header_of begun)) h.0, length-header_bytes (header_of begun), h.1.count)
count_taken (part.Ended e) taken behind h = absurd h

pub length-held : (paused : Paused) (held : List ℕ) → Holds paused held → length held ≡ held_count paused
length-held paused held h =
    ap length h.split ∙ length-append h.taken paused.window ∙ count_taken paused.part h.taken (length paused.window) h.part

pub holds_open : (paused : Paused) (held : List ℕ) (e : Ending) → Holds paused held → HasEnded paused e → ⊥
holds_open paused held e h ended = subst (λ p. HoldsPart p h.taken) ended h.part

-- what came stands behind what was held
pub holds_more : (mid later : Paused) (held came : List ℕ) → Holds mid held → mid.window ≡ [] → later.part ≡ mid.part → later.window ≡ came → Holds later (held ++ came)
holds_more mid later held came h empty same window = record {
  taken = h.taken;
  part = subst (λ p. HoldsPart p h.taken) (sym same) h.part;
  split = rw (window, h.split, empty, append-nil) refl;
}

-- ---- what the bytes held answer

count_after : (place : ℕ) (held : List ℕ) (after : Paused) (answer : Option Next) → Advances place held after answer → after.place + held_count after ≤ place + length held
count_after place held after None a = omega (arith, a.2, length-held after held a.1)
count_after place held after (Some (next.Frame header body)) a =
    omega (arith, a.moved, length-held after a.rest a.holds, ap length a.split, length-append (frame_bytes (record { header = header; body = body })) a.rest)
count_after place held after (Some (next.NoMemory header)) a =
    omega (arith, a.1.moved, length-held after a.1.rest a.1.holds, ap length a.1.split, length-append (frame_bytes (record { header = header; body = a.0 })) a.1.rest)
count_after place held after (Some next.End) a = absurd a
count_after place held after (Some (next.Lost faults)) a = absurd a
count_after place held after (Some (next.Broken at head)) a =
    omega (arith, a.stays, ap (λ p. count_at p (length after.window)) a.ended)
count_after place held after (Some (next.CutShort at)) a = absurd a

-- only broken bytes end a reader without a read
abbrev IsBroken : Ending → Type 0
IsBroken ending.End = ⊥
IsBroken (ending.Lost faults) = ⊥
IsBroken (ending.Broken at head) = Unit {0}
IsBroken (ending.CutShort at) = ⊥

ended_broken : (place : ℕ) (held : List ℕ) (after : Paused) (answer : Option Next) → Advances place held after answer → (e : Ending) → HasEnded after e → IsBroken e
ended_broken place held after None a e has = absurd (holds_open after held e a.1 has)
ended_broken place held after (Some (next.Frame header body)) a e has = absurd (holds_open after a.rest e a.holds has)
ended_broken place held after (Some (next.NoMemory header)) a e has = absurd (holds_open after a.1.rest e a.1.holds has)
ended_broken place held after (Some next.End) a e has = absurd a
ended_broken place held after (Some (next.Lost faults)) a e has = absurd a
ended_broken place held after (Some (next.Broken at head)) a e has =
    let same : part.Ended (ending.Broken at head) ≡ part.Ended e = sym a.ended ∙ has in
    let inner : ending.Broken at head ≡ e = cc in
    subst IsBroken inner tt
ended_broken place held after (Some (next.CutShort at)) a e has = absurd a

pub advance_fits : {Badge : Type 0} (now : SourceState Badge) (place : ℕ) (held : List ℕ) (after : Paused) (answer : Option Next) → place + length held ≤ now.count → Advances place held after answer → GoesWith after now
advance_fits now place held after answer within a = record {
  count = omega (arith, count_after place held after answer a);
  over = λ has. absurd (ended_broken place held after answer a ending.End has);
  cut = λ at has. absurd (ended_broken place held after answer a (ending.CutShort at) has);
  lost = λ faults has. absurd (ended_broken place held after answer a (ending.Lost faults) has);
}

-- ---- the answers of a step

-- an answer that came with a read of these bytes, or with none
pub step_some : {Badge : Type 0} (old new : SourceState Badge) (place : ℕ) (held came : List ℕ) (after : Paused) (answer : Next) → GoesOn old new came → Advances place (held ++ came) after (Some answer) → Steps old new place held after (Some answer)
step_some old new place held came after (next.Frame header body) goes a = record { came = came; goes_on = goes; answers = a }
step_some old new place held came after (next.NoMemory header) goes a = record { came = came; goes_on = goes; answers = a }
step_some old new place held came after next.End goes a = absurd a
step_some old new place held came after (next.Lost faults) goes a = absurd a
step_some old new place held came after (next.Broken at head) goes a = record { came = came; goes_on = goes; answers = a }
step_some old new place held came after (next.CutShort at) goes a = absurd a

pub step_held : {Badge : Type 0} (now : SourceState Badge) (place : ℕ) (held : List ℕ) (after : Paused) (answer : Next) → Advances place held after (Some answer) → Steps now now place held after (Some answer)
step_held now place held after answer a =
    step_some now now place held [] after answer (GoesOn-none now) (subst (λ (l : List ℕ). Advances place l after (Some answer)) (sym (append-nil held)) a)

pub step_more : {Badge : Type 0} (old new : SourceState Badge) (place : ℕ) (held came : List ℕ) (after : Paused) (answer : Option Next) → GoesOn old new came → 0 < length came → Advances place (held ++ came) after answer → Steps old new place held after answer
step_more old new place held came after None goes some a = record {
  came = came;
  goes_on = goes;
  answers = (some, a.0, a.1, a.2);
}
step_more old new place held came after (Some answer) goes some a = step_some old new place held came after answer goes a

-- ---- the end of a source

pub not_empty : (paused : Paused) (held : List ℕ) → Holds paused held → 0 < held_count paused → held ≢ []
not_empty paused held h some e = omega (arith, length-held paused held h, ap length e)

pub end_fits : {Badge : Type 0} (now : SourceState Badge) (place : ℕ) (held : List ℕ) (after : Paused) (e : Ending) → EndsAt place held e → HasEnded after e → after.place ≤ now.count → IsTrue now.ended → GoesWith after now
end_fits now place held after ending.End ends has within over = record {
  count = omega (arith, ap (λ p. count_at p (length after.window)) has);
  over = λ _. over;
  cut = λ _ _. over;
  lost = λ faults lost. absurd (let e = sym has ∙ lost in cc);
}
end_fits now place held after (ending.Lost faults) ends has within over = absurd ends
end_fits now place held after (ending.Broken at head) ends has within over = absurd ends
end_fits now place held after (ending.CutShort at) ends has within over = record {
  count = omega (arith, ap (λ p. count_at p (length after.window)) has);
  over = λ _. over;
  cut = λ _ _. over;
  lost = λ faults lost. absurd (let e = sym has ∙ lost in cc);
}

pub step_end : {Badge : Type 0} (old new : SourceState Badge) (place : ℕ) (held came : List ℕ) (after : Paused) (e : Ending) → GoesOn old new came → came ≡ [] → IsUnfinished held → EndsAt place (held ++ came) e → HasEnded after e → IsTrue new.ended → Steps old new place held after (Some (next_of e))
step_end old new place held came after ending.End goes none unfinished ends has over =
    record { came = came; goes_on = goes; answers = (ends, over, has) }
step_end old new place held came after (ending.Lost faults) goes none unfinished ends has over = absurd ends
step_end old new place held came after (ending.Broken at head) goes none unfinished ends has over = absurd ends
step_end old new place held came after (ending.CutShort at) goes none unfinished ends has over =
    let same : held ++ came ≡ held = ap (λ (l : List ℕ). held ++ l) none ∙ append-nil held in
    record { came = came; goes_on = goes; answers = (ends.0, ends.1, subst IsUnfinished (sym same) unfinished, over, has) }

pub lost_fits : {Badge : Type 0} (old now : SourceState Badge) (after : Paused) → HasEnded after (ending.Lost 1) → after.place ≤ now.count → Rose old.faults now.faults → GoesWith after now
lost_fits old now after has within rose = record {
  count = omega (arith, ap (λ p. count_at p (length after.window)) has);
  over = λ over. absurd (let e = sym has ∙ over in cc);
  cut = λ at cut. absurd (let e = sym has ∙ cut in cc);
  lost = λ faults lost. let same : part.Ended (ending.Lost 1) ≡ part.Ended (ending.Lost faults) = sym has ∙ lost in let one : 1 ≡ faults = cc in (omega arith, omega (arith, rose));
}

-- ---- a reader at the first byte of a stream

pub fresh_fits : {Badge : Type 0} (now : SourceState Badge) (paused : Paused) → Holds paused [] → paused.place ≡ 0 → GoesWith paused now
fresh_fits now paused holds start = record {
  count = omega (arith, length-held paused [] holds);
  over = λ has. absurd (holds_open paused [] ending.End holds has);
  cut = λ at has. absurd (holds_open paused [] (ending.CutShort at) holds has);
  lost = λ faults has. absurd (holds_open paused [] (ending.Lost faults) holds has);
}

-- ---- several steps

pub later_answers : {Badge : Type 0} (a b c : SourceState Badge) (place : ℕ) (held bytes came all : List ℕ) (after : Paused) (answer : Next) → held ++ came ≡ bytes → a.faults ≤ b.faults → StepAnswers b c place (held ++ came) came after (Some answer) → StepAnswers a c place bytes all after (Some answer)
later_answers a b c place held bytes came all after (next.Frame header body) e le s = subst (λ (l : List ℕ). StepAnswers a c place l all after (Some (next.Frame header body))) e s
later_answers a b c place held bytes came all after (next.NoMemory header) e le s = subst (λ (l : List ℕ). StepAnswers a c place l all after (Some (next.NoMemory header))) e s
later_answers a b c place held bytes came all after next.End e le s = subst (λ (l : List ℕ). StepAnswers a c place l all after (Some next.End)) e s
later_answers a b c place held bytes came all after (next.Lost faults) e le s = (omega (arith, s.0), s.1, s.2, s.3)
later_answers a b c place held bytes came all after (next.Broken at head) e le s = subst (λ (l : List ℕ). StepAnswers a c place l all after (Some (next.Broken at head))) e s
later_answers a b c place held bytes came all after (next.CutShort at) e le s = subst (λ (l : List ℕ). StepAnswers a c place l all after (Some (next.CutShort at))) e s

-- a step behind others that gave no answer
pub step_after : {Badge : Type 0} (a b c : SourceState Badge) (place : ℕ) (held came : List ℕ) (after : Paused) (answer : Next) → GoesOn a b came → Steps b c place (held ++ came) after (Some answer) → Steps a c place held after (Some answer)
step_after a b c place held came after answer first step = record {
  came = came ++ step.came;
  goes_on = GoesOn-join a b c came step.came first step.goes_on;
  answers = later_answers a b c place (held ++ came) (held ++ (came ++ step.came)) step.came (came ++ step.came) after answer (append_assoc held came step.came) first.faults step.answers;
}
