-- Steps that feed a body and gave no answer, one behind another.
use Rattle.std.proofs.Common.{◌≡◌, ℕ, ◌<◌, List, [], ◌++◌, Option, Some, None, refl, sym, subst, ◌∙◌, append_assoc, arith}
use Rattle.std.proofs.lemmas.List.{append-nil}
use Rattle.dubbo_header.specs.declared.header.Header.{Header}
use Rattle.dubbo_io.specs.Source.{SourceState, GoesOn}
use Rattle.dubbo_io.proofs.Going.{GoesOn-none, GoesOn-join}
use Rattle.link_frames.specs.NextWith.{HoldsFed, StepsFed, next_fed}
use Rattle.link_frames.specs.declared.next_with.NextWith.{NextWith}
use Rattle.link_frames.specs.declared.paused.Paused.{Paused}
use Rattle.link_frames.proofs.StepLemmas.{later_answers}

-- what came so far is held, or was fed, behind what was held at first
pub record CameFed {Badge : Type 0} (old now : SourceState Badge) (first later : Paused) (fed held : List ℕ) : Type 0 where
  pub came : List ℕ
  pub goes_on : GoesOn old now came
  pub holds : HoldsFed later fed (held ++ came)
  pub place : later.place ≡ first.place

pub fed_none : {Badge : Type 0} (now : SourceState Badge) (paused : Paused) (fed held : List ℕ) → HoldsFed paused fed held → CameFed now now paused paused fed held
fed_none now paused fed held holds = record {
  came = [];
  goes_on = GoesOn-none now;
  holds = subst (HoldsFed paused fed) (sym (append-nil held)) holds;
  place = refl;
}

pub fed_again : {Badge : Type 0} (a b c : SourceState Badge) (first mid later : Paused) (fed held : List ℕ) (started : Option Header) (fed_then : List ℕ) (so_far : CameFed a b first mid fed held) → StepsFed b c mid.place (held ++ so_far.came) later started fed_then None → CameFed a c first later fed_then held
fed_again a b c first mid later fed held started fed_then so_far step = record {
  came = so_far.came ++ step.came;
  goes_on = GoesOn-join a b c so_far.came step.came so_far.goes_on step.goes_on;
  holds = subst (HoldsFed later fed_then) (append_assoc held so_far.came step.came) (step.holding refl);
  place = step.answers.3 ∙ so_far.place;
}

pub fed_answer : {Badge : Type 0} (a b c : SourceState Badge) (first mid later : Paused) (fed held : List ℕ) (started : Option Header) (fed_then : List ℕ) (answer : NextWith) (so_far : CameFed a b first mid fed held) → StepsFed b c mid.place (held ++ so_far.came) later started fed_then (Some answer) → StepsFed a c first.place held later started fed_then (Some answer)
fed_answer a b c first mid later fed held started fed_then answer so_far step =
    let placed = subst (λ n. StepsFed b c n (held ++ so_far.came) later started fed_then (Some answer)) so_far.place step in
    record {
      came = so_far.came ++ placed.came;
      goes_on = GoesOn-join a b c so_far.came placed.came so_far.goes_on placed.goes_on;
      answers = later_answers a b c first.place (held ++ so_far.came) (held ++ (so_far.came ++ placed.came)) placed.came (so_far.came ++ placed.came) later (next_fed fed_then answer) (append_assoc held so_far.came placed.came) so_far.goes_on.faults placed.answers;
      holding = λ e. absurd cc;
      frame = placed.frame;
      between = placed.between;
    }

pub fed_some : {Badge : Type 0} (old new : SourceState Badge) (place : ℕ) (held : List ℕ) (later : Paused) (started : Option Header) (fed : List ℕ) → StepsFed old new place held later started fed None → old.count < new.count
fed_some old new place held later started fed step = omega (arith, step.goes_on.count, step.answers.0)
