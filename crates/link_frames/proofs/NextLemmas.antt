-- Steps that gave no answer, one behind another.
use Rattle.std.proofs.Common.{◌≡◌, ℕ, ◌<◌, List, [], ◌++◌, Some, None, refl, sym, subst, ◌∙◌, append_assoc, arith}
use Rattle.std.proofs.lemmas.List.{append-nil}
use Rattle.dubbo_io.specs.Source.{SourceState, GoesOn}
use Rattle.dubbo_io.proofs.Going.{GoesOn-none, GoesOn-join}
use Rattle.link_frames.specs.Paused.{Holds}
use Rattle.link_frames.specs.Steps.{Steps}
use Rattle.link_frames.specs.declared.next.Next.{Next}
use Rattle.link_frames.specs.declared.paused.Paused.{Paused}
use Rattle.link_frames.proofs.StepLemmas.{step_after}

-- what came so far is held behind what was held at first
pub record CameSoFar {Badge : Type 0} (old now : SourceState Badge) (first later : Paused) (held : List ℕ) : Type 0 where
  pub came : List ℕ
  pub goes_on : GoesOn old now came
  pub holds : Holds later (held ++ came)
  pub place : later.place ≡ first.place

pub came_none : {Badge : Type 0} (now : SourceState Badge) (paused : Paused) (held : List ℕ) → Holds paused held → CameSoFar now now paused paused held
came_none now paused held holds = record {
  came = [];
  goes_on = GoesOn-none now;
  holds = subst (Holds paused) (sym (append-nil held)) holds;
  place = refl;
}

pub came_more : {Badge : Type 0} (a b c : SourceState Badge) (first mid later : Paused) (held : List ℕ) (so_far : CameSoFar a b first mid held) → Steps b c mid.place (held ++ so_far.came) later None → CameSoFar a c first later held
came_more a b c first mid later held so_far step = record {
  came = so_far.came ++ step.came;
  goes_on = GoesOn-join a b c so_far.came step.came so_far.goes_on step.goes_on;
  holds = subst (Holds later) (append_assoc held so_far.came step.came) step.answers.2;
  place = step.answers.3 ∙ so_far.place;
}

pub came_answer : {Badge : Type 0} (a b c : SourceState Badge) (first mid later : Paused) (held : List ℕ) (answer : Next) (so_far : CameSoFar a b first mid held) → Steps b c mid.place (held ++ so_far.came) later (Some answer) → Steps a c first.place held later (Some answer)
came_answer a b c first mid later held answer so_far step =
    step_after a b c first.place held so_far.came later answer so_far.goes_on (subst (λ n. Steps b c n (held ++ so_far.came) later (Some answer)) so_far.place step)

pub came_some : {Badge : Type 0} (old new : SourceState Badge) (place : ℕ) (held : List ℕ) (later : Paused) → Steps old new place held later None → old.count < new.count
came_some old new place held later step = omega (arith, step.goes_on.count, step.answers.0)
