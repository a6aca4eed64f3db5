-- What one read into an empty window does.
use Rattle.std.specs.Prelude.{◌≡◌, ℕ, ◌<◌, IsTrue, List, [], length}
use Rattle.dubbo_io.specs.Count.{Rose}
use Rattle.dubbo_io.specs.Source.{SourceState, GoesOn}
use Rattle.dubbo_io.specs.declared.source.Got.{Got}
use Rattle.dubbo_io.specs.declared.source.Got.TheVariants.{Bytes, End, Failed}

-- when each answer comes
abbrev pub FillAnswers : {Badge : Type 0} → SourceState Badge → SourceState Badge → List ℕ → Got → Type 0
FillAnswers old new came (Bytes n) = 0 < length came
FillAnswers old new came End = (came ≡ []) × IsTrue new.ended
FillAnswers old new came Failed = (came ≡ []) × Rose old.faults new.faults

-- the window holds exactly what came
pub record Fills {Badge : Type 0} (old new : SourceState Badge) (came : List ℕ) (got : Got) : Type 0 where
  pub goes_on : GoesOn old new came
  pub answer : FillAnswers old new came got
