-- A reading that takes its bytes in pieces.
use Rattle.std.specs.Prelude.{◌≡◌, ◌≢◌, ℕ, ◌<◌, ◌≤◌, List, [], ◌∷◌, ◌++◌, length, take, slice_index, Some, None, IsUtf8}
use Rattle.hessian_text.specs.declared.stage.Kind.{Kind}
use Rattle.hessian_text.specs.declared.stage.Kind.TheVariants.{Text}
use Rattle.hessian_text.specs.declared.stage.Part.{Part}
use Rattle.hessian_text.specs.declared.stage.Begun.{Begun}
use Rattle.hessian_text.specs.declared.stage.Stage.{Stage}
use Rattle.hessian_text.specs.declared.stage.Stage.TheVariants.{Code, Inside, Ended}
use Rattle.hessian_text.specs.declared.step.Item.TheVariants.{Wrong}
use Rattle.hessian_text.specs.declared.step.Step.{Step}
use Rattle.hessian_text.specs.declared.step.Step.TheVariants as steps
use Rattle.hessian_text.specs.declared.step.Fed.{Fed}
use Rattle.hessian_text.specs.declared.step.Fed.TheVariants as fed
use Rattle.hessian_text.specs.declared.reader.Took.{Took}
use Rattle.hessian_text.specs.declared.reader.Took.TheVariants as took
use Rattle.hessian_text.specs.declared.reader.Front.{Front}
use Rattle.hessian_text.specs.declared.reader.Front.TheVariants as fronts
use Rattle.hessian_text.specs.Residual.{begun_bytes, Completes}
use Rattle.hessian_text.specs.Sound.{SoundStage}
use Rattle.hessian_text.specs.Steps.{letter_bytes, after_code, item_step, step, Runs}

-- what is spelled, the value so far, and where the reading stands
pub record Reading : Type 0 where
  pub kind : Kind
  pub done : List ℕ
  pub stage : Stage

-- what came, followed by these bytes, spells this value
pub record Spells (reading : Reading) (value bytes : List ℕ) : Type 0 where
  pub more : List ℕ
  pub value_is : value ≡ reading.done ++ more
  pub completes : Completes reading.kind reading.stage more bytes

pub record SoundReading (reading : Reading) : Type 0 where
  pub stage : SoundStage reading.kind reading.stage
  pub text : reading.kind ≡ Text → IsUtf8 reading.done

-- bytes lead from one reading to another
pub record Advances (before : Reading) (bytes : List ℕ) (after : Reading) : Type 0 where
  pub gained : List ℕ
  pub kind : after.kind ≡ before.kind
  pub runs : Runs before.kind before.stage bytes after.stage gained
  pub done : after.done ≡ before.done ++ gained

-- no chunk has this code
pub record RefusesCode (kind : Kind) (stage : Stage) (b : ℕ) : Type 0 where
  pub at_code : stage ≡ Code
  pub no_code : after_code kind b ≡ None

-- no item that fits goes on with this byte; so many of its bytes came
pub record RefusesItem (kind : Kind) (stage : Stage) (b begun_len : ℕ) : Type 0 where
  pub part : Part
  pub left : ℕ
  pub begun : Begun
  pub inside : stage ≡ Inside part left begun
  pub wrong : item_step kind left begun b ≡ Wrong
  pub len_is : begun_len ≡ length (begun_bytes begun)

-- what a step answers
abbrev pub TellsStep : Step → Kind → Stage → ℕ → Type 0
TellsStep (steps.To next) kind stage b = step kind stage b ≡ Some (next, [])
TellsStep (steps.Gains next letter) kind stage b = step kind stage b ≡ Some (next, letter_bytes letter)
TellsStep steps.NoCode kind stage b = RefusesCode kind stage b
TellsStep (steps.NoItem begun_len) kind stage b = RefusesItem kind stage b begun_len

-- what taking one byte answers
abbrev pub Takes : Reading → ℕ → Reading → Took → Type 0
Takes before b after took.Taken = Advances before (b ∷ []) after
Takes before b after took.NoCode = RefusesCode before.kind before.stage b × (after ≡ before)
Takes before b after (took.NoItem begun_len) = RefusesItem before.kind before.stage b begun_len × (after ≡ before)

-- what taking the front of a piece answers
abbrev pub TakesFront : Reading → List ℕ → Reading → Front → Type 0
TakesFront before piece after (fronts.Taken n) = (0 < n) × (n ≤ length piece) × Advances before (take n piece) after
TakesFront before piece after fronts.NoCode = RefusesCode before.kind before.stage (slice_index piece 0) × (after ≡ before)
TakesFront before piece after (fronts.NoItem begun_len) = RefusesItem before.kind before.stage (slice_index piece 0) begun_len × (after ≡ before)

-- what feeding a piece answers, by the steps of its bytes
abbrev pub Feeds : Reading → List ℕ → Reading → Fed → Type 0
Feeds before piece after fed.More = Advances before piece after × (after.stage ≢ Ended)
Feeds before piece after (fed.Whole n) = (n ≤ length piece) × Advances before (take n piece) after × (after.stage ≡ Ended)
Feeds before piece after (fed.NoCode n) = (n < length piece) × Advances before (take n piece) after × RefusesCode before.kind after.stage (slice_index piece n)
Feeds before piece after (fed.NoItem n begun_len) = (n < length piece) × Advances before (take n piece) after × RefusesItem before.kind after.stage (slice_index piece n) begun_len
