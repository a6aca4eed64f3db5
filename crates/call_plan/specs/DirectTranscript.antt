-- What is printed of a script whose calls are made directly, each by itself.
use Rattle.std.specs.Prelude.{◌≡◌, ◌≢◌, ℕ, suc, List, [], ◌∷◌, ◌++◌}
use Rattle.dubbo_bodies.specs.declared.message.Reply.{Reply}
use Rattle.dubbo_bodies.specs.declared.message.Reply.TheVariants as replies
use Rattle.service_table.specs.declared.row.Row.{Row}
use Rattle.service_table.specs.Direct.{IsDirect}
use Rattle.call_plan.specs.declared.calls.Mode.TheVariants.{Oneway}
use Rattle.call_plan.specs.declared.calls.Call.{Call}
use Rattle.call_plan.specs.declared.calls.CallResult.{CallResult}
use Rattle.call_plan.specs.declared.calls.CallResult.TheVariants.{Value, Threw, Status, Sent}
use Rattle.call_plan.specs.ResultLine.{IsLine}
use Rattle.call_plan.specs.ScriptReading.{Plan}

-- how a call ended that got this reply
abbrev pub result_of : Reply → CallResult
result_of (replies.Value g) = Value g
result_of (replies.Threw g) = Threw g
result_of (replies.Status code text) = Status code text

-- how a call ends that is made directly: without an answer where it is one-way, else with the direct reply
pub data EndsDirectly (rows : List Row) (call : Call) : CallResult → Type 0 where
  sent : (outcome : CallResult) → call.mode ≡ Oneway → outcome ≡ Sent → EndsDirectly rows call outcome
  answered : (outcome : CallResult) (reply : Reply) → call.mode ≢ Oneway → IsDirect rows call.request reply → outcome ≡ result_of reply → EndsDirectly rows call outcome

-- the line of call k
pub record IsDirectLine (rows : List Row) (k : ℕ) (call : Call) (line : List ℕ) : Type 0 where
  pub outcome : CallResult
  pub ends : EndsDirectly rows call outcome
  pub written : IsLine k call.mode outcome line

-- a line for each call in order, the first of which is call k
pub data DirectLines (rows : List Row) : ℕ → List Call → List ℕ → Type 0 where
  none : (k : ℕ) → DirectLines rows k [] []
  more : (k : ℕ) (call : Call) (calls : List Call) (line rest : List ℕ) → IsDirectLine rows k call line → DirectLines rows (suc k) calls rest
      → DirectLines rows k (call ∷ calls) (line ++ rest)

-- the text is the direct transcript of the script
abbrev pub IsDirectTranscript : Plan → List ℕ → Type 0
IsDirectTranscript plan text = DirectLines plan.services 0 plan.calls text
