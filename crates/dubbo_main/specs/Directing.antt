-- What the command `direct` answers to its input.
use Rattle.std.specs.Prelude.{◌≢◌, ℕ, List}
use Rattle.call_plan.specs.ScriptReading.{Plan, IsScript, Refuses}
use Rattle.call_plan.specs.DirectTranscript.{IsDirectTranscript}
use Rattle.call_plan.specs.declared.fault.ScriptFault.{ScriptFault}
use Rattle.call_plan.specs.declared.fault.ScriptFault.TheVariants.{OutOfMemory}
use Rattle.dubbo_main.specs.FaultLines.{script_line}

-- what `direct` answers to its whole input: the lines of the direct calls, or the first cause for which it is no script
pub data DirectAnswers (input : List ℕ) : ℕ → List ℕ → Type 0 where
  directed : (plan : Plan) (text : List ℕ) → IsScript input plan → IsDirectTranscript plan text → DirectAnswers input 0 text
  refused : (fault : ScriptFault) → fault ≢ OutOfMemory → Refuses input fault → DirectAnswers input 2 (script_line fault)
