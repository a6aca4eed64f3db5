-- What `direct` answers.
use Rattle.std.proofs.Common.{◌≡◌, ◌≢◌, ℕ, List, Result, Ok, Err, refl, sym, subst}
use Rattle.std.specs.Prelude.{IfOk}
use Rattle.call_plan.specs.ScriptReading.{Refuses}
use Rattle.call_plan.specs.declared.fault.ScriptFault.{ScriptFault}
use Rattle.call_plan.specs.declared.fault.ScriptFault.TheVariants.{OutOfMemory}
use Rattle.call_plan.proofs.ScriptLaws.{read_or_refused}
use Rattle.dubbo_main.specs.Directing.{DirectAnswers}
use Rattle.dubbo_main.specs.Directing.DirectAnswers.{directed, refused}
use Rattle.dubbo_main.specs.FaultLines.{script_line}
use Rattle.dubbo_main.specs.PlainCommands.{status_of, text_of}
use Rattle.dubbo_main.specs.declared.commands.answer.Answer.{Answer}

-- the answer with the fault of the script
pub answers_refusal : {E : Type 0} (input : List ℕ) (fault : ScriptFault) (answer : Result Answer E) → Refuses input fault
    → IfOk answer (λ a. fault ≢ OutOfMemory) → IfOk answer (λ a. status_of a ≡ 2) → IfOk answer (λ a. text_of a ≡ script_line fault)
    → IfOk answer (λ a. DirectAnswers input (status_of a) (text_of a))
answers_refusal input fault (Ok a) why cause two line =
    subst (λ status. DirectAnswers input status (text_of a)) (sym two)
    (subst (λ all. DirectAnswers input 2 all) (sym line) (refused fault cause why))
answers_refusal input fault (Err e) why cause two line = tt

-- `direct` answers one status to an input
pub direct_once : (input : List ℕ) (status status' : ℕ) (text text' : List ℕ) → DirectAnswers input status text → DirectAnswers input status' text' → status ≡ status'
direct_once input _ _ _ _ (directed plan text is printed) (directed plan' text' is' printed') = refl
direct_once input _ _ _ _ (directed plan text is printed) (refused fault some why) = absurd (read_or_refused input plan fault some is why)
direct_once input _ _ _ _ (refused fault some why) (directed plan text is printed) = absurd (read_or_refused input plan fault some is why)
direct_once input _ _ _ _ (refused fault some why) (refused fault' some' why') = refl
