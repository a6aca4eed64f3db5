-- Which row of the statuses what a plain command met is.
use Rattle.std.proofs.Common.{ℕ, List, Result, Ok, Err, Vec, Global, refl}
use Rattle.std.specs.Prelude.{IfOk, MatchResult}
use Rattle.dubbo_io.specs.Source.{SourceState}
use Rattle.dubbo_io.specs.Sink.{SinkState}
use Rattle.dubbo_io.specs.ReadFault.{StopsReading}
use Rattle.dubbo_io.specs.declared.reading.ReadFault.{ReadFault}
use Rattle.dubbo_io.specs.declared.reading.ReadFault.TheVariants.{Fault, TooLong, OutOfMemory}
use Rattle.dubbo_main.specs.FaultLines.{memory_line}
use Rattle.dubbo_main.specs.Input.{input_limit, IsWhole}
use Rattle.dubbo_main.specs.Words.{Names}
use Rattle.dubbo_main.specs.Statuses.{Comes, Ends}
use Rattle.dubbo_main.specs.Generating.{IsGenerated}
use Rattle.dubbo_main.specs.PlainCommands.{Answers, ReadsInput, status_of, text_of}
use Rattle.dubbo_main.specs.PlainStatuses.{PlainCallsFor}
use Rattle.dubbo_main.specs.PlainStatuses.PlainCallsFor.{answered, generated, input_failed, no_memory, no_memory_made, too_long}
use Rattle.dubbo_main.specs.Unread.{unread_status, unread_line}
use Rattle.dubbo_main.specs.declared.words.PlainCommand.{PlainCommand}
use Rattle.dubbo_main.specs.declared.words.PlainCommand.TheVariants.{Gen}
use Rattle.dubbo_main.specs.declared.words.Show.{Show}
use Rattle.dubbo_main.specs.declared.commands.answer.Answer.{Answer}

-- an input that wasn't read to its end calls for the status and the line of its fault
pub PlainCallsFor-unread : {Badge : Type 0} (words : List (List ℕ)) (command : PlainCommand) (old new : SourceState Badge) (fault : ReadFault)
    → Names words command → ReadsInput command → StopsReading old new input_limit fault → PlainCallsFor words old new (unread_status fault) (unread_line fault)
PlainCallsFor-unread words command old new (Fault faults) names reads stops =
    input_failed command faults names reads (record { within = stops.0; rose = stops.1; some = stops.2; told = stops.3 })
PlainCallsFor-unread words command old new (TooLong limit) names reads stops = too_long command names reads stops.1
PlainCallsFor-unread words command old new OutOfMemory names reads stops = no_memory command names reads stops

-- a run over a whole input comes to the status of the command's answer, or has no memory
pub Comes-answer : {B C E : Type 0} (words : List (List ℕ)) (command : PlainCommand) (old new : SourceState B) (before now : SinkState C) (bytes : List ℕ) (answer : Result Answer E) (result : ℕ)
    → Names words command → ReadsInput command → IsWhole old new bytes → IfOk answer (λ a. Answers command bytes (status_of a) (text_of a))
    → MatchResult answer (λ a. Ends before now (status_of a) (text_of a) result) (λ e. Ends before now 6 memory_line result)
    → Comes (PlainCallsFor words old new) before now result
Comes-answer words command old new before now bytes (Ok a) result names reads whole answers ends =
    (status_of a, text_of a, answered command bytes (status_of a) (text_of a) names whole answers, ends)
Comes-answer words command old new before now bytes (Err e) result names reads whole answers ends =
    (6, memory_line, no_memory command names reads (bytes, whole.goes_on, whole.within), ends)

-- a run that reads no input comes to what is made, or has no memory
pub Comes-generated : {B C E : Type 0} (words : List (List ℕ)) (calls : ℕ) (show : Show) (state : SourceState B) (before now : SinkState C) (text : Result (Vec ℕ Global) E) (result : ℕ)
    → Names words (Gen calls show) → IfOk text (λ t. IsGenerated calls show t.items)
    → MatchResult text (λ t. Ends before now 0 t.items result) (λ e. Ends before now 6 memory_line result)
    → Comes (PlainCallsFor words state state) before now result
Comes-generated words calls show state before now (Ok t) result names made ends = (0, t.items, generated calls show t.items names refl made, ends)
Comes-generated words calls show state before now (Err e) result names made ends = (6, memory_line, no_memory_made calls show names refl, ends)
