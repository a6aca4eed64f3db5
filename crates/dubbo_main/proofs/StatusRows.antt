-- Which row of the statuses a fault of `play` is.
use Rattle.std.proofs.Common.{ℕ, List}
use Rattle.dubbo_io.specs.Source.{SourceState}
use Rattle.dubbo_main.specs.Words.{IsPlay}
use Rattle.dubbo_main.specs.Play.{StopsPlaying}
use Rattle.dubbo_main.specs.PlayFault.{status_of, line_of}
use Rattle.dubbo_main.specs.PlayStatuses.{CallsFor}
use Rattle.dubbo_main.specs.PlayStatuses.CallsFor.{refused, input_failed, no_memory, too_long}
use Rattle.dubbo_main.specs.declared.commands.play.PlayFault.{PlayFault}
use Rattle.dubbo_main.specs.declared.commands.play.PlayFault.TheVariants.{Input, TooLong, NotBuilt, OutOfMemory}

-- a fault calls for its own status and its own line
pub CallsFor-fault : {Badge : Type 0} (words : List (List ℕ)) (old new : SourceState Badge) (fault : PlayFault) → IsPlay words → StopsPlaying old new fault → CallsFor words old new (status_of fault) (line_of fault)
CallsFor-fault words old new (Input faults) play stops = input_failed faults play stops
CallsFor-fault words old new TooLong play stops = too_long play stops
CallsFor-fault words old new (NotBuilt line) play stops = refused line play stops
CallsFor-fault words old new OutOfMemory play stops = no_memory play stops
