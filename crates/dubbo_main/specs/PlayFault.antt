-- The status and the line of each fault of the command `play`.
use Rattle.std.specs.Prelude.{ℕ, List}
use Rattle.dubbo_main.specs.FaultLines.{not_built_line, input_line, too_long_line, memory_line}
use Rattle.dubbo_main.specs.declared.commands.play.PlayFault.{PlayFault}
use Rattle.dubbo_main.specs.declared.commands.play.PlayFault.TheVariants.{Input, TooLong, NotBuilt, OutOfMemory}

abbrev pub status_of : PlayFault → ℕ
status_of (Input faults) = 3
status_of TooLong = 7
status_of (NotBuilt line) = 2
status_of OutOfMemory = 6

abbrev pub line_of : PlayFault → List ℕ
line_of (Input faults) = input_line faults
line_of TooLong = too_long_line
line_of (NotBuilt line) = not_built_line line
line_of OutOfMemory = memory_line
