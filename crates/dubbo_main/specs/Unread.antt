-- The status and the line of an input that wasn't read to its end.
use Rattle.std.specs.Prelude.{ℕ, List}
use Rattle.dubbo_io.specs.declared.reading.ReadFault.{ReadFault}
use Rattle.dubbo_io.specs.declared.reading.ReadFault.TheVariants.{Fault, TooLong, OutOfMemory}
use Rattle.dubbo_main.specs.FaultLines.{input_line, too_long_line, memory_line}

abbrev pub unread_status : ReadFault → ℕ
unread_status (Fault faults) = 3
unread_status (TooLong limit) = 7
unread_status OutOfMemory = 6

abbrev pub unread_line : ReadFault → List ℕ
unread_line (Fault faults) = input_line faults
unread_line (TooLong limit) = too_long_line
unread_line OutOfMemory = memory_line
