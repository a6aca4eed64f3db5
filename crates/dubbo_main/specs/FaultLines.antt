-- The one line that a run prints where it does not do its work.
use Rattle.std.specs.Prelude.{ℕ, List, ◌++◌, codes, decimal}
use Rattle.call_plan.specs.declared.fault.ScriptFault.{ScriptFault}
use Rattle.call_plan.specs.declared.fault.ScriptFault.TheVariants.{BadLine, TooManyCalls, TooLarge, OutOfMemory}

abbrev pub words_line : List ℕ
words_line = codes "fault words\n"

-- the script's line with this number, counted from 1, is of no form that is built
abbrev pub not_built_line : ℕ → List ℕ
not_built_line line = codes "fault script " ++ decimal line ++ codes " not built\n"

-- the input failed, and this many of its faults are told
abbrev pub input_line : ℕ → List ℕ
input_line faults = codes "fault input " ++ decimal faults ++ codes "\n"

abbrev pub too_long_line : List ℕ
too_long_line = codes "fault input too long\n"

abbrev pub memory_line : List ℕ
memory_line = codes "fault memory\n"

-- the script's line with this number, counted from 1, is refused
abbrev pub refused_line : ℕ → List ℕ → List ℕ
refused_line line cause = codes "fault script " ++ decimal line ++ codes " " ++ cause ++ codes "\n"

-- why bytes are no script
abbrev pub script_line : ScriptFault → List ℕ
script_line (BadLine line) = refused_line line (codes "bad line")
script_line (TooManyCalls line) = refused_line line (codes "too many calls")
script_line (TooLarge line) = refused_line line (codes "too large")
script_line OutOfMemory = memory_line
