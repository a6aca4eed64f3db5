-- The line that a damaged input is answered with, and the texts of the faults of notations in it.
use Rattle.std.specs.Prelude.{ℕ, List, [], ◌++◌, codes, decimal}
use Rattle.graph_notation.specs.declared.fault.NotationFault.{NotationFault}
use Rattle.graph_notation.specs.declared.fault.NotationFault.TheVariants.{BadNotation, UnknownNode, TooManyNodes, OutOfMemory}

-- the one line of an input that is refused as a whole
abbrev pub damage_line : List ℕ → List ℕ
damage_line text = codes "damaged " ++ text ++ codes "\n"

-- why a text is no notation, with the place of the fault and the number of the node; want of memory has no text
abbrev pub notation_text : NotationFault → List ℕ
notation_text (BadNotation at) = codes "notation " ++ decimal at
notation_text (UnknownNode at number) = codes "node " ++ decimal at ++ codes " " ++ decimal number
notation_text (TooManyNodes at) = codes "nodes " ++ decimal at
notation_text OutOfMemory = []
