-- The line of a transcript that tells how a call ended.
use Rattle.std.specs.Prelude.{◌≡◌, ℕ, List, [], ◌++◌, codes, decimal}
use Rattle.hessian_graph.specs.declared.parts.Parts.{Parts}
use Rattle.hessian_graph.specs.Shape.{shape_of}
use Rattle.graph_notation.specs.Elements.{quoted}
use Rattle.graph_notation.specs.Notation.{PrintsForm}
use Rattle.call_plan.specs.declared.calls.Mode.{Mode}
use Rattle.call_plan.specs.declared.calls.Mode.TheVariants.{Failover, Failfast, Failsafe, Forking, Oneway}
use Rattle.call_plan.specs.declared.calls.CallResult.{CallResult}
use Rattle.call_plan.specs.declared.calls.CallResult.TheVariants.{Value, Threw, Status, Timeout, Lost, Broken, Sent, NoMemory}

-- what stands before a fault under Failsafe
abbrev pub ignored : Mode → List ℕ
ignored Failover = []
ignored Failfast = []
ignored Failsafe = codes "ignored "
ignored Forking = []
ignored Oneway = []

-- a word and the notation of a graph
abbrev pub TellsGraph : List ℕ → Parts → List ℕ → Type 0
TellsGraph word g words = (notation : List ℕ) × PrintsForm (shape_of g) notation × (words ≡ word ++ notation)

-- a status and its text, which is written as a notation writes texts
abbrev pub status_words : Mode → ℕ → List ℕ → List ℕ
status_words mode code text = ignored mode ++ codes "status " ++ decimal code ++ codes " " ++ quoted text

-- a fault and two numbers
abbrev pub fault_words : Mode → List ℕ → ℕ → ℕ → List ℕ
fault_words mode word first second = ignored mode ++ word ++ decimal first ++ codes " " ++ decimal second

-- the words of a result, behind the call's number
abbrev pub Tells : Mode → CallResult → List ℕ → Type 0
Tells mode (Value g) words = TellsGraph (codes "ok ") g words
Tells mode (Threw g) words = TellsGraph (codes "threw ") g words
Tells mode (Status code text) words = words ≡ status_words mode code text
Tells mode (Timeout deadline moment) words = words ≡ fault_words mode (codes "timeout ") deadline moment
Tells mode (Lost link faults) words = words ≡ fault_words mode (codes "lost ") link faults
Tells mode (Broken link at) words = words ≡ fault_words mode (codes "broken ") link at
Tells mode Sent words = words ≡ codes "sent"
Tells mode NoMemory words = words ≡ codes "nomem"

-- the line of call k: its number, the words of its result, and a line feed
pub record IsLine (k : ℕ) (mode : Mode) (outcome : CallResult) (line : List ℕ) : Type 0 where
  pub words : List ℕ
  pub tells : Tells mode outcome words
  pub written : line ≡ decimal k ++ codes " " ++ words ++ codes "\n"

-- bytes of which this holds are put behind those that were there
abbrev pub Appends : (List ℕ → Type 0) → List ℕ → List ℕ → Type 0
Appends Is before after = (bytes : List ℕ) × Is bytes × (after ≡ before ++ bytes)
