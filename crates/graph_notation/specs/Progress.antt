-- How far a text has been read.
use Rattle.std.specs.Prelude.{◌≡◌, ℕ, ◌<◌, ◌≤◌, List, ◌++◌, length, drop, Result, Ok, Err}
use Rattle.graph_notation.specs.declared.element.Element.{Element}
use Rattle.graph_notation.specs.declared.frame.Cause.TheVariants.{Bad, Unknown, TooMany}
use Rattle.graph_notation.specs.declared.stop.Stop.{Stop}
use Rattle.graph_notation.specs.declared.stop.Stop.TheVariants.{Refused, NoMemory}
use Rattle.graph_notation.specs.declared.fault.NotationFault.{NotationFault}
use Rattle.graph_notation.specs.declared.fault.NotationFault.TheVariants.{BadNotation, UnknownNode, TooManyNodes, OutOfMemory}
use Rattle.graph_notation.specs.Tokens.{Token, IsToken, Cut}
use Rattle.graph_notation.specs.Elements.{Reads}
use Rattle.graph_notation.specs.Notation.{ReadAs}
use Rattle.graph_notation.specs.Machine.{State, start, step, run}

-- the elements of the tokens so far led to this state
pub record SoFar (bound : ℕ) (text rest : List ℕ) (s : State) : Type 0 where
  pub tokens : List Token
  pub elements : List Element
  pub cut : Cut text tokens rest
  pub read : ReadAs tokens elements
  pub is : run bound start elements ≡ Ok s

-- the token at the front of the text
pub record TokenAt (text rest : List ℕ) : Type 0 where
  pub token : Token
  pub whole : text ≡ token ++ rest
  pub next : IsToken token rest

-- the token was an element that was taken
pub record Taken (bound : ℕ) (text rest : List ℕ) (s t : State) : Type 0 where
  pub front : TokenAt text rest
  pub element : Element
  pub reads : Reads front.token element
  pub is : step bound s element ≡ Ok t

-- the token was no element, or one that was refused
pub data Untaken (bound : ℕ) (text rest : List ℕ) (s : State) (at : ℕ) : NotationFault → Type 0 where
  unread : (front : TokenAt text rest) → ((e : Element) → Reads front.token e → ⊥) → Untaken bound text rest s at (BadNotation at)
  bad : (front : TokenAt text rest) (e : Element) → Reads front.token e → step bound s e ≡ Err Bad → Untaken bound text rest s at (BadNotation at)
  unknown : (front : TokenAt text rest) (e : Element) (k : ℕ) → Reads front.token e → step bound s e ≡ Err (Unknown k) → Untaken bound text rest s at (UnknownNode at k)
  too_many : (front : TokenAt text rest) (e : Element) → Reads front.token e → step bound s e ≡ Err TooMany → Untaken bound text rest s at (TooManyNodes at)
  no_memory : Untaken bound text rest s at OutOfMemory

abbrev pub fault_of : Stop → ℕ → NotationFault
fault_of (Refused Bad) at = BadNotation at
fault_of (Refused (Unknown k)) at = UnknownNode at k
fault_of (Refused TooMany) at = TooManyNodes at
fault_of NoMemory at = OutOfMemory

-- a call read a token, or says why not
abbrev pub ReadsOn : ℕ → List ℕ → ℕ → State → State → Result ℕ NotationFault → Type 0
ReadsOn bound text at s t (Ok end) = (at < end) × (end ≤ length text) × Taken bound (drop at text) (drop end text) s t
ReadsOn bound text at s t (Err fault) = (end : ℕ) × Untaken bound (drop at text) (drop end text) s at fault

-- the text was read to its end, or there is a token that wasn't taken
pub record StoppedAt (bound : ℕ) (text : List ℕ) (fault : NotationFault) : Type 0 where
  pub at : ℕ
  pub end : ℕ
  pub before : State
  pub low : at < length text
  pub so_far : SoFar bound text (drop at text) before
  pub untaken : Untaken bound (drop at text) (drop end text) before at fault
