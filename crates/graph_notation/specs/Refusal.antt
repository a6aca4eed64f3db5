-- Why a text is no notation of a graph with at most so many nodes: the first token that can't stand where it is, and its place.
use Rattle.std.specs.Prelude.{◌≡◌, ℕ, ◌+◌, ◌≤◌, List, [], ◌∷◌, ◌++◌, length, ◌⊎◌}
use Rattle.hessian_graph.specs.declared.value.Value.TheVariants.{Null}
use Rattle.hessian_graph.specs.Shape.{Shape}
use Rattle.graph_notation.specs.declared.element.Element.{Element}
use Rattle.graph_notation.specs.declared.element.Element.TheVariants.{Plain, Reference}
use Rattle.graph_notation.specs.declared.fault.NotationFault.{NotationFault}
use Rattle.graph_notation.specs.declared.fault.NotationFault.TheVariants.{BadNotation, UnknownNode, TooManyNodes}
use Rattle.graph_notation.specs.Tokens.{Token, IsToken, Cut}
use Rattle.graph_notation.specs.Elements.{Reads}
use Rattle.graph_notation.specs.Forms.{SpellsGraph}
use Rattle.graph_notation.specs.Notation.{ReadAs}

-- elements at the front of those of some graph
pub record GoOn (before : List Element) : Type 0 where
  pub more : List Element
  pub graph : Shape
  pub spelled : SpellsGraph graph (before ++ more)

-- elements at the front of those of some graph with at most so many nodes
pub record GoOnWithin (bound : ℕ) (before : List Element) : Type 0 where
  pub more : List Element
  pub graph : Shape
  pub spelled : SpellsGraph graph (before ++ more)
  pub limit : length graph.nodes ≤ bound

-- the token is no element, or one that no graph goes on with
abbrev pub IsMisplaced : List Element → Token → Type 0
IsMisplaced before token = (e : Element) → Reads token e → GoOn (before ++ e ∷ []) → ⊥

-- a reference to a node that hasn't begun, where a value may stand
pub record IsForward (before : List Element) (token : Token) (k : ℕ) : Type 0 where
  pub reads : Reads token (Reference k)
  pub may_stand : GoOn (before ++ Plain Null ∷ [])
  pub too_high : GoOn (before ++ Reference k ∷ []) → ⊥

-- Behind elements that go on to a graph with at most so many nodes, this token is refused: it begins at this place.
pub data Refused (bound : ℕ) (before : List Element) (token : Token) (at : ℕ) : NotationFault → Type 0 where
  misplaced : IsMisplaced before token → ((k : ℕ) → IsForward before token k → ⊥) → Refused bound before token at (BadNotation at)
  unknown : (k : ℕ) → IsForward before token k → Refused bound before token at (UnknownNode at k)
  -- some graph goes on with it, but none with so few nodes
  too_many : (e : Element) → Reads token e → GoOn (before ++ e ∷ []) → (GoOnWithin bound (before ++ e ∷ []) → ⊥) → Refused bound before token at (TooManyNodes at)

-- the first token that is refused
pub record RefusedAt (bound : ℕ) (text : List ℕ) (fault : NotationFault) : Type 0 where
  pub tokens : List Token
  pub elements : List Element
  pub token : Token
  pub rest : List ℕ
  pub cut : Cut text tokens (token ++ rest)
  pub next : IsToken token rest
  pub read : ReadAs tokens elements
  pub goes_on : GoOnWithin bound elements
  pub at : ℕ
  pub place : at + length (token ++ rest) ≡ length text
  pub refused : Refused bound elements token at fault

-- the text ends where a token must come
pub record EndsEarly (bound : ℕ) (text : List ℕ) (fault : NotationFault) : Type 0 where
  pub tokens : List Token
  pub elements : List Element
  pub cut : Cut text tokens []
  pub read : ReadAs tokens elements
  pub goes_on : GoOnWithin bound elements
  pub unfinished : (g : Shape) → SpellsGraph g elements → ⊥
  pub fault_is : fault ≡ BadNotation (length text)

-- the text has no notation's reading, for this cause
abbrev pub Refusal : ℕ → List ℕ → NotationFault → Type 0
Refusal bound text fault = RefusedAt bound text fault ⊎ EndsEarly bound text fault
