-- Values that are printed one after another.
use Rattle.std.specs.Prelude.{◌≡◌, ℕ, ◌+◌, ◌<◌, List, [], ◌∷◌, length, get_or}
use Rattle.hessian_graph.specs.declared.value.Value.{Value}
use Rattle.hessian_graph.specs.declared.value.Value.TheVariants as values
use Rattle.graph_notation.specs.declared.element.Element.{Element}
use Rattle.graph_notation.specs.Pressing.{Prints, element_of}

-- a value that is no node which has yet to begin
abbrev pub IsLeaf : ℕ → Value → Type 0
IsLeaf begun v = (k : ℕ) → v ≡ values.Node k → k < begun

-- the values from a place up to another are printed, none of them a node which has yet to begin
pub data PrintsLeaves (before : ℕ → List Element) (vs : List Value) (begun : ℕ) (old : List ℕ) (start : ℕ) : ℕ → List ℕ → Type 0 where
  none : PrintsLeaves before vs begun old start start old
  more : (at : ℕ) (text between new : List ℕ) → PrintsLeaves before vs begun old start at text → at < length vs → IsLeaf begun (get_or vs at values.Null) → Prints text (before at) between → Prints between (element_of (get_or vs at values.Null) ∷ []) new → PrintsLeaves before vs begun old start (at + 1) new
