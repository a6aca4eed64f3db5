-- Values that are printed one after another.
use Rattle.std.proofs.Common.{◌≡◌, ℕ, ◌+◌, ◌<◌, List, [], ◌∷◌, length, get_or, refl, ◌∙◌, subst}
use Rattle.std.proofs.lemmas.List.{get_or_default}
use Rattle.hessian_graph.specs.declared.value.Value.{Value}
use Rattle.hessian_graph.specs.declared.value.Value.TheVariants as values
use Rattle.hessian_graph.specs.Shape.{Shape, kind_at, values_at}
use Rattle.graph_notation.specs.declared.element.Element.{Element}
use Rattle.graph_notation.specs.declared.press.Step.{Step}
use Rattle.graph_notation.specs.Whole.{Fits}
use Rattle.graph_notation.specs.PrintedLeaves.{PrintsLeaves, IsLeaf}
use Rattle.graph_notation.specs.Pressing.{Prints, PressedOn, element_of, before}
use Rattle.graph_notation.specs.PrintedLeaves.PrintsLeaves.{none, more}
use Rattle.graph_notation.proofs.Printing.{awaits_step, pressed_leaf}

-- a value more
pub leaf_more : (es : ℕ → List Element) (vs : List Value) (begun start at : ℕ) (old text between new : List ℕ) (v : Value) → PrintsLeaves es vs begun old start at text → at < length vs → v ≡ get_or vs at values.Null → IsLeaf begun v → Prints text (es at) between → Prints between (element_of v ∷ []) new → PrintsLeaves es vs begun old start (at + 1) new
leaf_more es vs begun start at old text between new v p h e leaf front value =
    more at text between new p h (subst (IsLeaf begun) e leaf) front (subst (λ (x : Value). Prints between (element_of x ∷ []) new) e value)

-- the same of what stands at an index
pub item_more : (es : ℕ → List Element) (vs : List Value) (begun start at : ℕ) (old text between new : List ℕ) (v w : Value) → PrintsLeaves es vs begun old start at text → at < length vs → v ≡ get_or vs at v → w ≡ get_or vs at w → IsLeaf begun v → Prints text (es at) between → Prints between (element_of w ∷ []) new → PrintsLeaves es vs begun old start (at + 1) new
item_more es vs begun start at old text between new v w p h e f leaf front value =
    more at text between new p h (subst (IsLeaf begun) (e ∙ get_or_default vs at v values.Null h) leaf) front
    (subst (λ (x : Value). Prints between (element_of x ∷ []) new) (f ∙ get_or_default vs at w values.Null h) value)

-- where what stood before them was printed, they are printed too
pub leaves_pressed : (g : Shape) (begun roots : ℕ) (t : Step) (ts : List Step) (old : List ℕ) (end : ℕ) (new : List ℕ) → Fits (kind_at g t.node) (length (values_at g t.node)) → PressedOn g old begun roots (t ∷ ts) → PrintsLeaves (before (kind_at g t.node)) (values_at g t.node) begun old t.at end new → PressedOn g new begun roots (record { node = t.node; at = end } ∷ ts)
leaves_pressed g begun roots t ts old _ _ fits p none = p
leaves_pressed g begun roots t ts old _ _ fits p (more at text between new rest h leaf front value) =
    pressed_leaf g between new begun roots (record { node = t.node; at = at + 1 } ∷ ts) (get_or (values_at g t.node) at values.Null) leaf
    (awaits_step g text between begun roots (record { node = t.node; at = at }) ts (get_or (values_at g t.node) at values.Null) fits h refl (leaves_pressed g begun roots t ts old at text fits p rest) front)
    value
