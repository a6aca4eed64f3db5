-- How far a graph has been printed.
use Rattle.std.specs.Prelude.{◌≡◌, ℕ, zero, suc, ◌+◌, ◌-◌, ◌<◌, ◌≤◌, ◌^◌, List, [], ◌∷◌, ◌++◌, length, take, drop, set, get_or, reverse, All, Bool, true, false, not, if◌then◌else◌, Option, Some, None}
use Rattle.std.specs.List.{flat_map}
use Rattle.hessian_graph.specs.declared.value.Value.{Value}
use Rattle.hessian_graph.specs.declared.value.Value.TheVariants as values
use Rattle.hessian_graph.specs.declared.parts.Parts.{Parts}
use Rattle.hessian_graph.specs.Shape.{Text, Kind, ListKind, MapKind, ObjectKind, NodeShape, Shape, no_node, shape_of, kind_at, values_at}
use Rattle.hessian_graph.specs.Canon.{Visit, IsCanon}
use Rattle.hessian_graph.specs.Moving.{AllThere}
use Rattle.hessian_graph.specs.Work.{IsClosed}
use Rattle.graph_notation.specs.declared.element.Element.{Element}
use Rattle.graph_notation.specs.declared.element.Element.TheVariants.{Plain, Words, Reference, Sign}
use Rattle.graph_notation.specs.declared.element.Mark.TheVariants.{BeginList, EndList, BeginMap, EndMap, BeginFields, EndFields, Comma, Colon, Named}
use Rattle.graph_notation.specs.declared.frame.Head.{Head}
use Rattle.graph_notation.specs.declared.frame.Head.TheVariants as heads
use Rattle.graph_notation.specs.declared.frame.Frame.{Frame}
use Rattle.graph_notation.specs.declared.frame.Place.{Place}
use Rattle.graph_notation.specs.declared.frame.Place.TheVariants as places
use Rattle.graph_notation.specs.declared.press.Step.{Step}
use Rattle.graph_notation.specs.declared.press.Press.{Press}
use Rattle.graph_notation.specs.Elements.{escaped, printed}
use Rattle.graph_notation.specs.Notation.{IsSoundElement}
use Rattle.graph_notation.specs.Machine.{State, start, run, fed, wants_value}

-- the tokens of these elements are appended
pub record Prints (old : List ℕ) (es : List Element) (new : List ℕ) : Type 0 where
  pub sound : All IsSoundElement es
  pub written : new ≡ old ++ flat_map printed es

-- the bytes of a text up to a place are written behind the others, but for a last run of them that stand for themselves
abbrev pub IsOn : List ℕ → List ℕ → List ℕ → ℕ → ℕ → Type 0
IsOn others text out from at = out ++ take (at - from) (drop from text) ≡ others ++ flat_map escaped (take at text)

-- the element of a value that is no node, or of a node that has begun
abbrev pub element_of : Value → Element
element_of values.Null = Plain values.Null
element_of (values.Bool b) = Plain (values.Bool b)
element_of (values.Int z) = Plain (values.Int z)
element_of (values.Long z) = Plain (values.Long z)
element_of (values.Date z) = Plain (values.Date z)
element_of (values.Text text) = Words text
element_of (values.Bytes bytes) = Plain (values.Bytes bytes)
element_of (values.Node k) = Reference k

-- the name of a type, where there is one
abbrev pub type_name : Option Text → List Element
type_name None = []
type_name (Some type) = Sign Named ∷ Words type ∷ []

-- what stands before a node's entries
abbrev pub head_of : Kind → List Element
head_of (ListKind type) = type_name type ++ Sign BeginList ∷ []
head_of (MapKind type) = type_name type ++ Sign BeginMap ∷ []
head_of (ObjectKind class) = Sign Named ∷ Words class.name ∷ Sign BeginFields ∷ []

-- and behind them
abbrev pub end_of : Kind → Element
end_of (ListKind type) = Sign EndList
end_of (MapKind type) = Sign EndMap
end_of (ObjectKind class) = Sign EndFields

abbrev pub comma : ℕ → List Element
comma zero = []
comma (suc n) = Sign Comma ∷ []

abbrev pub is_odd : ℕ → Bool
is_odd zero = false
is_odd (suc n) = not (is_odd n)

-- what stands before the value at a place
abbrev pub before : Kind → ℕ → List Element
before (ListKind type) at = comma at
before (MapKind type) at = if is_odd at then Sign Colon ∷ [] else comma at
before (ObjectKind class) at = comma at ++ (Words (get_or class.fields at []) ∷ Sign Colon ∷ [])

abbrev pub begins_as : Kind → Head
begins_as (ListKind type) = heads.List type
begins_as (MapKind type) = heads.Map type
begins_as (ObjectKind class) = heads.Object class.name

abbrev pub names_of : Kind → List Text
names_of (ListKind type) = []
names_of (MapKind type) = []
names_of (ObjectKind class) = class.fields

abbrev pub keyed_at : Kind → ℕ → Bool
keyed_at (ListKind type) at = false
keyed_at (MapKind type) at = is_odd at
keyed_at (ObjectKind class) at = false

-- a node of which so many values are printed
abbrev pub part_of : Kind → List Value → ℕ → ℕ → Frame
part_of kind vs number at = record { number = number; head = begins_as kind; names = take at (names_of kind); values = take at vs; keyed = keyed_at kind at }

-- the innermost node of which something is printed, or the roots, and those around it
abbrev pub frame_at : Shape → ℕ → List Step → Frame
frame_at g roots [] = part_of (ListKind None) g.roots 0 roots
frame_at g roots (t ∷ ts) = part_of (kind_at g t.node) (values_at g t.node) t.node t.at

abbrev pub under_at : Shape → ℕ → List Step → List Frame
under_at g roots [] = []
under_at g roots (t ∷ ts) = frame_at g roots ts ∷ under_at g roots ts

-- how many values of it are printed
abbrev pub count_at : ℕ → List Step → ℕ
count_at roots [] = roots
count_at roots (t ∷ ts) = t.at

-- a node on the stack is a value of the one around it, which is counted
abbrev pub Counted : ℕ → List Step → Type 0
Counted roots [] = Unit {0}
Counted roots (t ∷ ts) = (0 < count_at roots ts) × Counted roots ts

-- the nodes, were those on the stack whole
abbrev pub filled : Shape → List NodeShape → List Step → List NodeShape
filled g nodes [] = nodes
filled g nodes (t ∷ ts) = filled g (set nodes t.node (get_or g.nodes t.node no_node)) ts

-- the values that are still to be printed
abbrev pub to_come : Shape → ℕ → List Step → List Value
to_come g roots [] = drop roots g.roots
to_come g roots (t ∷ ts) = drop t.at (values_at g t.node) ++ to_come g roots ts

-- so many numbers, from 0 on
abbrev pub upto : ℕ → List ℕ
upto zero = []
upto (suc n) = upto n ++ n ∷ []

-- the text is that of some elements, which are read to this state
pub record IsRead (bound : ℕ) (text : List ℕ) (s : State) : Type 0 where
  pub elements : List Element
  pub sound : All IsSoundElement elements
  pub written : text ≡ flat_map printed elements
  pub goes : (more : List Element) → run bound start (elements ++ more) ≡ run bound s more

-- what stands behind so many values
pub record Stands (at : ℕ) (place : Place) : Type 0 where
  pub none : at ≡ 0 → place ≡ places.Start
  pub some : 0 < at → place ≡ places.After

-- a node on the stack has begun, and has so many values
pub record Within (g : Shape) (begun : ℕ) (t : Step) : Type 0 where
  pub node : t.node < begun
  pub at : t.at ≤ length (values_at g t.node)

-- the nodes that have begun are the first of the graph; where that is canonical, the values that come next lead to all others
pub record Begun (g : Shape) (nodes : List NodeShape) (begun : ℕ) (stack : List Step) (next : List Value) : Type 0 where
  pub few : begun ≤ length g.nodes
  pub whole : filled g nodes stack ≡ take begun g.nodes
  pub within : All (Within g begun) stack
  pub visit : IsCanon g g → Visit g (upto begun) next (upto (length g.nodes))

-- what is printed is read to the nodes on the stack, the innermost first
pub record PressedOn (g : Shape) (text : List ℕ) (begun roots : ℕ) (stack : List Step) : Type 0 where
  pub nodes : List NodeShape
  pub place : Place
  pub begins : Begun g nodes begun stack (to_come g roots stack)
  pub counted : Counted roots stack
  pub stands : Stands (count_at roots stack) place
  pub read : IsRead (2 ^ 32) text (record { nodes = nodes; frame = frame_at g roots stack; under = under_at g roots stack; place = place })

-- the same, but that the value which is counted last is still to be printed
pub record AwaitsOn (g : Shape) (v : Value) (text : List ℕ) (begun roots : ℕ) (stack : List Step) : Type 0 where
  pub nodes : List NodeShape
  pub place : Place
  pub frame : Frame
  pub begins : Begun g nodes begun stack (v ∷ to_come g roots stack)
  pub counted : Counted roots stack
  pub some : 0 < count_at roots stack
  pub wants : wants_value place frame.head ≡ true
  pub feeds : fed v frame ≡ frame_at g roots stack
  pub read : IsRead (2 ^ 32) text (record { nodes = nodes; frame = frame; under = under_at g roots stack; place = place })

abbrev pub Pressed : Shape → Press → Type 0
Pressed g p = PressedOn g p.out.items p.begun p.roots (reverse p.stack.items)

-- with this step on top of the stack
abbrev pub PressedAt : Shape → Step → Press → Type 0
PressedAt g t p = PressedOn g p.out.items p.begun p.roots (t ∷ reverse p.stack.items)

abbrev pub Awaits : Shape → Value → Press → Type 0
Awaits g v p = AwaitsOn g v p.out.items p.begun p.roots (reverse p.stack.items)

-- the parts are sound
pub record CanPrint (p : Parts) : Type 0 where
  pub closed : IsClosed (shape_of p)
  pub there : AllThere p.types p.classes p.nodes

-- the parts are those of a canonical form
abbrev pub AreCanonical : Parts → Type 0
AreCanonical p = IsCanon (shape_of p) (shape_of p)

-- the work at nodes that haven't begun
abbrev pub unbegun : List NodeShape → ℕ
unbegun [] = 0
unbegun (node ∷ nodes) = 2 + length node.values + unbegun nodes

abbrev pub on_stack : Shape → List Step → ℕ
on_stack g [] = 0
on_stack g (t ∷ ts) = suc (length (values_at g t.node) - t.at) + on_stack g ts

-- what is left to do, which falls at each step
abbrev pub work : Shape → Press → ℕ
work g p = unbegun (drop p.begun g.nodes) + on_stack g (reverse p.stack.items)
