-- What elements stand for a value, as a tree: the rows of the notation.
use Rattle.std.specs.Prelude.{ℕ, suc, ◌+◌, ◌<◌, List, [], ◌∷◌, ◌++◌, length, Some, None}
use Rattle.hessian_graph.specs.declared.value.Value.{Value}
use Rattle.hessian_graph.specs.declared.value.Value.TheVariants as values
use Rattle.hessian_graph.specs.declared.node.Class.{Class}
use Rattle.hessian_graph.specs.Shape.{Text, Kind, ListKind, MapKind, ObjectKind, NodeShape, Shape}
use Rattle.graph_notation.specs.declared.element.Mark.TheVariants.{BeginList, EndList, BeginMap, EndMap, BeginFields, EndFields, Comma, Colon, Named}
use Rattle.graph_notation.specs.declared.element.Element.{Element}
use Rattle.graph_notation.specs.declared.element.Element.TheVariants.{Plain, Words, Reference, Sign}

-- what stands between two brackets: values, pairs of a key and its value, or pairs of a field's name and its value
pub data Form : Type 0 where
  Items : Form
  Pairs : Form
  Fields : Form

-- neither a text nor a node
abbrev pub IsPlain : Value → Type 0
IsPlain values.Null = Unit {0}
IsPlain (values.Bool b) = Unit {0}
IsPlain (values.Int z) = Unit {0}
IsPlain (values.Long z) = Unit {0}
IsPlain (values.Date z) = Unit {0}
IsPlain (values.Bytes bytes) = Unit {0}
IsPlain (values.Text text) = ⊥
IsPlain (values.Node k) = ⊥

-- The elements before a node's entries, the form of the entries with the names of its fields, and the mark behind them.
pub data Brackets : Kind → List Element → Form → List Text → Element → Type 0 where
  list : Brackets (ListKind None) (Sign BeginList ∷ []) Items [] (Sign EndList)
  typed_list : (type : Text) → Brackets (ListKind (Some type)) (Sign Named ∷ Words type ∷ Sign BeginList ∷ []) Items [] (Sign EndList)
  map : Brackets (MapKind None) (Sign BeginMap ∷ []) Pairs [] (Sign EndMap)
  typed_map : (type : Text) → Brackets (MapKind (Some type)) (Sign Named ∷ Words type ∷ Sign BeginMap ∷ []) Pairs [] (Sign EndMap)
  object : (class : Class) → Brackets (ObjectKind class) (Sign Named ∷ Words class.name ∷ Sign BeginFields ∷ []) Fields class.fields (Sign EndFields)

-- Where so many nodes have begun, the elements stand for the value, and these nodes begin in it, in this order: a node begins
-- before what it holds.
mutual
  pub data Spells : Value → ℕ → List NodeShape → List Element → Type 0 where
    plain : (n : ℕ) (v : Value) → IsPlain v → Spells v n [] (Plain v ∷ [])
    words : (n : ℕ) (text : Text) → Spells (values.Text text) n [] (Words text ∷ [])
    -- a node that has begun
    reference : (n k : ℕ) → k < n → Spells (values.Node k) n [] (Reference k ∷ [])
    -- the next node begins
    node : (n : ℕ) (kind : Kind) (form : Form) (names : List Text) (head : List Element) (end : Element) (vs : List Value) (nodes : List NodeShape) (inner : List Element) → Brackets kind head form names end → Entries form names vs (suc n) nodes inner → Spells (values.Node n) n (record { kind = kind; values = vs } ∷ nodes) (head ++ (inner ++ end ∷ []))

  -- an item, a key with its value, or a field with its value
  pub data Entry : Form → List Text → List Value → ℕ → List NodeShape → List Element → Type 0 where
    item : (v : Value) (n : ℕ) (nodes : List NodeShape) (es : List Element) → Spells v n nodes es → Entry Items [] (v ∷ []) n nodes es
    pair : (key v : Value) (n : ℕ) (first second : List NodeShape) (front back : List Element) → Spells key n first front → Spells v (n + length first) second back → Entry Pairs [] (key ∷ v ∷ []) n (first ++ second) (front ++ (Sign Colon ∷ back))
    field : (name : Text) (v : Value) (n : ℕ) (nodes : List NodeShape) (es : List Element) → Spells v n nodes es → Entry Fields (name ∷ []) (v ∷ []) n nodes (Words name ∷ Sign Colon ∷ es)

  -- one or more entries, joined by commas
  pub data Joined : Form → List Text → List Value → ℕ → List NodeShape → List Element → Type 0 where
    last : (form : Form) (names : List Text) (vs : List Value) (n : ℕ) (nodes : List NodeShape) (es : List Element) → Entry form names vs n nodes es → Joined form names vs n nodes es
    more : (form : Form) (names names' : List Text) (vs vs' : List Value) (n : ℕ) (first second : List NodeShape) (front back : List Element) → Entry form names vs n first front → Joined form names' vs' (n + length first) second back → Joined form (names ++ names') (vs ++ vs') n (first ++ second) (front ++ (Sign Comma ∷ back))

  -- any number of entries
  pub data Entries : Form → List Text → List Value → ℕ → List NodeShape → List Element → Type 0 where
    none : (form : Form) (n : ℕ) → Entries form [] [] n [] []
    some : (form : Form) (names : List Text) (vs : List Value) (n : ℕ) (nodes : List NodeShape) (es : List Element) → Joined form names vs n nodes es → Entries form names vs n nodes es

-- the roots, joined by commas, begin exactly the nodes of the graph, in the order of their numbers
abbrev pub SpellsGraph : Shape → List Element → Type 0
SpellsGraph g es = Entries Items [] g.roots 0 g.nodes es
