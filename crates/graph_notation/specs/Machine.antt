-- What each element does to the state of a reading.
use Rattle.std.specs.Prelude.{ℕ, List, [], ◌∷◌, ◌++◌, length, set, Bool, true, false, not, ◌&&◌, nat_lt, Some, None, Result, Ok, Err, if◌then◌else◌}
use Rattle.hessian_graph.specs.declared.value.Value.{Value}
use Rattle.hessian_graph.specs.declared.value.Value.TheVariants.{Node, Text as Letters}
use Rattle.hessian_graph.specs.Shape.{Text, Kind, ListKind, MapKind, ObjectKind, NodeShape, Shape, no_node}
use Rattle.graph_notation.specs.declared.element.Mark.{Mark}
use Rattle.graph_notation.specs.declared.element.Mark.TheVariants.{BeginList, EndList, BeginMap, EndMap, BeginFields, EndFields, Comma, Colon, Named}
use Rattle.graph_notation.specs.declared.element.Element.{Element}
use Rattle.graph_notation.specs.declared.element.Element.TheVariants.{Plain, Words, Reference, Sign}
use Rattle.graph_notation.specs.declared.frame.Head.{Head}
use Rattle.graph_notation.specs.declared.frame.Head.TheVariants as heads
use Rattle.graph_notation.specs.declared.frame.Frame.{Frame}
use Rattle.graph_notation.specs.declared.frame.Place.{Place}
use Rattle.graph_notation.specs.declared.frame.Place.TheVariants as places
use Rattle.graph_notation.specs.declared.frame.Cause.{Cause}
use Rattle.graph_notation.specs.declared.frame.Cause.TheVariants.{Bad, Unknown, TooMany}

-- the nodes that have begun, the node that is being read, those around it, the innermost first, and what may come
pub record State : Type 0 where
  pub nodes : List NodeShape
  pub frame : Frame
  pub under : List Frame
  pub place : Place

abbrev pub new_frame : ℕ → Head → Frame
new_frame number head = record { number = number; head = head; names = []; values = []; keyed = false }

-- nothing is read: the roots are read as a list
abbrev pub start : State
start = record { nodes = []; frame = new_frame 0 (heads.List None); under = []; place = places.Start }

abbrev pub kind_of : Head → List Text → Kind
kind_of (heads.List type) names = ListKind type
kind_of (heads.Map type) names = MapKind type
kind_of (heads.Object name) names = ObjectKind (record { name = name; fields = names })

-- the node that a frame is once it is whole
abbrev pub shown : Frame → NodeShape
shown f = record { kind = kind_of f.head f.names; values = f.values }

-- whether a key waits behind one value more
abbrev pub flips : Head → Bool → Bool
flips (heads.List type) keyed = false
flips (heads.Map type) keyed = not keyed
flips (heads.Object name) keyed = false

-- one value more
abbrev pub fed : Value → Frame → Frame
fed v f = record f { values = f.values ++ v ∷ []; keyed = flips f.head f.keyed }

abbrev pub gives : Value → State → State
gives v s = record s { frame = fed v s.frame; place = places.After }

abbrev pub goes_to : Place → State → State
goes_to p s = record s { place = p }

-- a node begins: the node around it is given its number
abbrev pub opens : Head → State → State
opens head s = record { nodes = s.nodes ++ no_node ∷ []; frame = new_frame (length s.nodes) head; under = fed (Node (length s.nodes)) s.frame ∷ s.under; place = places.Start }

-- a field's name
abbrev pub named : Text → State → State
named text s = record s { frame = record (s.frame) { names = s.frame.names ++ text ∷ [] }; place = places.AfterField }

-- the node is whole, and the one around it goes on
abbrev pub closed : List Frame → State → Result State Cause
closed [] s = Err Bad
closed (f ∷ fs) s = Ok (record { nodes = set s.nodes s.frame.number (shown s.frame); frame = f; under = fs; place = places.After })

abbrev pub is_list : Head → Bool
is_list (heads.List type) = true
is_list (heads.Map type) = false
is_list (heads.Object name) = false

abbrev pub is_map : Head → Bool
is_map (heads.List type) = false
is_map (heads.Map type) = true
is_map (heads.Object name) = false

abbrev pub is_object : Head → Bool
is_object (heads.List type) = false
is_object (heads.Map type) = false
is_object (heads.Object name) = true

-- whether a value may come
abbrev pub wants_value : Place → Head → Bool
wants_value places.Start head = not (is_object head)
wants_value places.Next head = not (is_object head)
wants_value places.Value head = true
wants_value places.AfterField head = false
wants_value places.After head = false
wants_value places.Type head = false
wants_value (places.Bracket text) head = false

-- whether the node may end
abbrev pub may_end : Place → Bool → Bool
may_end places.Start keyed = not keyed
may_end places.Next keyed = false
may_end places.Value keyed = false
may_end places.AfterField keyed = false
may_end places.After keyed = not keyed
may_end places.Type keyed = false
may_end (places.Bracket text) keyed = false

-- whether a comma may come
abbrev pub may_go_on : Place → Bool → Bool
may_go_on places.Start keyed = false
may_go_on places.Next keyed = false
may_go_on places.Value keyed = false
may_go_on places.AfterField keyed = false
may_go_on places.After keyed = not keyed
may_go_on places.Type keyed = false
may_go_on (places.Bracket text) keyed = false

-- whether a colon may come
abbrev pub wants_colon : Place → Bool → Bool
wants_colon places.Start keyed = false
wants_colon places.Next keyed = false
wants_colon places.Value keyed = false
wants_colon places.AfterField keyed = true
wants_colon places.After keyed = keyed
wants_colon places.Type keyed = false
wants_colon (places.Bracket text) keyed = false

-- a text that is no value: a field's name, or the name of a type or a class
abbrev pub name_step : Place → Text → State → Result State Cause
name_step places.Start text s = Ok (named text s)
name_step places.Next text s = Ok (named text s)
name_step places.Value text s = Err Bad
name_step places.AfterField text s = Err Bad
name_step places.After text s = Err Bad
name_step places.Type text s = Ok (goes_to (places.Bracket text) s)
name_step (places.Bracket text') text s = Err Bad

-- a bracket behind a name
abbrev pub bracket_step : (Text → Head) → Place → State → Result State Cause
bracket_step head places.Start s = Err Bad
bracket_step head places.Next s = Err Bad
bracket_step head places.Value s = Err Bad
bracket_step head places.AfterField s = Err Bad
bracket_step head places.After s = Err Bad
bracket_step head places.Type s = Err Bad
bracket_step head (places.Bracket text) s = Ok (opens (head text) s)

abbrev pub typed_list : Text → Head
typed_list text = heads.List (Some text)

abbrev pub typed_map : Text → Head
typed_map text = heads.Map (Some text)

abbrev pub typed_object : Text → Head
typed_object text = heads.Object text

-- a node has room
abbrev pub room : ℕ → State → State → Result State Cause
room bound s t = if nat_lt (length s.nodes) bound then Ok t else Err TooMany

abbrev pub end_step : Bool → State → Result State Cause
end_step fits s = if may_end s.place s.frame.keyed && fits then closed s.under s else Err Bad

abbrev pub mark_step : ℕ → Mark → State → Result State Cause
mark_step bound BeginList s = if wants_value s.place s.frame.head then room bound s (opens (heads.List None) s) else bracket_step typed_list s.place s
mark_step bound EndList s = end_step (is_list s.frame.head) s
mark_step bound BeginMap s = if wants_value s.place s.frame.head then room bound s (opens (heads.Map None) s) else bracket_step typed_map s.place s
mark_step bound EndMap s = end_step (is_map s.frame.head) s
mark_step bound BeginFields s = bracket_step typed_object s.place s
mark_step bound EndFields s = end_step (is_object s.frame.head) s
mark_step bound Comma s = if may_go_on s.place s.frame.keyed then Ok (goes_to places.Next s) else Err Bad
mark_step bound Colon s = if wants_colon s.place s.frame.keyed then Ok (goes_to places.Value s) else Err Bad
mark_step bound Named s = if wants_value s.place s.frame.head then room bound s (goes_to places.Type s) else Err Bad

abbrev pub reference_step : ℕ → State → Result State Cause
reference_step k s = if nat_lt k (length s.nodes) then Ok (gives (Node k) s) else Err (Unknown k)

abbrev pub step : ℕ → State → Element → Result State Cause
step bound s (Plain v) = if wants_value s.place s.frame.head then Ok (gives v s) else Err Bad
step bound s (Words text) = if wants_value s.place s.frame.head then Ok (gives (Letters text) s) else name_step s.place text s
step bound s (Reference k) = if wants_value s.place s.frame.head then reference_step k s else Err Bad
step bound s (Sign mark) = mark_step bound mark s

abbrev pub and_then : Result State Cause → (State → Result State Cause) → Result State Cause
and_then (Ok s) f = f s
and_then (Err e) f = Err e

abbrev pub run : ℕ → State → List Element → Result State Cause
run bound s [] = Ok s
run bound s (e ∷ es) = and_then (step bound s e) (λ t. run bound t es)

abbrev pub is_outermost : List Frame → Bool
is_outermost [] = true
is_outermost (f ∷ fs) = false

-- whether the text may end
abbrev pub is_whole : State → Bool
is_whole s = may_end s.place s.frame.keyed && is_outermost s.under

abbrev pub graph_of : State → Shape
graph_of s = record { roots = s.frame.values; nodes = s.nodes }
