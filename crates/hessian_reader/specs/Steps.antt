-- What each whole element does to a state.
use Rattle.std.specs.Prelude.{◌≡◌, ℕ, ◌-◌, ◌++◌, List, [], ◌∷◌, length, false, nat_lt, if◌then◌else◌, Option, Some, None, Result, Ok, Err, ℤ, pos, negsuc}
use Rattle.hessian_graph.specs.declared.value.Value.TheVariants.{Node}
use Rattle.hessian_graph.specs.Shape.{Text}
use Rattle.hessian_reader.specs.declared.element.Form.{Form}
use Rattle.hessian_reader.specs.declared.element.Form.TheVariants as forms
use Rattle.hessian_reader.specs.declared.element.Head.{Head}
use Rattle.hessian_reader.specs.declared.element.Head.TheVariants as heads
use Rattle.hessian_reader.specs.declared.element.Element.{Element}
use Rattle.hessian_reader.specs.declared.element.Element.TheVariants as elements
use Rattle.hessian_reader.specs.declared.table.Sort.{Sort}
use Rattle.hessian_reader.specs.declared.table.Sort.TheVariants as sorts
use Rattle.hessian_reader.specs.declared.store.Lacks.{Lacks}
use Rattle.hessian_reader.specs.declared.store.OpenNode.{OpenNode}
use Rattle.hessian_reader.specs.declared.stop.Objection.{Objection}
use Rattle.hessian_reader.specs.declared.stop.Objection.TheVariants.{NoEnd, NoNode, NoType, NoClass, NoLength, TooMany, Misplaced}
use Rattle.hessian_reader.specs.Elements.{IsElement}
use Rattle.hessian_reader.specs.Leaves.{node_limit}
use Rattle.hessian_reader.specs.States.{State, Place, AtValue, AtDefined, AtReference, AtType, AtLength, AtClass, AtName, AtCount, AtField, ToEnd, Count, Key, Mate, begins_node, takes_value, moves_to, closes, begins_object, learns_type, awaits_fields, want_at, is_done}

abbrev pub Outcome : Type 0
Outcome = Result State Objection

-- one node more is no node too many
abbrev pub if_room : State → Outcome → Outcome
if_room s outcome = if nat_lt (length s.built.nodes) node_limit then outcome else Err TooMany

-- a value may stand at the place
abbrev pub at_value : Place → Outcome → Outcome
at_value AtValue outcome = outcome
at_value AtDefined outcome = outcome
at_value AtReference outcome = Err Misplaced
at_value (AtType form) outcome = Err Misplaced
at_value (AtLength type_number) outcome = Err Misplaced
at_value AtClass outcome = Err Misplaced
at_value AtName outcome = Err Misplaced
at_value (AtCount name) outcome = Err Misplaced
at_value (AtField class k) outcome = Err Misplaced

-- `Z` ends a node that lacks no certain number of values
abbrev pub end_of : Lacks → List OpenNode → State → Outcome
end_of ToEnd others s = Ok (closes others s)
end_of (Count k) others s = Err NoEnd
end_of Key others s = Ok (closes others s)
end_of Mate others s = Err NoEnd

abbrev pub end_step : List OpenNode → State → Outcome
end_step [] s = Err NoEnd
end_step (o ∷ others) s = end_of o.lacks others s

-- behind the definition of a class a value comes
abbrev pub may_end : Place → Outcome → Outcome
may_end AtValue outcome = outcome
may_end AtDefined outcome = Err NoEnd
may_end AtReference outcome = Err Misplaced
may_end (AtType form) outcome = Err Misplaced
may_end (AtLength type_number) outcome = Err Misplaced
may_end AtClass outcome = Err Misplaced
may_end AtName outcome = Err Misplaced
may_end (AtCount name) outcome = Err Misplaced
may_end (AtField class k) outcome = Err Misplaced

-- the number of an int that isn't negative
abbrev pub natural_of : ℤ → Option ℕ
natural_of (pos k) = Some k
natural_of (negsuc k) = None

-- a number below the count is taken
abbrev pub below_by : Option ℕ → ℕ → (ℕ → State) → Objection → Outcome
below_by (Some k) count f o = if nat_lt k count then Ok (f k) else Err o
below_by None count f o = Err o

abbrev pub below : ℤ → ℕ → (ℕ → State) → Objection → Outcome
below z count f o = below_by (natural_of z) count f o

-- a number that isn't negative is taken
abbrev pub natural_by : Option ℕ → (ℕ → State) → Objection → Outcome
natural_by (Some k) f o = Ok (f k)
natural_by None f o = Err o

abbrev pub natural : ℤ → (ℕ → State) → Objection → Outcome
natural z f o = natural_by (natural_of z) f o

-- what comes behind the type of a node
abbrev pub behind_type : Form → Option ℕ → State → State
behind_type forms.Open k s = begins_node ToEnd (sorts.List k) s
behind_type forms.Long k s = moves_to (AtLength k) s
behind_type (forms.Short n) k s = begins_node (Count n) (sorts.List k) s
behind_type forms.Pairs k s = begins_node Key (sorts.Map k) s

-- each int by its place
abbrev pub reference_step : ℤ → State → Outcome
reference_step z s = below z (length s.built.nodes) (λ n. takes_value (Node n) s) (NoNode z)

abbrev pub type_step : Form → ℤ → State → Outcome
type_step form z s = below z (length s.names.types) (λ k. behind_type form (Some k) s) (NoType z)

abbrev pub length_step : Option ℕ → ℤ → State → Outcome
length_step type_number z s = natural z (λ k. begins_node (Count k) (sorts.List type_number) s) (NoLength z)

abbrev pub class_step : ℤ → State → Outcome
class_step z s = below z (length s.names.classes) (λ k. begins_object k s) (NoClass z)

abbrev pub count_step : Text → ℤ → State → Outcome
count_step name z s = natural z (λ k. awaits_fields (record { name = name; fields = [] }) k s) (NoLength z)

abbrev pub number_step : Place → ℤ → State → Outcome
number_step AtValue z s = Err Misplaced
number_step AtDefined z s = Err Misplaced
number_step AtReference z s = reference_step z s
number_step (AtType form) z s = type_step form z s
number_step (AtLength type_number) z s = length_step type_number z s
number_step AtClass z s = class_step z s
number_step AtName z s = Err Misplaced
number_step (AtCount name) z s = count_step name z s
number_step (AtField class k) z s = Err Misplaced

-- each text by its place
abbrev pub words_step : Place → Text → State → Outcome
words_step AtValue text s = Err Misplaced
words_step AtDefined text s = Err Misplaced
words_step AtReference text s = Err Misplaced
words_step (AtType form) text s = Ok (behind_type form (Some (length s.names.types)) (learns_type text s))
words_step (AtLength type_number) text s = Err Misplaced
words_step AtClass text s = Err Misplaced
words_step AtName text s = Ok (moves_to (AtCount text) s)
words_step (AtCount name) text s = Err Misplaced
words_step (AtField class k) text s = Ok (awaits_fields (record class { fields = class.fields ++ text ∷ [] }) (k - 1) s)

-- a node begins with its code, or its header goes on
abbrev pub node_step : Lacks → Sort → State → Outcome
node_step lacks sort s = if_room s (Ok (begins_node lacks sort s))

abbrev pub header_step : Place → State → Outcome
header_step p s = if_room s (Ok (moves_to p s))

-- each head
abbrev pub head_step : Head → State → Outcome
head_step heads.Refer s = Ok (moves_to AtReference s)
head_step (heads.ShortList k) s = node_step (Count k) (sorts.List None) s
head_step heads.OpenList s = node_step ToEnd (sorts.List None) s
head_step heads.LongList s = header_step (AtLength None) s
head_step (heads.Typed form) s = header_step (AtType form) s
head_step heads.OpenMap s = node_step Key (sorts.Map None) s
head_step heads.Define s = Ok (moves_to AtName s)
head_step (heads.ShortObject k) s = if_room s (class_step (pos k) s)
head_step heads.LongObject s = header_step AtClass s
head_step heads.End s = may_end s.place (end_step s.built.open_nodes s)

-- a whole element
abbrev pub take_element : State → Element → Outcome
take_element s (elements.Plain v) = at_value s.place (Ok (takes_value v s))
take_element s (elements.Code h) = at_value s.place (head_step h s)
take_element s (elements.Number z) = number_step s.place z s
take_element s (elements.Words text) = words_step s.place text s

-- whole elements lead from one state to another, none of them behind the last root
pub data Leads : State → List ℕ → State → Type 0 where
  here : {s : State} → Leads s [] s
  on : {s t u : State} (x : Element) (element rest bytes : List ℕ) → is_done s ≡ false → IsElement (want_at s.place) element x → take_element s x ≡ Ok t → bytes ≡ element ++ rest → Leads t rest u → Leads s bytes u
