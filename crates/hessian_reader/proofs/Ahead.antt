-- What a state still lacks of a graph, in its place.
use Rattle.std.proofs.Common.{◌≡◌, ℕ, suc, ◌<◌, List, [], ◌∷◌, ◌++◌, length, refl, ap, sym, ◌∙◌, subst, arith, inl, inr, ◌⊎◌}
use Rattle.std.specs.Prelude.{Option, Some, None}
use Rattle.std.proofs.lemmas.Bool.{cases_eq}
use Rattle.std.proofs.lemmas.List.{get_or_append_left}
use Rattle.hessian_graph.specs.declared.value.Value.{Value}
use Rattle.hessian_graph.specs.declared.value.Value.TheVariants.{Node}
use Rattle.hessian_graph.specs.declared.node.Class.{Class}
use Rattle.hessian_graph.specs.Shape.{Text, ListKind, MapKind, ObjectKind, Shape, values_at, kind_at, type_of, no_class}
use Rattle.hessian_graph.specs.Tables.{NumberBelow}
use Rattle.hessian_graph.specs.Reading.{Tables, one_more}
use Rattle.hessian_graph.specs.Spells.{Begins}
use Rattle.hessian_graph.specs.Line.{Form as LineForm, Open, Long, Short, Pairs, Symbol, ValueOf, End, Reference, TypeFor, LengthFor, ClassFor, NameOf, CountOf, FieldOf, values_then, IsNext}
use Rattle.hessian_reader.specs.declared.element.Form.{Form}
use Rattle.hessian_reader.specs.declared.element.Form.TheVariants as forms
use Rattle.hessian_reader.specs.declared.table.Sort.{Sort}
use Rattle.hessian_reader.specs.declared.table.Sort.TheVariants as sorts
use Rattle.hessian_reader.specs.declared.store.Lacks.{Lacks}
use Rattle.hessian_reader.specs.declared.store.OpenNode.{OpenNode}
use Rattle.hessian_reader.specs.Names.{Names, and_type, and_class}
use Rattle.hessian_reader.specs.States.{Built, State, Place, AtValue, AtDefined, AtReference, AtType, AtLength, AtClass, AtName, AtCount, AtField, ToEnd, Count, Key, Mate, sort_at, with_value, with_open, with_node, begins_node, takes_value, learns_type, learns_class, kind_named}
use Rattle.hessian_reader.proofs.Slots.{tables_of}
use Rattle.hessian_reader.proofs.Lacking.{Even, AreOpen, behind, to_come, Lacking, Lacks', give}
use Rattle.hessian_reader.proofs.Opening.{LacksAll, begin}
use Rattle.hessian_reader.proofs.Sound.{SortFits, Sound, value_nodes, value_sort, value_open, node_nodes, sort_new, sort_old}

abbrev pub line_form : Form → LineForm
line_form forms.Open = Open
line_form forms.Long = Long
line_form (forms.Short k) = Short
line_form forms.Pairs = Pairs

-- what a code says of the values of its node
abbrev pub FormFits : Form → ℕ → Type 0
FormFits forms.Open count = Unit {0}
FormFits forms.Long count = Unit {0}
FormFits (forms.Short k) count = k ≡ count
FormFits forms.Pairs count = Even count

-- the symbols of the values that are lacking, and those that are to come at a place
pub data Ahead (g : Shape) (t : Tables) : Place → List Symbol → List Symbol → Type 0 where
  value : {ss : List Symbol} → Ahead g t AtValue ss ss
  defined : {ss : List Symbol} (v : Value) → Ahead g t AtDefined (ValueOf v ∷ ss) (ValueOf v ∷ ss)
  reference : {ss : List Symbol} (n : ℕ) → Ahead g t AtReference (ValueOf (Node n) ∷ ss) (Reference n ∷ ss)
  type : {ss : List Symbol} (form : Form) (f : LineForm) (n : ℕ) → f ≡ line_form form → IsNext g t n → FormFits form (length (values_at g n)) → Ahead g t (AtType form) (ValueOf (Node n) ∷ ss) (TypeFor f n ∷ ss)
  len : {ss : List Symbol} (k : Option ℕ) (n : ℕ) → Begins g t n (ListKind (type_of t.types k)) → Ahead g t (AtLength k) (ValueOf (Node n) ∷ ss) (LengthFor n ∷ ss)
  class : {ss : List Symbol} (n : ℕ) → IsNext g t n → Ahead g t AtClass (ValueOf (Node n) ∷ ss) (ClassFor n ∷ ss)
  class_name : {ss : List Symbol} (v : Value) (c : Class) → Ahead g t AtName (ValueOf v ∷ ss) (NameOf c ∷ ValueOf v ∷ ss)
  field_count : {ss : List Symbol} (v : Value) (c : Class) (name : Text) → name ≡ c.name → Ahead g t (AtCount name) (ValueOf v ∷ ss) (CountOf c ∷ ValueOf v ∷ ss)
  fields : {ss : List Symbol} (v : Value) (c far : Class) (k : ℕ) (f : Text) (fs : List Text) → far.name ≡ c.name → far.fields ++ f ∷ fs ≡ c.fields → k ≡ suc (length fs) → Ahead g t (AtField far k) (ValueOf v ∷ ss) (FieldOf c f fs ∷ ValueOf v ∷ ss)

abbrev pub KindsAre : Shape → State → Type 0
KindsAre g s = (i : ℕ) → i < length s.built.nodes → kind_at g i ≡ kind_named s.names (sort_at s.built.nodes i)

-- these symbols are what the state lacks of the graph
pub record Has (g : Shape) (s : State) (ss : List Symbol) : Type 0 where
  pub under : List Symbol
  pub lacking : Lacks' g s.built under
  pub ahead : Ahead g (tables_of s) s.place under ss
  pub kinds : KindsAre g s

abbrev pub TakesValue : Place → Type 0
TakesValue place = (place ≡ AtValue) ⊎ (place ≡ AtDefined)

-- the first symbol says where the reading stands
abbrev pub Expects : Shape → Tables → Place → List Symbol → List Symbol → Type 0
Expects g t place under [] = (place ≡ AtValue) × (under ≡ [])
Expects g t place under (ValueOf v ∷ ss) = TakesValue place × (under ≡ ValueOf v ∷ ss)
Expects g t place under (End ∷ ss) = (place ≡ AtValue) × (under ≡ End ∷ ss)
Expects g t place under (Reference n ∷ ss) = (place ≡ AtReference) × (under ≡ ValueOf (Node n) ∷ ss)
Expects g t place under (TypeFor f n ∷ ss) = (form : Form) × (place ≡ AtType form) × (f ≡ line_form form) × (under ≡ ValueOf (Node n) ∷ ss) × FormFits form (length (values_at g n))
Expects g t place under (LengthFor n ∷ ss) = (k : Option ℕ) × (place ≡ AtLength k) × (under ≡ ValueOf (Node n) ∷ ss) × Begins g t n (ListKind (type_of t.types k))
Expects g t place under (ClassFor n ∷ ss) = (place ≡ AtClass) × (under ≡ ValueOf (Node n) ∷ ss)
Expects g t place under (NameOf c ∷ ss) = (place ≡ AtName) × (under ≡ ss) × (v : Value) × (tail : List Symbol) × (ss ≡ ValueOf v ∷ tail)
Expects g t place under (CountOf c ∷ ss) = (place ≡ AtCount c.name) × (under ≡ ss) × (v : Value) × (tail : List Symbol) × (ss ≡ ValueOf v ∷ tail)
Expects g t place under (FieldOf c f fs ∷ ss) = (far : Class) × (place ≡ AtField far (suc (length fs))) × (under ≡ ss) × (far.name ≡ c.name) × (far.fields ++ f ∷ fs ≡ c.fields) × (v : Value) × (tail : List Symbol) × (ss ≡ ValueOf v ∷ tail)

-- only values and ends are lacking
abbrev IsPlain : List Symbol → Type 0
IsPlain [] = Unit {0}
IsPlain (ValueOf v ∷ ss) = Unit {0}
IsPlain (End ∷ ss) = Unit {0}
IsPlain (Reference n ∷ ss) = ⊥
IsPlain (TypeFor f n ∷ ss) = ⊥
IsPlain (LengthFor n ∷ ss) = ⊥
IsPlain (ClassFor n ∷ ss) = ⊥
IsPlain (NameOf c ∷ ss) = ⊥
IsPlain (CountOf c ∷ ss) = ⊥
IsPlain (FieldOf c f fs ∷ ss) = ⊥

plain_values : (vs : List Value) (ss : List Symbol) → IsPlain ss → IsPlain (values_then vs ss)
plain_values [] ss h = h
plain_values (v ∷ vs) ss h = tt

plain_behind : (lacks : Lacks) (ss : List Symbol) → IsPlain ss → IsPlain (behind lacks ss)
plain_behind ToEnd ss h = tt
plain_behind (Count k) ss h = h
plain_behind Key ss h = tt
plain_behind Mate ss h = tt

plain_to_come : (os : List OpenNode) (rests : List (List Value)) (last : List Value) → IsPlain (to_come os rests last)
plain_to_come [] rests last = plain_values last [] tt
plain_to_come (o ∷ os) [] last = tt
plain_to_come (o ∷ os) (r ∷ rs) last = plain_values r _ (plain_behind o.lacks _ (plain_to_come os rs last))

expects_value : (g : Shape) (t : Tables) (ss : List Symbol) → IsPlain ss → Expects g t AtValue ss ss
expects_value g t [] h = (refl, refl)
expects_value g t (ValueOf v ∷ ss) h = (inl refl, refl)
expects_value g t (End ∷ ss) h = (refl, refl)
expects_value g t (Reference n ∷ ss) h = absurd h
expects_value g t (TypeFor f n ∷ ss) h = absurd h
expects_value g t (LengthFor n ∷ ss) h = absurd h
expects_value g t (ClassFor n ∷ ss) h = absurd h
expects_value g t (NameOf c ∷ ss) h = absurd h
expects_value g t (CountOf c ∷ ss) h = absurd h
expects_value g t (FieldOf c f fs ∷ ss) h = absurd h

expected : {g : Shape} {t : Tables} {place : Place} {under ss : List Symbol} → Ahead g t place under ss → IsPlain under → Expects g t place under ss
expected {g} {t} (value {ss = ss}) h = expects_value g t ss h
expected (defined v) h = (inr refl, refl)
expected (reference n) h = (refl, refl)
expected (type form f n e next fits) h = (form, refl, e, refl, fits)
expected (len k n begins) h = (k, refl, refl, begins)
expected (class n next) h = (refl, refl)
expected (class_name {ss = ss} v c) h = (refl, refl, v, ss, refl)
expected (field_count {ss = ss} v c name e) h = (ap AtCount e, refl, v, ss, refl)
expected (fields {ss = ss} v c far k f fs e e' e'') h = (far, ap (AtField far) e'', refl, e, e', v, ss, refl)

pub expects : (g : Shape) (s : State) (ss : List Symbol) (h : Has g s ss) → Expects g (tables_of s) s.place h.under ss
expects g s ss h = expected h.ahead (subst IsPlain (sym h.lacking.rest) (plain_to_come s.built.open_nodes h.lacking.rests h.lacking.last))

-- a value that is given

pub value_has : (g : Shape) (s : State) (v : Value) (ss : List Symbol) → Sound s → Lacks' g s.built (ValueOf v ∷ ss) → KindsAre g s → Has g (takes_value v s) ss
value_has g s v ss sound p kinds = record {
  under = ss;
  lacking = give g s.built v ss s.built.open_nodes sound.open_fit p;
  ahead = value;
  kinds = λ i h. kinds i (subst (λ n. i < n) (value_nodes s.built.open_nodes v s.built) h) ∙ ap (kind_named s.names) (sym (value_sort s.built.open_nodes v s.built i sound.open_fit));
}

pub value_tables : (s : State) (v : Value) → tables_of (takes_value v s) ≡ tables_of s
value_tables s v = ap (λ n. record { begun = n; types = s.names.types; classes = s.names.classes }) (value_nodes s.built.open_nodes v s.built)

-- a node that begins

node_lacks : (g : Shape) (b : Built) (ss : List Symbol) (lacks : Lacks) (sort : Sort) → AreOpen (length b.nodes) b.open_nodes → LacksAll lacks (length (values_at g (length b.nodes))) → Lacks' g b (ValueOf (Node (length b.nodes)) ∷ ss) → Lacks' g (with_node lacks sort b) (values_then (values_at g (length b.nodes)) (behind lacks ss))
node_lacks g b ss lacks sort sane is p =
    let b1 : Built = with_value b.open_nodes (Node (length b.nodes)) b in
    let e : length b1.nodes ≡ length b.nodes = value_nodes b.open_nodes (Node (length b.nodes)) b in
    let q = give g b (Node (length b.nodes)) ss b.open_nodes sane p in
    subst (λ n. Lacking g b1.roots b1.wanted (b1.nodes ++ record { sort = sort; values = [] } ∷ []) (with_open lacks n b1.open_nodes) (values_then (values_at g n) (behind lacks ss))) e
    (begin g b1.roots b1.wanted b1.nodes sort b1.open_nodes lacks ss (value_open b.open_nodes (Node (length b.nodes)) b sane) (subst (λ n. LacksAll lacks (length (values_at g n))) (sym e) is) q)

pub begins_kinds : (g : Shape) (s : State) (lacks : Lacks) (sort : Sort) → Sound s → KindsAre g s → kind_at g (length s.built.nodes) ≡ kind_named s.names sort → KindsAre g (begins_node lacks sort s)
begins_kinds g s lacks sort sound kinds new i h =
    let all = node_nodes lacks sort s.built in
    elim (cases_eq i (length s.built.nodes)) [
      | inl e ↦ ap (kind_at g) e ∙ new ∙ ap (kind_named s.names) (sym (ap (sort_at (with_node lacks sort s.built).nodes) e ∙ sort_new lacks sort s.built))
      | inr ne ↦ let low : i < length s.built.nodes = omega (arith, h, all, ne) in kinds i low ∙ ap (kind_named s.names) (sym (sort_old lacks sort s.built i sound.open_fit low))
    ]

pub begins_tables : (s : State) (lacks : Lacks) (sort : Sort) → tables_of (begins_node lacks sort s) ≡ one_more (tables_of s)
begins_tables s lacks sort = ap (λ n. record { begun = n; types = s.names.types; classes = s.names.classes }) (node_nodes lacks sort s.built)

pub begins_has : (g : Shape) (s : State) (lacks : Lacks) (sort : Sort) (n : ℕ) (ss : List Symbol) → Sound s → n ≡ length s.built.nodes → Lacks' g s.built (ValueOf (Node n) ∷ ss) → KindsAre g s → kind_at g n ≡ kind_named s.names sort → LacksAll lacks (length (values_at g n)) → Has g (begins_node lacks sort s) (values_then (values_at g n) (behind lacks ss))
begins_has g s lacks sort n ss sound e p kinds new is = record {
  under = values_then (values_at g n) (behind lacks ss);
  lacking = subst (λ k. Lacks' g (with_node lacks sort s.built) (values_then (values_at g k) (behind lacks ss))) (sym e) (node_lacks g s.built ss lacks sort sound.open_fit (subst (λ k. LacksAll lacks (length (values_at g k))) e is) (subst (λ k. Lacks' g s.built (ValueOf (Node k) ∷ ss)) e p));
  ahead = value;
  kinds = begins_kinds g s lacks sort sound kinds (subst (λ k. kind_at g k ≡ kind_named s.names sort) e new);
}

-- names stay when the tables grow

type_stays : (types : List Text) (text : Text) (k : Option ℕ) → NumberBelow (length types) k → type_of (types ++ text ∷ []) k ≡ type_of types k
type_stays types text None h = refl
type_stays types text (Some k) h = ap Some (get_or_append_left types (text ∷ []) [] k h)

pub kind_typed : (t : Names) (text : Text) (sort : Sort) → SortFits t sort → kind_named (and_type text t) sort ≡ kind_named t sort
kind_typed t text (sorts.List k) h = ap ListKind (type_stays t.types text k h)
kind_typed t text (sorts.Map k) h = ap MapKind (type_stays t.types text k h)
kind_typed t text (sorts.Object k) h = refl

pub kind_classed : (t : Names) (c : Class) (sort : Sort) → SortFits t sort → kind_named (and_class c t) sort ≡ kind_named t sort
kind_classed t c (sorts.List k) h = refl
kind_classed t c (sorts.Map k) h = refl
kind_classed t c (sorts.Object k) h = ap ObjectKind (get_or_append_left t.classes (c ∷ []) no_class k h)

pub kinds_typed : (g : Shape) (s : State) (text : Text) → Sound s → KindsAre g s → KindsAre g (learns_type text s)
kinds_typed g s text sound kinds i h = kinds i h ∙ sym (kind_typed s.names text (sort_at s.built.nodes i) (sound.numbers i h))

pub kinds_untyped : (g : Shape) (s : State) (text : Text) → Sound s → KindsAre g (learns_type text s) → KindsAre g s
kinds_untyped g s text sound kinds i h = kinds i h ∙ kind_typed s.names text (sort_at s.built.nodes i) (sound.numbers i h)

pub kinds_classed : (g : Shape) (s : State) (c : Class) → Sound s → KindsAre g s → KindsAre g (learns_class c s)
kinds_classed g s c sound kinds i h = kinds i h ∙ sym (kind_classed s.names c (sort_at s.built.nodes i) (sound.numbers i h))

pub kinds_unclassed : (g : Shape) (s : State) (c : Class) → Sound s → KindsAre g (learns_class c s) → KindsAre g s
kinds_unclassed g s c sound kinds i h = kinds i h ∙ kind_classed s.names c (sort_at s.built.nodes i) (sound.numbers i h)
