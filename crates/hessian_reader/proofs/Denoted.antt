-- What is denoted names nodes that are there, and its objects have a value for each field.
use Rattle.std.proofs.Common.{◌≡◌, ℕ, zero, suc, true, ◌-◌, ◌<◌, ◌≤◌, List, [], ◌∷◌, length, get_or, refl, sym, subst, arith, inl, inr}
use Rattle.std.specs.Prelude.{Some, None, All}
use Rattle.std.proofs.lemmas.Bool.{cases_eq, cases_lt}
use Rattle.std.proofs.lemmas.List.{get_or-map, length-map}
use Rattle.hessian_graph.specs.declared.value.Value.{Value}
use Rattle.hessian_graph.specs.declared.value.Value.TheVariants as values
use Rattle.hessian_graph.specs.declared.node.Node.{Node}
use Rattle.hessian_graph.specs.Shape.{Text, Kind, ListKind, MapKind, ObjectKind, NodeShape, Shape, no_node, no_vertex, no_class, kind_at, values_at, shape_of}
use Rattle.hessian_graph.specs.Moving.{NamesThere}
use Rattle.hessian_graph.specs.Reading.{Tables, Leaves, IsScalar, no_tables, one_more}
use Rattle.hessian_graph.specs.Reading.IsScalar.{null, bool, int, long, date}
use Rattle.hessian_graph.specs.Spells.{TypeSpelling, Begins, Spells, SpellsAll}
use Rattle.hessian_graph.specs.Spells.TypeSpelling.{named, numbered}
use Rattle.hessian_graph.specs.Spells.Spells.{open_typed_list as t_open_typed_list, long_typed_list as t_long_typed_list, short_typed_list as t_short_typed_list, open_typed_map as t_open_typed_map, class_first as t_class_first, scalar as t_scalar, text as t_text, binary as t_binary, reference as t_reference, open_list as t_open_list, long_list as t_long_list, short_list as t_short_list, open_map as t_open_map, long_object as t_long_object, short_object as t_short_object}
use Rattle.hessian_graph.specs.Spells.SpellsAll.{none as ts_none, one as ts_one}
use Rattle.hessian_graph.specs.Work.{NamesBelow, IsClosed}
use Rattle.hessian_graph.proofs.Rebuilding.{sound_of}
use Rattle.hessian_reader.specs.Nodes.{Begun}
use Rattle.hessian_reader.specs.declared.table.Sort.{Sort}
use Rattle.hessian_reader.specs.declared.table.Sort.TheVariants as sorts
use Rattle.hessian_reader.specs.Finish.{IsNodeOf, IsWhole, MapsAreWhole, MakesSound}
use Rattle.hessian_reader.specs.Leaves.{IsDenoted}
use Rattle.hessian_reader.specs.Names.{Names}
use Rattle.hessian_reader.specs.States.{State, start, is_done, no_begun, sort_at, values_so_far, kind_named, node_named, graph_of}
use Rattle.hessian_reader.proofs.Finishing.{graph_named}
use Rattle.hessian_reader.proofs.Sound.{SortFits, Sound}
use Rattle.hessian_reader.proofs.Keeping.{sound_start, sound_leads}
use Rattle.hessian_reader.proofs.Running.{denotes}
use Rattle.hessian_reader.proofs.Paired.{maps_whole}
use Rattle.hessian_reader.specs.Steps.{Leads}

-- an object has as many values as its class has fields
abbrev FieldsFit : Kind → List Value → Type 0
FieldsFit (ListKind type) vs = Unit {0}
FieldsFit (MapKind type) vs = Unit {0}
FieldsFit (ObjectKind class) vs = length vs ≡ length class.fields

record NodeFits (g : Shape) (n : ℕ) : Type 0 where
  names : All (NamesBelow (length g.nodes)) (values_at g n)
  fields : FieldsFit (kind_at g n) (values_at g n)

-- the nodes that begin between these tables fit
record Fits (g : Shape) (t u : Tables) : Type 0 where
  more : t.begun ≤ u.begun
  within : u.begun ≤ length g.nodes
  each : (n : ℕ) → t.begun ≤ n → n < u.begun → NodeFits g n

none_begin : (g : Shape) (t : Tables) → t.begun ≤ length g.nodes → Fits g t t
none_begin g t low = record { more = omega arith; within = low; each = λ n above below. absurd (omega (arith, above, below)) }

-- a type begins no node
type_begins_none : {l : Leaves} {type : Text} {t u : Tables} {bytes : List ℕ} → TypeSpelling l type t u bytes → u.begun ≡ t.begun
type_begins_none (named text bytes is) = refl
type_begins_none (numbered k bytes low is) = refl

-- values that name no node, and those that name one

scalar_names : (count : ℕ) (v : Value) → IsScalar v → NamesBelow count v
scalar_names count v null n e = cc
scalar_names count v (bool b) n e = cc
scalar_names count v (int z) n e = cc
scalar_names count v (long z) n e = cc
scalar_names count v (date z) n e = cc

node_names : (count m : ℕ) → m < count → NamesBelow count (values.Node m)
node_names count m low n e = let same : m ≡ n = cc in subst (λ i. i < count) same low

no_names : (count : ℕ) → All (NamesBelow count) []
no_names count k d h = absurd (omega (arith, h))

one_names : (count : ℕ) (v : Value) (vs : List Value) → NamesBelow count v → All (NamesBelow count) vs → All (NamesBelow count) (v ∷ vs)
one_names count v vs first rest zero d h = first
one_names count v vs first rest (suc k) d h = rest k d (omega (arith, h))

-- a node that begins, and its values
node_begins : (g : Shape) (t mid u : Tables) (n : ℕ) (kind : Kind) → Begins g t n kind → mid.begun ≡ t.begun → FieldsFit kind (values_at g n) → Fits g (one_more mid) u × All (NamesBelow (length g.nodes)) (values_at g n) → Fits g t u × NamesBelow (length g.nodes) (values.Node n)
node_begins g t mid u n kind b same fields (fit, names) =
    let first = b.next in
    let more = fit.more in (
      record {
        more = omega (arith, same, more);
        within = fit.within;
        each = λ m above below. elim (cases_eq m n) [
          | inl here ↦ subst (NodeFits g) (sym here) (record { names = names; fields = subst (λ k. FieldsFit k (values_at g n)) (sym b.kind_is) fields })
          | inr other ↦ fit.each m (omega (arith, above, other, first, same)) below
        ];
      },
      node_names (length g.nodes) n b.within,
    )

-- there is room for a node that begins
room_within : (g : Shape) (t mid : Tables) (n : ℕ) (kind : Kind) → Begins g t n kind → mid.begun ≡ t.begun → suc mid.begun ≤ length g.nodes
room_within g t mid n kind b same = let next = b.next in let within = b.within in omega (arith, next, within, same)

mutual
  value_fits : {l : Leaves} {g : Shape} {v : Value} {t u : Tables} {bytes : List ℕ} → t.begun ≤ length g.nodes → Spells l g v t u bytes → Fits g t u × NamesBelow (length g.nodes) v
  value_fits {g = g} {t = t} {u = u} low (t_scalar v bytes plain is) = (none_begin g t low, scalar_names (length g.nodes) v plain)
  value_fits {g = g} {t = t} {u = u} low (t_text text bytes is) = (none_begin g t low, λ n e. cc)
  value_fits {g = g} {t = t} {u = u} low (t_binary contents bytes is) = (none_begin g t low, λ n e. cc)
  value_fits {g = g} {t = t} {u = u} low (t_reference n number begun is) = (none_begin g t low, node_names (length g.nodes) n (omega (arith, begun, low)))
  value_fits {g = g} {t = t} {u = u} low (t_class_first v class definition rest is more) =
      let (fit, names) = value_fits low more in
      (record { more = fit.more; within = fit.within; each = fit.each }, names)
  value_fits {g = g} {t = t} {u = u} low (t_open_list n items b all) = node_begins g t t u n (ListKind None) b refl tt (values_fit (room_within g t t n (ListKind None) b refl) all)
  value_fits {g = g} {t = t} {u = u} low (t_long_list n count items b is all) = node_begins g t t u n (ListKind None) b refl tt (values_fit (room_within g t t n (ListKind None) b refl) all)
  value_fits {g = g} {t = t} {u = u} low (t_short_list n code items b is count all) = node_begins g t t u n (ListKind None) b refl tt (values_fit (room_within g t t n (ListKind None) b refl) all)
  value_fits {g = g} {t = t} {u = u} low (t_open_typed_list {u = mid} n type name items b is all) = let same = type_begins_none is in node_begins g t mid u n (ListKind (Some type)) b same tt (values_fit (room_within g t mid n (ListKind (Some type)) b same) all)
  value_fits {g = g} {t = t} {u = u} low (t_long_typed_list {u = mid} n type name count items b is counted all) = let same = type_begins_none is in node_begins g t mid u n (ListKind (Some type)) b same tt (values_fit (room_within g t mid n (ListKind (Some type)) b same) all)
  value_fits {g = g} {t = t} {u = u} low (t_short_typed_list {u = mid} n code type name items b code_is count is all) = let same = type_begins_none is in node_begins g t mid u n (ListKind (Some type)) b same tt (values_fit (room_within g t mid n (ListKind (Some type)) b same) all)
  value_fits {g = g} {t = t} {u = u} low (t_open_map n items b pairs all) = node_begins g t t u n (MapKind None) b refl tt (values_fit (room_within g t t n (MapKind None) b refl) all)
  value_fits {g = g} {t = t} {u = u} low (t_open_typed_map {u = mid} n type name items b pairs is all) = let same = type_begins_none is in node_begins g t mid u n (MapKind (Some type)) b same tt (values_fit (room_within g t mid n (MapKind (Some type)) b same) all)
  value_fits {g = g} {t = t} {u = u} low (t_long_object n k number items o is all) = node_begins g t t u n (ObjectKind (get_or t.classes k no_class)) o.begins refl o.values_are (values_fit (room_within g t t n (ObjectKind (get_or t.classes k no_class)) o.begins refl) all)
  value_fits {g = g} {t = t} {u = u} low (t_short_object n code items is o all) = node_begins g t t u n (ObjectKind (get_or t.classes (code - 0x60) no_class)) o.begins refl o.values_are (values_fit (room_within g t t n (ObjectKind (get_or t.classes (code - 0x60) no_class)) o.begins refl) all)

  values_fit : {l : Leaves} {g : Shape} {vs : List Value} {t u : Tables} {bytes : List ℕ} → t.begun ≤ length g.nodes → SpellsAll l g vs t u bytes → Fits g t u × All (NamesBelow (length g.nodes)) vs
  values_fit {g = g} {t = t} low ts_none = (none_begin g t low, no_names (length g.nodes))
  values_fit {g = g} low (ts_one {v = v} {vs = rest_values} {u = mid} front rest first others) =
      let (a, name) = value_fits low first in
      let (b, names) = values_fit a.within others in
      let a_more = a.more in
      let b_more = b.more in (
        record {
          more = omega (arith, a_more, b_more);
          within = b.within;
          each = λ n above below. elim (cases_lt n mid.begun) [
            | inl early ↦ a.each n above early
            | inr late ↦ b.each n late below
          ];
        },
        one_names (length g.nodes) v rest_values name names,
      )

-- a graph that bytes denote
record Denoted (g : Shape) : Type 0 where
  closed : IsClosed g
  fields : (n : ℕ) → n < length g.nodes → FieldsFit (kind_at g n) (values_at g n)

denoted_fits : (bytes : List ℕ) (g : Shape) → IsDenoted bytes g → Denoted g
denoted_fits bytes g d =
    let (fit, roots) = values_fit {t = no_tables} {u = d.spelled.last} (omega arith) d.spelled.roots in
    let all = d.spelled.all_begun in
    let limit = d.limit in
    record {
      closed = record { few = omega (arith, limit); roots = roots; each = λ n low. (fit.each n (omega arith) (omega (arith, all, low))).names };
      fields = λ n low. (fit.each n (omega arith) (omega (arith, all, low))).fields;
    }

-- the names of a node are there
names_there : (t : Names) (sort : Sort) (vs : List Value) (node : Node) → IsNodeOf sort vs node → IsWhole sort vs → SortFits t sort → FieldsFit (kind_named t sort) vs → NamesThere t.types t.classes node
names_there t (sorts.List k) vs node is whole low fields = subst (NamesThere t.types t.classes) (sym is) low
names_there t (sorts.Map k) vs node is whole low fields = let pairs = is whole in subst (NamesThere t.types t.classes) (sym pairs.1) low
names_there t (sorts.Object k) vs node is whole low fields = subst (NamesThere t.types t.classes) (sym is) (record { below = low; count_is = fields })

-- parts that are made of a reading that has ended are sound
pub makes_sound : (s : State) (bytes : List ℕ) → Sound s → IsDenoted bytes (graph_of s) → MapsAreWhole s → MakesSound s
makes_sound s bytes sound d whole p made =
    let g : Shape = graph_of s in
    let begun : List Begun = s.built.nodes in
    let fit = denoted_fits bytes g d in
    let count : length g.nodes ≡ length begun = length-map begun (node_named s.names) in
    let shape : shape_of p ≡ g = graph_named s p p.nodes made.roots refl made.types made.classes made.nodes whole in
    let as_many = made.nodes.as_many in
    sound_of p (subst IsClosed (sym shape) fit.closed) (λ n h.
    let low : n < length begun = omega (arith, as_many, h) in
    let at : get_or g.nodes n no_node ≡ node_named s.names (get_or begun n no_begun) = get_or-map (node_named s.names) begun n no_begun no_node low in
    let fields : FieldsFit (kind_named s.names (sort_at begun n)) (values_so_far begun n) = subst (λ (x : NodeShape). FieldsFit x.kind x.values) at (fit.fields n (omega (arith, count, low))) in
    let there = names_there s.names (sort_at begun n) (values_so_far begun n) (get_or p.nodes n no_vertex) (made.nodes.each n low) (whole n low) (sound.numbers n low) fields in
    subst (λ types. NamesThere types p.classes (get_or p.nodes n no_vertex)) (sym made.types)
    (subst (λ classes. NamesThere s.names.types classes (get_or p.nodes n no_vertex)) (sym made.classes) there))

-- parts that are made of what whole bytes lead to are sound
pub reading_makes_sound : (roots : ℕ) (bytes : List ℕ) (s : State) → Leads (start roots) bytes s → is_done s ≡ true → MakesSound s
reading_makes_sound roots bytes s leads e =
    let whole = denotes roots bytes s leads e in
    makes_sound s bytes (sound_leads (sound_start roots) leads) whole.denoted (maps_whole bytes s whole.denoted)
