-- The values of a map that was read are whole pairs.
use Rattle.std.proofs.Common.{◌≡◌, ℕ, suc, ◌-◌, ◌<◌, ◌≤◌, List, [], ◌∷◌, length, get_or, refl, ap, sym, ◌∙◌, subst, arith, inl, inr}
use Rattle.std.specs.Prelude.{Option, Some, None}
use Rattle.std.proofs.lemmas.Bool.{cases_lt}
use Rattle.std.proofs.lemmas.List.{get_or-map, length-map}
use Rattle.hessian_graph.specs.declared.value.Value.{Value}
use Rattle.hessian_graph.specs.declared.node.Class.{Class}
use Rattle.hessian_graph.specs.Shape.{Text, Kind, ListKind, MapKind, ObjectKind, NodeShape, Shape, values_at, kind_at, no_node, no_class}
use Rattle.hessian_graph.specs.Reading.{Tables, Leaves, one_more, add_type}
use Rattle.hessian_graph.specs.Spells.{ArePairs, Begins}
use Rattle.hessian_graph.specs.Line.{Form as LineForm, Open, Long, Short, Pairs, Symbol, ValueOf, End, Reference, TypeFor, LengthFor, ClassFor, NameOf, CountOf, FieldOf, values_then, fields_then, defined, typed_kind, behind_type, begun_by, TypedCode, Row, Line}
use Rattle.hessian_graph.specs.Line.TypedCode.{open_list as c_open_list, long_list as c_long_list, short_list as c_short_list, map as c_map}
use Rattle.hessian_graph.specs.Line.Row.{scalar as r_scalar, text as r_text, binary as r_binary, end as r_end, refer as r_refer, reference as r_reference, define as r_define, class_name as r_class_name, field_count as r_field_count, field_name as r_field_name, open_list as r_open_list, long_list as r_long_list, short_list as r_short_list, list_length as r_list_length, typed as r_typed, type_name as r_type_name, type_number as r_type_number, open_map as r_open_map, long_object as r_long_object, class_number as r_class_number, short_object as r_short_object}
use Rattle.hessian_graph.specs.Line.Line.{done, next}
use Rattle.hessian_graph.proofs.ToLine.{line_of}
use Rattle.hessian_reader.specs.declared.table.Sort.{Sort}
use Rattle.hessian_reader.specs.declared.table.Sort.TheVariants as sorts
use Rattle.hessian_reader.specs.Leaves.{IsDenoted}
use Rattle.hessian_reader.specs.Names.{Names}
use Rattle.hessian_reader.specs.Finish.{IsWhole, MapsAreWhole}
use Rattle.hessian_reader.specs.States.{State, no_begun, values_so_far, sort_at, kind_named, node_named, graph_of}

-- the values of a map are whole pairs
abbrev pub IsPaired : Kind → List Value → Type 0
IsPaired (ListKind k) vs = Unit {0}
IsPaired (MapKind k) vs = ArePairs vs
IsPaired (ObjectKind c) vs = Unit {0}

-- the type of a map is to come: its code asked for pairs
abbrev pub FormPairs : LineForm → List Value → Type 0
FormPairs Open vs = Unit {0}
FormPairs Long vs = Unit {0}
FormPairs Short vs = Unit {0}
FormPairs Pairs vs = ArePairs vs

abbrev pub SymbolFits : Shape → Symbol → Type 0
SymbolFits g (ValueOf v) = Unit {0}
SymbolFits g End = Unit {0}
SymbolFits g (Reference n) = Unit {0}
SymbolFits g (TypeFor f n) = FormPairs f (values_at g n)
SymbolFits g (LengthFor n) = IsPaired (kind_at g n) (values_at g n)
SymbolFits g (ClassFor n) = Unit {0}
SymbolFits g (NameOf c) = Unit {0}
SymbolFits g (CountOf c) = Unit {0}
SymbolFits g (FieldOf c f fs) = Unit {0}

abbrev pub SymbolsFit : Shape → List Symbol → Type 0
SymbolsFit g [] = Unit {0}
SymbolsFit g (s ∷ ss) = SymbolFits g s × SymbolsFit g ss

values_fit : (g : Shape) (vs : List Value) (ss : List Symbol) → SymbolsFit g ss → SymbolsFit g (values_then vs ss)
values_fit g [] ss h = h
values_fit g (v ∷ vs) ss h = (tt, values_fit g vs ss h)

fields_fit : (g : Shape) (c : Class) (fs : List Text) (ss : List Symbol) → SymbolsFit g ss → SymbolsFit g (fields_then c fs ss)
fields_fit g c [] ss h = h
fields_fit g c (f ∷ fs) ss h = (tt, h)

typed_fits : {vs : List Value} {f : LineForm} {code : ℕ} → TypedCode vs f code → FormPairs f vs
typed_fits c_open_list = tt
typed_fits c_long_list = tt
typed_fits (c_short_list code is count) = tt
typed_fits (c_map pairs) = pairs

-- what one row adds: the symbols that follow fit, and a node that begins has whole pairs
pub record Adds (g : Shape) (t t' : Tables) (ss' : List Symbol) : Type 0 where
  pub fits : SymbolsFit g ss'
  pub begun : (n : ℕ) → t.begun ≤ n → n < t'.begun → IsPaired (kind_at g n) (values_at g n)

none_begun : (g : Shape) (t t' : Tables) (ss' : List Symbol) → SymbolsFit g ss' → t'.begun ≡ t.begun → Adds g t t' ss'
none_begun g t t' ss' fits e = record { fits = fits; begun = λ n low high. absurd (omega (arith, e, low, high)) }

one_begun : (g : Shape) (t t' : Tables) (ss' : List Symbol) (m : ℕ) → SymbolsFit g ss' → t'.begun ≡ suc t.begun → m ≡ t.begun → IsPaired (kind_at g m) (values_at g m) → Adds g t t' ss'
one_begun g t t' ss' m fits e at h = record { fits = fits; begun = λ n low high. let same : m ≡ n = omega (arith, e, low, high, at) in subst (λ x. IsPaired (kind_at g x) (values_at g x)) same h }

list_paired : (g : Shape) (m : ℕ) (type : Option Text) → kind_at g m ≡ ListKind type → IsPaired (kind_at g m) (values_at g m)
list_paired g m type e = subst (λ k. IsPaired k (values_at g m)) (sym e) tt

object_paired : (g : Shape) (m : ℕ) (c : Class) → kind_at g m ≡ ObjectKind c → IsPaired (kind_at g m) (values_at g m)
object_paired g m c e = subst (λ k. IsPaired k (values_at g m)) (sym e) tt

form_adds : (g : Shape) (f : LineForm) (n : ℕ) (type : Text) (t0 t t' : Tables) (ss : List Symbol) → t.begun ≡ t0.begun → t' ≡ begun_by f t → Begins g t0 n (typed_kind f type) → FormPairs f (values_at g n) → SymbolsFit g ss → Adds g t0 t' (behind_type f n (values_at g n) ss)
form_adds g Open n type t0 t t' ss e e' b h fits = one_begun g t0 t' _ n (values_fit g (values_at g n) (End ∷ ss) (tt, fits)) (ap (λ (x : Tables). x.begun) e' ∙ ap suc e) b.next (list_paired g n (Some type) b.kind_is)
form_adds g Long n type t0 t t' ss e e' b h fits = none_begun g t0 t' _ (list_paired g n (Some type) b.kind_is, fits) (ap (λ (x : Tables). x.begun) e' ∙ e)
form_adds g Short n type t0 t t' ss e e' b h fits = one_begun g t0 t' _ n (values_fit g (values_at g n) ss fits) (ap (λ (x : Tables). x.begun) e' ∙ ap suc e) b.next (list_paired g n (Some type) b.kind_is)
form_adds g Pairs n type t0 t t' ss e e' b h fits = one_begun g t0 t' _ n (values_fit g (values_at g n) (End ∷ ss) (tt, fits)) (ap (λ (x : Tables). x.begun) e' ∙ ap suc e) b.next (subst (λ k. IsPaired k (values_at g n)) (sym b.kind_is) h)

defined_begun : (c : Class) (fs : List Text) (t : Tables) → (defined c fs t).begun ≡ t.begun
defined_begun c [] t = refl
defined_begun c (f ∷ fs) t = refl

row_adds : {l : Leaves} {g : Shape} {t t' : Tables} {front : Symbol} {element : List ℕ} {ss ss' : List Symbol} → Row l g t front element ss ss' t' → SymbolFits g front → SymbolsFit g ss → Adds g t t' ss'
row_adds {g = g} {t = t} (r_scalar {ss = ss} v element is spelled) h fits = none_begun g t t ss fits refl
row_adds {g = g} {t = t} (r_text {ss = ss} text element spelled) h fits = none_begun g t t ss fits refl
row_adds {g = g} {t = t} (r_binary {ss = ss} contents element spelled) h fits = none_begun g t t ss fits refl
row_adds {g = g} {t = t} (r_end {ss = ss}) h fits = none_begun g t t ss fits refl
row_adds {g = g} {t = t} (r_refer {ss = ss} n) h fits = none_begun g t t (Reference n ∷ ss) (tt, fits) refl
row_adds {g = g} {t = t} (r_reference {ss = ss} n element low spelled) h fits = none_begun g t t ss fits refl
row_adds {g = g} {t = t} (r_define {ss = ss} v c) h fits = none_begun g t t (NameOf c ∷ ValueOf v ∷ ss) (tt, (tt, fits)) refl
row_adds {g = g} {t = t} (r_class_name {ss = ss} c element spelled) h fits = none_begun g t t (CountOf c ∷ ss) (tt, fits) refl
row_adds {g = g} {t = t} (r_field_count {ss = ss} c element spelled) h fits = none_begun g t (defined c c.fields t) (fields_then c c.fields ss) (fields_fit g c c.fields ss fits) (defined_begun c c.fields t)
row_adds {g = g} {t = t} (r_field_name {ss = ss} c f fs element spelled) h fits = none_begun g t (defined c fs t) (fields_then c fs ss) (fields_fit g c fs ss fits) (defined_begun c fs t)
row_adds {g = g} {t = t} (r_open_list {ss = ss} n b) h fits = one_begun g t (one_more t) _ n (values_fit g (values_at g n) (End ∷ ss) (tt, fits)) refl b.next (list_paired g n None b.kind_is)
row_adds {g = g} {t = t} (r_long_list {ss = ss} n b) h fits = none_begun g t t (LengthFor n ∷ ss) (list_paired g n None b.kind_is, fits) refl
row_adds {g = g} {t = t} (r_short_list {ss = ss} n code b is count) h fits = one_begun g t (one_more t) _ n (values_fit g (values_at g n) ss fits) refl b.next (list_paired g n None b.kind_is)
row_adds {g = g} {t = t} (r_list_length {ss = ss} n element is spelled) h fits = one_begun g t (one_more t) _ n (values_fit g (values_at g n) ss fits) refl is.next h
row_adds {g = g} {t = t} (r_typed {ss = ss} f n code is typed) h fits = none_begun g t t (TypeFor f n ∷ ss) (typed_fits typed, fits) refl
row_adds {g = g} {t = t} (r_type_name {ss = ss} f n type element b spelled) h fits = form_adds g f n type t (add_type type t) (begun_by f (add_type type t)) ss refl refl b h fits
row_adds {g = g} {t = t} (r_type_number {ss = ss} f n k element low b spelled) h fits = form_adds g f n (get_or t.types k []) t t (begun_by f t) ss refl refl b h fits
row_adds {g = g} {t = t} (r_open_map {ss = ss} n b pairs) h fits = one_begun g t (one_more t) _ n (values_fit g (values_at g n) (End ∷ ss) (tt, fits)) refl b.next (subst (λ k. IsPaired k (values_at g n)) (sym b.kind_is) pairs)
row_adds {g = g} {t = t} (r_long_object {ss = ss} n is) h fits = none_begun g t t (ClassFor n ∷ ss) (tt, fits) refl
row_adds {g = g} {t = t} (r_class_number {ss = ss} n k element o spelled) h fits = one_begun g t (one_more t) _ n (values_fit g (values_at g n) ss fits) refl o.begins.next (object_paired g n (get_or t.classes k no_class) o.begins.kind_is)
row_adds {g = g} {t = t} (r_short_object {ss = ss} n code is o) h fits = one_begun g t (one_more t) _ n (values_fit g (values_at g n) ss fits) refl o.begins.next (object_paired g n (get_or t.classes (code - 0x60) no_class) o.begins.kind_is)

-- all nodes that begin in a line
line_paired : {l : Leaves} {g : Shape} {t u : Tables} {ss : List Symbol} {bytes : List ℕ} → Line l g t ss u bytes → SymbolsFit g ss → (n : ℕ) → t.begun ≤ n → n < u.begun → IsPaired (kind_at g n) (values_at g n)
line_paired done fits n low high = absurd (omega (arith, low, high))
line_paired (next {t' = t'} element rest bytes row joined line) fits n low high =
    let a = row_adds row fits.0 fits.1 in
    elim (cases_lt n t'.begun) [
      | inl early ↦ a.begun n low early
      | inr late ↦ line_paired line a.fits n late high
    ]

sort_whole : (t : Names) (sort : Sort) (vs : List Value) → IsPaired (kind_named t sort) vs → IsWhole sort vs
sort_whole t (sorts.List k) vs h = tt
sort_whole t (sorts.Map k) vs h = h
sort_whole t (sorts.Object k) vs h = tt

-- what is read is denoted, so its maps have whole pairs
pub maps_whole : (bytes : List ℕ) (s : State) → IsDenoted bytes (graph_of s) → MapsAreWhole s
maps_whole bytes s d i low =
    let g : Shape = graph_of s in
    let count : length g.nodes ≡ length s.built.nodes = length-map s.built.nodes (node_named s.names) in
    let all = d.spelled.all_begun in
    let shown : get_or g.nodes i no_node ≡ node_named s.names (get_or s.built.nodes i no_begun) = get_or-map (node_named s.names) s.built.nodes i no_begun no_node low in
    let paired = line_paired (line_of d.spelled.roots) (values_fit g g.roots [] tt) i (omega arith) (omega (arith, all, count, low)) in
    sort_whole s.names (sort_at s.built.nodes i) (values_so_far s.built.nodes i) (subst (λ (x : NodeShape). IsPaired x.kind x.values) shown paired)
