-- The writer's bytes for a value are determined, where those of leaves are.
use Rattle.std.proofs.Common.{◌≡◌, ℕ, ◌+◌, ◌<◌, ◌≤◌, List, [], ◌∷◌, ◌++◌, length, refl, ap, sym, ◌∙◌, subst, arith, inl, inr}
use Rattle.std.specs.Prelude.{pos, Some, None}
use Rattle.std.proofs.lemmas.Bool.{cases_order}
use Rattle.hessian_graph.specs.declared.value.Value.{Value}
use Rattle.hessian_graph.specs.declared.value.Value.TheVariants as values
use Rattle.hessian_graph.specs.declared.node.Class.{Class}
use Rattle.hessian_graph.specs.Shape.{Text, Shape, Kind, ListKind, MapKind, ObjectKind, values_at, kind_at, no_class}
use Rattle.hessian_graph.specs.Reading.{Tables, Leaves, OneSpelling, IntSpelling, IsScalar, one_more, add_class}
use Rattle.hessian_graph.specs.Spells.{ClassSpelling, TextsSpelling, Begins}
use Rattle.hessian_graph.specs.Spells.TextsSpelling.{none as no_texts, one as one_text}
use Rattle.hessian_graph.specs.Forms.{TypeForm, IsEarliest, IsNew, SHORT_LENGTH, SHORT_CLASS, Writes, WritesAll, InForms, Written}
use Rattle.hessian_graph.specs.Canon.{in_order}
use Rattle.hessian_graph.proofs.Visits.{one_visit}
use Rattle.hessian_graph.specs.Forms.TypeForm.{known, new}
use Rattle.hessian_graph.specs.Forms.Writes.{scalar as w_scalar, reference as w_reference, short_list as w_short_list, long_list as w_long_list, short_typed_list as w_short_typed_list, long_typed_list as w_long_typed_list, map as w_map, typed_map as w_typed_map, first_object as w_first_object, short_object as w_short_object, long_object as w_long_object, text as w_text, binary as w_binary}
use Rattle.hessian_graph.specs.Forms.WritesAll.{none as ws_none, one as ws_one}

abbrev count_at : Shape → ℕ → ℕ
count_at g n = length (values_at g n)

-- what can stand for a node that begins here, by its kind
data ListView (w : Leaves) (g : Shape) (n : ℕ) (t u : Tables) : List ℕ → Type 0 where
  short : (items : List ℕ) → count_at g n ≤ SHORT_LENGTH → WritesAll w g (values_at g n) (one_more t) u items → ListView w g n t u ((0x78 + count_at g n) ∷ items)
  long : (count items : List ℕ) → SHORT_LENGTH < count_at g n → IntSpelling w (pos (count_at g n)) count → WritesAll w g (values_at g n) (one_more t) u items → ListView w g n t u (0x58 ∷ (count ++ items))

data TypedView (w : Leaves) (g : Shape) (n : ℕ) (type : Text) (t u : Tables) : List ℕ → Type 0 where
  short_typed : (mid : Tables) (name items : List ℕ) → count_at g n ≤ SHORT_LENGTH → TypeForm w type t mid name → WritesAll w g (values_at g n) (one_more mid) u items → TypedView w g n type t u ((0x70 + count_at g n) ∷ (name ++ items))
  long_typed : (mid : Tables) (name count items : List ℕ) → SHORT_LENGTH < count_at g n → TypeForm w type t mid name → IntSpelling w (pos (count_at g n)) count → WritesAll w g (values_at g n) (one_more mid) u items → TypedView w g n type t u (0x56 ∷ (name ++ (count ++ items)))

data MapView (w : Leaves) (g : Shape) (n : ℕ) (t u : Tables) : List ℕ → Type 0 where
  map : (items : List ℕ) → WritesAll w g (values_at g n) (one_more t) u items → MapView w g n t u (0x48 ∷ (items ++ 0x5a ∷ []))

data TypedMapView (w : Leaves) (g : Shape) (n : ℕ) (type : Text) (t u : Tables) : List ℕ → Type 0 where
  typed_map : (mid : Tables) (name items : List ℕ) → TypeForm w type t mid name → WritesAll w g (values_at g n) (one_more mid) u items → TypedMapView w g n type t u (0x4d ∷ (name ++ (items ++ 0x5a ∷ [])))

data ObjectView (w : Leaves) (g : Shape) (n : ℕ) (class : Class) (t u : Tables) : List ℕ → Type 0 where
  first : (definition rest : List ℕ) → IsNew no_class t.classes class → ClassSpelling w class definition → Writes w g (values.Node n) (add_class class t) u rest → ObjectView w g n class t u (0x43 ∷ (definition ++ rest))
  short_object : (k : ℕ) (items : List ℕ) → IsEarliest no_class t.classes class k → k ≤ SHORT_CLASS → WritesAll w g (values_at g n) (one_more t) u items → ObjectView w g n class t u ((0x60 + k) ∷ items)
  long_object : (k : ℕ) (number items : List ℕ) → IsEarliest no_class t.classes class k → SHORT_CLASS < k → IntSpelling w (pos k) number → WritesAll w g (values_at g n) (one_more t) u items → ObjectView w g n class t u (0x4f ∷ (number ++ items))

abbrev View : Leaves → Shape → ℕ → Kind → Tables → Tables → List ℕ → Type 0
View w g n (ListKind None) t u bytes = ListView w g n t u bytes
View w g n (ListKind (Some type)) t u bytes = TypedView w g n type t u bytes
View w g n (MapKind None) t u bytes = MapView w g n t u bytes
View w g n (MapKind (Some type)) t u bytes = TypedMapView w g n type t u bytes
View w g n (ObjectKind class) t u bytes = ObjectView w g n class t u bytes

-- a reference to a node that has begun, or a node that begins here
data NodeView (w : Leaves) (g : Shape) (n : ℕ) (t : Tables) : Tables → List ℕ → Type 0 where
  again : (number : List ℕ) → n < t.begun → IntSpelling w (pos n) number → NodeView w g n t t (0x51 ∷ number)
  begins : {u : Tables} {bytes : List ℕ} → n ≡ t.begun → View w g n (kind_at g n) t u bytes → NodeView w g n t u bytes

seen : {w : Leaves} {g : Shape} {n : ℕ} {t u : Tables} {bytes : List ℕ} (kind : Kind) → Begins g t n kind → View w g n kind t u bytes → NodeView w g n t u bytes
seen {w} {g} {n} {t} {u} {bytes} kind b view = begins b.next (subst (λ k. View w g n k t u bytes) (sym b.kind_is) view)

no_scalar : {n : ℕ} → IsScalar (values.Node n) → ⊥
no_scalar plain = elim plain [ ]

no_scalar_text : {text : Text} → IsScalar (values.Text text) → ⊥
no_scalar_text plain = elim plain [ ]

no_scalar_bytes : {contents : List ℕ} → IsScalar (values.Bytes contents) → ⊥
no_scalar_bytes plain = elim plain [ ]

node_view : {w : Leaves} {g : Shape} {n : ℕ} {t u : Tables} {bytes : List ℕ} → Writes w g (values.Node n) t u bytes → NodeView w g n t u bytes
node_view (w_scalar v bytes plain is) = absurd (no_scalar plain)
node_view (w_reference n number begun is) = again number begun is
node_view (w_short_list n items b few all) = seen (ListKind None) b (short items few all)
node_view (w_long_list n count items b many is all) = seen (ListKind None) b (long count items many is all)
node_view (w_short_typed_list {u = mid} n type name items b few is all) = seen (ListKind (Some type)) b (short_typed mid name items few is all)
node_view (w_long_typed_list {u = mid} n type name count items b many is counted all) = seen (ListKind (Some type)) b (long_typed mid name count items many is counted all)
node_view (w_map n items b pairs all) = seen (MapKind None) b (map items all)
node_view (w_typed_map {u = mid} n type name items b pairs is all) = seen (MapKind (Some type)) b (typed_map mid name items is all)
node_view (w_first_object n class definition rest b fresh is more) = seen (ObjectKind class) b (first definition rest fresh is more)
node_view (w_short_object n k items o few all) = seen (ObjectKind o.class) o.begins (short_object k items o.number_is few all)
node_view (w_long_object n k number items o many is all) = seen (ObjectKind o.class) o.begins (long_object k number items o.number_is many is all)

-- a node that begins here is no node that has begun
view_at : {w : Leaves} {g : Shape} {n : ℕ} {t u : Tables} {bytes : List ℕ} (kind : Kind) → Begins g t n kind → Writes w g (values.Node n) t u bytes → View w g n kind t u bytes
view_at {w} {g} {n} {t} {u} {bytes} kind b written = by_view b.next (subst (λ k. Begins g t n k) (sym b.kind_is) b) (node_view written)
  where
    by_view : {u' : Tables} {bytes' : List ℕ} → n ≡ t.begun → Begins g t n (kind_at g n) → NodeView w g n t u' bytes' → View w g n kind t u' bytes'
    by_view e b' (again number begun is) = absurd (omega (arith, e, begun))
    by_view {u'} {bytes'} e b' (begins e' view) = subst (λ k. View w g n k t u' bytes') b.kind_is view

abbrev Same : Tables → Tables → List ℕ → List ℕ → Type 0
Same u u' a b = (u ≡ u') × (a ≡ b)

-- two lists that are equal part by part
joined : (a a' b b' : List ℕ) → a ≡ a' → b ≡ b' → a ++ b ≡ a' ++ b'
joined a a' b b' e e' = ap (λ x. x ++ b) e ∙ ap (λ x. a' ++ x) e'

same_texts : {w : Leaves} {texts : List Text} {a b : List ℕ} → OneSpelling w → TextsSpelling w texts a → TextsSpelling w texts b → a ≡ b
same_texts one no_texts no_texts = refl
same_texts one (one_text text texts front rest is more) (one_text text' texts' front' rest' is' more') = joined front front' rest rest' (one.text text front front' is is') (same_texts one more more')

same_class : {w : Leaves} (class : Class) (a b : List ℕ) → OneSpelling w → ClassSpelling w class a → ClassSpelling w class b → a ≡ b
same_class class a b one c d =
    let fields : c.fields ≡ d.fields = same_texts one c.are_fields d.are_fields in
    let count : c.count ≡ d.count = one.scalar (values.Int (pos (length class.fields))) c.count d.count c.is_count d.is_count in
    c.joined ∙ joined c.name d.name (c.count ++ c.fields) (d.count ++ d.fields) (one.text class.name c.name d.name c.is_name d.is_name) (joined c.count d.count c.fields d.fields count fields) ∙ sym d.joined

-- a name has one earliest place
same_place : {N : Type 0} (none : N) (table : List N) (name : N) (k k' : ℕ) → IsEarliest none table name k → IsEarliest none table name k' → k ≡ k'
same_place none table name k k' a b = elim (cases_order k k') [
  | inl same ↦ same
  | inr other ↦ elim other [ inl low ↦ absurd (b.earliest k low a.is) | inr high ↦ absurd (a.earliest k' high b.is) ]
]

not_new : {N : Type 0} (none : N) (table : List N) (name : N) (k : ℕ) → IsEarliest none table name k → IsNew none table name → ⊥
not_new none table name k a fresh = fresh k a.within a.is

same_type : {w : Leaves} {type : Text} {t u u' : Tables} {a b : List ℕ} → OneSpelling w → TypeForm w type t u a → TypeForm w type t u' b → Same u u' a b
same_type {w} {type} {t} one (known type' k bytes place is) (known type'' k' bytes' place' is') =
    let same : k ≡ k' = same_place [] t.types type k k' place place' in
    (refl, one.scalar (values.Int (pos k')) bytes bytes' (subst (λ x. IntSpelling w (pos x) bytes) same is) is')
same_type {w} {type} {t} one (known type' k bytes place is) (new type'' bytes' fresh is') = absurd (not_new [] t.types type k place fresh)
same_type {w} {type} {t} one (new type' bytes fresh is) (known type'' k bytes' place is') = absurd (not_new [] t.types type k place fresh)
same_type one (new type' bytes fresh is) (new type'' bytes' fresh' is') = (refl, one.text type' bytes bytes' is is')

-- the values of a node, once its header is the same
abbrev SameItems : Leaves → Shape → ℕ → Tables → Tables → List ℕ → Type 0
SameItems w g n t u items = (u' : Tables) (items' : List ℕ) → WritesAll w g (values_at g n) t u' items' → Same u u' items items'

same_short_list : {w : Leaves} {g : Shape} {n : ℕ} {t u u' : Tables} {b : List ℕ} (items : List ℕ) → count_at g n ≤ SHORT_LENGTH → SameItems w g n (one_more t) u items → ListView w g n t u' b → Same u u' ((0x78 + count_at g n) ∷ items) b
same_short_list {g = g} {n = n} {u' = u'} items few rest (short items' few' all') =
    let r = rest u' items' all' in
    (r.0, ap (λ x. (0x78 + count_at g n) ∷ x) r.1)
same_short_list items few rest (long count' items' many is' all') = absurd (omega (arith, few, many))

same_long_list : {w : Leaves} {g : Shape} {n : ℕ} {t u u' : Tables} {b : List ℕ} (count items : List ℕ) → OneSpelling w → SHORT_LENGTH < count_at g n → IntSpelling w (pos (count_at g n)) count → SameItems w g n (one_more t) u items → ListView w g n t u' b → Same u u' (0x58 ∷ (count ++ items)) b
same_long_list count items one many is rest (short items' few' all') = absurd (omega (arith, few', many))
same_long_list {g = g} {n = n} {u' = u'} count items one many is rest (long count' items' many' is' all') =
    let r = rest u' items' all' in
    (r.0, ap (λ x. 0x58 ∷ x) (joined count count' items items' (one.scalar (values.Int (pos (count_at g n))) count count' is is') r.1))

same_short_typed : {w : Leaves} {g : Shape} {n : ℕ} {type : Text} {t u u' : Tables} {b : List ℕ} (mid : Tables) (name items : List ℕ) → OneSpelling w → count_at g n ≤ SHORT_LENGTH → TypeForm w type t mid name → SameItems w g n (one_more mid) u items → TypedView w g n type t u' b → Same u u' ((0x70 + count_at g n) ∷ (name ++ items)) b
same_short_typed {w} {g} {n} {u' = u'} mid name items one few is rest (short_typed mid' name' items' few' is' all') =
    let header = same_type one is is' in
    let r = rest u' items' (subst (λ x. WritesAll w g (values_at g n) (one_more x) u' items') (sym header.0) all') in
    (r.0, ap (λ x. (0x70 + count_at g n) ∷ x) (joined name name' items items' header.1 r.1))
same_short_typed mid name items one few is rest (long_typed mid' name' count' items' many is' counted all') = absurd (omega (arith, few, many))

same_long_typed : {w : Leaves} {g : Shape} {n : ℕ} {type : Text} {t u u' : Tables} {b : List ℕ} (mid : Tables) (name count items : List ℕ) → OneSpelling w → SHORT_LENGTH < count_at g n → TypeForm w type t mid name → IntSpelling w (pos (count_at g n)) count → SameItems w g n (one_more mid) u items → TypedView w g n type t u' b → Same u u' (0x56 ∷ (name ++ (count ++ items))) b
same_long_typed mid name count items one many is counted rest (short_typed mid' name' items' few' is' all') = absurd (omega (arith, few', many))
same_long_typed {w} {g} {n} {u' = u'} mid name count items one many is counted rest (long_typed mid' name' count' items' many' is' counted' all') =
    let header = same_type one is is' in
    let r = rest u' items' (subst (λ x. WritesAll w g (values_at g n) (one_more x) u' items') (sym header.0) all') in
    let number : count ≡ count' = one.scalar (values.Int (pos (count_at g n))) count count' counted counted' in
    (r.0, ap (λ x. 0x56 ∷ x) (joined name name' (count ++ items) (count' ++ items') header.1 (joined count count' items items' number r.1)))

same_map : {w : Leaves} {g : Shape} {n : ℕ} {t u u' : Tables} {b : List ℕ} (items : List ℕ) → SameItems w g n (one_more t) u items → MapView w g n t u' b → Same u u' (0x48 ∷ (items ++ 0x5a ∷ [])) b
same_map {u' = u'} items rest (map items' all') =
    let r = rest u' items' all' in
    (r.0, ap (λ x. 0x48 ∷ (x ++ 0x5a ∷ [])) r.1)

same_typed_map : {w : Leaves} {g : Shape} {n : ℕ} {type : Text} {t u u' : Tables} {b : List ℕ} (mid : Tables) (name items : List ℕ) → OneSpelling w → TypeForm w type t mid name → SameItems w g n (one_more mid) u items → TypedMapView w g n type t u' b → Same u u' (0x4d ∷ (name ++ (items ++ 0x5a ∷ []))) b
same_typed_map {w} {g} {n} {u' = u'} mid name items one is rest (typed_map mid' name' items' is' all') =
    let header = same_type one is is' in
    let r = rest u' items' (subst (λ x. WritesAll w g (values_at g n) (one_more x) u' items') (sym header.0) all') in
    (r.0, ap (λ x. 0x4d ∷ x) (joined name name' (items ++ 0x5a ∷ []) (items' ++ 0x5a ∷ []) header.1 (ap (λ x. x ++ 0x5a ∷ []) r.1)))

same_first : {w : Leaves} {g : Shape} {n : ℕ} {class : Class} {t u u' : Tables} {b : List ℕ} (definition more : List ℕ) → OneSpelling w → IsNew no_class t.classes class → ClassSpelling w class definition → ((x : Tables) (y : List ℕ) → Writes w g (values.Node n) (add_class class t) x y → Same u x more y) → ObjectView w g n class t u' b → Same u u' (0x43 ∷ (definition ++ more)) b
same_first {class = class} {u' = u'} definition more one fresh is rest (first definition' more' fresh' is' written') =
    let r = rest u' more' written' in
    (r.0, ap (λ x. 0x43 ∷ x) (joined definition definition' more more' (same_class class definition definition' one is is') r.1))
same_first {class = class} {t = t} definition more one fresh is rest (short_object k items' place few all') = absurd (not_new no_class t.classes class k place fresh)
same_first {class = class} {t = t} definition more one fresh is rest (long_object k number items' place many is' all') = absurd (not_new no_class t.classes class k place fresh)

same_short_object : {w : Leaves} {g : Shape} {n : ℕ} {class : Class} {t u u' : Tables} {b : List ℕ} (k : ℕ) (items : List ℕ) → IsEarliest no_class t.classes class k → k ≤ SHORT_CLASS → SameItems w g n (one_more t) u items → ObjectView w g n class t u' b → Same u u' ((0x60 + k) ∷ items) b
same_short_object {class = class} {t = t} k items place few rest (first definition' more' fresh' is' written') = absurd (not_new no_class t.classes class k place fresh')
same_short_object {class = class} {t = t} {u' = u'} k items place few rest (short_object k' items' place' few' all') =
    let r = rest u' items' all' in
    let same : k ≡ k' = same_place no_class t.classes class k k' place place' in
    (r.0, ap (λ x. (0x60 + x) ∷ items) same ∙ ap (λ x. (0x60 + k') ∷ x) r.1)
same_short_object {class = class} {t = t} k items place few rest (long_object k' number' items' place' many is' all') =
    let same : k ≡ k' = same_place no_class t.classes class k k' place place' in
    absurd (omega (arith, few, many, same))

same_long_object : {w : Leaves} {g : Shape} {n : ℕ} {class : Class} {t u u' : Tables} {b : List ℕ} (k : ℕ) (number items : List ℕ) → OneSpelling w → IsEarliest no_class t.classes class k → SHORT_CLASS < k → IntSpelling w (pos k) number → SameItems w g n (one_more t) u items → ObjectView w g n class t u' b → Same u u' (0x4f ∷ (number ++ items)) b
same_long_object {class = class} {t = t} k number items one place many is rest (first definition' more' fresh' is' written') = absurd (not_new no_class t.classes class k place fresh')
same_long_object {class = class} {t = t} k number items one place many is rest (short_object k' items' place' few' all') =
    let same : k ≡ k' = same_place no_class t.classes class k k' place place' in
    absurd (omega (arith, few', many, same))
same_long_object {w} {class = class} {t = t} {u' = u'} k number items one place many is rest (long_object k' number' items' place' many' is' all') =
    let r = rest u' items' all' in
    let same : k ≡ k' = same_place no_class t.classes class k k' place place' in
    (r.0, ap (λ x. 0x4f ∷ x) (joined number number' items items' (one.scalar (values.Int (pos k')) number number' (subst (λ x. IntSpelling w (pos x) number) same is) is') r.1))

same_reference : {w : Leaves} {g : Shape} {n : ℕ} {t u' : Tables} {b : List ℕ} (number : List ℕ) → OneSpelling w → n < t.begun → IntSpelling w (pos n) number → NodeView w g n t u' b → Same t u' (0x51 ∷ number) b
same_reference {n = n} number one begun is (again number' begun' is') = (refl, ap (λ x. 0x51 ∷ x) (one.scalar (values.Int (pos n)) number number' is is'))
same_reference number one begun is (begins e view) = absurd (omega (arith, e, begun))

same_scalar : {w : Leaves} {g : Shape} {v : Value} {t u' : Tables} {b : List ℕ} (a : List ℕ) → OneSpelling w → IsScalar v → w.scalar v a → Writes w g v t u' b → Same t u' a b
same_scalar a one plain is (w_scalar v b plain' is') = (refl, one.scalar v a b is is')
same_scalar a one plain is (w_text text b is') = absurd (no_scalar_text plain)
same_scalar a one plain is (w_binary contents b is') = absurd (no_scalar_bytes plain)
same_scalar a one plain is (w_reference n number begun is') = absurd (no_scalar plain)
same_scalar a one plain is (w_short_list n items b few all) = absurd (no_scalar plain)
same_scalar a one plain is (w_long_list n count items b many is' all) = absurd (no_scalar plain)
same_scalar a one plain is (w_short_typed_list n type name items b few is' all) = absurd (no_scalar plain)
same_scalar a one plain is (w_long_typed_list n type name count items b many is' counted all) = absurd (no_scalar plain)
same_scalar a one plain is (w_map n items b pairs all) = absurd (no_scalar plain)
same_scalar a one plain is (w_typed_map n type name items b pairs is' all) = absurd (no_scalar plain)
same_scalar a one plain is (w_first_object n class definition rest b fresh is' more) = absurd (no_scalar plain)
same_scalar a one plain is (w_short_object n k items o few all) = absurd (no_scalar plain)
same_scalar a one plain is (w_long_object n k number items o many is' all) = absurd (no_scalar plain)

same_text : {w : Leaves} {g : Shape} {text : Text} {t u' : Tables} {b : List ℕ} (a : List ℕ) → OneSpelling w → w.text text a → Writes w g (values.Text text) t u' b → Same t u' a b
same_text a one is (w_scalar v b plain is') = absurd (no_scalar_text plain)
same_text a one is (w_text text b is') = (refl, one.text text a b is is')

same_binary : {w : Leaves} {g : Shape} {contents : List ℕ} {t u' : Tables} {b : List ℕ} (a : List ℕ) → OneSpelling w → w.binary contents a → Writes w g (values.Bytes contents) t u' b → Same t u' a b
same_binary a one is (w_scalar v b plain is') = absurd (no_scalar_bytes plain)
same_binary a one is (w_binary contents b is') = (refl, one.binary contents a b is is')

mutual
  pub same_value : {w : Leaves} {g : Shape} {v : Value} {t u : Tables} {a : List ℕ} → OneSpelling w → Writes w g v t u a → (u' : Tables) (b : List ℕ) → Writes w g v t u' b → (u ≡ u') × (a ≡ b)
  same_value one (w_scalar v a plain is) u' b other = same_scalar a one plain is other
  same_value one (w_text text a is) u' b other = same_text a one is other
  same_value one (w_binary contents a is) u' b other = same_binary a one is other
  same_value one (w_reference n number begun is) u' b other = same_reference number one begun is (node_view other)
  same_value one (w_short_list n items begin few all) u' b other = same_short_list items few (same_values one all) (view_at (ListKind None) begin other)
  same_value one (w_long_list n count items begin many is all) u' b other = same_long_list count items one many is (same_values one all) (view_at (ListKind None) begin other)
  same_value one (w_short_typed_list {u = mid} n type name items begin few is all) u' b other = same_short_typed mid name items one few is (same_values one all) (view_at (ListKind (Some type)) begin other)
  same_value one (w_long_typed_list {u = mid} n type name count items begin many is counted all) u' b other = same_long_typed mid name count items one many is counted (same_values one all) (view_at (ListKind (Some type)) begin other)
  same_value one (w_map n items begin pairs all) u' b other = same_map items (same_values one all) (view_at (MapKind None) begin other)
  same_value one (w_typed_map {u = mid} n type name items begin pairs is all) u' b other = same_typed_map mid name items one is (same_values one all) (view_at (MapKind (Some type)) begin other)
  same_value one (w_first_object n class definition rest begin fresh is more) u' b other = same_first definition rest one fresh is (same_value one more) (view_at (ObjectKind class) begin other)
  same_value one (w_short_object n k items o few all) u' b other = same_short_object k items o.number_is few (same_values one all) (view_at (ObjectKind o.class) o.begins other)
  same_value one (w_long_object n k number items o many is all) u' b other = same_long_object k number items one o.number_is many is (same_values one all) (view_at (ObjectKind o.class) o.begins other)

  pub same_values : {w : Leaves} {g : Shape} {vs : List Value} {t u : Tables} {a : List ℕ} → OneSpelling w → WritesAll w g vs t u a → (u' : Tables) (b : List ℕ) → WritesAll w g vs t u' b → (u ≡ u') × (a ≡ b)
  same_values one ws_none u' b ws_none = (refl, refl)
  same_values {w} {g} one (ws_one {vs = vs} {u = mid} front rest head tail) u' b (ws_one {u = mid'} front' rest' head' tail') =
      let h = same_value one head mid' front' head' in
      let r = same_values one tail u' rest' (subst (λ x. WritesAll w g vs x u' rest') (sym h.0) tail') in
      (r.0, joined front front' rest rest' h.1 r.1)

-- a graph has at most one list of bytes in the writer's forms
pub one_in_forms : (w : Leaves) (g : Shape) (a b : List ℕ) → OneSpelling w → InForms w a g → InForms w b g → a ≡ b
one_in_forms w g a b one left right = (same_values one left.roots right.last b right.roots).1

-- for a graph at most one list of bytes is written
pub one_written : {l : Leaves} (w : Leaves) (g : Shape) (a b : List ℕ) → OneSpelling w → Written l w g a → Written l w g b → a ≡ b
one_written w g a b one left right =
    let (order, visit, is) = left.canonical in
    let (order', visit', is') = right.canonical in
    let same : left.form ≡ right.form = is ∙ ap (in_order g) (one_visit visit visit') ∙ sym is' in
    one_in_forms w right.form a b one (subst (λ x. InForms w a x) same left.in_forms) right.in_forms
