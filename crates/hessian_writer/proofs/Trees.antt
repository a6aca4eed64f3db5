-- What is written from left to right is the writer's spelling of the canonical form.
use Rattle.std.proofs.Common.{◌≡◌, ℕ, suc, ◌+◌, ◌<◌, List, [], ◌∷◌, ◌++◌, length, get_or, refl, ap, sym, ◌∙◌, subst, arith, length-append, append_assoc}
use Rattle.std.specs.Prelude.{pos, Some, None, map}
use Rattle.std.proofs.lemmas.List.{append-nil, length-map}
use Rattle.hessian_graph.specs.declared.value.Value.{Value}
use Rattle.hessian_graph.specs.declared.value.Value.TheVariants as values
use Rattle.hessian_graph.specs.Shape.{Text, Kind, ListKind, MapKind, ObjectKind, Shape, NodeShape, no_node, node_of, kind_at, values_at}
use Rattle.hessian_graph.specs.Canon.{Visit, place_of, place_or_zero, renumbered, moved, in_order}
use Rattle.hessian_graph.specs.Canon.Visit.{done as v_done, plain as v_plain, again as v_again, first as v_first}
use Rattle.hessian_graph.specs.Reading.{Tables, Leaves, IsScalar, Includes, no_tables}
use Rattle.hessian_graph.specs.Reading.IsScalar.{null as s_null, bool as s_bool, int as s_int, long as s_long, date as s_date}
use Rattle.hessian_graph.specs.Forms.{TypeForm, Writes, WritesAll, Written}
use Rattle.hessian_graph.specs.Forms.TypeForm.{known as t_known, new as t_new}
use Rattle.hessian_graph.specs.Forms.Writes.{scalar as w_scalar, text as w_text, binary as w_binary, reference as w_reference, short_list as w_short_list, long_list as w_long_list, short_typed_list as w_short_typed_list, long_typed_list as w_long_typed_list, map as w_map, typed_map as w_typed_map, first_object as w_first_object, short_object as w_short_object, long_object as w_long_object}
use Rattle.hessian_graph.specs.Forms.WritesAll.{none as ws_none, one as ws_one}
use Rattle.hessian_graph.proofs.FormsSpell.{are_spelled}
use Rattle.hessian_graph.proofs.Places.{place_kept, place_new, place_within, place_shows}
use Rattle.hessian_graph.proofs.Values.{plain_stays}
use Rattle.hessian_graph.proofs.Visits.{grown}
use Rattle.hessian_writer.specs.Heads.{HeadForm}
use Rattle.hessian_writer.specs.Heads.HeadForm.{short_list, long_list, short_typed_list, long_typed_list, map as h_map, typed_map, short_object, long_object, first_object}
use Rattle.hessian_writer.specs.Course.{Due, ValueOf, End, values_then, end_then, LeafForm, Course}
use Rattle.hessian_writer.specs.Course.LeafForm.{scalar, text, binary}
use Rattle.hessian_writer.specs.Course.Course.{done, end, leaf, again, first}

-- a value under the new numbers is written, and the rest follows
record Filled (w : Leaves) (h : Shape) (order : List ℕ) (v : Value) (t : Tables) (bytes : List ℕ) (Rest : Tables → List ℕ → Type 0) : Type 0 where
  front : List ℕ
  rest : List ℕ
  mid : Tables
  written : Writes w h (renumbered order v) t mid front
  after : Rest mid rest
  joined : bytes ≡ front ++ rest

record Ended (bytes : List ℕ) (Rest : List ℕ → Type 0) : Type 0 where
  rest : List ℕ
  after : Rest rest
  joined : bytes ≡ 0x5a ∷ rest

-- these bytes are what is due, under the new numbers
abbrev Fills : Leaves → Shape → List ℕ → List Due → Tables → Tables → List ℕ → Type 0
Fills w h order [] t u bytes = (t ≡ u) × (bytes ≡ [])
Fills w h order (ValueOf v ∷ ds) t u bytes = Filled w h order v t bytes (λ m rest. Fills w h order ds m u rest)
Fills w h order (End ∷ ds) t u bytes = Ended bytes (λ rest. Fills w h order ds t u rest)

-- values, and then the rest
record Split (w : Leaves) (h : Shape) (order : List ℕ) (vs : List Value) (ds : List Due) (t u : Tables) (bytes ending : List ℕ) : Type 0 where
  front : List ℕ
  rest : List ℕ
  mid : Tables
  all : WritesAll w h (map (renumbered order) vs) t mid front
  after : Fills w h order ds mid u rest
  joined : bytes ≡ (front ++ ending) ++ rest

split : (w : Leaves) (h : Shape) (order : List ℕ) (vs : List Value) (ds : List Due) (t u : Tables) (bytes : List ℕ) → Fills w h order (values_then vs ds) t u bytes → Split w h order vs ds t u bytes []
split w h order [] ds t u bytes f = record { front = []; rest = bytes; mid = t; all = ws_none; after = f; joined = refl }
split w h order (v ∷ vs) ds t u bytes f =
    let s = split w h order vs ds f.mid u f.rest f.after in
    record {
      front = f.front ++ s.front;
      rest = s.rest;
      mid = s.mid;
      all = ws_one f.front s.front f.written s.all;
      after = s.after;
      joined = f.joined ∙ ap (λ x. f.front ++ x) (s.joined ∙ ap (λ x. x ++ s.rest) (append-nil s.front)) ∙ sym (append_assoc f.front s.front s.rest) ∙ ap (λ x. x ++ s.rest) (sym (append-nil (f.front ++ s.front)));
    }

-- what stands behind the values of a node
abbrev ending_of : Kind → List ℕ
ending_of (ListKind type) = []
ending_of (MapKind type) = 0x5a ∷ []
ending_of (ObjectKind class) = []

-- the values of a node, what stands behind them, and then the rest
split_node : (w : Leaves) (h : Shape) (order : List ℕ) (kind : Kind) (vs : List Value) (ds : List Due) (t u : Tables) (bytes : List ℕ) → Fills w h order (values_then vs (end_then kind ds)) t u bytes → Split w h order vs ds t u bytes (ending_of kind)
split_node w h order (ListKind type) vs ds t u bytes f = split w h order vs ds t u bytes f
split_node w h order (ObjectKind class) vs ds t u bytes f = split w h order vs ds t u bytes f
split_node w h order (MapKind type) vs ds t u bytes f =
    let s = split w h order vs (End ∷ ds) t u bytes f in
    record {
      front = s.front;
      rest = s.after.rest;
      mid = s.mid;
      all = s.all;
      after = s.after.after;
      joined = s.joined ∙ ap (λ x. x ++ s.rest) (append-nil s.front) ∙ ap (λ x. s.front ++ x) s.after.joined ∙ sym (append_assoc s.front (0x5a ∷ []) s.after.rest);
    }

-- no node begins by a type, and one by each head
type_begins : {w : Leaves} {type : Text} {t u : Tables} {name : List ℕ} → TypeForm w type t u name → u.begun ≡ t.begun
type_begins (t_known type k bytes earliest is) = refl
type_begins (t_new type bytes fresh is) = refl

head_begins : {w : Leaves} {kind : Kind} {count : ℕ} {t u : Tables} {head : List ℕ} → HeadForm w kind count t u head → u.begun ≡ suc t.begun
head_begins (short_list count few) = refl
head_begins (long_list count stated many is) = refl
head_begins (short_typed_list type count name few form) = ap suc (type_begins form)
head_begins (long_typed_list type count name stated many form is) = ap suc (type_begins form)
head_begins (h_map count pairs are) = refl
head_begins (typed_map type count pairs name are form) = ap suc (type_begins form)
head_begins (short_object class count k earliest are few) = refl
head_begins (long_object class count k number earliest are many is) = refl
head_begins (first_object class count definition rest fresh is more) = head_begins more

-- a head and the values behind it are the writer's form of a node that begins here
node_written : {w : Leaves} {kind : Kind} {count : ℕ} {t t' : Tables} {head : List ℕ} → HeadForm w kind count t t' head → (h : Shape) (u : Tables) (n : ℕ) (items : List ℕ) → n ≡ t.begun → n < length h.nodes → kind_at h n ≡ kind → length (values_at h n) ≡ count → WritesAll w h (values_at h n) t' u items → Writes w h (values.Node n) t u (head ++ (items ++ ending_of kind))
node_written {w = w} {t = t} (short_list count few) h u n items next within kind long all =
    let form : Writes w h (values.Node n) t u ((0x78 + length (values_at h n)) ∷ items) = w_short_list n items (record { next = next; within = within; kind_is = kind }) (omega (arith, long, few)) all in
    subst (λ x. Writes w h (values.Node n) t u ((0x78 + x) ∷ (items ++ []))) long (subst (λ x. Writes w h (values.Node n) t u ((0x78 + length (values_at h n)) ∷ x)) (sym (append-nil items)) form)
node_written {w = w} {t = t} (long_list count stated many is) h u n items next within kind long all =
    let form : Writes w h (values.Node n) t u (0x58 ∷ (stated ++ items)) = w_long_list n stated items (record { next = next; within = within; kind_is = kind }) (omega (arith, long, many)) (subst (λ x. w.scalar (values.Int (pos x)) stated) (sym long) is) all in
    subst (λ x. Writes w h (values.Node n) t u (0x58 ∷ (stated ++ x))) (sym (append-nil items)) form
node_written {w = w} {t = t} (short_typed_list type count name few typed) h u n items next within kind long all =
    let form : Writes w h (values.Node n) t u ((0x70 + length (values_at h n)) ∷ (name ++ items)) = w_short_typed_list n type name items (record { next = next; within = within; kind_is = kind }) (omega (arith, long, few)) typed all in
    subst (λ x. Writes w h (values.Node n) t u ((0x70 + x) ∷ (name ++ (items ++ [])))) long (subst (λ x. Writes w h (values.Node n) t u ((0x70 + length (values_at h n)) ∷ (name ++ x))) (sym (append-nil items)) form)
node_written {w = w} {t = t} (long_typed_list type count name stated many typed is) h u n items next within kind long all =
    let form : Writes w h (values.Node n) t u (0x56 ∷ (name ++ (stated ++ items))) = w_long_typed_list n type name stated items (record { next = next; within = within; kind_is = kind }) (omega (arith, long, many)) typed (subst (λ x. w.scalar (values.Int (pos x)) stated) (sym long) is) all in
    subst (λ x. Writes w h (values.Node n) t u (0x56 ∷ x)) (ap (λ x. name ++ (stated ++ x)) (sym (append-nil items)) ∙ sym (append_assoc name stated (items ++ []))) form
node_written (h_map count pairs are) h u n items next within kind long all = w_map n items (record { next = next; within = within; kind_is = kind }) (pairs, long ∙ are) all
node_written (typed_map type count pairs name are typed) h u n items next within kind long all = w_typed_map n type name items (record { next = next; within = within; kind_is = kind }) (pairs, long ∙ are) typed all
node_written {w = w} {t = t} (short_object class count k earliest are few) h u n items next within kind long all =
    let form : Writes w h (values.Node n) t u ((0x60 + k) ∷ items) = w_short_object n k items (record { class = class; begins = record { next = next; within = within; kind_is = kind }; number_is = earliest; values_are = long ∙ are }) few all in
    subst (λ x. Writes w h (values.Node n) t u ((0x60 + k) ∷ x)) (sym (append-nil items)) form
node_written {w = w} {t = t} (long_object class count k number earliest are many is) h u n items next within kind long all =
    let form : Writes w h (values.Node n) t u (0x4f ∷ (number ++ items)) = w_long_object n k number items (record { class = class; begins = record { next = next; within = within; kind_is = kind }; number_is = earliest; values_are = long ∙ are }) many is all in
    subst (λ x. Writes w h (values.Node n) t u (0x4f ∷ (number ++ x))) (sym (append-nil items)) form
node_written {w = w} {t = t} (first_object class count definition rest fresh is more) h u n items next within kind long all =
    subst (λ x. Writes w h (values.Node n) t u (0x43 ∷ x)) (sym (append_assoc definition rest (items ++ [])))
    (w_first_object n class definition (rest ++ (items ++ [])) (record { next = next; within = within; kind_is = kind }) fresh is (node_written more h u n items next within kind long all))

-- a value that is no node
scalar_plain : (v : Value) → IsScalar v → node_of v ≡ None
scalar_plain _ s_null = refl
scalar_plain _ (s_bool b) = refl
scalar_plain _ (s_int z) = refl
scalar_plain _ (s_long z) = refl
scalar_plain _ (s_date z) = refl

leaf_plain : {w : Leaves} {v : Value} {bytes : List ℕ} → LeafForm w v bytes → node_of v ≡ None
leaf_plain (scalar v bytes plain is) = scalar_plain v plain
leaf_plain (text words bytes is) = refl
leaf_plain (binary contents bytes is) = refl

leaf_written : {w : Leaves} {v : Value} {bytes : List ℕ} → LeafForm w v bytes → (h : Shape) (order : List ℕ) (t : Tables) → Writes w h (renumbered order v) t t bytes
leaf_written {w = w} (scalar v bytes plain is) h order t = subst (λ x. Writes w h x t t bytes) (sym (plain_stays order v (scalar_plain v plain))) (w_scalar v bytes plain is)
leaf_written (text words bytes is) h order t = w_text words bytes is
leaf_written (binary contents bytes is) h order t = w_binary contents bytes is

-- the values that are due
only_values : List Due → List Value
only_values [] = []
only_values (ValueOf v ∷ ds) = v ∷ only_values ds
only_values (End ∷ ds) = only_values ds

values_only : (vs : List Value) (ds : List Due) → only_values (values_then vs ds) ≡ vs ++ only_values ds
unfolding only_values
values_only [] ds = refl
values_only (v ∷ vs) ds = ap (λ x. v ∷ x) (values_only vs ds)

end_only : (kind : Kind) (ds : List Due) → only_values (end_then kind ds) ≡ only_values ds
unfolding only_values
end_only (ListKind type) ds = refl
end_only (MapKind type) ds = refl
end_only (ObjectKind class) ds = refl

-- what is seen is what a visit sees
visit_of : {w : Leaves} {g : Shape} {seen bytes out : List ℕ} {t u : Tables} {ds : List Due} → Course w g seen t ds bytes out u → Visit g seen (only_values ds) out
unfolding only_values
visit_of (done {seen = seen}) = v_done seen
visit_of (end c) = visit_of c
visit_of (leaf {seen = seen} {out = out} {ds = ds} v form is c) = v_plain seen out v (only_values ds) (leaf_plain is) (visit_of c)
visit_of (again {seen = seen} {out = out} {ds = ds} n k number place is c) = v_again seen out (values.Node n) (only_values ds) n k refl place (visit_of c)
visit_of {g = g} (first {seen = seen} {out = out} {ds = ds} n head new is c) =
    v_first seen out (values.Node n) (only_values ds) n refl new
    (subst (λ x. Visit g (seen ++ n ∷ []) x out) (values_only (values_at g n) (end_then (kind_at g n) ds) ∙ ap (λ x. values_at g n ++ x) (end_only (kind_at g n) ds)) (visit_of c))

one_longer : (xs : List ℕ) (x : ℕ) → suc (length xs) ≡ length (xs ++ x ∷ [])
one_longer xs x = rw length-append (omega arith)

-- as many nodes have begun in the end as have been seen
all_begun : {w : Leaves} {g : Shape} {seen bytes out : List ℕ} {t u : Tables} {ds : List Due} → Course w g seen t ds bytes out u → t.begun ≡ length seen → u.begun ≡ length out
all_begun done begun = begun
all_begun (end c) begun = all_begun c begun
all_begun (leaf v form is c) begun = all_begun c begun
all_begun (again n k number place is c) begun = all_begun c begun
all_begun (first {seen = seen} n head new is c) begun = all_begun c (head_begins is ∙ ap suc begun ∙ one_longer seen n)

-- the node that is seen first here, under its new number
record IsRenumbered (g : Shape) (out : List ℕ) (n m : ℕ) : Type 0 where
  value_is : renumbered out (values.Node n) ≡ values.Node m
  within : m < length (in_order g out).nodes
  kind_is : kind_at (in_order g out) m ≡ kind_at g n
  values_are : values_at (in_order g out) m ≡ map (renumbered out) (values_at g n)
  long : length (values_at (in_order g out) m) ≡ length (values_at g n)

renumbered_at : (g : Shape) (out : List ℕ) (n m : ℕ) → place_of n out ≡ Some m → IsRenumbered g out n m
renumbered_at g out n m place =
    let here : get_or (in_order g out).nodes m no_node ≡ moved g out n = place_shows no_node (moved g out) out n m place in
    let are : values_at (in_order g out) m ≡ map (renumbered out) (values_at g n) = ap (λ (x : NodeShape). x.values) here in
    record {
      value_is = ap (λ o. values.Node (place_or_zero o)) place;
      within = let b = place_within n out m place in let e = length-map out (moved g out) in omega (arith, b, e);
      kind_is = ap (λ (x : NodeShape). x.kind) here;
      values_are = are;
      long = ap length are ∙ length-map (values_at g n) (renumbered out);
    }

-- what is written from left to right is what is due, in the writer's forms
fill : {w : Leaves} {g : Shape} {seen bytes out : List ℕ} {t u : Tables} {ds : List Due} → Course w g seen t ds bytes out u → t.begun ≡ length seen → Fills w (in_order g out) out ds t u bytes
fill done begun = (refl, refl)
fill (end {bytes = bytes} c) begun = record { rest = bytes; after = fill c begun; joined = refl }
fill {g = g} (leaf {out = out} {bytes = bytes} {t = t} v form is c) begun = record { front = form; rest = bytes; mid = t; written = leaf_written is (in_order g out) out t; after = fill c begun; joined = refl }
fill {w = w} {g = g} (again {seen = seen} {out = out} {bytes = bytes} {t = t} n k number place is c) begun =
    let q = grown (visit_of c) in
    let at : place_of n out ≡ Some k = rw q.is (place_kept n seen q.more k place) in
    let r = renumbered_at g out n k at in
    let below : k < t.begun = let b = place_within n seen k place in omega (arith, b, begun) in
    record {
      front = 0x51 ∷ number;
      rest = bytes;
      mid = t;
      written = subst (λ x. Writes w (in_order g out) x t t (0x51 ∷ number)) (sym r.value_is) (w_reference k number below is);
      after = fill c begun;
      joined = refl;
    }
fill {w = w} {g = g} (first {seen = seen} {out = out} {bytes = bytes} {t = t} {t' = t'} {u = u} {ds = ds} n head new is c) begun =
    let q = grown (visit_of c) in
    let at : place_of n out ≡ Some (length seen) = rw (q.is ∙ append_assoc seen (n ∷ []) q.more) (place_new n seen q.more new) in
    let r = renumbered_at g out n (length seen) at in
    let h : Shape = in_order g out in
    let s = split_node w h out (kind_at g n) (values_at g n) ds t' u bytes (fill c (head_begins is ∙ ap suc begun ∙ one_longer seen n)) in
    let node = node_written is h s.mid (length seen) s.front (sym begun) r.within r.kind_is r.long (subst (λ x. WritesAll w h x t' s.mid s.front) (sym r.values_are) s.all) in
    record {
      front = head ++ (s.front ++ ending_of (kind_at g n));
      rest = s.rest;
      mid = s.mid;
      written = subst (λ x. Writes w h x t s.mid (head ++ (s.front ++ ending_of (kind_at g n)))) (sym r.value_is) node;
      after = s.after;
      joined = ap (λ x. head ++ x) s.joined ∙ sym (append_assoc head (s.front ++ ending_of (kind_at g n)) s.rest);
    }

-- what is written through the roots, from empty tables, is the writer's spelling of the graph
pub written : {l w : Leaves} (g : Shape) (bytes out : List ℕ) (last : Tables) → Includes l w → Course w g [] no_tables (values_then g.roots []) bytes out last → Written l w g bytes
unfolding only_values
written {l = l} {w = w} g bytes out last inc c =
    let h : Shape = in_order g out in
    let v : Visit g [] g.roots out = subst (λ x. Visit g [] x out) (values_only g.roots [] ∙ append-nil g.roots) (visit_of c) in
    let s = split w h out g.roots [] no_tables last bytes (fill c refl) in
    let same : s.front ≡ bytes = sym (s.joined ∙ ap (λ x. (s.front ++ []) ++ x) s.after.1 ∙ append-nil (s.front ++ []) ∙ append-nil s.front) in
    let all : WritesAll w h h.roots no_tables last bytes = subst (λ x. WritesAll w h h.roots no_tables last x) same (subst (λ x. WritesAll w h h.roots no_tables x s.front) s.after.0 s.all) in
    record {
      form = h;
      canonical = (out, v, refl);
      spelled = record { last = last; roots = are_spelled inc all; all_begun = all_begun c refl ∙ sym (length-map out (moved g out)) };
      in_forms = record { last = last; roots = all };
    }
