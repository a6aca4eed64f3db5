-- A graph that has more nodes behind those of another spells the other's values by the same bytes.
use Rattle.std.proofs.Common.{◌≡◌, ℕ, ◌+◌, ◌<◌, ◌≤◌, List, ◌∷◌, ◌++◌, length, get_or, sym, ap, ◌∙◌, subst, arith}
use Rattle.std.specs.Prelude.{pos}
use Rattle.std.proofs.Math.ListN.{get_or-append}
use Rattle.std.proofs.lemmas.List.{length-append}
use Rattle.hessian_graph.specs.declared.value.Value.{Value}
use Rattle.hessian_graph.specs.declared.value.Value.TheVariants as values
use Rattle.hessian_graph.specs.Shape.{Shape, NodeShape, Kind, values_at, kind_at, no_node}
use Rattle.hessian_graph.specs.Reading.{Tables, Leaves, IntSpelling}
use Rattle.hessian_graph.specs.Spells.{ArePairs, Begins, BeginsObject, Spells, SpellsAll}
use Rattle.hessian_graph.specs.Spells.Spells.{scalar, text as t_text, binary, reference, class_first, open_list, long_list, short_list, open_typed_list, long_typed_list, short_typed_list, open_map, open_typed_map, long_object, short_object}
use Rattle.hessian_graph.specs.Spells.SpellsAll.{none, one}
use Rattle.hessian_graph.specs.Forms.{SHORT_LENGTH, IsObjectOf, Writes, WritesAll}
use Rattle.hessian_graph.specs.Forms.Writes.{scalar as w_scalar, text as w_text, binary as w_binary, reference as w_reference, short_list as w_short_list, long_list as w_long_list, short_typed_list as w_short_typed_list, long_typed_list as w_long_typed_list, map as w_map, typed_map as w_typed_map, first_object as w_first_object, short_object as w_short_object, long_object as w_long_object}
use Rattle.hessian_graph.specs.Forms.WritesAll.{none as w_none, one as w_one}

-- the nodes of the first are the first nodes of the second
pub record IsWithin (g h : Shape) : Type 0 where
  pub more : List NodeShape
  pub nodes : h.nodes ≡ g.nodes ++ more

pub node_stays : (g h : Shape) (n : ℕ) → IsWithin g h → n < length g.nodes → get_or h.nodes n no_node ≡ get_or g.nodes n no_node
node_stays g h n w l = ap (λ xs. get_or xs n no_node) w.nodes ∙ get_or-append g.nodes w.more no_node n l

pub values_stay : (g h : Shape) (n : ℕ) → IsWithin g h → n < length g.nodes → values_at g n ≡ values_at h n
values_stay g h n w l = ap (λ (x : NodeShape). x.values) (sym (node_stays g h n w l))

pub kind_stays : (g h : Shape) (n : ℕ) → IsWithin g h → n < length g.nodes → kind_at h n ≡ kind_at g n
kind_stays g h n w l = ap (λ (x : NodeShape). x.kind) (node_stays g h n w l)

pub more_nodes : (g h : Shape) (n : ℕ) → IsWithin g h → n < length g.nodes → n < length h.nodes
more_nodes g h n w l = omega (arith, l, ap length w.nodes, length-append g.nodes w.more)

begins : {g h : Shape} {t : Tables} {n : ℕ} {kind : Kind} → IsWithin g h → Begins g t n kind → Begins h t n kind
begins {g} {h} {t} {n} {kind} w b = record { next = b.next; within = more_nodes g h n w b.within; kind_is = kind_stays g h n w b.within ∙ b.kind_is }

begins_object : {g h : Shape} {t : Tables} {n k : ℕ} → IsWithin g h → BeginsObject g t n k → BeginsObject h t n k
begins_object {g} {h} {t} {n} {k} w b = record { known = b.known; begins = begins w b.begins; values_are = ap length (sym (values_stay g h n w b.begins.within)) ∙ b.values_are }

object_of : {g h : Shape} {t : Tables} {n k : ℕ} → IsWithin g h → IsObjectOf g t n k → IsObjectOf h t n k
object_of {g} {h} {t} {n} {k} w b = record { class = b.class; begins = begins w b.begins; number_is = b.number_is; values_are = ap length (sym (values_stay g h n w b.begins.within)) ∙ b.values_are }

-- the values of a node are the same, and so is what is said of them
counted : (l : Leaves) (bytes : List ℕ) {g h : Shape} {t : Tables} {n : ℕ} {kind : Kind} → IsWithin g h → Begins g t n kind → IntSpelling l (pos (length (values_at g n))) bytes → IntSpelling l (pos (length (values_at h n))) bytes
counted l bytes {g} {h} {t} {n} {kind} w b is = subst (λ vs. IntSpelling l (pos (length vs)) bytes) (values_stay g h n w b.within) is

long_as : {g h : Shape} {t : Tables} {n k : ℕ} {kind : Kind} → IsWithin g h → Begins g t n kind → length (values_at g n) ≡ k → length (values_at h n) ≡ k
long_as {g} {h} {t} {n} {k} {kind} w b e = ap length (sym (values_stay g h n w b.within)) ∙ e

in_pairs : {g h : Shape} {t : Tables} {n : ℕ} {kind : Kind} → IsWithin g h → Begins g t n kind → ArePairs (values_at g n) → ArePairs (values_at h n)
in_pairs {g} {h} {t} {n} {kind} w b p = subst ArePairs (values_stay g h n w b.within) p

all_of : {l : Leaves} {g h : Shape} {t u x : Tables} {n : ℕ} {kind : Kind} {bytes : List ℕ} → IsWithin g h → Begins g t n kind → SpellsAll l h (values_at g n) u x bytes → SpellsAll l h (values_at h n) u x bytes
all_of {l} {g} {h} {t} {u} {x} {n} {kind} {bytes} w b all = subst (λ vs. SpellsAll l h vs u x bytes) (values_stay g h n w b.within) all

mutual
  pub spells_wider : {l : Leaves} {g h : Shape} {v : Value} {t u : Tables} {bytes : List ℕ} → IsWithin g h → Spells l g v t u bytes → Spells l h v t u bytes
  spells_wider w (scalar v bytes plain is) = scalar v bytes plain is
  spells_wider w (t_text text bytes is) = t_text text bytes is
  spells_wider w (binary contents bytes is) = binary contents bytes is
  spells_wider w (reference n number begun is) = reference n number begun is
  spells_wider w (class_first v class definition rest is more) = class_first v class definition rest is (spells_wider w more)
  spells_wider w (open_list n items b all) = open_list n items (begins w b) (all_of w b (all_wider w all))
  spells_wider {l = l} w (long_list n count items b is all) = long_list n count items (begins w b) (counted l count w b is) (all_of w b (all_wider w all))
  spells_wider w (short_list n code items b is long all) = short_list n code items (begins w b) is (long_as w b long) (all_of w b (all_wider w all))
  spells_wider w (open_typed_list n type name items b is all) = open_typed_list n type name items (begins w b) is (all_of w b (all_wider w all))
  spells_wider {l = l} w (long_typed_list n type name count items b is many all) = long_typed_list n type name count items (begins w b) is (counted l count w b many) (all_of w b (all_wider w all))
  spells_wider w (short_typed_list n code type name items b is long is_type all) = short_typed_list n code type name items (begins w b) is (long_as w b long) is_type (all_of w b (all_wider w all))
  spells_wider w (open_map n items b pairs all) = open_map n items (begins w b) (in_pairs w b pairs) (all_of w b (all_wider w all))
  spells_wider w (open_typed_map n type name items b pairs is all) = open_typed_map n type name items (begins w b) (in_pairs w b pairs) is (all_of w b (all_wider w all))
  spells_wider w (long_object n k number items b is all) = long_object n k number items (begins_object w b) is (all_of w b.begins (all_wider w all))
  spells_wider w (short_object n code items is b all) = short_object n code items is (begins_object w b) (all_of w b.begins (all_wider w all))

  pub all_wider : {l : Leaves} {g h : Shape} {vs : List Value} {t u : Tables} {bytes : List ℕ} → IsWithin g h → SpellsAll l g vs t u bytes → SpellsAll l h vs t u bytes
  all_wider w none = none
  all_wider w (one front rest head tail) = one front rest (spells_wider w head) (all_wider w tail)

-- ---- the same of the writer's forms

written_all_of : {l : Leaves} {g h : Shape} {t u x : Tables} {n : ℕ} {kind : Kind} {bytes : List ℕ} → IsWithin g h → Begins g t n kind → WritesAll l h (values_at g n) u x bytes → WritesAll l h (values_at h n) u x bytes
written_all_of {l} {g} {h} {t} {u} {x} {n} {kind} {bytes} w b all = subst (λ vs. WritesAll l h vs u x bytes) (values_stay g h n w b.within) all

short_as : {g h : Shape} {t : Tables} {n : ℕ} {kind : Kind} → IsWithin g h → Begins g t n kind → length (values_at g n) ≤ SHORT_LENGTH → length (values_at h n) ≤ SHORT_LENGTH
short_as {g} {h} {t} {n} {kind} w b few = subst (λ vs. length vs ≤ SHORT_LENGTH) (values_stay g h n w b.within) few

long_above : {g h : Shape} {t : Tables} {n : ℕ} {kind : Kind} → IsWithin g h → Begins g t n kind → SHORT_LENGTH < length (values_at g n) → SHORT_LENGTH < length (values_at h n)
long_above {g} {h} {t} {n} {kind} w b many = subst (λ vs. SHORT_LENGTH < length vs) (values_stay g h n w b.within) many

coded : (first : ℕ) {l : Leaves} {g h : Shape} {t t' u : Tables} {n : ℕ} {kind : Kind} {bytes : List ℕ} → IsWithin g h → Begins g t n kind → Writes l h (values.Node n) t' u ((first + length (values_at h n)) ∷ bytes) → Writes l h (values.Node n) t' u ((first + length (values_at g n)) ∷ bytes)
coded first {l} {g} {h} {t} {t'} {u} {n} {kind} {bytes} w b is = subst (λ vs. Writes l h (values.Node n) t' u ((first + length vs) ∷ bytes)) (sym (values_stay g h n w b.within)) is

mutual
  pub writes_wider : {l : Leaves} {g h : Shape} {v : Value} {t u : Tables} {bytes : List ℕ} → IsWithin g h → Writes l g v t u bytes → Writes l h v t u bytes
  writes_wider w (w_scalar v bytes plain is) = w_scalar v bytes plain is
  writes_wider w (w_text text bytes is) = w_text text bytes is
  writes_wider w (w_binary contents bytes is) = w_binary contents bytes is
  writes_wider w (w_reference n number begun is) = w_reference n number begun is
  writes_wider w (w_short_list n items b few all) = coded 0x78 w b (w_short_list n items (begins w b) (short_as w b few) (written_all_of w b (all_written_wider w all)))
  writes_wider {l = l} w (w_long_list n count items b many is all) = w_long_list n count items (begins w b) (long_above w b many) (counted l count w b is) (written_all_of w b (all_written_wider w all))
  writes_wider w (w_short_typed_list n type name items b few is all) = coded 0x70 w b (w_short_typed_list n type name items (begins w b) (short_as w b few) is (written_all_of w b (all_written_wider w all)))
  writes_wider {l = l} w (w_long_typed_list n type name count items b many is stated all) = w_long_typed_list n type name count items (begins w b) (long_above w b many) is (counted l count w b stated) (written_all_of w b (all_written_wider w all))
  writes_wider w (w_map n items b pairs all) = w_map n items (begins w b) (in_pairs w b pairs) (written_all_of w b (all_written_wider w all))
  writes_wider w (w_typed_map n type name items b pairs is all) = w_typed_map n type name items (begins w b) (in_pairs w b pairs) is (written_all_of w b (all_written_wider w all))
  writes_wider w (w_first_object n class definition rest b fresh is more) = w_first_object n class definition rest (begins w b) fresh is (writes_wider w more)
  writes_wider w (w_short_object n k items o few all) = w_short_object n k items (object_of w o) few (written_all_of w o.begins (all_written_wider w all))
  writes_wider w (w_long_object n k number items o many is all) = w_long_object n k number items (object_of w o) many is (written_all_of w o.begins (all_written_wider w all))

  pub all_written_wider : {l : Leaves} {g h : Shape} {vs : List Value} {t u : Tables} {bytes : List ℕ} → IsWithin g h → WritesAll l g vs t u bytes → WritesAll l h vs t u bytes
  all_written_wider w w_none = w_none
  all_written_wider w (w_one front rest head tail) = w_one front rest (writes_wider w head) (all_written_wider w tail)
