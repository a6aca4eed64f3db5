-- How many nodes values begin is told by the values alone, however they are spelled.
use Rattle.std.proofs.Common.{◌≡◌, ℕ, suc, ◌<◌, List, [], ◌∷◌, refl, sym, ◌∙◌, subst, arith}
use Rattle.std.specs.Prelude.{Some, None}
use Rattle.hessian_graph.specs.declared.value.Value.{Value}
use Rattle.hessian_graph.specs.declared.value.Value.TheVariants as values
use Rattle.hessian_graph.specs.Shape.{Text, Shape, node_of, values_at}
use Rattle.hessian_graph.specs.Reading.{Tables, Leaves, IsScalar}
use Rattle.hessian_graph.specs.Reading.IsScalar.{null, bool, int, long, date}
use Rattle.hessian_graph.specs.Spells.{TypeSpelling, Spells, SpellsAll}
use Rattle.hessian_graph.specs.Spells.TypeSpelling.{named, numbered}
use Rattle.hessian_graph.specs.Spells.Spells.{scalar, text as t_text, binary, reference, class_first, open_list, long_list, short_list, open_typed_list, long_typed_list, short_typed_list, open_map, open_typed_map, long_object, short_object}
use Rattle.hessian_graph.specs.Spells.SpellsAll.{none as s_none, one as s_one}
use Rattle.hessian_graph.specs.Forms.{TypeForm, Writes, WritesAll}
use Rattle.hessian_graph.specs.Forms.TypeForm.{known, new}
use Rattle.hessian_graph.specs.Forms.Writes.{scalar as w_scalar, text as w_text, binary as w_binary, reference as w_reference, short_list as w_short_list, long_list as w_long_list, short_typed_list as w_short_typed_list, long_typed_list as w_long_typed_list, map as w_map, typed_map as w_typed_map, first_object as w_first_object, short_object as w_short_object, long_object as w_long_object}
use Rattle.hessian_graph.specs.Forms.WritesAll.{none as w_none, one as w_one}
use Rattle.hessian_graph.proofs.Values.{not_both, some_is}

-- behind so many nodes begun, these values lead to so many
pub data Counts (g : Shape) : List Value → ℕ → ℕ → Type 0 where
  none : (n : ℕ) → Counts g [] n n
  plain : (v : Value) (vs : List Value) (n m : ℕ) → node_of v ≡ None → Counts g vs n m → Counts g (v ∷ vs) n m
  again : (v : Value) (vs : List Value) (k n m : ℕ) → node_of v ≡ Some k → k < n → Counts g vs n m → Counts g (v ∷ vs) n m
  first : (v : Value) (vs : List Value) (k n j m : ℕ) → node_of v ≡ Some k → k ≡ n → Counts g (values_at g k) (suc n) j → Counts g vs j m → Counts g (v ∷ vs) n m

-- ---- the number is one

at_end : {g : Shape} {n m : ℕ} → Counts g [] n m → n ≡ m
at_end (none n) = refl

behind_plain : {g : Shape} {v : Value} {vs : List Value} {n m : ℕ} → node_of v ≡ None → Counts g (v ∷ vs) n m → Counts g vs n m
behind_plain e (plain v vs n m is rest) = rest
behind_plain e (again v vs k n m is less rest) = absurd (not_both (node_of v) k e is)
behind_plain e (first v vs k n j m is same inner rest) = absurd (not_both (node_of v) k e is)

behind_again : {g : Shape} {v : Value} {vs : List Value} {n m : ℕ} (k : ℕ) → node_of v ≡ Some k → k < n → Counts g (v ∷ vs) n m → Counts g vs n m
behind_again k e less (plain v vs n m is rest) = absurd (not_both (node_of v) k is e)
behind_again k e less (again v vs i n m is l rest) = rest
behind_again k e less (first v vs i n j m is same inner rest) = let both : k ≡ i = some_is k i (sym e ∙ is) in absurd (omega (arith, less, both, same))

-- the values of the node lead somewhere, and the other values go on from there
abbrev pub Inner : Shape → ℕ → List Value → ℕ → ℕ → Type 0
Inner g k vs n m = (j : ℕ) × Counts g (values_at g k) (suc n) j × Counts g vs j m

behind_first : {g : Shape} {v : Value} {vs : List Value} {n m : ℕ} (k : ℕ) → node_of v ≡ Some k → k ≡ n → Counts g (v ∷ vs) n m → Inner g k vs n m
behind_first k e same (plain v vs n m is rest) = absurd (not_both (node_of v) k is e)
behind_first k e same (again v vs i n m is less rest) = let both : k ≡ i = some_is k i (sym e ∙ is) in absurd (omega (arith, less, both, same))
behind_first {g} k e same (first v vs i n j m is at inner rest) = let both : i ≡ k = some_is i k (sym is ∙ e) in (j, subst (λ x. Counts g (values_at g x) (suc n) j) both inner, rest)

pub counts_once : {g : Shape} {vs : List Value} {n m p : ℕ} → Counts g vs n m → Counts g vs n p → m ≡ p
counts_once (none n) other = at_end other
counts_once (plain v vs n m is rest) other = counts_once rest (behind_plain is other)
counts_once (again v vs k n m is less rest) other = counts_once rest (behind_again k is less other)
counts_once {g} {p = p} (first v vs k n j m is same inner rest) other =
    let b = behind_first k is same other in
    let e : j ≡ b.0 = counts_once inner b.1 in
    counts_once rest (subst (λ x. Counts g vs x p) (sym e) b.2)

-- ---- values that are spelled or written

scalar_plain : (v : Value) → IsScalar v → node_of v ≡ None
scalar_plain v null = refl
scalar_plain v (bool b) = refl
scalar_plain v (int z) = refl
scalar_plain v (long z) = refl
scalar_plain v (date z) = refl

type_begins : {l : Leaves} {type : Text} {t u : Tables} {bytes : List ℕ} → TypeSpelling l type t u bytes → t.begun ≡ u.begun
type_begins (named type bytes is) = refl
type_begins (numbered k bytes less is) = refl

form_begins : {w : Leaves} {type : Text} {t u : Tables} {bytes : List ℕ} → TypeForm w type t u bytes → t.begun ≡ u.begun
form_begins (known type k bytes is number) = refl
form_begins (new type bytes fresh is) = refl

-- a node that is begun
opens : {g : Shape} {vs : List Value} {j m : ℕ} (k n n' : ℕ) → k ≡ n → n ≡ n' → Counts g (values_at g k) (suc n') j → Counts g vs j m → Counts g (values.Node k ∷ vs) n m
opens {g} {vs} {j} {m} k n n' same e inner rest = first (values.Node k) vs k n j m refl same (subst (λ x. Counts g (values_at g k) (suc x) j) (sym e) inner) rest

mutual
  pub spells_counts : {l : Leaves} {g : Shape} {v : Value} {vs : List Value} {t u : Tables} {bytes : List ℕ} {m : ℕ} → Spells l g v t u bytes → Counts g vs u.begun m → Counts g (v ∷ vs) t.begun m
  spells_counts {vs = vs} {m = m} (scalar {t = t} v bytes is s) rest = plain v vs t.begun m (scalar_plain v is) rest
  spells_counts {vs = vs} {m = m} (t_text {t = t} text bytes s) rest = plain (values.Text text) vs t.begun m refl rest
  spells_counts {vs = vs} {m = m} (binary {t = t} contents bytes s) rest = plain (values.Bytes contents) vs t.begun m refl rest
  spells_counts {vs = vs} {m = m} (reference {t = t} n number less s) rest = again (values.Node n) vs n t.begun m refl less rest
  spells_counts (class_first v class definition bytes s more) rest = spells_counts more rest
  spells_counts (open_list {t = t} n items b all) rest = opens n t.begun t.begun b.next refl (all_count all) rest
  spells_counts (long_list {t = t} n count items b is all) rest = opens n t.begun t.begun b.next refl (all_count all) rest
  spells_counts (short_list {t = t} n code items b is count all) rest = opens n t.begun t.begun b.next refl (all_count all) rest
  spells_counts (open_typed_list {t = t} {u = u} n type name items b is all) rest = opens n t.begun u.begun b.next (type_begins is) (all_count all) rest
  spells_counts (long_typed_list {t = t} {u = u} n type name count items b is many all) rest = opens n t.begun u.begun b.next (type_begins is) (all_count all) rest
  spells_counts (short_typed_list {t = t} {u = u} n code type name items b is count s all) rest = opens n t.begun u.begun b.next (type_begins s) (all_count all) rest
  spells_counts (open_map {t = t} n items b pairs all) rest = opens n t.begun t.begun b.next refl (all_count all) rest
  spells_counts (open_typed_map {t = t} {u = u} n type name items b pairs is all) rest = opens n t.begun u.begun b.next (type_begins is) (all_count all) rest
  spells_counts (long_object {t = t} n k number items b is all) rest = opens n t.begun t.begun b.begins.next refl (all_count all) rest
  spells_counts (short_object {t = t} n code items is b all) rest = opens n t.begun t.begun b.begins.next refl (all_count all) rest

  pub all_count : {l : Leaves} {g : Shape} {vs : List Value} {t u : Tables} {bytes : List ℕ} → SpellsAll l g vs t u bytes → Counts g vs t.begun u.begun
  all_count (s_none {t = t}) = none t.begun
  all_count (s_one front rest head tail) = spells_counts head (all_count tail)

mutual
  pub writes_count : {w : Leaves} {g : Shape} {v : Value} {vs : List Value} {t u : Tables} {bytes : List ℕ} {m : ℕ} → Writes w g v t u bytes → Counts g vs u.begun m → Counts g (v ∷ vs) t.begun m
  writes_count {vs = vs} {m = m} (w_scalar {t = t} v bytes is s) rest = plain v vs t.begun m (scalar_plain v is) rest
  writes_count {vs = vs} {m = m} (w_text {t = t} text bytes s) rest = plain (values.Text text) vs t.begun m refl rest
  writes_count {vs = vs} {m = m} (w_binary {t = t} contents bytes s) rest = plain (values.Bytes contents) vs t.begun m refl rest
  writes_count {vs = vs} {m = m} (w_reference {t = t} n number less s) rest = again (values.Node n) vs n t.begun m refl less rest
  writes_count (w_short_list {t = t} n items b few all) rest = opens n t.begun t.begun b.next refl (all_writes_count all) rest
  writes_count (w_long_list {t = t} n count items b many is all) rest = opens n t.begun t.begun b.next refl (all_writes_count all) rest
  writes_count (w_short_typed_list {t = t} {u = u} n type name items b few is all) rest = opens n t.begun u.begun b.next (form_begins is) (all_writes_count all) rest
  writes_count (w_long_typed_list {t = t} {u = u} n type name count items b many is stated all) rest = opens n t.begun u.begun b.next (form_begins is) (all_writes_count all) rest
  writes_count (w_map {t = t} n items b pairs all) rest = opens n t.begun t.begun b.next refl (all_writes_count all) rest
  writes_count (w_typed_map {t = t} {u = u} n type name items b pairs is all) rest = opens n t.begun u.begun b.next (form_begins is) (all_writes_count all) rest
  writes_count (w_first_object n class definition bytes b fresh s more) rest = writes_count more rest
  writes_count (w_short_object {t = t} n k items o few all) rest = opens n t.begun t.begun o.begins.next refl (all_writes_count all) rest
  writes_count (w_long_object {t = t} n k number items o many is all) rest = opens n t.begun t.begun o.begins.next refl (all_writes_count all) rest

  pub all_writes_count : {w : Leaves} {g : Shape} {vs : List Value} {t u : Tables} {bytes : List ℕ} → WritesAll w g vs t u bytes → Counts g vs t.begun u.begun
  all_writes_count (w_none {t = t}) = none t.begun
  all_writes_count (w_one front rest head tail) = writes_count head (all_writes_count tail)
