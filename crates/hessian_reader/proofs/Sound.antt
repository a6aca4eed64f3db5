-- What holds of each state that a reading comes to.
use Rattle.std.proofs.Common.{◌≡◌, ℕ, suc, ◌-◌, ◌<◌, ◌≤◌, false, List, [], ◌∷◌, ◌++◌, length, get_or, refl, ap, sym, ◌∙◌, subst, arith, inl, inr, length-append, add-zero}
use Rattle.std.specs.Prelude.{nat_eq, nat_le, Option, Some, None}
use Rattle.std.proofs.lemmas.Bool.{leb-false, eqb-false, cond_both, cases_eq}
use Rattle.std.proofs.lemmas.List.{get_or_append_left, get_or-append-add}
use Rattle.hessian_graph.specs.declared.value.Value.{Value}
use Rattle.hessian_graph.specs.declared.value.Value.TheVariants.{Node}
use Rattle.hessian_graph.specs.declared.node.Class.{Class}
use Rattle.hessian_graph.specs.Shape.{Text}
use Rattle.hessian_graph.specs.Tables.{NumberBelow}
use Rattle.hessian_reader.specs.declared.table.Sort.{Sort}
use Rattle.hessian_reader.specs.declared.table.Sort.TheVariants as sorts
use Rattle.hessian_reader.specs.Nodes.{Begun}
use Rattle.hessian_reader.specs.declared.store.Lacks.{Lacks}
use Rattle.hessian_reader.specs.declared.store.OpenNode.{OpenNode}
use Rattle.hessian_reader.specs.Leaves.{node_limit}
use Rattle.hessian_reader.specs.Names.{Names, and_type, and_class}
use Rattle.hessian_reader.specs.States.{Built, State, Place, AtValue, AtDefined, AtReference, AtType, AtLength, AtClass, AtName, AtCount, AtField, ToEnd, Count, Key, Mate, no_begun, sort_at, one_less, with_value, with_open, with_node, begins_node, takes_value, moves_to, closes, learns_type, learns_class, lacks_none}
use Rattle.hessian_reader.proofs.Lacking.{Positive, AreOpen, item_length, item_sort}

-- the number of a type or class is in the tables
abbrev pub SortFits : Names → Sort → Type 0
SortFits t (sorts.List k) = NumberBelow (length t.types) k
SortFits t (sorts.Map k) = NumberBelow (length t.types) k
SortFits t (sorts.Object k) = k < length t.classes

-- something is lacking, and where a node's header has begun there is room for the node
abbrev pub PlaceFits : State → Place → Type 0
PlaceFits s AtValue = Unit {0}
PlaceFits s AtDefined = lacks_none s.built.open_nodes s.built.wanted ≡ false
PlaceFits s AtReference = lacks_none s.built.open_nodes s.built.wanted ≡ false
PlaceFits s (AtType form) = (lacks_none s.built.open_nodes s.built.wanted ≡ false) × (length s.built.nodes < node_limit)
PlaceFits s (AtLength k) = (lacks_none s.built.open_nodes s.built.wanted ≡ false) × (length s.built.nodes < node_limit) × NumberBelow (length s.names.types) k
PlaceFits s AtClass = (lacks_none s.built.open_nodes s.built.wanted ≡ false) × (length s.built.nodes < node_limit)
PlaceFits s AtName = lacks_none s.built.open_nodes s.built.wanted ≡ false
PlaceFits s (AtCount name) = lacks_none s.built.open_nodes s.built.wanted ≡ false
PlaceFits s (AtField class k) = (lacks_none s.built.open_nodes s.built.wanted ≡ false) × (0 < k)

pub record Sound (s : State) : Type 0 where
  pub open_fit : AreOpen (length s.built.nodes) s.built.open_nodes
  pub limit : length s.built.nodes ≤ node_limit
  pub numbers : (i : ℕ) → i < length s.built.nodes → SortFits s.names (sort_at s.built.nodes i)
  pub place : PlaceFits s s.place

-- a value that is given

pub value_nodes : (os : List OpenNode) (v : Value) (b : Built) → length (with_value os v b).nodes ≡ length b.nodes
value_nodes [] v b = refl
value_nodes (o ∷ os) v b = item_length b.nodes o.node v

pub value_sort : (os : List OpenNode) (v : Value) (b : Built) (i : ℕ) → AreOpen (length b.nodes) os → sort_at (with_value os v b).nodes i ≡ sort_at b.nodes i
value_sort [] v b i sane = refl
value_sort (o ∷ os) v b i sane = item_sort b.nodes o.node i v sane.0

less_open : (n : ℕ) (lacks : Lacks) (node : ℕ) (os : List OpenNode) → node < n → Positive lacks → AreOpen n os → AreOpen n (one_less lacks node os)
less_open n ToEnd node os h p rest = (h, tt, rest)
less_open n (Count k) node os h p rest = cond_both (nat_le k 1) os (record { node = node; lacks = Count (k - 1) } ∷ os) (AreOpen n) (λ _. rest) (λ big. let b = leb-false k 1 big in (h, omega arith, rest))
less_open n Key node os h p rest = (h, tt, rest)
less_open n Mate node os h p rest = (h, tt, rest)

pub value_open : (os : List OpenNode) (v : Value) (b : Built) → AreOpen (length b.nodes) os → AreOpen (length (with_value os v b).nodes) (with_value os v b).open_nodes
value_open [] v b sane = tt
value_open (o ∷ os) v b sane = rw (item_length b.nodes o.node v) (less_open (length b.nodes) o.lacks o.node os sane.0 sane.1 sane.2)

-- a node that begins

pub node_nodes : (lacks : Lacks) (sort : Sort) (b : Built) → length (with_node lacks sort b).nodes ≡ suc (length b.nodes)
node_nodes lacks sort b =
    let e = value_nodes b.open_nodes (Node (length b.nodes)) b in
    simp length-append (omega (arith, e))

last_sort : (xs : List Begun) (sort : Sort) (n : ℕ) → length xs ≡ n → sort_at (xs ++ record { sort = sort; values = [] } ∷ []) n ≡ sort
last_sort xs sort n e =
    let h : get_or (xs ++ record { sort = sort; values = [] } ∷ []) n no_begun ≡ record { sort = sort; values = [] } = rw (← e, ← add-zero (length xs)) (get_or-append-add xs (record { sort = sort; values = [] } ∷ []) 0 no_begun) in
    ap (λ (x : Begun). x.sort) h

pub sort_new : (lacks : Lacks) (sort : Sort) (b : Built) → sort_at (with_node lacks sort b).nodes (length b.nodes) ≡ sort
sort_new lacks sort b = last_sort (with_value b.open_nodes (Node (length b.nodes)) b).nodes sort (length b.nodes) (value_nodes b.open_nodes (Node (length b.nodes)) b)

pub sort_old : (lacks : Lacks) (sort : Sort) (b : Built) (i : ℕ) → AreOpen (length b.nodes) b.open_nodes → i < length b.nodes → sort_at (with_node lacks sort b).nodes i ≡ sort_at b.nodes i
sort_old lacks sort b i sane low =
    let v : Value = Node (length b.nodes) in
    let b1 : Built = with_value b.open_nodes v b in
    let e : length b1.nodes ≡ length b.nodes = value_nodes b.open_nodes v b in
    ap (λ (x : Begun). x.sort) (get_or_append_left b1.nodes (record { sort = sort; values = [] } ∷ []) no_begun i (omega (arith, e, low))) ∙ value_sort b.open_nodes v b i sane

more_open : (n m : ℕ) (os : List OpenNode) → n ≤ m → AreOpen n os → AreOpen m os
more_open n m [] h sane = tt
more_open n m (o ∷ os) h sane = (omega arith, sane.1, more_open n m os h sane.2)

first_open : (lacks : Lacks) (n m : ℕ) (os : List OpenNode) → n < m → AreOpen m os → AreOpen m (with_open lacks n os)
first_open ToEnd n m os h sane = (h, tt, sane)
first_open (Count k) n m os h sane = cond_both (nat_eq k 0) os (record { node = n; lacks = Count k } ∷ os) (AreOpen m) (λ _. sane) (λ e. let ne = eqb-false k 0 e in (h, omega (arith, ne), sane))
first_open Key n m os h sane = (h, tt, sane)
first_open Mate n m os h sane = (h, tt, sane)

node_open : (lacks : Lacks) (sort : Sort) (b : Built) → AreOpen (length b.nodes) b.open_nodes → AreOpen (suc (length b.nodes)) (with_node lacks sort b).open_nodes
node_open lacks sort b sane =
    let v : Value = Node (length b.nodes) in
    let e = value_nodes b.open_nodes v b in
    first_open lacks (length b.nodes) (suc (length b.nodes)) (with_value b.open_nodes v b).open_nodes (omega arith) (more_open (length (with_value b.open_nodes v b).nodes) (suc (length b.nodes)) (with_value b.open_nodes v b).open_nodes (omega (arith, e)) (value_open b.open_nodes v b sane))

-- each step keeps a state sound

number_more : (n m : ℕ) (k : Option ℕ) → n ≤ m → NumberBelow n k → NumberBelow m k
number_more n m None h low = tt
number_more n m (Some k) h low = omega arith

typed_fits : (t : Names) (text : Text) (sort : Sort) → SortFits t sort → SortFits (and_type text t) sort
typed_fits t text (sorts.List k) h = number_more (length t.types) (length (t.types ++ text ∷ [])) k (simp length-append (omega arith)) h
typed_fits t text (sorts.Map k) h = number_more (length t.types) (length (t.types ++ text ∷ [])) k (simp length-append (omega arith)) h
typed_fits t text (sorts.Object k) h = h

classed_fits : (t : Names) (class : Class) (sort : Sort) → SortFits t sort → SortFits (and_class class t) sort
classed_fits t class (sorts.List k) h = h
classed_fits t class (sorts.Map k) h = h
classed_fits t class (sorts.Object k) h = simp length-append (omega arith)

place_typed : (s : State) (text : Text) (p : Place) → PlaceFits s p → PlaceFits (learns_type text s) p
place_typed s text AtValue h = tt
place_typed s text AtDefined h = h
place_typed s text AtReference h = h
place_typed s text (AtType form) h = h
place_typed s text (AtLength k) h = (h.0, h.1, number_more (length s.names.types) (length (s.names.types ++ text ∷ [])) k (simp length-append (omega arith)) h.2)
place_typed s text AtClass h = h
place_typed s text AtName h = h
place_typed s text (AtCount name) h = h
place_typed s text (AtField class k) h = h

pub sound_typed : (s : State) (text : Text) → Sound s → Sound (learns_type text s)
sound_typed s text sound = record {
  open_fit = sound.open_fit;
  limit = sound.limit;
  numbers = λ i h. typed_fits s.names text (sort_at s.built.nodes i) (sound.numbers i h);
  place = place_typed s text s.place sound.place;
}

pub sound_classed : (s : State) (class : Class) → Sound s → lacks_none s.built.open_nodes s.built.wanted ≡ false → Sound (learns_class class s)
sound_classed s class sound some = record {
  open_fit = sound.open_fit;
  limit = sound.limit;
  numbers = λ i h. classed_fits s.names class (sort_at s.built.nodes i) (sound.numbers i h);
  place = some;
}

place_same : (s : State) (p : Place) → PlaceFits s p → PlaceFits (moves_to p s) p
place_same s AtValue h = tt
place_same s AtDefined h = h
place_same s AtReference h = h
place_same s (AtType form) h = h
place_same s (AtLength k) h = h
place_same s AtClass h = h
place_same s AtName h = h
place_same s (AtCount name) h = h
place_same s (AtField class k) h = h

pub sound_moves : (s : State) (p : Place) → Sound s → PlaceFits s p → Sound (moves_to p s)
sound_moves s p sound h = record { open_fit = sound.open_fit; limit = sound.limit; numbers = sound.numbers; place = place_same s p h }

pub sound_value : (s : State) (v : Value) → Sound s → Sound (takes_value v s)
sound_value s v sound =
    let e = value_nodes s.built.open_nodes v s.built in
    record {
      open_fit = value_open s.built.open_nodes v s.built sound.open_fit;
      limit = subst (λ n. n ≤ node_limit) (sym e) sound.limit;
      numbers = λ i h. subst (SortFits s.names) (sym (value_sort s.built.open_nodes v s.built i sound.open_fit)) (sound.numbers i (subst (λ n. i < n) e h));
      place = tt;
    }

pub sound_begins : (s : State) (lacks : Lacks) (sort : Sort) → Sound s → length s.built.nodes < node_limit → SortFits s.names sort → Sound (begins_node lacks sort s)
sound_begins s lacks sort sound low fits =
    let e = node_nodes lacks sort s.built in
    record {
      open_fit = rw e (node_open lacks sort s.built sound.open_fit);
      limit = omega (arith, e);
      numbers = λ i h. elim (cases_eq i (length s.built.nodes)) [
        | inl same ↦ subst (SortFits s.names) (sym (ap (sort_at (with_node lacks sort s.built).nodes) same ∙ sort_new lacks sort s.built)) fits
        | inr ne ↦ let low : i < length s.built.nodes = omega (arith, h, e, ne) in subst (SortFits s.names) (sym (sort_old lacks sort s.built i sound.open_fit low)) (sound.numbers i low)
      ];
      place = tt;
    }

pub sound_closes : (s : State) (others : List OpenNode) → Sound s → s.place ≡ AtValue → AreOpen (length s.built.nodes) others → Sound (closes others s)
sound_closes s others sound p sane = record { open_fit = sane; limit = sound.limit; numbers = sound.numbers; place = subst (λ x. PlaceFits (closes others s) x) (sym p) tt }
