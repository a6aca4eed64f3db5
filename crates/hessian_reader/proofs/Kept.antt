-- The table of nodes: what it shows of them, and what stays so as it grows.
use Rattle.std.proofs.Common.{◌≡◌, ◌≢◌, ℕ, zero, suc, ◌+◌, ◌<◌, ◌≤◌, true, false, List, [], ◌∷◌, ◌++◌, length, take, get_or, set, refl, sym, ap, ◌∙◌, subst, length-append, arith, inl, inr}
use Rattle.std.specs.Prelude.{Bool, nat_eq, ◌||◌, if◌then◌else◌, Result, Ok, Err, is_ok, IfOk, OnOk, ⊤}
use Rattle.std.proofs.lemmas.Bool.{cases_lt, ne_eqb}
use Rattle.std.proofs.lemmas.List.{get_or_append_left, get_or_push, set_past}
use Rattle.hessian_graph.specs.declared.value.Value.{Value}
use Rattle.hessian_graph.specs.declared.node.Node.{Node}
use Rattle.hessian_graph.specs.declared.node.Node.TheVariants as nodes
use Rattle.hessian_graph.specs.Shape.{no_vertex}
use Rattle.hessian_reader.specs.Nodes.{Begun, is_among, begun_as, begun_from, HasNoPairs, IsKept, and_items}
use Rattle.hessian_reader.specs.declared.values.Taken.{Taken}
use Rattle.hessian_reader.specs.Runs.{with_items, AreValues, GrowsBy, PutsInto}
use Rattle.hessian_reader.specs.States.{no_begun}

-- numbers

-- whether a number is among these doesn't change when another is added
pub among_other : (n m : ℕ) (ms : List ℕ) → n ≢ m → is_among n (ms ++ m ∷ []) ≡ is_among n ms
among_other n m [] other = rw (ne_eqb n m other) refl
among_other n m (k ∷ ms) other = ap (λ b. nat_eq n k || b) (among_other n m ms other)

-- a number that is added is among them
pub among_last : (n m : ℕ) (ms : List ℕ) → n ≡ m → is_among n (ms ++ m ∷ []) ≡ true
among_last n m [] same = Prim.grind (arith, same)
among_last n m (k ∷ ms) same = rw (among_last n m ms same) (Prim.grind (arith))

-- a number above these is none of them
not_among : (n : ℕ) (ms : List ℕ) → ((i : ℕ) → i < length ms → get_or ms i 0 < n) → is_among n ms ≡ false
not_among n [] low = refl
not_among n (m ∷ ms) low =
    let first : m < n = low 0 (omega arith) in
    rw (ne_eqb n m (λ e. absurd (omega (arith, first, e)))) (not_among n ms (λ i h. low (suc i) (omega (arith, h))))

-- what the table shows

pub begun_count : (ms : List ℕ) (n : ℕ) (vs : List Node) → length (begun_from ms n vs) ≡ length vs
begun_count ms n [] = refl
begun_count ms n (v ∷ vs) = ap suc (begun_count ms (suc n) vs)

pub begun_at : (ms : List ℕ) (n : ℕ) (vs : List Node) (i : ℕ) → i < length vs → get_or (begun_from ms n vs) i no_begun ≡ begun_as (is_among (n + i) ms) (get_or vs i no_vertex)
begun_at ms n [] i low = absurd (omega (arith, low))
begun_at ms n (v ∷ vs) zero low = ap (λ k. begun_as (is_among k ms) v) (omega arith)
begun_at ms n (v ∷ vs) (suc i) low = begun_at ms (suc n) vs i (omega (arith, low)) ∙ ap (λ k. begun_as (is_among k ms) (get_or vs i no_vertex)) (omega arith)

begun_set : (ms : List ℕ) (n : ℕ) (vs : List Node) (i : ℕ) (v : Node) → begun_from ms n (set vs i v) ≡ set (begun_from ms n vs) i (begun_as (is_among (n + i) ms) v)
begun_set ms n [] i v = refl
begun_set ms n (w ∷ vs) zero v = ap (λ k. begun_as (is_among k ms) v ∷ begun_from ms (suc n) vs) (omega arith)
begun_set ms n (w ∷ vs) (suc i) v = ap (λ bs. begun_as (is_among n ms) w ∷ bs) (begun_set ms (suc n) vs i v ∙ ap (λ k. set (begun_from ms (suc n) vs) i (begun_as (is_among k ms) v)) (omega arith))

begun_more : (ms : List ℕ) (n : ℕ) (vs : List Node) (v : Node) → begun_from ms n (vs ++ v ∷ []) ≡ begun_from ms n vs ++ begun_as (is_among (n + length vs) ms) v ∷ []
begun_more ms n [] v = ap (λ k. begun_as (is_among k ms) v ∷ []) (omega arith)
begun_more ms n (w ∷ vs) v = ap (λ bs. begun_as (is_among n ms) w ∷ bs) (begun_more ms (suc n) vs v ∙ ap (λ k. begun_from ms (suc n) vs ++ begun_as (is_among k ms) v ∷ []) (omega arith))

begun_same : (ms : List ℕ) (m n : ℕ) (vs : List Node) → n + length vs ≤ m → begun_from (ms ++ m ∷ []) n vs ≡ begun_from ms n vs
begun_same ms m n [] low = refl
begun_same ms m n (v ∷ vs) low =
    ap (λ b. begun_as b v ∷ begun_from (ms ++ m ∷ []) (suc n) vs) (among_other n m ms (λ e. absurd (omega (arith, low, e))))
    ∙ ap (λ bs. begun_as (is_among n ms) v ∷ bs) (begun_same ms m (suc n) vs (omega (arith, low)))

-- a table that begins one node more

unpaired_more : (vs : List Node) (v : Node) (i : ℕ) → ((j : ℕ) → j < length vs → HasNoPairs (get_or vs j no_vertex)) → HasNoPairs v → i < length (vs ++ v ∷ []) → HasNoPairs (get_or (vs ++ v ∷ []) i no_vertex)
unpaired_more vs v i before one low = elim (cases_lt i (length vs)) [
  | inl low_too ↦ subst HasNoPairs (sym (get_or_append_left vs (v ∷ []) no_vertex i low_too)) (before i low_too)
  | inr past ↦
      let last : length vs ≡ i = omega (arith, low, past, length-append vs (v ∷ [])) in
      subst HasNoPairs (sym (get_or_push vs v no_vertex i last)) one
]

kept_more : (ms : List ℕ) (vs : List Node) (v : Node) → IsKept ms vs → HasNoPairs v → IsKept ms (vs ++ v ∷ [])
kept_more ms vs v kept one = record {
  low = λ i h. let low = kept.low i h in omega (arith, low, length-append vs (v ∷ []));
  unpaired = λ i h. unpaired_more vs v i kept.unpaired one h;
}

kept_map : (ms : List ℕ) (m : ℕ) (vs : List Node) (v : Node) → m ≡ length vs → IsKept ms vs → HasNoPairs v → IsKept (ms ++ m ∷ []) (vs ++ v ∷ [])
kept_map ms m vs v e kept one = record {
  low = λ i h. elim (cases_lt i (length ms)) [
    | inl before ↦
        let low = kept.low i before in
        let same : get_or (ms ++ m ∷ []) i 0 ≡ get_or ms i 0 = get_or_append_left ms (m ∷ []) 0 i before in
        omega (arith, low, same, length-append vs (v ∷ []))
    | inr past ↦
        let last : length ms ≡ i = omega (arith, h, past, length-append ms (m ∷ [])) in
        let same : get_or (ms ++ m ∷ []) i 0 ≡ m = get_or_push ms m 0 i last in
        omega (arith, same, e, length-append vs (v ∷ []))
  ];
  unpaired = λ i h. unpaired_more vs v i kept.unpaired one h;
}

begins : (ms : List ℕ) (vs : List Node) (v : Node) → IsKept ms vs → begun_from ms 0 (vs ++ v ∷ []) ≡ begun_from ms 0 vs ++ begun_as false v ∷ []
begins ms vs v kept = begun_more ms 0 vs v ∙ ap (λ b. begun_from ms 0 vs ++ begun_as b v ∷ []) (ap (λ k. is_among k ms) (omega arith) ∙ not_among (length vs) ms kept.low)

begins_map : (ms : List ℕ) (m : ℕ) (vs : List Node) (v : Node) → m ≡ length vs → begun_from (ms ++ m ∷ []) 0 (vs ++ v ∷ []) ≡ begun_from ms 0 vs ++ begun_as true v ∷ []
begins_map ms m vs v e =
    let last : is_among (0 + length vs) (ms ++ m ∷ []) ≡ true = ap (λ k. is_among k (ms ++ m ∷ [])) (omega arith) ∙ among_last (length vs) m ms (sym e) in
    begun_more (ms ++ m ∷ []) 0 vs v
    ∙ ap (λ bs. bs ++ begun_as (is_among (0 + length vs) (ms ++ m ∷ [])) v ∷ []) (begun_same ms m 0 vs (omega (arith, e)))
    ∙ ap (λ b. begun_from ms 0 vs ++ begun_as b v ∷ []) last

-- where memory is wanted nothing begins

pub kept_node : {E : Type 0} (r : Result ⊤ E) (ms : List ℕ) (vs ws : List Node) (v : Node) → ws ≡ (if is_ok r then vs ++ v ∷ [] else vs) → IsKept ms vs → HasNoPairs v → IsKept ms ws
kept_node (Ok u) ms vs ws v e kept one = subst (IsKept ms) (sym e) (kept_more ms vs v kept one)
kept_node (Err w) ms vs ws v e kept one = subst (IsKept ms) (sym e) kept

pub kept_maps : {E : Type 0} (r : Result ⊤ E) (ms ks : List ℕ) (m : ℕ) (vs ws : List Node) (v : Node) → ws ≡ vs ++ v ∷ [] → ks ≡ (if is_ok r then ms ++ m ∷ [] else ms) → m ≡ length vs → IsKept ms vs → HasNoPairs v → IsKept ks ws
kept_maps (Ok u) ms ks m vs ws v e f same kept one = subst (IsKept ks) (sym e) (subst (λ k. IsKept k (vs ++ v ∷ [])) (sym f) (kept_map ms m vs v same kept one))
kept_maps (Err w) ms ks m vs ws v e f same kept one = subst (IsKept ks) (sym e) (subst (λ k. IsKept k (vs ++ v ∷ [])) (sym f) (kept_more ms vs v kept one))

pub begins_node_more : {E : Type 0} (r : Result ⊤ E) (ms : List ℕ) (vs ws : List Node) (v : Node) (old : List Begun) (b : Begun) → ws ≡ (if is_ok r then vs ++ v ∷ [] else vs) → IsKept ms vs → begun_from ms 0 vs ≡ old → begun_as false v ≡ b → OnOk r (begun_from ms 0 ws ≡ old ++ b ∷ [])
begins_node_more (Ok u) ms vs ws v old b e kept view is = ap (begun_from ms 0) e ∙ begins ms vs v kept ∙ ap (λ bs. bs ++ begun_as false v ∷ []) view ∙ ap (λ x. old ++ x ∷ []) is
begins_node_more (Err w) ms vs ws v old b e kept view is = tt

pub begins_maps : {E : Type 0} (r : Result ⊤ E) (ms ks : List ℕ) (m : ℕ) (vs ws : List Node) (v : Node) (old : List Begun) (b : Begun) → ws ≡ vs ++ v ∷ [] → ks ≡ (if is_ok r then ms ++ m ∷ [] else ms) → m ≡ length vs → begun_from ms 0 vs ≡ old → begun_as true v ≡ b → OnOk r (begun_from ks 0 ws ≡ old ++ b ∷ [])
begins_maps (Ok u) ms ks m vs ws v old b e f same view is = ap (begun_from ks 0) e ∙ ap (λ k. begun_from k 0 (vs ++ v ∷ [])) f ∙ begins_map ms m vs v same ∙ ap (λ bs. bs ++ begun_as true v ∷ []) view ∙ ap (λ x. old ++ x ∷ []) is
begins_maps (Err w) ms ks m vs ws v old b e f same view is = tt

-- a node of it that has values more

grown_as : (b : Bool) (w : Node) (added : List Value) → HasNoPairs w → begun_as b (and_items w added) ≡ record { sort = (begun_as b w).sort; values = (begun_as b w).values ++ added }
grown_as b (nodes.List k items) added o = refl
grown_as b (nodes.Map k pairs) added o = absurd o
grown_as b (nodes.Object k values) added o = refl

pub grown : (ms : List ℕ) (vs : List Node) (i : ℕ) (w : Node) (added : List Value) → IsKept ms vs → i < length vs → w ≡ and_items (get_or vs i no_vertex) added → begun_from ms 0 (set vs i w) ≡ with_items (begun_from ms 0 vs) i added
grown ms vs i w added kept low is =
    let at : 0 + i ≡ i = omega arith in
    let here : get_or (begun_from ms 0 vs) i no_begun ≡ begun_as (is_among i ms) (get_or vs i no_vertex) = begun_at ms 0 vs i low ∙ ap (λ k. begun_as (is_among k ms) (get_or vs i no_vertex)) at in
    begun_set ms 0 vs i w
    ∙ ap (λ k. set (begun_from ms 0 vs) i (begun_as (is_among k ms) w)) at
    ∙ ap (λ (x : Node). set (begun_from ms 0 vs) i (begun_as (is_among i ms) x)) is
    ∙ ap (set (begun_from ms 0 vs) i) (grown_as (is_among i ms) (get_or vs i no_vertex) added (kept.unpaired i low) ∙ ap (λ (b : Begun). record { sort = b.sort; values = b.values ++ added }) (sym here))

pub grown_past : (ms : List ℕ) (vs : List Node) (i : ℕ) (added : List Value) → length vs ≤ i → begun_from ms 0 vs ≡ with_items (begun_from ms 0 vs) i added
grown_past ms vs i added high = sym (set_past (begun_from ms 0 vs) i _ (let e = begun_count ms 0 vs in omega (arith, e, high)))

-- values at the front of a piece that a node of it has more
pub grown_by : {E : Type 0} (r : Result Taken E) (ms : List ℕ) (vs : List Node) (i : ℕ) (w : Node) (piece : List ℕ) (most nodes : ℕ) (old : List Begun) → IsKept ms vs → i < length vs → begun_from ms 0 vs ≡ old → nodes ≡ length vs → IfOk r (GrowsBy nodes (get_or vs i no_vertex) piece most w) → IfOk r (PutsInto old i piece most (begun_from ms 0 (set vs i w)))
grown_by (Ok taken) ms vs i w piece most nodes old kept low view many g =
    let count : nodes ≡ length old = many ∙ sym (begun_count ms 0 vs) ∙ ap length view in
    record {
      added = g.added;
      values = subst (λ k. AreValues k g.added (take taken.bytes piece)) count g.values;
      is = grown ms vs i w g.added kept low g.is ∙ ap (λ bs. with_items bs i g.added) view;
      count = g.count;
      few = g.few;
      within = g.within;
    }
grown_by (Err e) ms vs i w piece most nodes old kept low view many g = tt
