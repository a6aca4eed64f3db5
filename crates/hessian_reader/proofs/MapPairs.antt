-- The maps of a table get their pairs, one after another.
use Rattle.std.proofs.Common.{◌≡◌, ℕ, suc, ◌+◌, ◌<◌, true, false, List, [], ◌∷◌, ◌++◌, length, get_or, set, refl, sym, ap, ◌∙◌, subst, length-append, arith, inl, inr}
use Rattle.std.specs.Prelude.{Bool}
use Rattle.std.proofs.Math.Seq.{get_or-append_seam}
use Rattle.std.specs.Iterator.{Yields}
use Rattle.std.specs.Vec.Iter.{into_iter_items, into_iter_steps}
use Rattle.std.specs.declared.vec.IntoIter.{IntoIter}
use Rattle.std.proofs.lemmas.Bool.{cases_eq}
use Rattle.std.proofs.lemmas.List.{length-set, get_or-set_same, get_or-set_other}
use Rattle.hessian_graph.specs.declared.node.Node.{Node}
use Rattle.hessian_graph.specs.declared.node.Node.TheVariants as nodes
use Rattle.hessian_graph.specs.Shape.{no_vertex}
use Rattle.hessian_reader.specs.Finish.{IsNodeOf, AreNodesOf, GetsPairs}
use Rattle.hessian_reader.specs.Nodes.{Begun, IsKept, is_among, begun_as, begun_from}
use Rattle.hessian_reader.specs.States.{no_begun}
use Rattle.hessian_reader.proofs.Kept.{among_other, among_last, begun_count, begun_at}

-- a node is as it was, or a list that stood for a map has its pairs
abbrev pub IsPairedAs : Bool → Node → Node → Type 0
IsPairedAs false v w = w ≡ v
IsPairedAs true v w = IsNodeOf (begun_as true v).sort (begun_as true v).values w

-- those of these numbers have their pairs, and the others are as they were
pub record ArePaired (done : List ℕ) (vs ws : List Node) : Type 0 where
  pub count : length ws ≡ length vs
  pub each : (i : ℕ) → i < length vs → IsPairedAs (is_among i done) (get_or vs i no_vertex) (get_or ws i no_vertex)

pub none_paired : (vs : List Node) → ArePaired [] vs vs
none_paired vs = record { count = refl; each = λ i h. refl }

-- a node that stood for a map, once more or for the first time
pairs_first : (v w : Node) → GetsPairs v w → IsPairedAs true v w
pairs_first (nodes.List k items) w c = c
pairs_first (nodes.Map k pairs) w c = λ whole. (pairs, c, refl)
pairs_first (nodes.Object k values) w c = c

pairs_again : (v w x : Node) → IsPairedAs true v w → GetsPairs w x → IsPairedAs true v x
pairs_again (nodes.List k items) w x before c = λ whole.
    let made = before whole in
    (made.0, subst (λ y. GetsPairs y x) made.1 c, made.2)
pairs_again (nodes.Map k pairs) w x before c = λ whole.
    let made = before whole in
    (made.0, subst (λ y. GetsPairs y x) made.1 c, made.2)
pairs_again (nodes.Object k values) w x before c = subst (λ y. GetsPairs y x) before c

pairs_one : (b : Bool) (v w x : Node) → IsPairedAs b v w → GetsPairs w x → IsPairedAs true v x
pairs_one false v w x before c = pairs_first v x (subst (λ y. GetsPairs y x) before c)
pairs_one true v w x before c = pairs_again v w x before c

-- one map more has its pairs
pub one_paired : (done : List ℕ) (m : ℕ) (vs ws : List Node) (x : Node) → ArePaired done vs ws → GetsPairs (get_or ws m no_vertex) x → ArePaired (done ++ m ∷ []) vs (set ws m x)
one_paired done m vs ws x paired c = record {
  count = length-set ws m x ∙ paired.count;
  each = λ i h. elim (cases_eq i m) [
    | inl same ↦
        let there : m < length ws = let e = paired.count in omega (arith, h, same, e) in
        let before = subst (λ k. IsPairedAs (is_among i done) (get_or vs i no_vertex) (get_or ws k no_vertex)) same (paired.each i h) in
        let now = pairs_one (is_among i done) (get_or vs i no_vertex) (get_or ws m no_vertex) x before c in
        subst (λ b. IsPairedAs b (get_or vs i no_vertex) (get_or (set ws m x) i no_vertex)) (sym (among_last i m done same))
        (subst (λ y. IsPairedAs true (get_or vs i no_vertex) y) (sym (ap (λ k. get_or (set ws m x) k no_vertex) same ∙ get_or-set_same ws m x no_vertex there)) now)
    | inr other ↦
        subst (λ b. IsPairedAs b (get_or vs i no_vertex) (get_or (set ws m x) i no_vertex)) (sym (among_other i m done other))
        (subst (λ y. IsPairedAs (is_among i done) (get_or vs i no_vertex) y) (sym (get_or-set_other ws m i x no_vertex other)) (paired.each i h))
  ];
}

-- all of them

kept_as : (v w : Node) → w ≡ v → IsNodeOf (begun_as false v).sort (begun_as false v).values w
kept_as (nodes.List k items) w e = e
kept_as (nodes.Map k pairs) w e = λ whole. (pairs, e, refl)
kept_as (nodes.Object k values) w e = e

paired_as : (b : Bool) (v w : Node) → IsPairedAs b v w → IsNodeOf (begun_as b v).sort (begun_as b v).values w
paired_as false v w e = kept_as v w e
paired_as true v w c = c

pub all_paired : (ms : List ℕ) (vs ws : List Node) → ArePaired ms vs ws → AreNodesOf (begun_from ms 0 vs) ws
all_paired ms vs ws paired = record {
  as_many = paired.count ∙ sym (begun_count ms 0 vs);
  each = λ i h.
      let low : i < length vs = let e = begun_count ms 0 vs in omega (arith, h, e) in
      let at : begun_as (is_among i ms) (get_or vs i no_vertex) ≡ get_or (begun_from ms 0 vs) i no_begun = ap (λ k. begun_as (is_among k ms) (get_or vs i no_vertex)) (omega arith) ∙ sym (begun_at ms 0 vs i low) in
      subst (λ (b : Begun). IsNodeOf b.sort b.values (get_or ws i no_vertex)) at (paired_as (is_among i ms) (get_or vs i no_vertex) (get_or ws i no_vertex) (paired.each i low));
}

-- what an iterator over numbers gave, and what is still to come

pub gave_front : {A : Type 0} (from to : IntoIter ℕ A) (gone : List ℕ) → Yields into_iter_steps from gone to → into_iter_items from ≡ gone ++ into_iter_items to
gave_front from to [] same = ap into_iter_items same
gave_front from to (m ∷ ms) led = led.1.0 ∙ ap (λ ks. m ∷ ks) (gave_front led.0 to ms led.2)

-- a number that comes next is one of them
pub next_is_low : {A : Type 0} (from to behind : IntoIter ℕ A) (ms gone : List ℕ) (m : ℕ) (vs ws : List Node) → into_iter_items from ≡ ms → Yields into_iter_steps from gone to → into_iter_items to ≡ m ∷ into_iter_items behind → IsKept ms vs → ArePaired gone vs ws → m < length ws
next_is_low from to behind ms gone m vs ws all led next kept paired =
    let rest = into_iter_items behind in
    let is : ms ≡ gone ++ m ∷ rest = sym all ∙ gave_front from to gone led ∙ ap (λ ks. gone ++ ks) next in
    let here : get_or ms (length gone) 0 ≡ m = ap (λ ks. get_or ks (length gone) 0) is ∙ get_or-append_seam gone m rest 0 in
    let count : length ms ≡ length gone + suc (length rest) = ap length is ∙ length-append gone (m ∷ rest) in
    let low = kept.low (length gone) (omega (arith, count)) in
    let same = paired.count in
    omega (arith, low, here, same)
