-- A graph that bytes denote is its own canonical form: its nodes begin in the order of a first visit.
use Rattle.std.proofs.Common.{◌≡◌, ℕ, zero, suc, ◌+◌, ◌<◌, ◌≤◌, List, [], ◌∷◌, ◌++◌, length, get_or, take, map, refl, ap, sym, ◌∙◌, subst, arith, inl, inr}
use Rattle.std.specs.Prelude.{Some, None, All}
use Rattle.std.proofs.lemmas.List.{length-append, map-append, take_all, append-nil}
use Rattle.std.proofs.lemmas.List.Elements.{All-head, All-tail}
use Rattle.std.proofs.Math.Seq.{take-suc}
use Rattle.hessian_graph.specs.declared.value.Value.{Value}
use Rattle.hessian_graph.specs.declared.value.Value.TheVariants as values
use Rattle.hessian_graph.specs.Shape.{Text, Shape, NodeShape, no_node, node_of, values_at}
use Rattle.hessian_graph.specs.Canon.{Visit, IsCanon, in_order, moved, renumbered, place_of, place_or_zero}
use Rattle.hessian_graph.specs.Canon.Visit.{done, plain, again, first}
use Rattle.hessian_graph.specs.Reading.{Tables, Leaves, IsScalar}
use Rattle.hessian_graph.specs.Reading.IsScalar.{null, bool, int, long, date}
use Rattle.hessian_graph.specs.Spells.{TypeSpelling, Spells, SpellsAll, Denotes, SpellsGraph}
use Rattle.hessian_graph.specs.Spells.TypeSpelling.{named, numbered}
use Rattle.hessian_graph.specs.Spells.Spells.{scalar, text, binary, reference, class_first, open_list, long_list, short_list, open_typed_list, long_typed_list, short_typed_list, open_map, open_typed_map, long_object, short_object}
use Rattle.hessian_graph.specs.Spells.SpellsAll.{none, one}
use Rattle.hessian_graph.specs.Work.{IsClosed, NamesBelow}
use Rattle.hessian_graph.proofs.Places.{place_new, place_kept, place_other}
use Rattle.std.proofs.lemmas.Bool.{cases_eq}

-- the numbers below a number
abbrev pub upto : ℕ → List ℕ
upto zero = []
upto (suc n) = upto n ++ n ∷ []

upto_long : (n : ℕ) → length (upto n) ≡ n
upto_long zero = refl
upto_long (suc n) = length-append (upto n) (n ∷ []) ∙ ap (λ k. k + 1) (upto_long n) ∙ omega arith

place_past : (m n : ℕ) → m ≤ n → place_of n (upto m) ≡ None
place_past zero n h = refl
place_past (suc m) n h = place_other m n (upto m) (λ e. omega arith) ∙ place_past m n (omega arith)

place_upto : (m k : ℕ) → k < m → place_of k (upto m) ≡ Some k
place_upto zero k h = absurd (omega arith)
place_upto (suc m) k h = elim (cases_eq k m) [
  | inl e ↦ subst (λ x. place_of x (upto m ++ m ∷ []) ≡ Some x) (sym e) (place_new m (upto m) [] (place_past m m (omega arith)) ∙ ap Some (upto_long m))
  | inr ne ↦ place_kept k (upto m) (m ∷ []) k (place_upto m k (omega arith))
]

-- ---- the visit

names_none : (v : Value) → IsScalar v → node_of v ≡ None
names_none v null = refl
names_none v (bool b) = refl
names_none v (int z) = refl
names_none v (long z) = refl
names_none v (date z) = refl

same_begun : {l : Leaves} {type : Text} {t u : Tables} {name : List ℕ} → TypeSpelling l type t u name → u.begun ≡ t.begun
same_begun (named words bytes s) = refl
same_begun (numbered k bytes h s) = refl

met : (g : Shape) (n t : ℕ) (rest : List Value) (out : List ℕ) → n ≡ t → Visit g (upto (suc t)) (values_at g n ++ rest) out → Visit g (upto t) (values.Node n ∷ rest) out
met g n t rest out e v = first (upto t) out (values.Node n) rest n refl (place_past t n (omega (arith, e))) (subst (λ k. Visit g (upto t ++ k ∷ []) (values_at g n ++ rest) out) (sym e) v)

met_behind : (g : Shape) (n t u : ℕ) (rest : List Value) (out : List ℕ) → n ≡ t → u ≡ t → Visit g (upto (suc u)) (values_at g n ++ rest) out → Visit g (upto t) (values.Node n ∷ rest) out
met_behind g n t u rest out e same v = met g n t rest out e (subst (λ k. Visit g (upto (suc k)) (values_at g n ++ rest) out) same v)

mutual
  value_visit : {l : Leaves} {v : Value} {t u : Tables} {bytes : List ℕ} (g : Shape) (rest : List Value) (out : List ℕ) → Spells l g v t u bytes → Visit g (upto u.begun) rest out → Visit g (upto t.begun) (v ∷ rest) out
  value_visit {t = t} g rest out (scalar v bytes is s) l = plain (upto t.begun) out v rest (names_none v is) l
  value_visit {t = t} g rest out (text words bytes s) l = plain (upto t.begun) out (values.Text words) rest refl l
  value_visit {t = t} g rest out (binary contents bytes s) l = plain (upto t.begun) out (values.Bytes contents) rest refl l
  value_visit {t = t} g rest out (reference n number h s) l = again (upto t.begun) out (values.Node n) rest n n refl (place_upto t.begun n h) l
  value_visit g rest out (class_first v class definition more d s) l = value_visit g rest out s l
  value_visit {t = t} g rest out (open_list n items b s) l = met g n t.begun rest out b.next (values_visit g rest out s l)
  value_visit {t = t} g rest out (long_list n count items b c s) l = met g n t.begun rest out b.next (values_visit g rest out s l)
  value_visit {t = t} g rest out (short_list n code items b c e s) l = met g n t.begun rest out b.next (values_visit g rest out s l)
  value_visit {t = t} g rest out (open_typed_list {u = u} n type name items b ty s) l = met_behind g n t.begun u.begun rest out b.next (same_begun ty) (values_visit g rest out s l)
  value_visit {t = t} g rest out (long_typed_list {u = u} n type name count items b ty c s) l = met_behind g n t.begun u.begun rest out b.next (same_begun ty) (values_visit g rest out s l)
  value_visit {t = t} g rest out (short_typed_list {u = u} n code type name items b c e ty s) l = met_behind g n t.begun u.begun rest out b.next (same_begun ty) (values_visit g rest out s l)
  value_visit {t = t} g rest out (open_map n items b p s) l = met g n t.begun rest out b.next (values_visit g rest out s l)
  value_visit {t = t} g rest out (open_typed_map {u = u} n type name items b p ty s) l = met_behind g n t.begun u.begun rest out b.next (same_begun ty) (values_visit g rest out s l)
  value_visit {t = t} g rest out (long_object n k number items b c s) l = met g n t.begun rest out (b.begins).next (values_visit g rest out s l)
  value_visit {t = t} g rest out (short_object n code items c b s) l = met g n t.begun rest out (b.begins).next (values_visit g rest out s l)

  values_visit : {l : Leaves} {vs : List Value} {t u : Tables} {bytes : List ℕ} (g : Shape) (rest : List Value) (out : List ℕ) → SpellsAll l g vs t u bytes → Visit g (upto u.begun) rest out → Visit g (upto t.begun) (vs ++ rest) out
  values_visit g rest out none l = l
  values_visit g rest out (one {vs = vs} front behind s all) l = value_visit g (vs ++ rest) out s (values_visit g rest out all l)

visits : (l : Leaves) (bytes : List ℕ) (g : Shape) → SpellsGraph l bytes g → Visit g [] g.roots (upto (length g.nodes))
visits l bytes g s = subst (λ vs. Visit g [] vs (upto (length g.nodes))) (append-nil g.roots)
    (values_visit g [] (upto (length g.nodes)) s.roots (subst (λ n. Visit g (upto n) [] (upto (length g.nodes))) (sym s.all_begun) (done (upto (length g.nodes)))))

-- ---- numbers stay

stays : (count : ℕ) (v : Value) → NamesBelow count v → renumbered (upto count) v ≡ v
stays count values.Null h = refl
stays count (values.Bool b) h = refl
stays count (values.Int z) h = refl
stays count (values.Long z) h = refl
stays count (values.Date z) h = refl
stays count (values.Text words) h = refl
stays count (values.Bytes contents) h = refl
stays count (values.Node k) h = ap (λ o. values.Node (place_or_zero o)) (place_upto count k (h k refl))

all_stay : (count : ℕ) (vs : List Value) → All (NamesBelow count) vs → map (renumbered (upto count)) vs ≡ vs
all_stay count [] a = refl
all_stay count (v ∷ vs) a = let x : renumbered (upto count) v ≡ v = stays count v (All-head (NamesBelow count) v vs a) in let y : map (renumbered (upto count)) vs ≡ vs = all_stay count vs (All-tail (NamesBelow count) v vs a) in cc

-- so many of the nodes, each as it was
fronts : (g : Shape) (count n : ℕ) → n ≤ length g.nodes → ((k : ℕ) → k < length g.nodes → All (NamesBelow count) (values_at g k)) → map (moved g (upto count)) (upto n) ≡ take n g.nodes
fronts g count zero h each = refl
fronts g count (suc n) h each =
    let x : NodeShape = get_or g.nodes n no_node in
    let same : moved g (upto count) n ≡ x = ap (λ vs. record { kind = x.kind; values = vs }) (all_stay count x.values (each n (omega arith))) in
    map-append (moved g (upto count)) (upto n) (n ∷ [])
    ∙ ap (λ ys. ys ++ moved g (upto count) n ∷ []) (fronts g count n (omega arith) each)
    ∙ ap (λ y. take n g.nodes ++ y ∷ []) same
    ∙ sym (take-suc g.nodes n no_node (omega arith))

own : (g : Shape) → IsClosed g → in_order g (upto (length g.nodes)) ≡ g
own g closed =
    let count : ℕ = length g.nodes in
    let roots : map (renumbered (upto count)) g.roots ≡ g.roots = all_stay count g.roots closed.roots in
    let nodes : map (moved g (upto count)) (upto count) ≡ g.nodes = fronts g count count (omega arith) closed.each ∙ take_all count g.nodes (omega arith) in
    ap (λ r. record { roots = r; nodes = map (moved g (upto count)) (upto count) }) roots ∙ ap (λ ns. record { roots = g.roots; nodes = ns }) nodes

pub denoted_is_canonical : {l : Leaves} {bound : ℕ} {bytes : List ℕ} (g : Shape) → IsClosed g → Denotes l bound bytes g → IsCanon g g
denoted_is_canonical {l} {bound} {bytes} g closed d = (upto (length g.nodes), visits l bytes g d.spelled, sym (own g closed))
