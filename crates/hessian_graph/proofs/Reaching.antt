-- The nodes that a visit keeps are the reached ones.
use Rattle.std.proofs.Common.{◌≡◌, ℕ, zero, suc, ◌<◌, List, [], ◌∷◌, ◌++◌, length, get_or, refl, ap, sym, ◌∙◌, subst, arith, inl, inr}
use Rattle.std.specs.Prelude.{Some, Contains, ◌↔◌}
use Rattle.std.proofs.lemmas.Bool.{cases_eq}
use Rattle.std.proofs.lemmas.List.{get_or_default}
use Rattle.hessian_graph.specs.declared.value.Value.{Value}
use Rattle.hessian_graph.specs.declared.value.Value.TheVariants.{Node}
use Rattle.hessian_graph.specs.Shape.{Shape, node_of, values_at}
use Rattle.hessian_graph.specs.Canon.{place_of, Visit}
use Rattle.hessian_graph.specs.Canon.Visit.{done, plain, again, first}
use Rattle.hessian_graph.specs.Reached.{Reached}
use Rattle.hessian_graph.specs.Reached.Reached.{root, onward}
use Rattle.hessian_graph.specs.Work.{IsClosed}
use Rattle.hessian_graph.proofs.Places.{place_other, place_within, place_at, some_place}
use Rattle.hessian_graph.proofs.Values.{is_node}
use Rattle.hessian_graph.proofs.Visits.{AllPlaced, placed_values, placed_within}

-- the node that a value names, if any, is reached
abbrev pub AllLed : Shape → List Value → Type 0
AllLed g [] = Unit {0}
AllLed g (v ∷ vs) = ((n : ℕ) → node_of v ≡ Some n → Reached g n) × AllLed g vs

led : (g : Shape) (vs : List Value) → ((n : ℕ) → Contains vs (Node n) → Reached g n) → AllLed g vs
led g [] f = tt
led g (v ∷ vs) f = ((λ n e. f n (0, omega arith, is_node v n e)), led g vs (λ n c. f n (suc c.0, (let h = c.1 in omega (arith, h)), c.2)))

led_both : (g : Shape) (xs ys : List Value) → AllLed g xs → AllLed g ys → AllLed g (xs ++ ys)
led_both g [] ys a b = b
led_both g (x ∷ xs) ys a b = (a.0, led_both g xs ys a.1 b)

-- a visit that has seen reached nodes alone, and goes through values that lead to such, keeps such
kept_reached : {g : Shape} {seen out : List ℕ} {vs : List Value} → Visit g seen vs out → ((n k : ℕ) → place_of n seen ≡ Some k → Reached g n) → AllLed g vs → (n k : ℕ) → place_of n out ≡ Some k → Reached g n
kept_reached (done seen) old a n k at = old n k at
kept_reached (plain seen out v rest names l) old a n k at = kept_reached l old a.1 n k at
kept_reached (again seen out v rest m j names before l) old a n k at = kept_reached l old a.1 n k at
kept_reached {g} (first seen out v rest m names new l) old a n k at =
    let here : Reached g m = a.0 m names in
    let more : (i j : ℕ) → place_of i (seen ++ m ∷ []) ≡ Some j → Reached g i = λ i j e. elim (cases_eq i m) [
      | inl same ↦ subst (Reached g) (sym same) here
      | inr other ↦ old i j (sym (place_other m i seen other) ∙ e)
    ] in
    kept_reached l more (led_both g (values_at g m) rest (led g (values_at g m) (λ i c. onward m i here c)) a.1) n k at

placed_at : (out : List ℕ) (vs : List Value) (n k : ℕ) → AllPlaced out vs → k < length vs → get_or vs k (Node n) ≡ Node n → (j : ℕ) × (place_of n out ≡ Some j)
placed_at out [] n k a h e = absurd (omega (arith, h))
placed_at out (v ∷ vs) n zero a h e = a.0 n (ap node_of e)
placed_at out (v ∷ vs) n (suc k) a h e = placed_at out vs n k a.1 (omega (arith, h)) e

reached_kept : (g : Shape) (out : List ℕ) → Visit g [] g.roots out → (n : ℕ) → Reached g n → (k : ℕ) × (place_of n out ≡ Some k)
reached_kept g out visit n (root m c) = placed_at out g.roots m c.0 (placed_values visit) c.1 c.2
reached_kept g out visit n (onward m i r c) =
    let q = reached_kept g out visit m r in
    placed_at out (values_at g m) i c.0 (placed_within m q.0 visit q.1 refl) c.1 c.2

none_seen : (g : Shape) (n k : ℕ) → place_of n [] ≡ Some k → Reached g n
none_seen g n k e = cc

pub kept_is_reached : (g : Shape) (out : List ℕ) → Visit g [] g.roots out → (n k : ℕ) → place_of n out ≡ Some k → Reached g n
kept_is_reached g out visit n k at = kept_reached visit (none_seen g) (led g g.roots (λ i c. root i c)) n k at

-- the nodes kept are the reached ones
pub kept_exactly : (g : Shape) (out : List ℕ) → Visit g [] g.roots out → (n : ℕ) → Contains out n ↔ Reached g n
kept_exactly g out visit n = (
  (λ c. let p = some_place n out c.0 c.1 c.2 in kept_is_reached g out visit n p.0 p.1),
  (λ r. let q = reached_kept g out visit n r in
      let within = place_within n out q.0 q.1 in
      (q.0, within, get_or_default out q.0 n 0 within ∙ place_at out n q.0 q.1)),
)

pub reached_below : (g : Shape) → IsClosed g → (n : ℕ) → Reached g n → n < length g.nodes
reached_below g closed n (root m c) = closed.roots c.0 (Node m) c.1 m (ap node_of c.2)
reached_below g closed n (onward m i r c) = closed.each m (reached_below g closed m r) c.0 (Node i) c.1 i (ap node_of c.2)
