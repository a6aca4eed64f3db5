-- Visits: what they keep, that there is one, and that there is no other.
use Rattle.std.proofs.Common.{◌≡◌, ℕ, zero, suc, ◌+◌, ◌<◌, List, [], ◌∷◌, ◌++◌, length, set, refl, sym, ◌∙◌, subst, arith, inl, inr, append_assoc, length-append}
use Rattle.std.specs.Prelude.{Option, Some, None, All, replicate}
use Rattle.std.proofs.lemmas.Bool.{cases_eq}
use Rattle.std.proofs.lemmas.List.{append-nil}
use Rattle.std.proofs.lemmas.List.Elements.{All-tail, All-append}
use Rattle.hessian_graph.specs.declared.value.Value.{Value}
use Rattle.hessian_graph.specs.declared.value.Value.TheVariants.{Null}
use Rattle.hessian_graph.specs.Shape.{Shape, no_node, node_of, values_at}
use Rattle.hessian_graph.specs.Canon.{place_of, Visit}
use Rattle.hessian_graph.specs.Canon.Visit.{done, plain, again, first}
use Rattle.hessian_graph.specs.Work.{NamesBelow, IsClosed, unseen, FineAt}
use Rattle.hessian_graph.proofs.Places.{place_kept, place_new, place_other}
use Rattle.hessian_graph.proofs.Values.{not_both, some_is}
use Rattle.hessian_graph.proofs.Walking.{less_unseen, open_fine, new_fine}

-- all seen in the end begins with all seen before
pub record Grown (seen out : List ℕ) : Type 0 where
  pub more : List ℕ
  pub is : out ≡ seen ++ more

pub grown : {g : Shape} {seen out : List ℕ} {vs : List Value} → Visit g seen vs out → Grown seen out
grown (done seen) = record { more = []; is = sym (append-nil seen) }
grown (plain seen out v rest names l) = grown l
grown (again seen out v rest n k names at l) = grown l
grown (first seen out v rest n names new l) = let q = grown l in record { more = n ∷ q.more; is = q.is ∙ append_assoc seen (n ∷ []) q.more }

-- the node that a value names, if any, has a place
abbrev pub HasPlace : List ℕ → Value → Type 0
HasPlace out v = (n : ℕ) → node_of v ≡ Some n → (k : ℕ) × (place_of n out ≡ Some k)

abbrev pub AllPlaced : List ℕ → List Value → Type 0
AllPlaced out [] = Unit {0}
AllPlaced out (v ∷ vs) = HasPlace out v × AllPlaced out vs

front_placed : (out : List ℕ) (xs ys : List Value) → AllPlaced out (xs ++ ys) → AllPlaced out xs × AllPlaced out ys
front_placed out [] ys a = (tt, a)
front_placed out (x ∷ xs) ys a = let q = front_placed out xs ys a.1 in ((a.0, q.0), q.1)

-- what was to be visited has a place in the end
pub placed_values : {g : Shape} {seen out : List ℕ} {vs : List Value} → Visit g seen vs out → AllPlaced out vs
placed_values (done seen) = tt
placed_values (plain seen out v rest names l) = ((λ n e. absurd (not_both (node_of v) n names e)), placed_values l)
placed_values (again seen out v rest n k names at l) =
    let q = grown l in
    ((λ m e. (k, subst (λ i. place_of i out ≡ Some k) (some_is n m (sym names ∙ e)) (rw q.is (place_kept n seen q.more k at)))), placed_values l)
placed_values {g} (first seen out v rest n names new l) =
    let q = grown l in
    let at : place_of n out ≡ Some (length seen) = rw (q.is, append_assoc seen (n ∷ []) q.more) (place_new n seen q.more new) in
    ((λ m e. (length seen, subst (λ i. place_of i out ≡ Some (length seen)) (some_is n m (sym names ∙ e)) at)), (front_placed out (values_at g n) rest (placed_values l)).1)

-- and so have the values of each node that was seen first here
pub placed_within : {g : Shape} {seen out : List ℕ} {vs : List Value} (m k : ℕ) → Visit g seen vs out → place_of m out ≡ Some k → place_of m seen ≡ None → AllPlaced out (values_at g m)
placed_within m k (done seen) p none = absurd (not_both (place_of m seen) k none p)
placed_within m k (plain seen out v rest names l) p none = placed_within m k l p none
placed_within m k (again seen out v rest n j names at l) p none = placed_within m k l p none
placed_within {g} m k (first seen out v rest n names new l) p none = elim (cases_eq m n) [
  | inl same ↦ subst (λ i. AllPlaced out (values_at g i)) (sym same) (front_placed out (values_at g n) rest (placed_values l)).0
  | inr other ↦ placed_within m k l p (place_other n m seen other ∙ none)
]

module _ (g : Shape) where
  -- what another visit of the same values does
  pub after_plain : {seen out : List ℕ} {v : Value} {rest : List Value} → node_of v ≡ None → Visit g seen (v ∷ rest) out → Visit g seen rest out
  after_plain none (plain seen out v rest names l) = l
  after_plain none (again seen out v rest n k names at l) = absurd (not_both (node_of v) n none names)
  after_plain none (first seen out v rest n names new l) = absurd (not_both (node_of v) n none names)

  pub after_again : {seen out : List ℕ} {v : Value} {rest : List Value} (m k : ℕ) → node_of v ≡ Some m → place_of m seen ≡ Some k → Visit g seen (v ∷ rest) out → Visit g seen rest out
  after_again m k some at (plain seen out v rest names l) = absurd (not_both (node_of v) m names some)
  after_again m k some at (again seen out v rest n j names at' l) = l
  after_again m k some at (first seen out v rest n names new l) = absurd (not_both (place_of n seen) k new (subst (λ i. place_of i seen ≡ Some k) (some_is m n (sym some ∙ names)) at))

  pub after_first : {seen out : List ℕ} {v : Value} {rest : List Value} (m : ℕ) → node_of v ≡ Some m → place_of m seen ≡ None → Visit g seen (v ∷ rest) out → Visit g (seen ++ m ∷ []) (values_at g m ++ rest) out
  after_first m some none (plain seen out v rest names l) = absurd (not_both (node_of v) m names some)
  after_first m some none (again seen out v rest n j names at l) = absurd (not_both (place_of m seen) j none (subst (λ i. place_of i seen ≡ Some j) (some_is n m (sym names ∙ some)) at))
  after_first m some none (first seen out v rest n names new l) = subst (λ i. Visit g (seen ++ i ∷ []) (values_at g i ++ rest) out) (some_is n m (sym names ∙ some)) l

  pub after_done : {seen out : List ℕ} → Visit g seen [] out → seen ≡ out
  after_done (done seen) = refl

-- two visits see the same
pub one_visit : {g : Shape} {seen out other : List ℕ} {vs : List Value} → Visit g seen vs out → Visit g seen vs other → out ≡ other
one_visit {g} (done seen) l = after_done g l
one_visit {g} (plain seen out v rest names k) l = one_visit k (after_plain g names l)
one_visit {g} (again seen out v rest n i names at k) l = one_visit k (after_again g n i names at l)
one_visit {g} (first seen out v rest n names new k) l = one_visit k (after_first g n names new l)

-- some visit of these values, where fuel is left for the work
abbrev pub Fueled : Shape → ℕ → Type 0
Fueled g fuel = (numbers : List (Option ℕ)) (seen : List ℕ) (vs : List Value) → FineAt g numbers seen [] → All (NamesBelow (length g.nodes)) vs → unseen numbers g.nodes + length vs < fuel → (out : List ℕ) × Visit g seen vs out

module _ (g : Shape) (closed : IsClosed g) (fuel : ℕ) (go : Fueled g fuel) (numbers : List (Option ℕ)) (seen : List ℕ) (v : Value) (rest : List Value) (fine : FineAt g numbers seen []) (below : All (NamesBelow (length g.nodes)) (v ∷ rest)) (h : unseen numbers g.nodes + suc (length rest) < suc fuel) where
  visit_node : (n : ℕ) (o : Option ℕ) → node_of v ≡ Some n → place_of n seen ≡ o → (out : List ℕ) × Visit g seen (v ∷ rest) out
  visit_node n (Some k) names at =
      let q = go numbers seen rest fine (All-tail (NamesBelow (length g.nodes)) v rest below) (omega (arith, h)) in
      (q.0, again seen q.0 v rest n k names at q.1)
  visit_node n None names new =
      let within : n < length g.nodes = below 0 Null (omega arith) n names in
      let less = less_unseen numbers g.nodes n (length seen) no_node (omega (arith, fine.numbered)) within (fine.places n within ∙ new) in
      let all : All (NamesBelow (length g.nodes)) (values_at g n ++ rest) = All-append (NamesBelow (length g.nodes)) (values_at g n) rest (closed.each n within) (All-tail (NamesBelow (length g.nodes)) v rest below) in
      let long : length (values_at g n ++ rest) ≡ length (values_at g n) + length rest = rw length-append refl in
      let room : unseen (set numbers n (Some (length seen))) g.nodes + length (values_at g n ++ rest) < fuel = omega (arith, less, long, h) in
      let q = go (set numbers n (Some (length seen))) (seen ++ n ∷ []) (values_at g n ++ rest) (open_fine g numbers seen [] n fine within new) all room in
      (q.0, first seen q.0 v rest n names new q.1)

  visit_value : (o : Option ℕ) → node_of v ≡ o → (out : List ℕ) × Visit g seen (v ∷ rest) out
  visit_value None names =
      let q = go numbers seen rest fine (All-tail (NamesBelow (length g.nodes)) v rest below) (omega (arith, h)) in
      (q.0, plain seen q.0 v rest names q.1)
  visit_value (Some n) names = visit_node n (place_of n seen) names refl

fueled : (g : Shape) → IsClosed g → (fuel : ℕ) → Fueled g fuel
fueled g closed zero numbers seen vs fine below h = absurd (omega (arith, h))
fueled g closed (suc fuel) numbers seen [] fine below h = (seen, done seen)
fueled g closed (suc fuel) numbers seen (v ∷ rest) fine below h = visit_value g closed fuel (fueled g closed fuel) numbers seen v rest fine below h (node_of v) refl

-- each graph has a visit of its roots
pub some_visit : (g : Shape) → IsClosed g → (out : List ℕ) × Visit g [] g.roots out
some_visit g closed =
    let numbers : List (Option ℕ) = replicate (length g.nodes) None in
    fueled g closed (suc (unseen numbers g.nodes + length g.roots)) numbers [] g.roots (new_fine g (length g.nodes) refl) closed.roots (omega arith)
