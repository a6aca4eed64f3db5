-- Steps of a visit: what leads on from after a step leads on from before it.
use Rattle.std.proofs.Common.{◌≡◌, ℕ, zero, suc, ◌+◌, ◌<◌, ◌≤◌, List, [], ◌∷◌, ◌++◌, length, get_or, set, drop, refl, ap, sym, ◌∙◌, subst, arith, inl, inr, length-append, drop-cons, add-one}
use Rattle.std.specs.Prelude.{Option, Some, None, reverse, replicate, All}
use Rattle.std.proofs.lemmas.Bool.{cases_eq, cases_lt, lt-ltb, le-ltb}
use Rattle.std.proofs.lemmas.List.{reverse-append, length-set, get_or-set_same, get_or-set_other, length-replicate, replicate-append-replicate}
use Rattle.std.proofs.lemmas.List.Elements.{All-get_or, All-tail}
use Rattle.hessian_graph.specs.declared.value.Value.{Value}
use Rattle.hessian_graph.specs.declared.value.Value.TheVariants.{Null}
use Rattle.hessian_graph.specs.declared.walk.Link.{Link}
use Rattle.hessian_graph.specs.declared.walk.Link.TheVariants.{End, Plain, To}
use Rattle.hessian_graph.specs.declared.walk.Step.{Step}
use Rattle.hessian_graph.specs.Shape.{Shape, NodeShape, no_node, node_of, values_at}
use Rattle.hessian_graph.specs.Canon.{Visit, place_of}
use Rattle.hessian_graph.specs.Canon.Visit.{plain, again, first}
use Rattle.hessian_graph.specs.Work.{HasNext, link_to, link_at, Job, todo, opened, went_on, not_given, unseen, on_stack, FineAt}
use Rattle.hessian_graph.proofs.Places.{place_new, place_other}

pub has_next : (l : Link) (P : Type 0) → P → HasNext l P
has_next End P p = tt
has_next Plain P p = p
has_next (To n) P p = p

-- what leads on from here
abbrev pub Leads : Shape → Job → List Value → List ℕ → Type 0
Leads g j last out = Visit g j.order (todo g j.stack last) out

pub opened_leads : (g : Shape) (v : Value) (n : ℕ) (o : Option ℕ) (j : Job) (last : List Value) (out : List ℕ) → node_of v ≡ Some n → place_of n j.order ≡ o → Leads g (opened n o j) last out → Visit g j.order (v ∷ todo g j.stack last) out
opened_leads g v n (Some k) j last out names e l = again j.order out v (todo g j.stack last) n k names e l
opened_leads g v n None j last out names e l = first j.order out v (todo g j.stack last) n names e l

pub drop_all : (n : ℕ) (xs : List Value) → length xs ≤ n → drop n xs ≡ []
drop_all zero [] h = refl
drop_all zero (x ∷ xs) h = absurd (omega arith)
drop_all (suc n) [] h = refl
drop_all (suc n) (x ∷ xs) h = drop_all n xs (omega arith)

-- a value at a place is met before what comes behind it
by_link : (g : Shape) (v : Value) (o : Option ℕ) (j : Job) (t : Step) (ts : List Step) (last : List Value) (out : List ℕ) → node_of v ≡ o → Leads g (went_on t ts (link_to o) j) last out → Visit g j.order (v ∷ todo g (record t { at = t.at + 1 } ∷ ts) last) out
by_link g v None j t ts last out names l = plain j.order out v (todo g (record t { at = t.at + 1 } ∷ ts) last) names l
by_link g v (Some n) j t ts last out names l = opened_leads g v n (place_of n j.order) (record j { stack = record t { at = t.at + 1 } ∷ ts }) last out names refl l

pub went_leads : (g : Shape) (t : Step) (ts : List Step) (j : Job) (last : List Value) (out : List ℕ) → Leads g (went_on t ts (link_at (values_at g t.node) t.at) j) last out → Visit g j.order (todo g (t ∷ ts) last) out
went_leads g t ts j last out l =
    let vs : List Value = values_at g t.node in
    let rest : List Value = todo g ts last in
    elim (cases_lt t.at (length vs)) [
      | inl more ↦
          let v : Value = get_or vs t.at Null in
          let e : link_at vs t.at ≡ link_to (node_of v) = rw (lt-ltb t.at (length vs) more) refl in
          let cut : drop t.at vs ≡ v ∷ drop (t.at + 1) vs = rw add-one (drop-cons vs t.at Null more) in
          let next : Visit g j.order (v ∷ (drop (t.at + 1) vs ++ rest)) out = by_link g v (node_of v) j t ts last out refl (subst (λ x. Leads g (went_on t ts x j) last out) e l) in
          subst (λ x. Visit g j.order (x ++ rest) out) (sym cut) next
      | inr past ↦
          let e : link_at vs t.at ≡ End = rw (le-ltb t.at (length vs) past) refl in
          let next : Visit g j.order rest out = subst (λ x. Leads g (went_on t ts x j) last out) e l in
          subst (λ x. Visit g j.order (x ++ rest) out) (sym (drop_all t.at vs past)) next
    ]

-- a number that is given
fewer_left : (ks : List (Option ℕ)) (n k : ℕ) → n < length ks → get_or ks n None ≡ None → suc (not_given (set ks n (Some k))) ≡ not_given ks
fewer_left [] n k h e = absurd (omega arith)
fewer_left (None ∷ ks) zero k h e = refl
fewer_left (Some j ∷ ks) zero k h e = cc
fewer_left (None ∷ ks) (suc n) k h e = ap suc (fewer_left ks n k (omega arith) e)
fewer_left (Some j ∷ ks) (suc n) k h e = fewer_left ks n k (omega arith) e

pub less_unseen : (ks : List (Option ℕ)) (nodes : List NodeShape) (n k : ℕ) (d : NodeShape) → n < length ks → n < length nodes → get_or ks n None ≡ None → unseen (set ks n (Some k)) nodes + (2 + length (get_or nodes n d).values) ≡ unseen ks nodes
less_unseen [] nodes n k d h l e = absurd (omega arith)
less_unseen (x ∷ ks) [] n k d h l e = absurd (omega arith)
less_unseen (None ∷ ks) (node ∷ nodes) zero k d h l e = omega arith
less_unseen (Some j ∷ ks) (node ∷ nodes) zero k d h l e = cc
less_unseen (None ∷ ks) (node ∷ nodes) (suc n) k d h l e = let i = less_unseen ks nodes n k d (omega arith) (omega arith) e in omega (arith, i)
less_unseen (Some j ∷ ks) (node ∷ nodes) (suc n) k d h l e = less_unseen ks nodes n k d (omega arith) (omega arith) e

places_more : (ks : List (Option ℕ)) (order : List ℕ) (all n : ℕ) → length ks ≡ all → n < all → get_or ks n None ≡ None → ((m : ℕ) → m < all → get_or ks m None ≡ place_of m order) → (m : ℕ) → m < all → get_or (set ks n (Some (length order))) m None ≡ place_of m (order ++ n ∷ [])
places_more ks order all n e h none old m l = elim (cases_eq m n) [
  | inl same ↦ rw (same, get_or-set_same ks n (Some (length order)) None (omega arith)) (sym (place_new n order [] (sym (old n h) ∙ none)))
  | inr other ↦ rw (get_or-set_other ks n m (Some (length order)) None other) (old m l ∙ sym (place_other n m order other))
]

pub open_fine : (g : Shape) (numbers : List (Option ℕ)) (order : List ℕ) (stack : List Step) (n : ℕ) → FineAt g numbers order stack → n < length g.nodes → place_of n order ≡ None → FineAt g (set numbers n (Some (length order))) (order ++ n ∷ []) stack
open_fine g numbers order stack n fine within new =
    let none : get_or numbers n None ≡ None = fine.places n within ∙ new in
    let room : n < length numbers = omega (arith, fine.numbered) in
    let less = fewer_left numbers n (length order) room none in
    let count = fine.count in
    record {
      numbered = length-set numbers n (Some (length order)) ∙ fine.numbered;
      places = places_more numbers order (length g.nodes) n fine.numbered within none fine.places;
      count = rw length-append (omega (arith, less, count));
      within = fine.within;
    }

-- fewer nodes are seen than there are, while one isn't
pub seen_below : (g : Shape) (numbers : List (Option ℕ)) (order : List ℕ) (stack : List Step) (n : ℕ) → FineAt g numbers order stack → n < length g.nodes → place_of n order ≡ None → length order < length g.nodes
seen_below g numbers order stack n fine within new =
    let none : get_or numbers n None ≡ None = fine.places n within ∙ new in
    let room : n < length numbers = omega (arith, fine.numbered) in
    let less = fewer_left numbers n 0 room none in
    let count = fine.count in
    omega (arith, less, count)

pub open_work : (g : Shape) (numbers : List (Option ℕ)) (order : List ℕ) (stack : List Step) (n : ℕ) → FineAt g numbers order stack → n < length g.nodes → place_of n order ≡ None → unseen (set numbers n (Some (length order))) g.nodes + on_stack g (reverse (stack ++ record { node = n; at = 0 } ∷ [])) ≤ unseen numbers g.nodes + on_stack g (reverse stack)
open_work g numbers order stack n fine within new =
    let less = less_unseen numbers g.nodes n (length order) no_node (omega (arith, fine.numbered)) within (fine.places n within ∙ new) in
    rw (reverse-append stack (record { node = n; at = 0 } ∷ [])) (omega (arith, less))

pub popped : (count : ℕ) (stack rest : List Step) (t : Step) → stack ≡ rest ++ t ∷ [] → All (λ (x : Step). x.node < count) stack → t.node < count
popped count stack rest t e all = All-get_or (λ (x : Step). x.node < count) (t ∷ []) 0 t (omega arith) (back rest (subst (All (λ (x : Step). x.node < count)) e all))
  where
    back : (xs : List Step) → All (λ (x : Step). x.node < count) (xs ++ t ∷ []) → All (λ (x : Step). x.node < count) (t ∷ [])
    back [] a = a
    back (x ∷ xs) a = back xs (All-tail (λ (x : Step). x.node < count) x (xs ++ t ∷ []) a)

pub none_at : (n m : ℕ) → get_or {A = Option ℕ} (replicate n None) m None ≡ None
none_at zero m = refl
none_at (suc n) zero = refl
none_at (suc n) (suc m) = none_at n m

all_left : (n : ℕ) → not_given (replicate n None) ≡ n
all_left zero = refl
all_left (suc n) = ap suc (all_left n)

pub new_fine : (g : Shape) (count : ℕ) → count ≡ length g.nodes → FineAt g (replicate count None) [] []
new_fine g count same = record {
  numbered = length-replicate count None ∙ same;
  places = λ n h. none_at count n;
  count = let e = all_left count in omega (arith, e, same);
  within = λ k d h. absurd (omega arith);
}

pub one_more_none : (n : ℕ) → replicate {A = Option ℕ} n None ++ None ∷ [] ≡ replicate (n + 1) None
one_more_none n = replicate-append-replicate n 1 None

-- one step of the loop in the whole
other_stack : (t : Step) (ts stack : List Step) (l : Link) (j : Job) → went_on t ts l (record j { stack = stack }) ≡ went_on t ts l j
other_stack t ts stack End j = refl
other_stack t ts stack Plain j = refl
other_stack t ts stack (To n) j = refl

pub drained : (g : Shape) (j k : Job) (t : Step) (ts stack meanwhile : List Step) (last : List Value) (out : List ℕ) → reverse stack ≡ t ∷ ts → k ≡ went_on t ts (link_at (values_at g t.node) t.at) (record j { stack = meanwhile }) → Leads g k last out → Visit g j.order (todo g (reverse stack) last) out
drained g j k t ts stack meanwhile last out r e l =
    let link : Link = link_at (values_at g t.node) t.at in
    let same : k ≡ went_on t ts link j = e ∙ other_stack t ts meanwhile link j in
    rw r (went_leads g t ts j last out (subst (λ (x : Job). Leads g x last out) same l))
