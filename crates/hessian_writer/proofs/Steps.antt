-- Steps of a writer: what leads on from after a step leads on from before it.
use Rattle.std.proofs.Common.{◌≡◌, ℕ, zero, suc, ◌+◌, ◌-◌, ◌<◌, ◌≤◌, List, [], ◌∷◌, ◌++◌, length, get_or, drop, refl, ap, sym, ◌∙◌, subst, arith, append_assoc, drop-cons, add-one}
use Rattle.std.specs.Prelude.{pos, Some, None, reverse, All}
use Rattle.std.proofs.lemmas.List.{reverse-append}
use Rattle.hessian_graph.specs.declared.value.Value.{Value}
use Rattle.hessian_graph.specs.declared.value.Value.TheVariants as values
use Rattle.hessian_graph.specs.Shape.{Shape, NodeShape, no_node, kind_at, values_at}
use Rattle.hessian_graph.specs.Canon.{place_of}
use Rattle.hessian_graph.specs.Reading.{Tables, Leaves, IntSpelling}
use Rattle.hessian_graph.proofs.Places.{place_new, place_other}
use Rattle.hessian_graph.proofs.Walking.{drop_all}
use Rattle.hessian_writer.specs.declared.writer.Step.{Step}
use Rattle.hessian_writer.specs.Heads.{HeadForm}
use Rattle.hessian_writer.specs.Course.{Due, ValueOf, End, values_then, end_then, LeafForm, State, GoesOn}
use Rattle.hessian_writer.specs.Course.Course.{end, leaf, again, first}
use Rattle.hessian_writer.specs.Progress.{due_on, unseen, on_stack}

pub stays : {w : Leaves} {g : Shape} (s : State) (ds : List Due) → GoesOn w g s ds s ds
stays s ds = record { leads = λ bytes order last l. l }

pub both : {w : Leaves} {g : Shape} {s m e : State} {ds ms es : List Due} → GoesOn w g s ds m ms → GoesOn w g m ms e es → GoesOn w g s ds e es
both a b = record { leads = λ bytes order last l. a.leads bytes order last (b.leads bytes order last l) }

-- bytes that are written behind others stand before what follows
behind : (bytes old new form rest : List ℕ) → new ≡ old ++ form → bytes ≡ new ++ rest → bytes ≡ old ++ (form ++ rest)
behind bytes old new form rest e l = l ∙ ap (λ x. x ++ rest) e ∙ append_assoc old form rest

pub leaf_goes : {w : Leaves} {g : Shape} (order : List ℕ) (t : Tables) (old new form : List ℕ) (v : Value) (ds : List Due) → LeafForm w v form → new ≡ old ++ form → GoesOn w g (record { order = order; tables = t; out = old }) (ValueOf v ∷ ds) (record { order = order; tables = t; out = new }) ds
leaf_goes order t old new form v ds is e = record {
  leads = λ bytes out last l. record { rest = form ++ l.rest; joined = behind bytes old new form l.rest e l.joined; course = leaf v form is l.course };
}

pub end_goes : {w : Leaves} {g : Shape} (order : List ℕ) (t : Tables) (old new : List ℕ) (ds : List Due) → new ≡ old ++ 0x5a ∷ [] → GoesOn w g (record { order = order; tables = t; out = old }) (End ∷ ds) (record { order = order; tables = t; out = new }) ds
end_goes order t old new ds e = record {
  leads = λ bytes out last l. record { rest = 0x5a ∷ l.rest; joined = behind bytes old new (0x5a ∷ []) l.rest e l.joined; course = end l.course };
}

pub again_goes : {w : Leaves} {g : Shape} (order : List ℕ) (t : Tables) (old new number : List ℕ) (n k : ℕ) (ds : List Due) → place_of n order ≡ Some k → IntSpelling w (pos k) number → new ≡ old ++ 0x51 ∷ number → GoesOn w g (record { order = order; tables = t; out = old }) (ValueOf (values.Node n) ∷ ds) (record { order = order; tables = t; out = new }) ds
again_goes order t old new number n k ds place is e = record {
  leads = λ bytes out last l. record { rest = 0x51 ∷ (number ++ l.rest); joined = behind bytes old new (0x51 ∷ number) l.rest e l.joined; course = again n k number place is l.course };
}

pub first_goes : {w : Leaves} {g : Shape} (order : List ℕ) (t u : Tables) (old new head : List ℕ) (n : ℕ) (ds : List Due) → place_of n order ≡ None → HeadForm w (kind_at g n) (length (values_at g n)) t u head → new ≡ old ++ head → GoesOn w g (record { order = order; tables = t; out = old }) (ValueOf (values.Node n) ∷ ds) (record { order = order ++ n ∷ []; tables = u; out = new }) (values_then (values_at g n) (end_then (kind_at g n) ds))
first_goes order t u old new head n ds none is e = record {
  leads = λ bytes out last l. record { rest = head ++ l.rest; joined = behind bytes old new head l.rest e l.joined; course = first n head none is l.course };
}

-- the next of the values from a place on
pub next_value : (vs : List Value) (at : ℕ) → at < length vs → drop at vs ≡ get_or vs at values.Null ∷ drop (at + 1) vs
next_value vs at h = rw add-one (drop-cons vs at values.Null h)

pub no_value : (vs : List Value) (at : ℕ) → length vs ≤ at → drop at vs ≡ []
no_value vs at h = drop_all at vs h

-- a node on top of the stack
pub due_push : (g : Shape) (stack : List Step) (t : Step) (ds : List Due) → due_on g (reverse (stack ++ t ∷ [])) ds ≡ values_then (drop t.at (values_at g t.node)) (end_then (kind_at g t.node) (due_on g (reverse stack) ds))
due_push g stack t ds = ap (λ x. due_on g x ds) (reverse-append stack (t ∷ []))

pub work_push : (g : Shape) (stack : List Step) (t : Step) → on_stack g (reverse (stack ++ t ∷ [])) ≡ suc (length (values_at g t.node) - t.at) + on_stack g (reverse stack)
work_push g stack t = ap (on_stack g) (reverse-append stack (t ∷ []))

-- a node that is seen leaves the work at others as it was
others_stay : (order : List ℕ) (n from : ℕ) (nodes : List NodeShape) → n < from → unseen (order ++ n ∷ []) from nodes ≡ unseen order from nodes
others_stay order n from [] h = refl
others_stay order n from (node ∷ nodes) h =
    let here : place_of from (order ++ n ∷ []) ≡ place_of from order = place_other n from order (λ same. absurd (omega (arith, h, same))) in
    rw (here, others_stay order n (suc from) nodes (omega (arith, h))) refl

less_unseen : (order : List ℕ) (from k n : ℕ) (nodes : List NodeShape) → n ≡ from + k → k < length nodes → place_of n order ≡ None → unseen (order ++ n ∷ []) from nodes + (2 + length (get_or nodes k no_node).values) ≡ unseen order from nodes
less_unseen order from k n [] e h none = absurd (omega (arith, h))
less_unseen order from zero n (node ∷ nodes) e h none =
    let same : from ≡ n = omega (arith, e) in
    let fresh : place_of from order ≡ None = subst (λ x. place_of x order ≡ None) (sym same) none in
    let now : place_of from (order ++ from ∷ []) ≡ Some (length order) = place_new from order [] fresh in
    let rest = others_stay order from (suc from) nodes (omega arith) in
    subst (λ x. unseen (order ++ x ∷ []) from (node ∷ nodes) + (2 + length node.values) ≡ unseen order from (node ∷ nodes)) same
    (rw (now, fresh, rest) (omega arith))
less_unseen order from (suc k) n (node ∷ nodes) e h none =
    let here : place_of from (order ++ n ∷ []) ≡ place_of from order = place_other n from order (λ same. absurd (omega (arith, e, same))) in
    let rest = less_unseen order (suc from) k n nodes (omega (arith, e)) (omega (arith, h)) none in
    rw here (omega (arith, rest))

pub seen_work : (g : Shape) (order : List ℕ) (n : ℕ) → n < length g.nodes → place_of n order ≡ None → unseen (order ++ n ∷ []) 0 g.nodes + (2 + length (values_at g n)) ≡ unseen order 0 g.nodes
seen_work g order n h none = less_unseen order 0 n n g.nodes (omega arith) h none

pub popped : (count : ℕ) (stack rest : List Step) (t : Step) → stack ≡ rest ++ t ∷ [] → All (λ (x : Step). x.node < count) stack → t.node < count
popped count stack rest t e all = back rest (subst (All (λ (x : Step). x.node < count)) e all)
  where
    back : (xs : List Step) → All (λ (x : Step). x.node < count) (xs ++ t ∷ []) → t.node < count
    back [] a = a 0 t (omega arith)
    back (x ∷ xs) a = back xs (λ k d h. a (suc k) d (omega (arith, h)))

pub pushed_below : (count : ℕ) (stack : List Step) (t : Step) → All (λ (x : Step). x.node < count) stack → t.node < count → All (λ (x : Step). x.node < count) (stack ++ t ∷ [])
pushed_below count [] t all h zero d l = h
pushed_below count [] t all h (suc k) d l = absurd (omega (arith, l))
pushed_below count (x ∷ xs) t all h zero d l = all 0 d (omega arith)
pushed_below count (x ∷ xs) t all h (suc k) d l = pushed_below count xs t (λ k d h. all (suc k) d (omega (arith, h))) h k d (omega (arith, l))
