-- The nodes that have begun are the first of a canonical form.
use Rattle.std.proofs.Common.{◌≡◌, ℕ, zero, suc, ◌+◌, ◌<◌, ◌≤◌, List, [], ◌∷◌, ◌++◌, length, get_or, take, drop, set, map, refl, ap, sym, ◌∙◌, subst, arith, append_assoc, add-one, drop-cons, length-take-le}
use Rattle.std.specs.Prelude.{Option, Some, None, All}
use Rattle.std.proofs.lemmas.List.{take_all, length-map}
use Rattle.std.proofs.lemmas.List.Elements.{All-tail}
use Rattle.std.proofs.Math.Seq.{take-suc}
use Rattle.hessian_graph.specs.declared.value.Value.{Value}
use Rattle.hessian_graph.specs.declared.value.Value.TheVariants as values
use Rattle.hessian_graph.specs.Shape.{NodeShape, Shape, no_node, node_of, values_at}
use Rattle.hessian_graph.specs.Canon.{Visit, IsCanon, in_order, moved, renumbered, place_of, place_or_zero}
use Rattle.hessian_graph.specs.Canon.Visit.{done, plain, again, first}
use Rattle.hessian_graph.proofs.Places.{place_new, place_shows, place_within, place_at}
use Rattle.hessian_graph.proofs.Values.{node_moves, node_is, is_node}
use Rattle.hessian_graph.proofs.Visits.{grown, after_plain, after_again, after_first, after_done}
use Rattle.hessian_graph.proofs.Walking.{drop_all}
use Rattle.graph_notation.specs.declared.press.Step.{Step}
use Rattle.graph_notation.specs.Pressing.{upto, filled, Begun, Within}
use Rattle.graph_notation.proofs.Forming.{upto_long, place_past, place_upto}

-- values that the order leaves as they are
abbrev Fixed : List ℕ → List Value → Type 0
Fixed order [] = Unit {0}
Fixed order (v ∷ vs) = (renumbered order v ≡ v) × Fixed order vs

fixed_of : (order : List ℕ) (vs ws : List Value) → vs ≡ map (renumbered order) ws → vs ≡ ws → Fixed order vs
fixed_of order [] ws e s = tt
fixed_of order (v ∷ vs) [] e s = cc
fixed_of order (v ∷ vs) (w ∷ ws) e s =
    let h : v ≡ renumbered order w = cc in
    let same : v ≡ w = cc in
    let tail : vs ≡ map (renumbered order) ws = cc in
    let rest : vs ≡ ws = cc in
    (subst (λ x. renumbered order v ≡ x) (sym h) (ap (renumbered order) same), fixed_of order vs ws tail rest)

fixed_both : (order : List ℕ) (vs ws : List Value) → Fixed order vs → Fixed order ws → Fixed order (vs ++ ws)
fixed_both order [] ws a b = b
fixed_both order (v ∷ vs) ws a b = (a.0, fixed_both order vs ws a.1 b)

-- a node that is met first has the next number
module _ (g : Shape) (order : List ℕ) (is : g ≡ in_order g order) where
  order_is : (seen : List ℕ) (vs : List Value) → Visit g seen vs order → (n : ℕ) → seen ≡ upto n → Fixed order vs → order ≡ upto (length order)
  order_is seen vs (done seen') n e f = e ∙ ap upto (sym (upto_long n) ∙ ap length (sym e))
  order_is seen vs (plain seen' out v rest names l) n e f = order_is seen rest l n e f.1
  order_is seen vs (again seen' out v rest m k names at l) n e f = order_is seen rest l n e f.1
  order_is seen vs (first seen' out v rest m names new l) n e f =
      let q = grown l in
      let long : length seen ≡ n = ap length e ∙ upto_long n in
      let at : place_of m order ≡ Some (length seen) = ap (place_of m) (q.is ∙ append_assoc seen (m ∷ []) q.more) ∙ place_new m seen q.more new in
      let stays : values.Node (place_or_zero (place_of m order)) ≡ values.Node m = sym (node_moves order v m names) ∙ f.0 ∙ is_node v m names in
      let number : length seen ≡ m = node_is (length seen) m (ap (λ o. values.Node (place_or_zero o)) (sym at) ∙ stays) in
      let next : m ≡ n = sym number ∙ long in
      let place : place_of m order ≡ Some m = at ∙ ap Some number in
      let shows : get_or g.nodes m no_node ≡ moved g order m = ap (λ (h : Shape). get_or h.nodes m no_node) is ∙ place_shows no_node (moved g order) order m m place in
      let inner : Fixed order (values_at g m) = fixed_of order (values_at g m) (values_at g m) (ap (λ (x : NodeShape). x.values) shows) refl in
      order_is (seen ++ m ∷ []) (values_at g m ++ rest) l (suc n) (ap (λ x. x ++ m ∷ []) e ∙ ap (λ x. upto n ++ x ∷ []) next) (fixed_both order (values_at g m) rest inner f.1)

-- a canonical form is visited in the order of its numbers
pub visits_upto : (g : Shape) → IsCanon g g → Visit g [] g.roots (upto (length g.nodes))
visits_upto g (order, visit, is) =
    let fixed : Fixed order g.roots = fixed_of order g.roots g.roots (ap (λ (h : Shape). h.roots) is) refl in
    let long : length g.nodes ≡ length order = ap (λ (h : Shape). length h.nodes) is ∙ length-map order (moved g order) in
    let all : order ≡ upto (length g.nodes) = order_is g order is [] g.roots visit 0 refl fixed ∙ ap upto (sym long) in
    subst (Visit g [] g.roots) all visit

cut_at : (vs : List Value) (at : ℕ) (v : Value) → at < length vs → v ≡ get_or vs at values.Null → drop at vs ≡ v ∷ drop (at + 1) vs
cut_at vs at v h e = drop-cons vs at values.Null h ∙ ap (λ x. x ∷ drop (suc at) vs) (sym e) ∙ ap (λ i. v ∷ drop i vs) (sym (add-one at))

-- a node that comes first, of a number that isn't below those that have begun
pub record First (g : Shape) (begun number : ℕ) (next : List Value) : Type 0 where
  pub is : number ≡ begun
  pub room : begun < length g.nodes
  pub visit : Visit g (upto (suc begun)) (values_at g number ++ next) (upto (length g.nodes))

pub first_met : (g : Shape) (begun number : ℕ) (next : List Value) → Visit g (upto begun) (values.Node number ∷ next) (upto (length g.nodes)) → begun ≤ number → First g begun number next
first_met g begun number next visit low =
    let new : place_of number (upto begun) ≡ None = place_past begun number low in
    let l = after_first g number refl new visit in
    let q = grown l in
    let whole : upto (length g.nodes) ≡ upto begun ++ number ∷ q.more = q.is ∙ append_assoc (upto begun) (number ∷ []) q.more in
    let place : place_of number (upto (length g.nodes)) ≡ Some (length (upto begun)) = ap (place_of number) whole ∙ place_new number (upto begun) q.more new in
    let long : length (upto begun) ≡ begun = upto_long begun in
    let within : length (upto begun) < length (upto (length g.nodes)) = place_within number (upto (length g.nodes)) (length (upto begun)) place in
    let all : length (upto (length g.nodes)) ≡ length g.nodes = upto_long (length g.nodes) in
    let room : begun < length g.nodes = omega (arith, long, within, all) in
    let there : get_or (upto (length g.nodes)) begun 0 ≡ number = place_at (upto (length g.nodes)) number begun (place ∙ ap Some long) in
    let here : get_or (upto (length g.nodes)) begun 0 ≡ begun = place_at (upto (length g.nodes)) begun begun (place_upto (length g.nodes) begun room) in
    let is : number ≡ begun = sym there ∙ here in
    record { is = is; room = room; visit = subst (λ k. Visit g (upto begun ++ k ∷ []) (values_at g number ++ next) (upto (length g.nodes))) is l }

-- nodes on the stack, and the nodes that have begun
length_set : (xs : List NodeShape) (i : ℕ) (x : NodeShape) → length (set xs i x) ≡ length xs
length_set [] i x = refl
length_set (y ∷ xs) zero x = refl
length_set (y ∷ xs) (suc i) x = ap suc (length_set xs i x)

filled_long : (g : Shape) (nodes : List NodeShape) (stack : List Step) → length (filled g nodes stack) ≡ length nodes
filled_long g nodes [] = refl
filled_long g nodes (t ∷ ts) = filled_long g (set nodes t.node (get_or g.nodes t.node no_node)) ts ∙ length_set nodes t.node (get_or g.nodes t.node no_node)

set_before : (xs ys : List NodeShape) (i : ℕ) (x : NodeShape) → i < length xs → set (xs ++ ys) i x ≡ set xs i x ++ ys
set_before [] ys i x h = absurd (omega arith)
set_before (y ∷ xs) ys zero x h = refl
set_before (y ∷ xs) ys (suc i) x h = ap (λ zs. y ∷ zs) (set_before xs ys i x (omega arith))

set_last : (xs : List NodeShape) (old new : NodeShape) → set (xs ++ old ∷ []) (length xs) new ≡ xs ++ new ∷ []
set_last [] old new = refl
set_last (x ∷ xs) old new = ap (λ zs. x ∷ zs) (set_last xs old new)

front_within : {g : Shape} {begun : ℕ} (t : Step) (ts : List Step) → All (Within g begun) (t ∷ ts) → Within g begun t
front_within t ts a = a 0 t (omega arith)

pub top_within : {g : Shape} {nodes : List NodeShape} {begun : ℕ} {next : List Value} (t : Step) (ts : List Step) → Begun g nodes begun (t ∷ ts) next → Within g begun t
top_within t ts b = front_within t ts b.within

all_cons : {g : Shape} {begun : ℕ} (t : Step) (ts : List Step) → Within g begun t → All (Within g begun) ts → All (Within g begun) (t ∷ ts)
all_cons t ts h a zero d l = h
all_cons t ts h a (suc k) d l = a k d (omega arith)

all_more : {g : Shape} {begun : ℕ} (ts : List Step) → All (Within g begun) ts → All (Within g (suc begun)) ts
all_more ts a k d l = let w = a k d l in record { node = let h = w.node in omega (arith, h); at = w.at }

filled_more : (g : Shape) (nodes : List NodeShape) (x : NodeShape) (begun : ℕ) (ts : List Step) → length nodes ≡ begun → All (Within g begun) ts → filled g (nodes ++ x ∷ []) ts ≡ filled g nodes ts ++ x ∷ []
filled_more g nodes x begun [] long a = refl
filled_more g nodes x begun (t ∷ ts) long a =
    let node : NodeShape = get_or g.nodes t.node no_node in
    let h = (front_within t ts a).node in
    ap (λ ns. filled g ns ts) (set_before nodes (x ∷ []) t.node node (omega (arith, h, long)))
    ∙ filled_more g (set nodes t.node node) x begun ts (length_set nodes t.node node ∙ long) (All-tail (Within g begun) t ts a)

pub begun_long : {g : Shape} {nodes : List NodeShape} {begun : ℕ} {stack : List Step} {next : List Value} → Begun g nodes begun stack next → length nodes ≡ begun
begun_long {g} {nodes} {begun} {stack} b =
    let few = b.few in
    let long = length-take-le begun g.nodes few in
    sym (filled_long g nodes stack) ∙ ap length b.whole ∙ long

pub begun_none : (g : Shape) → Begun g [] 0 [] g.roots
begun_none g = record { few = omega arith; whole = refl; within = λ k d l. absurd (omega arith); visit = visits_upto g }

-- a value that is no node, or a node that has begun
pub begun_leaf : {g : Shape} {nodes : List NodeShape} {begun : ℕ} {stack : List Step} {next : List Value} (v : Value) → ((k : ℕ) → v ≡ values.Node k → k < begun) → Begun g nodes begun stack (v ∷ next) → Begun g nodes begun stack next
begun_leaf {g} {nodes} {begun} {stack} {next} v h b = record { few = b.few; whole = b.whole; within = b.within; visit = λ c. by_name (b.visit c) (node_of v) refl }
  where
    by_name : Visit g (upto begun) (v ∷ next) (upto (length g.nodes)) → (o : Option ℕ) → node_of v ≡ o → Visit g (upto begun) next (upto (length g.nodes))
    by_name l None e = after_plain g e l
    by_name l (Some k) e = after_again g k k e (place_upto begun k (h k (is_node v k e))) l

-- a node begins
pub begun_node : {g : Shape} {nodes : List NodeShape} {begun : ℕ} {stack : List Step} (next : List Value) (number : ℕ) → number ≡ begun → begun < length g.nodes → Begun g nodes begun stack (values.Node number ∷ next) → Begun g (nodes ++ no_node ∷ []) (suc begun) (record { node = number; at = 0 } ∷ stack) (values_at g number ++ next)
begun_node {g} {nodes} {begun} {stack} next number is room b =
    let long : length nodes ≡ begun = begun_long b in
    let node : NodeShape = get_or g.nodes number no_node in
    let there : set (nodes ++ no_node ∷ []) number node ≡ nodes ++ node ∷ [] = ap (λ i. set (nodes ++ no_node ∷ []) i node) (is ∙ sym long) ∙ set_last nodes no_node node in
    record {
      few = omega (arith, room);
      whole =
          ap (λ ns. filled g ns stack) there
          ∙ filled_more g nodes node begun stack long b.within
          ∙ ap (λ ns. ns ++ node ∷ []) b.whole
          ∙ ap (λ i. take begun g.nodes ++ get_or g.nodes i no_node ∷ []) is
          ∙ sym (take-suc g.nodes begun no_node room);
      within = all_cons (record { node = number; at = 0 }) stack (record { node = omega (arith, is); at = omega arith }) (all_more stack b.within);
      visit = λ c. (first_met g begun number next (b.visit c) (omega (arith, is))).visit;
    }

-- a node ends
pub begun_end : {g : Shape} {nodes : List NodeShape} {begun : ℕ} (next : List Value) (t : Step) (ts : List Step) → length (values_at g t.node) ≤ t.at → Begun g nodes begun (t ∷ ts) (drop t.at (values_at g t.node) ++ next) → Begun g (set nodes t.node (get_or g.nodes t.node no_node)) begun ts next
begun_end {g} {nodes} {begun} next t ts past b = record {
  few = b.few;
  whole = b.whole;
  within = All-tail (Within g begun) t ts b.within;
  visit = λ c. subst (λ vs. Visit g (upto begun) (vs ++ next) (upto (length g.nodes))) (drop_all t.at (values_at g t.node) past) (b.visit c);
}

-- a node goes on
pub begun_further : {g : Shape} {nodes : List NodeShape} {begun : ℕ} (next : List Value) (t : Step) (ts : List Step) (v : Value) → t.at < length (values_at g t.node) → v ≡ get_or (values_at g t.node) t.at values.Null → Begun g nodes begun (t ∷ ts) (drop t.at (values_at g t.node) ++ next) → Begun g nodes begun (record { node = t.node; at = t.at + 1 } ∷ ts) (v ∷ (drop (t.at + 1) (values_at g t.node) ++ next))
begun_further {g} {nodes} {begun} next t ts v h e b = record {
  few = b.few;
  whole = b.whole;
  within = all_cons (record { node = t.node; at = t.at + 1 }) ts (record { node = (front_within t ts b.within).node; at = omega (arith, h) }) (All-tail (Within g begun) t ts b.within);
  visit = λ c. subst (λ vs. Visit g (upto begun) (vs ++ next) (upto (length g.nodes))) (cut_at (values_at g t.node) t.at v h e) (b.visit c);
}

-- the roots go on
pub begun_root : {g : Shape} {nodes : List NodeShape} {begun : ℕ} (roots : ℕ) (v : Value) → roots < length g.roots → v ≡ get_or g.roots roots values.Null → Begun g nodes begun [] (drop roots g.roots) → Begun g nodes begun [] (v ∷ drop (roots + 1) g.roots)
begun_root {g} {nodes} {begun} roots v h e b = record { few = b.few; whole = b.whole; within = b.within; visit = λ c. subst (λ vs. Visit g (upto begun) vs (upto (length g.nodes))) (cut_at g.roots roots v h e) (b.visit c) }

-- all have begun
pub begun_all : {g : Shape} {nodes : List NodeShape} {begun : ℕ} {next : List Value} → length g.nodes ≤ begun → Begun g nodes begun [] next → nodes ≡ g.nodes
begun_all {g} {nodes} {begun} {next} all b = b.whole ∙ take_all begun g.nodes all

-- behind the roots of a canonical form all have begun
pub begun_last : {g : Shape} {nodes : List NodeShape} {begun : ℕ} (roots : ℕ) → length g.roots ≤ roots → Begun g nodes begun [] (drop roots g.roots) → IsCanon g g → begun ≡ length g.nodes
begun_last {g} {nodes} {begun} roots past b c =
    let visit : Visit g (upto begun) [] (upto (length g.nodes)) = subst (λ vs. Visit g (upto begun) vs (upto (length g.nodes))) (drop_all roots g.roots past) (b.visit c) in
    sym (upto_long begun) ∙ ap length (after_done g visit) ∙ upto_long (length g.nodes)
