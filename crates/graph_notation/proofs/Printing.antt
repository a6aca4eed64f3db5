-- Steps of a printing, with the nodes that have begun.
use Rattle.std.proofs.Common.{◌≡◌, ℕ, zero, suc, ◌+◌, ◌-◌, ◌/◌, ◌%◌, ◌<◌, ◌≤◌, ◌^◌, true, false, List, [], ◌∷◌, ◌++◌, length, get_or, drop, set, reverse, refl, ap, sym, ◌∙◌, subst, arith, inl, inr, add-one, drop-cons}
use Rattle.std.specs.Prelude.{not, Option, None, Ok}
use Rattle.std.proofs.lemmas.List.{append-nil, take_all, length-map, reverse-append, get_or_default}
use Rattle.hessian_graph.specs.declared.value.Value.{Value}
use Rattle.hessian_graph.specs.declared.value.Value.TheVariants as values
use Rattle.hessian_graph.specs.declared.value.Pair.{Pair}
use Rattle.hessian_graph.specs.declared.node.Node.{Node}
use Rattle.hessian_graph.specs.declared.node.Node.TheVariants as nodes_of
use Rattle.hessian_graph.specs.declared.node.Class.{Class}
use Rattle.hessian_graph.specs.declared.parts.Parts.{Parts}
use Rattle.hessian_graph.specs.Shape.{Text, Kind, ListKind, MapKind, ObjectKind, NodeShape, Shape, no_node, no_vertex, shape_of, node_shape, kind_of, kind_at, values_of, values_at}
use Rattle.hessian_graph.specs.Canon.{IsCanon}
use Rattle.hessian_graph.specs.Moving.{NamesThere}
use Rattle.hessian_graph.proofs.Alternately.{length_alternately}
use Rattle.hessian_graph.proofs.Rebuilding.{shape_at, there_of}
use Rattle.hessian_graph.proofs.Closed.{closed_of}
use Rattle.hessian_graph.proofs.Again.{form_stays}
use Rattle.hessian_graph.specs.Faults.{IsSound}
use Rattle.std.proofs.Math.Nat.{div-add-mod}
use Rattle.graph_notation.specs.declared.element.Mark.TheVariants.{Colon}
use Rattle.graph_notation.specs.declared.element.Element.TheVariants.{Sign}
use Rattle.graph_notation.specs.declared.press.Press.{Press}
use Rattle.graph_notation.specs.declared.press.Step.{Step}
use Rattle.graph_notation.specs.declared.frame.Frame.{Frame}
use Rattle.graph_notation.specs.declared.frame.Place.{Place}
use Rattle.graph_notation.specs.declared.frame.Place.TheVariants as places
use Rattle.graph_notation.specs.Forms.{SpellsGraph}
use Rattle.graph_notation.specs.Notation.{IsPrinted, PrintsForm}
use Rattle.graph_notation.specs.Machine.{State, start, run, is_whole, may_end, graph_of, fed}
use Rattle.graph_notation.specs.Whole.{Fits}
use Rattle.graph_notation.specs.Pressing.{Prints, Stands, Begun, PressedOn, AwaitsOn, CanPrint, AreCanonical, element_of, head_of, end_of, comma, before, is_odd, frame_at, under_at, count_at, to_come, part_of, unbegun, on_stack, work}
use Rattle.graph_notation.proofs.Stages.{at, IsEnd}
use Rattle.graph_notation.proofs.Exact.{spelled_where_read}
use Rattle.graph_notation.proofs.Forming.{is_canonical}
use Rattle.graph_notation.proofs.Repeating.{forms_of}
use Rattle.graph_notation.proofs.Begun.{begun_none, begun_leaf, begun_node, begun_end, begun_further, begun_root, begun_all, begun_last, begun_long, first_met, top_within}
use Rattle.graph_notation.proofs.Pressings.{nothing_read, read_on, asked, NamesFor, WholeAt, leaf_goes, node_goes, whole_goes}

-- a node of sound parts has as many values as its kind takes
fits_of : (types : List Text) (classes : List Class) (node : Node) → NamesThere types classes node → Fits (kind_of types classes node) (length (values_of node))
fits_of types classes (nodes_of.List type items) h = tt
fits_of types classes (nodes_of.Map type pairs) h = (length pairs, length_alternately pairs)
fits_of types classes (nodes_of.Object class vs) h = h.count_is

pub node_fits : (p : Parts) (n : ℕ) → CanPrint p → n < length (shape_of p).nodes → Fits (kind_at (shape_of p) n) (length (values_at (shape_of p) n))
node_fits p n ready h =
    let count = length-map p.nodes (node_shape p.types p.classes) in
    let node : Node = get_or p.nodes n no_vertex in
    subst (λ (x : NodeShape). Fits x.kind (length x.values)) (sym (shape_at p n)) (fits_of p.types p.classes node (ready.there n (omega (arith, h, count))))

names_for : (kind : Kind) (count i : ℕ) → Fits kind count → i < count → NamesFor kind i
names_for (ListKind type) count i f h = tt
names_for (MapKind type) count i f h = tt
names_for (ObjectKind class) count i f h = omega (arith, f, h)

twice_even : (h : ℕ) → is_odd (h + h) ≡ false
twice_even zero = refl
twice_even (suc h) = let e : suc h + suc h ≡ suc (suc (h + h)) = omega arith in rw e (ap (λ b. not (not b)) (twice_even h))

whole_at : (kind : Kind) (count : ℕ) → Fits kind count → WholeAt kind count
whole_at (ListKind type) count f = tt
whole_at (MapKind type) count f = rw f.1 (twice_even f.0)
whole_at (ObjectKind class) count f = omega (arith, f)

stands_end : (n : ℕ) (place : Place) → Stands n place → IsEnd place
stands_end zero place s = inl (s.none refl)
stands_end (suc n) place s = inr (s.some (omega arith))

stands_after : (n : ℕ) → 0 < n → Stands n places.After
stands_after n h = record { none = λ e. absurd (omega (arith, h, e)); some = λ l. refl }

-- nothing is printed
pub pressed_none : (g : Shape) → PressedOn g [] 0 0 []
pressed_none g = record {
  nodes = [];
  place = places.Start;
  begins = begun_none g;
  counted = tt;
  stands = record { none = λ e. refl; some = λ l. absurd (omega (arith, l)) };
  read = nothing_read (2 ^ 32);
}

-- what stands before a value is printed
pub awaits_step : (g : Shape) (old new : List ℕ) (begun roots : ℕ) (t : Step) (ts : List Step) (v : Value) → Fits (kind_at g t.node) (length (values_at g t.node)) → t.at < length (values_at g t.node) → v ≡ get_or (values_at g t.node) t.at values.Null → PressedOn g old begun roots (t ∷ ts) → Prints old (before (kind_at g t.node) t.at) new → AwaitsOn g v new begun roots (record { node = t.node; at = t.at + 1 } ∷ ts)
awaits_step g old new begun roots t ts v fits h e p w =
    let kind : Kind = kind_at g t.node in
    let vs : List Value = values_at g t.node in
    let a = asked (2 ^ 32) kind vs t.node t.at v p.nodes (frame_at g roots ts ∷ under_at g roots ts) p.place p.stands h (names_for kind (length vs) t.at fits h) e in
    record {
      nodes = p.nodes;
      place = a.after;
      frame = a.frame;
      begins = begun_further (to_come g roots ts) t ts v h e p.begins;
      counted = p.counted;
      some = omega arith;
      wants = a.wants;
      feeds = a.feeds ∙ ap (part_of kind vs t.node) (sym (add-one t.at));
      read = read_on p.read w a.is;
    }

pub awaits_root : (g : Shape) (old new : List ℕ) (begun roots : ℕ) (v : Value) → roots < length g.roots → v ≡ get_or g.roots roots values.Null → PressedOn g old begun roots [] → Prints old (before (ListKind None) roots) new → AwaitsOn g v new begun (roots + 1) []
awaits_root g old new begun roots v h e p w =
    let a = asked (2 ^ 32) (ListKind None) g.roots 0 roots v p.nodes [] p.place p.stands h tt e in
    record {
      nodes = p.nodes;
      place = a.after;
      frame = a.frame;
      begins = begun_root roots v h e p.begins;
      counted = tt;
      some = omega arith;
      wants = a.wants;
      feeds = a.feeds ∙ ap (part_of (ListKind None) g.roots 0) (sym (add-one roots));
      read = read_on p.read w a.is;
    }

-- a value is printed
pub pressed_leaf : (g : Shape) (old new : List ℕ) (begun roots : ℕ) (ts : List Step) (v : Value) → ((k : ℕ) → v ≡ values.Node k → k < begun) → AwaitsOn g v old begun roots ts → Prints old (element_of v ∷ []) new → PressedOn g new begun roots ts
pressed_leaf g old new begun roots ts v low a w =
    let long : length a.nodes ≡ begun = begun_long a.begins in
    record {
      nodes = a.nodes;
      place = places.After;
      begins = begun_leaf v low a.begins;
      counted = a.counted;
      stands = stands_after (count_at roots ts) a.some;
      read = read_on a.read w (λ more.
          leaf_goes (2 ^ 32) a.nodes a.frame (under_at g roots ts) a.place v more a.wants (λ k e. let h = low k e in omega (arith, h, long))
          ∙ ap (λ f. run (2 ^ 32) (at a.nodes f (under_at g roots ts) places.After) more) a.feeds);
    }

-- a node is begun
pub pressed_node : (g : Shape) (old new : List ℕ) (begun roots : ℕ) (ts : List Step) (number : ℕ) → length g.nodes < 2 ^ 32 → number ≡ begun → begun < length g.nodes → AwaitsOn g (values.Node number) old begun roots ts → Prints old (head_of (kind_at g number)) new → PressedOn g new (begun + 1) roots (record { node = number; at = 0 } ∷ ts)
pressed_node g old new begun roots ts number few is room a w =
    let long : length a.nodes ≡ begun = begun_long a.begins in
    let here : length a.nodes ≡ number = long ∙ sym is in
    let kind : Kind = kind_at g number in
    let vs : List Value = values_at g number in
    let feeds = subst (λ k. fed_to a.frame k ≡ frame_at g roots ts) (sym here) a.feeds in
    let next = begun_node (to_come g roots ts) number is room a.begins in
    record {
      nodes = a.nodes ++ no_node ∷ [];
      place = places.Start;
      begins = subst (λ b. Begun g (a.nodes ++ no_node ∷ []) b (record { node = number; at = 0 } ∷ ts) (vs ++ to_come g roots ts)) (sym (add-one begun)) next;
      counted = (a.some, a.counted);
      stands = record { none = λ e. refl; some = λ l. absurd (omega (arith, l)) };
      read = read_on a.read w (λ more.
          node_goes (2 ^ 32) a.nodes a.frame (frame_at g roots ts) (under_at g roots ts) a.place kind vs more a.wants (omega (arith, long, room, few)) feeds
          ∙ ap (λ k. run (2 ^ 32) (at (a.nodes ++ no_node ∷ []) (part_of kind vs k 0) (frame_at g roots ts ∷ under_at g roots ts) places.Start) more) here);
    }
  where
    fed_to : Frame → ℕ → Frame
    fed_to f k = fed (values.Node k) f

-- a node is ended
pub pressed_end : (g : Shape) (old new : List ℕ) (begun roots : ℕ) (t : Step) (ts : List Step) → Fits (kind_at g t.node) (length (values_at g t.node)) → length (values_at g t.node) ≤ t.at → PressedOn g old begun roots (t ∷ ts) → Prints old (end_of (kind_at g t.node) ∷ []) new → PressedOn g new begun roots ts
pressed_end g old new begun roots t ts fits past p w =
    let kind : Kind = kind_at g t.node in
    let vs : List Value = values_at g t.node in
    let within = (top_within t ts p.begins).at in
    let all : length vs ≡ t.at = omega (arith, within, past) in
    record {
      nodes = set p.nodes t.node (get_or g.nodes t.node no_node);
      place = places.After;
      begins = begun_end (to_come g roots ts) t ts past p.begins;
      counted = p.counted.1;
      stands = stands_after (count_at roots ts) p.counted.0;
      read = read_on p.read w (λ more. whole_goes (2 ^ 32) p.nodes (frame_at g roots ts) (under_at g roots ts) p.place kind vs t.node t.at more (stands_end t.at p.place p.stands) past (subst (WholeAt kind) all (whole_at kind (length vs) fits)));
    }

whole_end : (place : Place) → IsEnd place → may_end place false ≡ true
whole_end place h = elim h [ inl e ↦ rw e refl | inr e ↦ rw e refl ]

-- all is printed
pub all_printed : (g : Shape) (text : List ℕ) (begun roots : ℕ) → length g.roots ≤ roots → length g.nodes ≤ begun → PressedOn g text begun roots [] → IsPrinted g text
all_printed g text begun roots past all p =
    let s : State = at p.nodes (part_of (ListKind None) g.roots 0 roots) [] p.place in
    let whole : is_whole s ≡ true = rw (whole_end p.place (stands_end roots p.place p.stands)) refl in
    let is : run (2 ^ 32) start p.read.elements ≡ Ok s = ap (run (2 ^ 32) start) (sym (append-nil p.read.elements)) ∙ p.read.goes [] in
    let same : graph_of s ≡ g = rw (begun_all all p.begins, take_all roots g.roots past) refl in
    let spelled : SpellsGraph (graph_of s) p.read.elements = spelled_where_read (2 ^ 32) p.read.elements s is whole (forms_of p.read.elements p.read.sound) in
    record { elements = p.read.elements; spelled = subst (λ h. SpellsGraph h p.read.elements) same spelled; sound = p.read.sound; written = p.read.written }

-- work
work_there : (nodes : List NodeShape) (begun : ℕ) → begun < length nodes → unbegun (drop begun nodes) ≡ 2 + length (get_or nodes begun no_node).values + unbegun (drop (begun + 1) nodes)
work_there nodes begun h = ap unbegun (drop-cons nodes begun no_node h) ∙ ap (λ i. 2 + length (get_or nodes begun no_node).values + unbegun (drop i nodes)) (sym (add-one begun))

pub work_node : (g : Shape) (begun number : ℕ) (stack ts : List Step) → number ≡ begun → begun < length g.nodes → ts ≡ stack ++ record { node = number; at = 0 } ∷ [] → unbegun (drop (begun + 1) g.nodes) + on_stack g (reverse ts) ≤ unbegun (drop begun g.nodes) + on_stack g (reverse stack)
work_node g begun number stack ts is room e =
    let there = work_there g.nodes begun room in
    let same : length (get_or g.nodes begun no_node).values ≡ length (values_at g number) = ap (λ i. length (values_at g i)) (sym is) in
    let top : on_stack g (reverse ts) ≡ suc (length (values_at g number) - 0) + on_stack g (reverse stack) = ap (λ x. on_stack g (reverse x)) e ∙ ap (on_stack g) (reverse-append stack (record { node = number; at = 0 } ∷ [])) in
    omega (arith, there, same, top)

pub work_further : (g : Shape) (t : Step) (stack ts : List Step) → t.at < length (values_at g t.node) → ts ≡ stack ++ record { node = t.node; at = t.at + 1 } ∷ [] → on_stack g (reverse ts) ≤ on_stack g (reverse stack) + (length (values_at g t.node) - t.at)
work_further g t stack ts h e =
    let top : on_stack g (reverse ts) ≡ suc (length (values_at g t.node) - (t.at + 1)) + on_stack g (reverse stack) = ap (λ x. on_stack g (reverse x)) e ∙ ap (on_stack g) (reverse-append stack (record { node = t.node; at = t.at + 1 } ∷ [])) in
    omega (arith, top, h)

-- as much is left to do where the stack and the nodes that have begun are the same
pub same_work : (g : Shape) (p q : Press) → p.stack ≡ q.stack → p.begun ≡ q.begun → work g p ≡ work g q
same_work g p q stack begun = ap (λ n. unbegun (drop n g.nodes) + on_stack g (reverse p.stack.items)) begun ∙ ap (λ ts. unbegun (drop q.begun g.nodes) + on_stack g (reverse ts.items)) stack

pub from_top : (g : Shape) (text : List ℕ) (begun roots : ℕ) (t : Step) (stack ts : List Step) → stack ≡ ts ++ t ∷ [] → PressedOn g text begun roots (t ∷ reverse ts) → PressedOn g text begun roots (reverse stack)
from_top g text begun roots t stack ts e p = subst (PressedOn g text begun roots) (sym (ap reverse e ∙ reverse-append ts (t ∷ []))) p

pub awaits_top : (g : Shape) (v : Value) (text : List ℕ) (begun roots : ℕ) (t : Step) (stack ts : List Step) → stack ≡ ts ++ t ∷ [] → AwaitsOn g v text begun roots (t ∷ reverse ts) → AwaitsOn g v text begun roots (reverse stack)
awaits_top g v text begun roots t stack ts e p = subst (AwaitsOn g v text begun roots) (sym (ap reverse e ∙ reverse-append ts (t ∷ []))) p

-- the node of a number, as contracts see it
pub indexed : (ns ps : List Node) (n : ℕ) (node : Node) → node ≡ get_or ns n node → ns ≡ ps → n < length ps → node ≡ get_or ps n no_vertex
indexed ns ps n node is same h = is ∙ ap (λ x. get_or x n node) same ∙ get_or_default ps n node no_vertex h

pub kind_here : (p : Parts) (n : ℕ) (node : Node) → node ≡ get_or p.nodes n no_vertex → kind_at (shape_of p) n ≡ kind_of p.types p.classes node
kind_here p n node e = ap (λ (x : NodeShape). x.kind) (shape_at p n) ∙ ap (kind_of p.types p.classes) (sym e)

pub values_here : (p : Parts) (n : ℕ) (node : Node) → node ≡ get_or p.nodes n no_vertex → values_at (shape_of p) n ≡ values_of node
values_here p n node e = ap (λ (x : NodeShape). x.values) (shape_at p n) ∙ ap values_of (sym e)

pub there_here : (p : Parts) (n : ℕ) (node : Node) → CanPrint p → n < length p.nodes → node ≡ get_or p.nodes n no_vertex → NamesThere p.types p.classes node
there_here p n node ready h e = subst (NamesThere p.types p.classes) (sym e) (ready.there n h)

pub node_below : (p : Parts) (n : ℕ) → n < length (shape_of p).nodes → n < length p.nodes
node_below p n h = let count = length-map p.nodes (node_shape p.types p.classes) in omega (arith, h, count)

pub shape_below : (p : Parts) (n : ℕ) → n < length p.nodes → n < length (shape_of p).nodes
shape_below p n h = let count = length-map p.nodes (node_shape p.types p.classes) in omega (arith, h, count)

-- in a canonical form a node that hasn't begun is the next one
pub met_in_order : (g : Shape) (old : List ℕ) (begun roots number : ℕ) (stack : List Step) → begun ≤ number → AwaitsOn g (values.Node number) old begun roots stack → (number ≡ begun → begun < length g.nodes → ⊥) → IsCanon g g → ⊥
met_in_order g old begun roots number stack low a other c =
    let f = first_met g begun number (to_come g roots stack) (a.begins.visit c) low in
    other f.is f.room

-- and all have begun in the end
pub ends_in_order : (g : Shape) (text : List ℕ) (begun roots : ℕ) → length g.roots ≤ roots → PressedOn g text begun roots [] → (begun ≡ length g.nodes → ⊥) → IsCanon g g → ⊥
ends_in_order g text begun roots past p other c = other (begun_last roots past p.begins c)

pub step_below : (p : Parts) (old : List ℕ) (begun roots : ℕ) (t : Step) (stack : List Step) → PressedOn (shape_of p) old begun roots (t ∷ stack) → t.node < length p.nodes
step_below p old begun roots t stack a =
    let w = (top_within t stack a.begins).node in
    let few = a.begins.few in
    node_below p t.node (omega (arith, w, few))

pub step_fits : (p : Parts) (old : List ℕ) (begun roots : ℕ) (t : Step) (stack : List Step) → CanPrint p → PressedOn (shape_of p) old begun roots (t ∷ stack) → Fits (kind_at (shape_of p) t.node) (length (values_at (shape_of p) t.node))
step_fits p old begun roots t stack ready a =
    let w = (top_within t stack a.begins).node in
    let few = a.begins.few in
    node_fits p t.node ready (omega (arith, w, few))

-- what stands before a key or a value
pub map_even : (at : ℕ) → at % 2 ≡ 0 → is_odd at ≡ false
map_even at h =
    let whole = div-add-mod at 2 in
    let e : at ≡ at / 2 + at / 2 = omega (arith, whole, h) in
    ap is_odd e ∙ twice_even (at / 2)

pub map_odd : (at : ℕ) → (at % 2 ≡ 0 → ⊥) → is_odd at ≡ true
map_odd at h =
    let whole = div-add-mod at 2 in
    let e : at ≡ suc (at / 2 + at / 2) = omega (arith, whole, h) in
    ap is_odd e ∙ ap not (twice_even (at / 2))

pub before_key : (types : List Text) (classes : List Class) (node : Node) (type : Option ℕ) (pairs : List Pair) (i : ℕ) (old new : List ℕ) → node ≡ nodes_of.Map type pairs → i % 2 ≡ 0 → Prints old (comma i) new → Prints old (before (kind_of types classes node) i) new
before_key types classes node type pairs i old new e h w = rw (e, map_even i h) w

pub before_value : (types : List Text) (classes : List Class) (node : Node) (type : Option ℕ) (pairs : List Pair) (i : ℕ) (old new : List ℕ) → node ≡ nodes_of.Map type pairs → (i % 2 ≡ 0 → ⊥) → Prints old (Sign Colon ∷ []) new → Prints old (before (kind_of types classes node) i) new
before_value types classes node type pairs i old new e h w = rw (e, map_odd i h) w

-- sound parts can be printed
pub can_print : (p : Parts) → IsSound p → length p.nodes < 2 ^ 32 → CanPrint p
can_print p sound few = record { closed = closed_of p sound few; there = there_of p sound }

-- what is printed as it stands is canonical
pub prints_itself : (g : Shape) (text : List ℕ) → IsPrinted g text → PrintsForm g text
prints_itself g text p = record { form = g; canon = is_canonical g p.elements p.spelled; printed = p }

-- a canonical form is its own
pub stays_canonical : (given form : Parts) → IsSound given → length given.nodes < 2 ^ 32 → IsSound form → length form.nodes < 2 ^ 32 → IsCanon (shape_of given) (shape_of form) → AreCanonical form
stays_canonical given form sound few sound' few' canon = form_stays (shape_of given) (shape_of form) (closed_of given sound few) (closed_of form sound' few') canon
