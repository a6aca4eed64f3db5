-- Nodes are put together from what was read.
use Rattle.std.proofs.Common.{◌≡◌, ℕ, suc, ◌+◌, ◌<◌, ◌≤◌, ◌^◌, List, [], ◌∷◌, ◌++◌, length, get_or, map, reverse, refl, ap, sym, ◌∙◌, subst, arith, inl, inr, append_assoc, length-append}
use Rattle.std.specs.Prelude.{◌-◌, Option, Some, None}
use Rattle.std.proofs.lemmas.Bool.{cases_eq}
use Rattle.std.proofs.lemmas.List.{reverse-append, map-append, length-map, get_or_append_left}
use Rattle.hessian_graph.specs.declared.value.Value.{Value}
use Rattle.hessian_graph.specs.declared.value.Pair.{Pair}
use Rattle.hessian_graph.specs.declared.node.Node.{Node}
use Rattle.hessian_graph.specs.declared.node.Node.TheVariants as nodes
use Rattle.hessian_graph.specs.declared.node.Class.{Class}
use Rattle.hessian_graph.specs.Shape.{Shape, shape_of, Text, ListKind, MapKind, ObjectKind, NodeShape, node_shape, type_of, kind_of, values_of, alternately, no_class, no_vertex}
use Rattle.hessian_graph.specs.Tables.{NumberBelow}
use Rattle.hessian_graph.specs.Moving.{NamesThere, AllThere}
use Rattle.graph_notation.specs.declared.frame.Frame.{Frame}
use Rattle.graph_notation.specs.Machine.{shown, kind_of as frame_kind}
use Rattle.graph_notation.specs.Built.{Grows}
use Rattle.graph_notation.specs.declared.building.Tables.{Tables}
use Rattle.graph_notation.specs.Naming.{NamesFit, NamesTaken, HasRoom}
use Rattle.graph_notation.proofs.Naming.{Uses, uses_more, in_use}
use Rattle.hessian_graph.specs.InUse.{InOrderOfUse}
use Rattle.graph_notation.specs.Whole.{AllGood, Fits, IsEven}
use Rattle.graph_notation.specs.declared.element.Element.{Element}
use Rattle.graph_notation.specs.Forms.{SpellsGraph}
use Rattle.hessian_graph.specs.declared.parts.Parts.{Parts}
use Rattle.hessian_graph.specs.Faults.{IsSound}
use Rattle.hessian_graph.specs.Work.{IsClosed}
use Rattle.hessian_graph.proofs.Rebuilding.{sound_of}
use Rattle.graph_notation.proofs.Forming.{graph_good, closed}

-- nodes that were built show these shapes, with names that are there
pub record AreBuilt (types : List Text) (classes : List Class) (nodes : List Node) (shapes : List NodeShape) : Type 0 where
  pub shapes_are : map (node_shape types classes) nodes ≡ shapes
  pub there : AllThere types classes nodes
  pub few_types : length types ≤ length nodes
  pub few_classes : length classes ≤ length nodes

pub pairs_more : (all left rest : List Value) (pairs : List Pair) (p : Pair) → all ≡ left ++ alternately (reverse pairs) → left ≡ rest ++ (p.key ∷ p.value ∷ []) → all ≡ rest ++ alternately (reverse (pairs ++ p ∷ []))
pairs_more all left rest pairs p e h = e ∙ ap (λ x. x ++ alternately (reverse pairs)) h ∙ append_assoc rest (p.key ∷ p.value ∷ []) (alternately (reverse pairs)) ∙ ap (λ ps. rest ++ alternately ps) (sym (reverse-append pairs (p ∷ [])))

pub pairs_whole : (all left : List Value) (pairs : List Pair) → all ≡ left ++ alternately (reverse pairs) → left ≡ [] → alternately (reverse pairs) ≡ all
pairs_whole all left pairs e h = sym (e ∙ ap (λ x. x ++ alternately (reverse pairs)) h)

last_row : {N : Type 0} (rows : List N) (row none : N) → get_or (rows ++ row ∷ []) (length rows) none ≡ row
last_row [] row none = refl
last_row (x ∷ xs) row none = last_row xs row none

-- names stay where tables grow
type_stays : (types more : List Text) (n : Option ℕ) → NumberBelow (length types) n → type_of (types ++ more) n ≡ type_of types n
type_stays types more None h = refl
type_stays types more (Some k) h = ap Some (get_or_append_left types more [] k h)

kind_stays : (types more : List Text) (classes others : List Class) (n : Node) → NamesThere types classes n → kind_of (types ++ more) (classes ++ others) n ≡ kind_of types classes n
kind_stays types more classes others (nodes.List t items) h = ap ListKind (type_stays types more t h)
kind_stays types more classes others (nodes.Map t pairs) h = ap MapKind (type_stays types more t h)
kind_stays types more classes others (nodes.Object c vs) h = ap ObjectKind (get_or_append_left classes others no_class c h.below)

number_stays : (n m : ℕ) (o : Option ℕ) → n ≤ m → NumberBelow n o → NumberBelow m o
number_stays n m None h b = tt
number_stays n m (Some k) h b = omega arith

there_stays : (types more : List Text) (classes others : List Class) (n : Node) → NamesThere types classes n → NamesThere (types ++ more) (classes ++ others) n
there_stays types more classes others (nodes.List t items) h = number_stays (length types) (length (types ++ more)) t (rw (length-append types more) (omega arith)) h
there_stays types more classes others (nodes.Map t pairs) h = number_stays (length types) (length (types ++ more)) t (rw (length-append types more) (omega arith)) h
there_stays types more classes others (nodes.Object c vs) h =
    let low = h.below in
    record {
      below = rw (length-append classes others) (omega (arith, low));
      count_is = h.count_is ∙ ap (λ (x : Class). length x.fields) (sym (get_or_append_left classes others no_class c h.below));
    }

shapes_stay : (types more : List Text) (classes others : List Class) (ns : List Node) → AllThere types classes ns → map (node_shape (types ++ more) (classes ++ others)) ns ≡ map (node_shape types classes) ns
shapes_stay types more classes others [] a = refl
shapes_stay types more classes others (n ∷ ns) a =
    ap (λ k. record { kind = k; values = values_of n } ∷ map (node_shape (types ++ more) (classes ++ others)) ns) (kind_stays types more classes others n (a 0 (omega arith)))
    ∙ ap (λ x. node_shape types classes n ∷ x) (shapes_stay types more classes others ns (λ k h. a (suc k) (omega arith)))

pub built_more : (types types' : List Text) (classes classes' : List Class) (ns : List Node) (shapes : List NodeShape) (n : Node) (shape : NodeShape) → AreBuilt types classes ns shapes → Grows types types' → Grows classes classes' → node_shape types' classes' n ≡ shape → NamesThere types' classes' n → AreBuilt types' classes' (ns ++ n ∷ []) (shapes ++ shape ∷ [])
built_more types types' classes classes' ns shapes n shape b t c is there =
    let few_types = b.few_types in
    let few_classes = b.few_classes in
    let one_type = t.one in
    let one_class = c.one in
    let long : length (ns ++ n ∷ []) ≡ length ns + 1 = length-append ns (n ∷ []) in
    let old : map (node_shape types' classes') ns ≡ shapes = ap (λ x. map (node_shape x classes') ns) t.is ∙ ap (λ y. map (node_shape (types ++ t.more) y) ns) c.is ∙ shapes_stay types t.more classes c.more ns b.there ∙ b.shapes_are in
    let long_types : length types' ≡ length types + length t.more = ap length t.is ∙ length-append types t.more in
    let long_classes : length classes' ≡ length classes + length c.more = ap length c.is ∙ length-append classes c.more in
    record {
      shapes_are = map-append (node_shape types' classes') ns (n ∷ []) ∙ ap (λ x. x ++ node_shape types' classes' n ∷ []) old ∙ ap (λ x. shapes ++ x ∷ []) is;
      there = λ k h. elim (cases_eq k (length ns)) [
        | inl e ↦ subst (NamesThere types' classes') (sym (ap (λ i. get_or (ns ++ n ∷ []) i no_vertex) e ∙ last_row ns n no_vertex)) there
        | inr ne ↦ subst (NamesThere types' classes') (sym (get_or_append_left ns (n ∷ []) no_vertex k (omega (arith, long)))) (subst (λ x. NamesThere x classes' (get_or ns k no_vertex)) (sym t.is) (subst (λ y. NamesThere (types ++ t.more) y (get_or ns k no_vertex)) (sym c.is) (there_stays types t.more classes c.more (get_or ns k no_vertex) (b.there k (omega (arith, long))))))
      ];
      few_types = omega (arith, few_types, one_type, long, long_types);
      few_classes = omega (arith, few_classes, one_class, long, long_classes);
    }

-- the nodes that are left, one after another
pub record Building (all left : List Frame) (t : Tables) (built : List Node) : Type 0 where
  pub shapes : List NodeShape
  pub whole : map shown all ≡ shapes ++ map shown (reverse left)
  pub are : AreBuilt t.types.texts.items t.classes.rows.items built shapes
  pub fit : NamesFit t
  pub uses : Uses (length t.types.texts.items) (length t.classes.rows.items) built

left_shapes : (left rest : List Frame) (f : Frame) → left ≡ rest ++ f ∷ [] → map shown (reverse left) ≡ shown f ∷ map shown (reverse rest)
left_shapes left rest f e = ap (λ x. map shown (reverse x)) e ∙ ap (map shown) (reverse-append rest (f ∷ []))

pub one_built : (all left rest : List Frame) (f : Frame) (t u : Tables) (built : List Node) (n : Node) → Building all left t built → left ≡ rest ++ f ∷ [] → node_shape u.types.texts.items u.classes.rows.items n ≡ shown f → NamesTaken t u n → Building all rest u (built ++ n ∷ [])
one_built all left rest f t u built n b e is names = record {
  shapes = b.shapes ++ shown f ∷ [];
  whole = b.whole ∙ ap (λ x. b.shapes ++ x) (left_shapes left rest f e) ∙ sym (append_assoc b.shapes (shown f ∷ []) (map shown (reverse rest)));
  are = built_more t.types.texts.items u.types.texts.items t.classes.rows.items u.classes.rows.items built b.shapes n (shown f) b.are names.types names.classes is names.there;
  fit = names.fit;
  uses = uses_more t u built n b.uses names;
}

-- the next node has as many values as its kind takes
good_next : (count : ℕ) (before after : List NodeShape) (x : NodeShape) → AllGood count (before ++ x ∷ after) → Fits x.kind (length x.values)
good_next count [] after x a = (a.0).fits
good_next count (y ∷ ys) after x a = good_next count ys after x a.1

pub next_fits : (count : ℕ) (all left rest : List Frame) (f : Frame) (t : Tables) (built : List Node) → AllGood count (map shown all) → Building all left t built → left ≡ rest ++ f ∷ [] → Fits (frame_kind f.head f.names) (length f.values)
next_fits count all left rest f t built a b e = good_next count b.shapes (map shown (reverse rest)) (shown f) (subst (AllGood count) (b.whole ∙ ap (λ x. b.shapes ++ x) (left_shapes left rest f e)) a)

pub next_room : (all left : List Frame) (t : Tables) (built : List Node) → length all < 2 ^ 32 → Building all left t built → HasRoom t
next_room all left t built few b =
    let many : length all ≡ length b.shapes + length (map shown (reverse left)) = sym (length-map all shown) ∙ ap length b.whole ∙ length-append b.shapes (map shown (reverse left)) in
    let same : length built ≡ length b.shapes = sym (length-map built (node_shape t.types.texts.items t.classes.rows.items)) ∙ ap length (b.are).shapes_are in
    let n = (b.are).few_types in
    let k = (b.are).few_classes in
    record { types = omega (arith, many, same, n); classes = omega (arith, many, same, k) }

parts_with : List Value → List Node → Tables → Parts
parts_with roots nodes t = record { roots = roots; nodes = nodes; types = t.types.texts.items; classes = t.classes.rows.items }

-- the tables have the names of all nodes
pub tables_used : (all left : List Frame) (t : Tables) (built nodes : List Node) (roots : List Value) (p : Parts) → Building all left t built → nodes ≡ built → p ≡ record { roots = roots; nodes = nodes; types = t.types.texts.items; classes = t.classes.rows.items } → InOrderOfUse p
unfolding parts_with
tables_used all left t built nodes roots p b n e = subst InOrderOfUse (sym (e ∙ ap (λ (ns : List Node). parts_with roots ns t) n)) (in_use t roots built b.fit b.uses)

-- as many nodes as were read
pub as_many : (p : Parts) (all : List Frame) (roots : List Value) → shape_of p ≡ record { roots = roots; nodes = map shown all } → length all < 2 ^ 32 → length p.nodes < 2 ^ 32
as_many p all roots e few =
    let n : length p.nodes ≡ length all = sym (length-map p.nodes (node_shape p.types p.classes)) ∙ ap (λ (g : Shape). length g.nodes) e ∙ length-map all shown in
    omega (arith, n, few)

pub even_less : (left rest : List Value) (p : Pair) → left ≡ rest ++ (p.key ∷ p.value ∷ []) → IsEven (length left) → IsEven (length rest)
even_less left rest p e h =
    let n : length left ≡ length rest + 2 = ap length e ∙ length-append rest (p.key ∷ p.value ∷ []) in
    let m = h.1 in
    (h.0 - 1, omega (arith, n, m))

-- the parts are sound
pub is_sound : (p : Parts) (all : List Frame) (roots : List Value) (es : List Element) → SpellsGraph (record { roots = roots; nodes = map shown all }) es → shape_of p ≡ record { roots = roots; nodes = map shown all } → AllThere p.types p.classes p.nodes → length all < 2 ^ 32 → IsSound p
is_sound p all roots es s e there few =
    let g : Shape = record { roots = roots; nodes = map shown all } in
    let good = graph_good g es s in
    let n : length (map shown all) ≡ length all = length-map all shown in
    sound_of p (subst IsClosed (sym e) (closed g (omega (arith, n)) good.0 good.1)) there
