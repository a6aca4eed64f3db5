-- Nothing is lacking exactly where a reading is done.
use Rattle.std.proofs.Common.{◌≡◌, ℕ, suc, ◌<◌, true, false, List, [], ◌∷◌, length, get_or, refl, ap, sym, ◌∙◌, subst, arith}
use Rattle.std.specs.Prelude.{nat_eq, map, ◌&&◌}
use Rattle.std.proofs.lemmas.Bool.{eqb-true, ne_eqb, and_parts}
use Rattle.std.proofs.lemmas.List.{append-nil, same_lists, get_or_default, get_or-map, length-map}
use Rattle.hessian_graph.specs.declared.value.Value.{Value}
use Rattle.hessian_graph.specs.Shape.{Kind, NodeShape, Shape, values_at, no_node}
use Rattle.hessian_graph.specs.Line.{Symbol, ValueOf, End, Reference, TypeFor, LengthFor, ClassFor, NameOf, CountOf, FieldOf, values_then}
use Rattle.hessian_reader.specs.declared.store.Lacks.{Lacks}
use Rattle.hessian_reader.specs.declared.store.OpenNode.{OpenNode}
use Rattle.hessian_reader.specs.States.{Built, State, Place, AtValue, AtDefined, AtReference, AtType, AtLength, AtClass, AtName, AtCount, AtField, ToEnd, Count, Key, Mate, no_begun, values_so_far, lacks_none, is_at_value, is_done, node_named, graph_of}
use Rattle.hessian_reader.proofs.Lacking.{LacksFit, AllFit, behind, to_come, Lacking, Lacks', plain_nodes, roots_lack}
use Rattle.hessian_reader.proofs.Slots.{tables_of}
use Rattle.hessian_reader.proofs.Ahead.{Ahead, Has, KindsAre, expects}
use Rattle.hessian_reader.proofs.Ahead.Ahead.{value}

-- nothing to come

open_comes : (lacks : Lacks) (r : List Value) (more : List Symbol) → LacksFit lacks (length r) → [] ≡ values_then r (behind lacks more) → ⊥
open_comes lacks (w ∷ r) more fits e = cc
open_comes ToEnd [] more fits e = cc
open_comes Key [] more fits e = cc
open_comes Mate [] more fits e = cc
open_comes (Count k) [] more fits e = omega arith

none_lacking : (os : List OpenNode) (rests : List (List Value)) (last : List Value) → AllFit os rests → [] ≡ to_come os rests last → (os ≡ []) × (last ≡ [])
none_lacking [] rests [] fit e = (refl, refl)
none_lacking [] rests (v ∷ last) fit e = cc
none_lacking (o ∷ os) [] last fit e = absurd fit
none_lacking (o ∷ os) (r ∷ rs) last fit e = absurd (open_comes o.lacks r (to_come os rs last) fit.0 e)

pub record Finished (g : Shape) (s : State) : Type 0 where
  pub place : s.place ≡ AtValue
  pub closed : s.built.open_nodes ≡ []
  pub wanted : s.built.wanted ≡ 0
  pub roots : g.roots ≡ s.built.roots
  pub values : (i : ℕ) → i < length s.built.nodes → values_at g i ≡ values_so_far s.built.nodes i

pub none_open : (g : Shape) (s : State) → Has g s [] → Finished g s
none_open g s h =
    let (p, under) = expects g s [] h in
    let q : Lacks' g s.built [] = subst (Lacks' g s.built) under h.lacking in
    let (os, la) = none_lacking s.built.open_nodes q.rests q.last q.fit q.rest in
    record {
      place = p;
      closed = os;
      wanted = sym (ap length (sym la) ∙ q.wants);
      roots = q.roots_are ∙ rw la (append-nil s.built.roots);
      values = plain_nodes g s.built.roots s.built.wanted s.built.nodes [] (subst (λ x. Lacking g s.built.roots s.built.wanted s.built.nodes x []) os q);
    }

pub is_finished : (g : Shape) (s : State) → Finished g s → is_done s ≡ true
is_finished g s f = rw (f.place, f.closed, f.wanted) refl

-- something to come

lacking_some : (g : Shape) (b : Built) (x : Symbol) (ss : List Symbol) (os : List OpenNode) → Lacking g b.roots b.wanted b.nodes os (x ∷ ss) → lacks_none os b.wanted ≡ false
lacking_some g b x ss (o ∷ os) p = refl
lacking_some g b x ss [] p = by_last p.last p.rest p.wants
  where
    by_last : (last : List Value) → x ∷ ss ≡ values_then last [] → length last ≡ b.wanted → nat_eq b.wanted 0 ≡ false
    by_last [] e w = cc
    by_last (v ∷ last) e w = ne_eqb b.wanted 0 (λ z. omega arith)

not_done : (s : State) (p : Place) → lacks_none s.built.open_nodes s.built.wanted ≡ false → (is_at_value p && lacks_none s.built.open_nodes s.built.wanted) ≡ false
not_done s AtValue e = e
not_done s AtDefined e = refl
not_done s AtReference e = refl
not_done s (AtType form) e = refl
not_done s (AtLength k) e = refl
not_done s AtClass e = refl
not_done s AtName e = refl
not_done s (AtCount name) e = refl
not_done s (AtField class k) e = refl

elsewhere : (s : State) (p : Place) → s.place ≡ p → is_at_value p ≡ false → is_done s ≡ false
elsewhere s p e q = rw (e, q) refl

pub some_open : (g : Shape) (s : State) (x : Symbol) (ss : List Symbol) → Has g s (x ∷ ss) → is_done s ≡ false
some_open g s (ValueOf v) ss h = not_done s s.place (lacking_some g s.built (ValueOf v) ss s.built.open_nodes (subst (Lacks' g s.built) (expects g s (ValueOf v ∷ ss) h).1 h.lacking))
some_open g s End ss h = not_done s s.place (lacking_some g s.built End ss s.built.open_nodes (subst (Lacks' g s.built) (expects g s (End ∷ ss) h).1 h.lacking))
some_open g s (Reference n) ss h = elsewhere s AtReference (expects g s (Reference n ∷ ss) h).0 refl
some_open g s (TypeFor f n) ss h = let x = expects g s (TypeFor f n ∷ ss) h in elsewhere s (AtType x.0) x.1 refl
some_open g s (LengthFor n) ss h = let x = expects g s (LengthFor n ∷ ss) h in elsewhere s (AtLength x.0) x.1 refl
some_open g s (ClassFor n) ss h = elsewhere s AtClass (expects g s (ClassFor n ∷ ss) h).0 refl
some_open g s (NameOf c) ss h = elsewhere s AtName (expects g s (NameOf c ∷ ss) h).0 refl
some_open g s (CountOf c) ss h = elsewhere s (AtCount c.name) (expects g s (CountOf c ∷ ss) h).0 refl
some_open g s (FieldOf c f fs) ss h = let x = expects g s (FieldOf c f fs ∷ ss) h in elsewhere s (AtField x.0 (suc (length fs))) x.1 refl

-- the graph of a state that is done

node_is : (a b : NodeShape) → a.kind ≡ b.kind → a.values ≡ b.values → a ≡ b
node_is a b e e' = ap (λ (x : Kind × List Value). record { kind = x.0; values = x.1 }) (let q : ◌≡◌ {A = Kind × List Value} (a.kind, a.values) (b.kind, b.values) = rw (e, e') refl in q)

shape_is : (g h : Shape) → g.roots ≡ h.roots → g.nodes ≡ h.nodes → g ≡ h
shape_is g h a b = ap (λ (x : List Value × List NodeShape). record { roots = x.0; nodes = x.1 }) (let q : ◌≡◌ {A = List Value × List NodeShape} (g.roots, g.nodes) (h.roots, h.nodes) = rw (a, b) refl in q)

pub same_graph : (g : Shape) (s : State) → Finished g s → KindsAre g s → length s.built.nodes ≡ length g.nodes → graph_of s ≡ g
same_graph g s f kinds many =
    let count : length (map (node_named s.names) s.built.nodes) ≡ length s.built.nodes = length-map s.built.nodes (node_named s.names) in
    shape_is (graph_of s) g (sym f.roots)
    (same_lists (map (node_named s.names) s.built.nodes) g.nodes (count ∙ many) (λ i d h.
    let low : i < length s.built.nodes = omega (arith, count) in
    get_or-map (node_named s.names) s.built.nodes i no_begun d low
    ∙ node_is (node_named s.names (get_or s.built.nodes i no_begun)) (get_or g.nodes i no_node) (sym (kinds i low)) (sym (f.values i low))
    ∙ get_or_default g.nodes i no_node d (omega (arith, many))))

at_value_place : (p : Place) → is_at_value p ≡ true → p ≡ AtValue
at_value_place AtValue e = refl
at_value_place AtDefined e = cc
at_value_place AtReference e = cc
at_value_place (AtType form) e = cc
at_value_place (AtLength k) e = cc
at_value_place AtClass e = cc
at_value_place AtName e = cc
at_value_place (AtCount name) e = cc
at_value_place (AtField class k) e = cc

closed_all : (os : List OpenNode) (wanted : ℕ) → lacks_none os wanted ≡ true → (os ≡ []) × (wanted ≡ 0)
closed_all [] wanted e = (refl, eqb-true wanted 0 e)
closed_all (o ∷ os) wanted e = cc

-- a state that is done lacks nothing of its own graph
pub has_own : (s : State) → is_done s ≡ true → Has (graph_of s) s []
has_own s e =
    let both = and_parts (is_at_value s.place) (lacks_none s.built.open_nodes s.built.wanted) e in
    let (os, w) = closed_all s.built.open_nodes s.built.wanted both.1 in
    let shown : (i : ℕ) → i < length s.built.nodes → get_or (graph_of s).nodes i no_node ≡ node_named s.names (get_or s.built.nodes i no_begun) = λ i h. get_or-map (node_named s.names) s.built.nodes i no_begun no_node h in
    record {
      under = [];
      lacking = subst (λ x. Lacking (graph_of s) s.built.roots s.built.wanted s.built.nodes x []) (sym os) (roots_lack (graph_of s) s.built.roots [] s.built.wanted s.built.nodes (sym (append-nil s.built.roots)) (sym w) (λ i h. ap (λ (x : NodeShape). x.values) (shown i h)));
      ahead = subst (λ x. Ahead (graph_of s) (tables_of s) x [] []) (sym (at_value_place s.place both.0)) value;
      kinds = λ i h. ap (λ (x : NodeShape). x.kind) (shown i h);
    }
