-- Which graphs name no nodes but their own, and how many nodes and roots they have: those that kinds answer with.
use Rattle.std.proofs.Common.{◌≡◌, ℕ, suc, ◌<◌, ◌≤◌, ◌^◌, Bool, true, false, List, [], ◌∷◌, ◌++◌, length, get_or, reverse, refl, sym, ◌∙◌, subst, arith, inl, inr, length-append}
use Rattle.std.specs.Prelude.{ℤ, Option, Some, None, All, if◌then◌else◌}
use Rattle.std.proofs.lemmas.Bool.{cases_lt}
use Rattle.std.proofs.lemmas.List.{reverse-append}
use Rattle.std.proofs.lemmas.List.Elements.{All-cons, All-nil, All-head, All-tail, All-push, All-weaker}
use Rattle.hessian_graph.specs.declared.value.Value.{Value}
use Rattle.hessian_graph.specs.declared.value.Value.TheVariants as values
use Rattle.hessian_graph.specs.declared.node.Class.{Class}
use Rattle.hessian_graph.specs.Shape.{Kind, ListKind, MapKind, ObjectKind, Shape, NodeShape, no_node, node_of, values_at, kind_at}
use Rattle.hessian_graph.specs.Work.{NamesBelow, IsClosed}
use Rattle.hessian_graph.proofs.TableSteps.{front_get, last_get}
use Rattle.service_table.specs.declared.kind.Kind.{Kind as Service}
use Rattle.service_table.specs.declared.kind.Kind.TheVariants as kinds
use Rattle.service_table.specs.Endings.{Ending, Given, Thrown, Stated}
use Rattle.service_table.specs.Replies.{first_of, lone, first_alone, with_new, reversed_node, reversed_kind, is_long, lone_object, overflow, overflow_class, sum_ending, total, added, knot_class, answer}

pub none_below : (count : ℕ) (v : Value) → node_of v ≡ None → NamesBelow count v
none_below count v none n e = let bad : ◌≡◌ {A = Option ℕ} None (Some n) = sym none ∙ e in cc

pub node_below : (count n : ℕ) → n < count → NamesBelow count (values.Node n)
node_below count n h k e = let same : n ≡ k = cc in subst (λ i. i < count) same h

pub more_below : (count more : ℕ) → count ≤ more → (vs : List Value) → All (NamesBelow count) vs → All (NamesBelow more) vs
more_below count more h vs all = All-weaker (NamesBelow count) (NamesBelow more) (λ v f n e. let b = f n e in omega (arith, b, h)) vs all

pub first_below : (count : ℕ) (vs : List Value) → All (NamesBelow count) vs → NamesBelow count (get_or vs 0 values.Null)
first_below count [] all = none_below count values.Null refl
first_below count (v ∷ vs) all = All-head (NamesBelow count) v vs all

pub one_below : (count : ℕ) (v : Value) → NamesBelow count v → All (NamesBelow count) (v ∷ [])
one_below count v h = All-cons (NamesBelow count) v [] h (All-nil (NamesBelow count))

pub two_below : (count : ℕ) (v w : Value) → NamesBelow count v → NamesBelow count w → All (NamesBelow count) (v ∷ w ∷ [])
two_below count v w h l = All-cons (NamesBelow count) v (w ∷ []) h (one_below count w l)

pub reverse_below : (count : ℕ) (vs : List Value) → All (NamesBelow count) vs → All (NamesBelow count) (reverse vs)
reverse_below count [] all = all
reverse_below count (v ∷ vs) all =
    subst (All (NamesBelow count)) (sym (reverse-append (v ∷ []) vs))
    (All-push (NamesBelow count) (reverse vs) v (reverse_below count vs (All-tail (NamesBelow count) v vs all)) (All-head (NamesBelow count) v vs all))

pub first_closed : (g : Shape) → IsClosed g → IsClosed (first_alone g)
first_closed g closed = record {
  few = closed.few;
  roots = one_below (length g.nodes) (first_of g) (first_below (length g.nodes) g.roots closed.roots);
  each = λ n h. closed.each n h;
}

module _ (g : Shape) (closed : IsClosed g) (kind : Kind) (vs : List Value) where
  abbrev new : NodeShape
  new = record { kind = kind; values = vs }

  one_longer : length (g.nodes ++ new ∷ []) ≡ suc (length g.nodes)
  one_longer = let long = length-append g.nodes (new ∷ []) in omega (arith, long)

  pub new_closed : suc (length g.nodes) < 2 ^ 32 → All (NamesBelow (suc (length g.nodes))) vs → IsClosed (with_new kind vs g)
  new_closed few below =
      let count = one_longer in
      record {
        few = omega (arith, few, count);
        roots = one_below (length (g.nodes ++ new ∷ [])) (values.Node (length g.nodes)) (node_below (length (g.nodes ++ new ∷ [])) (length g.nodes) (omega (arith, count)));
        each = λ n h. subst (λ c. All (NamesBelow c) (values_at (with_new kind vs g) n)) (sym count) (each n (omega (arith, h, count)));
      }
    where
      each : (n : ℕ) → n < suc (length g.nodes) → All (NamesBelow (suc (length g.nodes))) (values_at (with_new kind vs g) n)
      each n h = elim (cases_lt n (length g.nodes)) [
        | inl before ↦
            let old : get_or (g.nodes ++ new ∷ []) n no_node ≡ get_or g.nodes n no_node = front_get g.nodes (new ∷ []) n no_node before in
            subst (λ (x : NodeShape). All (NamesBelow (suc (length g.nodes))) x.values) (sym old) (more_below (length g.nodes) (suc (length g.nodes)) (omega arith) (values_at g n) (closed.each n before))
        | inr past ↦
            let at : length g.nodes ≡ n = omega (arith, h, past) in
            let last : get_or (g.nodes ++ new ∷ []) (length g.nodes) no_node ≡ new = last_get g.nodes new no_node in
            subst (λ i. All (NamesBelow (suc (length g.nodes))) (values_at (with_new kind vs g) i)) at
            (subst (λ (x : NodeShape). All (NamesBelow (suc (length g.nodes))) x.values) (sym last) below)
      ]

pub lone_closed : (v : Value) → node_of v ≡ None → IsClosed (lone v)
lone_closed v none = record {
  few = omega arith;
  roots = one_below 0 v (none_below 0 v none);
  each = λ n h. absurd (omega (arith, h));
}

abbrev empty : Shape
empty = record { roots = []; nodes = [] }

empty_closed : IsClosed empty
empty_closed = record { few = omega arith; roots = λ k d h. absurd (omega (arith, h)); each = λ n h. absurd (omega (arith, h)) }

pub object_closed : (class : Class) → IsClosed (lone_object class)
object_closed class = new_closed empty empty_closed (ObjectKind class) [] (omega arith) (All-nil (NamesBelow 1))

-- what is said of the graph of an ending
abbrev pub OfGraph : (Shape → Type 0) → Ending → Type 0
OfGraph P (Given g) = P g
OfGraph P (Thrown g) = P g
OfGraph P (Stated code text) = Unit {0}

pub sum_of_graph : (P : Shape → Type 0) (z : ℤ) → P (lone (values.Long z)) → P overflow → OfGraph P (sum_ending z)
sum_of_graph P z a b = by (is_long z)
  where
    by : (fits : Bool) → OfGraph P (if fits then Given (lone (values.Long z)) else Thrown overflow)
    by true = a
    by false = b

-- a fact of each graph that a kind may answer with is one of its answer
pub record Kinds (P : Shape → Type 0) (g : Shape) : Type 0 where
  pub null : P (lone values.Null)
  pub long : (z : ℤ) → P (lone (values.Long z))
  pub first : P (first_alone g)
  pub args : P (with_new (ListKind None) g.roots g)
  pub twice : P (with_new (ListKind None) (first_of g ∷ first_of g ∷ []) g)
  pub turned : (n : ℕ) → node_of (first_of g) ≡ Some n → (type : Option (List ℕ)) → kind_at g n ≡ ListKind type → P (with_new (ListKind type) (reverse (values_at g n)) g)
  pub knot : P (with_new (ObjectKind knot_class) (values.Node (length g.nodes) ∷ first_of g ∷ []) g)
  pub overflow : P overflow

module _ (P : Shape → Type 0) (g : Shape) (k : Kinds P g) where
  turned_kind : (n : ℕ) → node_of (first_of g) ≡ Some n → (kind : Kind) → kind_at g n ≡ kind → P (reversed_kind kind n g)
  turned_kind n named (ListKind type) is = k.turned n named type is
  turned_kind n named (MapKind type) is = k.first
  turned_kind n named (ObjectKind class) is = k.first

  turned_node : (o : Option ℕ) → node_of (first_of g) ≡ o → P (reversed_node o g)
  turned_node None named = k.first
  turned_node (Some n) named = turned_kind n named (kind_at g n) refl

  pub of_answer : (kind : Service) → OfGraph P (answer kind g)
  of_answer kinds.Void = k.null
  of_answer kinds.Echo = k.first
  of_answer kinds.Args = k.args
  of_answer kinds.Twice = k.twice
  of_answer kinds.Reverse = turned_node (node_of (first_of g)) refl
  of_answer kinds.Sum = sum_of_graph P (total (added g)) (k.long (total (added g))) k.overflow
  of_answer kinds.Knot = k.knot
  of_answer kinds.Throw = k.first

-- the first argument names a node of the arguments
pub first_within : (g : Shape) → IsClosed g → (n : ℕ) → node_of (first_of g) ≡ Some n → n < length g.nodes
first_within g closed n named = first_below (length g.nodes) g.roots closed.roots n named

-- what a kind answers names no nodes but its own
pub answer_closed : (kind : Service) (g : Shape) → IsClosed g → suc (length g.nodes) < 2 ^ 32 → OfGraph IsClosed (answer kind g)
answer_closed kind g closed few =
    let more : ℕ = suc (length g.nodes) in
    let roots : All (NamesBelow more) g.roots = more_below (length g.nodes) more (omega arith) g.roots closed.roots in
    let one : NamesBelow more (first_of g) = first_below more g.roots roots in
    of_answer IsClosed g (record {
      null = lone_closed values.Null refl;
      long = λ z. lone_closed (values.Long z) refl;
      first = first_closed g closed;
      args = new_closed g closed (ListKind None) g.roots few roots;
      twice = new_closed g closed (ListKind None) (first_of g ∷ first_of g ∷ []) few (two_below more (first_of g) (first_of g) one one);
      turned = λ n named type is. new_closed g closed (ListKind type) (reverse (values_at g n)) few (reverse_below more (values_at g n) (more_below (length g.nodes) more (omega arith) (values_at g n) (closed.each n (first_within g closed n named))));
      knot = new_closed g closed (ObjectKind knot_class) (values.Node (length g.nodes) ∷ first_of g ∷ []) few (two_below more (values.Node (length g.nodes)) (first_of g) (node_below more (length g.nodes) (omega arith)) one);
      overflow = object_closed overflow_class;
    }) kind

-- what a kind answers has one node more than the arguments at most
pub answer_nodes : (kind : Service) (g : Shape) → OfGraph (λ x. length x.nodes ≤ suc (length g.nodes)) (answer kind g)
answer_nodes kind g =
    let longer : (kind : Kind) (vs : List Value) → length (with_new kind vs g).nodes ≤ suc (length g.nodes) = λ kind vs. let long = length-append g.nodes (record { kind = kind; values = vs } ∷ []) in omega (arith, long) in
    of_answer (λ x. length x.nodes ≤ suc (length g.nodes)) g (record {
      null = omega arith;
      long = λ z. omega arith;
      first = omega arith;
      args = longer (ListKind None) g.roots;
      twice = longer (ListKind None) (first_of g ∷ first_of g ∷ []);
      turned = λ n named type is. longer (ListKind type) (reverse (values_at g n));
      knot = longer (ObjectKind knot_class) (values.Node (length g.nodes) ∷ first_of g ∷ []);
      overflow = omega arith;
    }) kind
