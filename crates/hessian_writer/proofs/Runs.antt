-- Runs of values that are no nodes, and what stands behind the values of a node.
use Rattle.std.proofs.Common.{◌≡◌, ℕ, ◌+◌, ◌-◌, ◌<◌, ◌≤◌, List, ◌∷◌, ◌++◌, length, get_or, drop, sym, ◌∙◌, subst, arith}
use Rattle.std.specs.Prelude.{Option, Some, None}
use Rattle.std.proofs.lemmas.List.{append-nil}
use Rattle.hessian_graph.specs.declared.value.Value.{Value}
use Rattle.hessian_graph.specs.declared.value.Value.TheVariants as values
use Rattle.hessian_graph.specs.declared.node.Node.{Node}
use Rattle.hessian_graph.specs.declared.node.Node.TheVariants as nodes
use Rattle.hessian_graph.specs.declared.node.Class.{Class}
use Rattle.hessian_graph.specs.Shape.{Text, Shape, kind_of}
use Rattle.hessian_graph.specs.Reading.{Tables}
use Rattle.hessian_writer.specs.Leaves.{hessian_forms}
use Rattle.hessian_writer.specs.Course.{Due, ValueOf, values_then, end_then, LeafForm, GoesOn}
use Rattle.hessian_writer.specs.Appending.{WritesPlain}
use Rattle.hessian_writer.specs.Running.{with_out, WritesOver, RunsToNode, end_bytes}
use Rattle.hessian_writer.proofs.Steps.{stays, both, leaf_goes, end_goes, next_value, no_value}

-- a leaf is written
pub over_leaf : (vs : List Value) (from at : ℕ) (v : Value) (node : Option ℕ) (old mid new : List ℕ) → WritesOver old (values_then (drop from vs)) mid (values_then (drop at vs)) → at < length vs → v ≡ get_or vs at values.Null → WritesPlain v mid new node → node ≡ None → WritesOver old (values_then (drop from vs)) new (values_then (drop (at + 1) vs))
over_leaf vs from at v node old mid new w h e p none =
    let a = subst (WritesPlain v mid new) none p in
    record {
      goes_on = λ g order t ds. both (w.goes_on g order t ds)
          (subst (λ x. GoesOn hessian_forms g (with_out order t mid) (values_then x ds) (with_out order t new) (values_then (drop (at + 1) vs) ds)) (sym (next_value vs at h))
          (leaf_goes order t mid new a.bytes (get_or vs at values.Null) (values_then (drop (at + 1) vs) ds) (subst (λ x. LeafForm hessian_forms x a.bytes) e a.is) a.joined));
    }

-- a node is met
pub over_node : (vs : List Value) (from at number : ℕ) (v : Value) (node : Option ℕ) (old mid new : List ℕ) → from ≤ at → WritesOver old (values_then (drop from vs)) mid (values_then (drop at vs)) → at < length vs → v ≡ get_or vs at values.Null → WritesPlain v mid new node → node ≡ Some number → RunsToNode vs from number (at + 1) old new
over_node vs from at number v node old mid new after w h e p some =
    let a = subst (WritesPlain v mid new) some p in
    let here : get_or vs at values.Null ≡ values.Node number = sym e ∙ a.0 in
    let back : at ≡ (at + 1) - 1 = omega arith in
    record {
      after = omega (arith, after);
      within = omega (arith, h);
      is_node = subst (λ i. get_or vs i values.Null ≡ values.Node number) back here;
      over = record {
        goes_on = λ g order t ds.
            subst (λ x. GoesOn hessian_forms g (with_out order t old) (values_then (drop from vs) ds) (with_out order t x) (ValueOf (values.Node number) ∷ values_then (drop (at + 1) vs) ds)) (sym a.1)
            (subst (λ x. GoesOn hessian_forms g (with_out order t old) (values_then (drop from vs) ds) (with_out order t mid) (ValueOf x ∷ values_then (drop (at + 1) vs) ds)) here
            (subst (λ x. GoesOn hessian_forms g (with_out order t old) (values_then (drop from vs) ds) (with_out order t mid) (values_then x ds)) (next_value vs at h) (w.goes_on g order t ds)));
      };
    }

-- no value is left
pub over_all : (vs : List Value) (from at : ℕ) (old new : List ℕ) → WritesOver old (values_then (drop from vs)) new (values_then (drop at vs)) → length vs ≤ at → WritesOver old (values_then (drop from vs)) new (λ ds. ds)
over_all vs from at old new w h = record {
  goes_on = λ g order t ds. subst (λ x. GoesOn hessian_forms g (with_out order t old) (values_then (drop from vs) ds) (with_out order t new) (values_then x ds)) (no_value vs at h) (w.goes_on g order t ds);
}

pub over_none : (due : List Due → List Due) (old : List ℕ) → WritesOver old due old due
over_none due old = record { goes_on = λ g order t ds. stays (with_out order t old) (due ds) }

-- the end of a node is written
pub ended : (g : Shape) (types : List Text) (classes : List Class) (node : Node) (order : List ℕ) (t : Tables) (old new : List ℕ) (ds : List Due) → new ≡ old ++ end_bytes node → GoesOn hessian_forms g (with_out order t old) (end_then (kind_of types classes node) ds) (with_out order t new) ds
ended g types classes (nodes.List type items) order t old new ds e = subst (λ x. GoesOn hessian_forms g (with_out order t old) ds (with_out order t x) ds) (sym (e ∙ append-nil old)) (stays (with_out order t old) ds)
ended g types classes (nodes.Map type pairs) order t old new ds e = end_goes order t old new ds e
ended g types classes (nodes.Object class vs) order t old new ds e = subst (λ x. GoesOn hessian_forms g (with_out order t old) ds (with_out order t x) ds) (sym (e ∙ append-nil old)) (stays (with_out order t old) ds)
