-- Runs of values that are no nodes.
use Rattle.std.specs.Prelude.{◌≡◌, ℕ, ◌-◌, ◌<◌, ◌≤◌, List, [], ◌∷◌, length, get_or, drop}
use Rattle.hessian_graph.specs.declared.value.Value.{Value}
use Rattle.hessian_graph.specs.declared.value.Value.TheVariants as values
use Rattle.hessian_graph.specs.declared.node.Node.{Node}
use Rattle.hessian_graph.specs.declared.node.Node.TheVariants as nodes
use Rattle.hessian_graph.specs.declared.node.Class.{Class}
use Rattle.hessian_graph.specs.Shape.{Text, Shape, kind_of, values_of}
use Rattle.hessian_graph.specs.Reading.{Tables}
use Rattle.hessian_writer.specs.declared.run.Stop.{Stop}
use Rattle.hessian_writer.specs.declared.run.Stop.TheVariants as stops
use Rattle.hessian_writer.specs.Leaves.{hessian_forms}
use Rattle.hessian_writer.specs.Course.{Due, ValueOf, values_then, end_then, State, GoesOn}

-- a state with these bytes
abbrev pub with_out : List ℕ → Tables → List ℕ → State
with_out order t out = record { order = order; tables = t; out = out }

-- whatever the nodes seen and the tables are, the writing of these bytes goes on from what is due to what is due then
pub record WritesOver (old : List ℕ) (due : List Due → List Due) (new : List ℕ) (due' : List Due → List Due) : Type 0 where
  pub goes_on : (g : Shape) (order : List ℕ) (t : Tables) (ds : List Due) → GoesOn hessian_forms g (with_out order t old) (due ds) (with_out order t new) (due' ds)

-- the values from a place on are written up to a node, which is due then
pub record RunsToNode (vs : List Value) (from number behind : ℕ) (old new : List ℕ) : Type 0 where
  pub after : from < behind
  pub within : behind ≤ length vs
  pub is_node : get_or vs (behind - 1) values.Null ≡ values.Node number
  pub over : WritesOver old (values_then (drop from vs)) new (λ ds. ValueOf (values.Node number) ∷ values_then (drop behind vs) ds)

abbrev pub RunsTo : List Value → ℕ → Stop → List ℕ → List ℕ → Type 0
RunsTo vs from stops.End old new = WritesOver old (values_then (drop from vs)) new (λ ds. ds)
RunsTo vs from (stops.Node number behind) old new = RunsToNode vs from number behind old new

-- what stands behind the values of a node
abbrev pub end_bytes : Node → List ℕ
end_bytes (nodes.List type_name items) = []
end_bytes (nodes.Map type_name pairs) = 0x5a ∷ []
end_bytes (nodes.Object class vs) = []

-- no value of a node is due behind this place, and no end
abbrev pub IsNothingDue : Node → ℕ → Type 0
IsNothingDue node at = (types : List Text) (classes : List Class) (ds : List Due) → values_then (drop at (values_of node)) (end_then (kind_of types classes node) ds) ≡ ds
