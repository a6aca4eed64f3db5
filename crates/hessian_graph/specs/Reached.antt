-- The nodes that the roots lead to.
use Rattle.std.specs.Prelude.{ℕ, Contains}
use Rattle.hessian_graph.specs.declared.value.Value.TheVariants.{Node}
use Rattle.hessian_graph.specs.Shape.{Shape, values_at}

-- a path that begins with a root goes each time to a value of the node before, and ends here
pub data Reached (g : Shape) : ℕ → Type 0 where
  root : (n : ℕ) → Contains g.roots (Node n) → Reached g n
  onward : (m n : ℕ) → Reached g m → Contains (values_at g m) (Node n) → Reached g n
