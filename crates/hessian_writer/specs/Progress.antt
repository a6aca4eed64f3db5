-- How far a writer has come.
use Rattle.std.specs.Prelude.{◌≡◌, ℕ, suc, ◌+◌, ◌-◌, ◌<◌, ◌≤◌, List, [], ◌∷◌, length, drop, reverse, Option, Some, None, All}
use Rattle.hessian_graph.specs.declared.parts.Parts.{Parts}
use Rattle.hessian_graph.specs.declared.node.Node.{Node}
use Rattle.hessian_graph.specs.Shape.{Shape, NodeShape, shape_of, kind_at, kind_of, values_at, values_of, no_class}
use Rattle.hessian_graph.specs.Canon.{place_of}
use Rattle.hessian_graph.specs.Reading.{Tables, no_tables}
use Rattle.hessian_writer.specs.declared.writer.Step.{Step}
use Rattle.hessian_writer.specs.declared.writer.Writer.{Writer}
use Rattle.hessian_writer.specs.Sharing.{NamesFit, listed}
use Rattle.hessian_writer.specs.Appending.{AppendsHead}
use Rattle.hessian_writer.specs.Writable.{IsWritable}
use Rattle.hessian_graph.specs.Work.{IsClosed}
use Rattle.hessian_graph.specs.Moving.{AllThere}
use Rattle.hessian_writer.specs.Course.{Due, values_then, end_then, State}

-- the tables, with so many nodes begun
abbrev pub tables_with : Parts → ℕ → Writer → Tables
tables_with p begun w = record { begun = begun; types = listed [] p.types w.types.used.order; classes = listed no_class p.classes w.classes.used.order }

-- the nodes seen, the tables, and what is written
abbrev pub state_of : Parts → Writer → State
state_of p w = record { order = w.nodes.order; tables = tables_with p (length w.nodes.order) w; out = w.out.items }

-- what is due on the stack, the innermost node first, and then the rest
abbrev pub due_on : Shape → List Step → List Due → List Due
due_on g [] ds = ds
due_on g (t ∷ ts) ds = values_then (drop t.at (values_at g t.node)) (end_then (kind_at g t.node) (due_on g ts ds))

-- the work at a node that isn't seen yet, and none at others
abbrev pub work_at : Option ℕ → NodeShape → ℕ
work_at None node = 2 + length node.values
work_at (Some k) node = 0

-- the work at the nodes that aren't seen yet, where the first of these nodes has this number
abbrev pub unseen : List ℕ → ℕ → List NodeShape → ℕ
unseen order n [] = 0
unseen order n (node ∷ nodes) = work_at (place_of n order) node + unseen order (suc n) nodes

-- the work at the nodes on the stack
abbrev pub on_stack : Shape → List Step → ℕ
on_stack g [] = 0
on_stack g (t ∷ ts) = suc (length (values_at g t.node) - t.at) + on_stack g ts

-- what is left to do, which falls at each step
abbrev pub work : Parts → Writer → ℕ
work p w = unseen w.nodes.order 0 (shape_of p).nodes + on_stack (shape_of p) (reverse w.stack.items)

-- the parts are sound, and the graph that they are can be written
pub record CanWrite (p : Parts) : Type 0 where
  pub closed : IsClosed (shape_of p)
  pub there : AllThere p.types p.classes p.nodes
  pub writable : IsWritable (shape_of p)

-- the tables fit the parts, no type and no class has a number but by a node, and each node on the stack is there
pub record Fine (p : Parts) (w : Writer) : Type 0 where
  pub nodes_total : w.nodes.total ≡ length p.nodes
  pub few_nodes : length w.nodes.order ≤ w.nodes.total
  pub types : NamesFit [] p.types w.types.firsts.items w.types.used
  pub classes : NamesFit no_class p.classes w.classes.firsts.items w.classes.used
  pub few_types : length w.types.used.order ≤ length w.nodes.order
  pub few_classes : length w.classes.used.order ≤ length w.nodes.order
  pub within : All (λ (t : Step). t.node < length p.nodes) w.stack.items

-- nothing is seen, the tables are empty, and these bytes stand in front
abbrev pub begun_state : List ℕ → State
begun_state out = record { order = []; tables = no_tables; out = out }

-- the head of a node is written, and the tables grow by its type or class
pub record WritesHead (p : Parts) (node : Node) (old new : Writer) : Type 0 where
  pub nodes : new.nodes ≡ old.nodes
  pub stack : new.stack ≡ old.stack
  pub types : NamesFit [] p.types new.types.firsts.items new.types.used
  pub classes : NamesFit no_class p.classes new.classes.firsts.items new.classes.used
  pub few_types : length new.types.used.order ≤ length old.types.used.order + 1
  pub few_classes : length new.classes.used.order ≤ length old.classes.used.order + 1
  pub written : (begun : ℕ) → AppendsHead (kind_of p.types p.classes node) (length (values_of node)) (tables_with p begun old) (tables_with p (suc begun) new) old.out.items new.out.items
