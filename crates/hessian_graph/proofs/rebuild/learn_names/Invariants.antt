use Rattle.std.proofs.Common.{ℕ, ◌<◌, ◌≤◌, length, get_or, take}
use Rattle.hessian_graph.specs.Shape.{no_vertex}
use Rattle.hessian_graph.specs.Moving.{NamesFit, NodeKnown, TablesRise}
use Rattle.hessian_graph.proofs.rebuild.learn_names.Given as goal

-- the names of the nodes so far are known, and the tables are no longer than those nodes are many
abbrev pub invariant-loop-number : goal.invariant-loop-number
invariant-loop-number l = record {
  fit : NamesFit l.parts l.names;
  types : length l.names.types.words.texts.items ≤ l.number-index;
  classes : length l.names.classes.rows.items ≤ l.number-index;
  rise : TablesRise l.parts l.names (take l.number-index l.order);
  known : (i : ℕ) → i < l.number-index → NodeKnown l.names.types.known.items l.names.classes.known.items (get_or l.parts.nodes (get_or l.order i 0) no_vertex);
}
