-- Laws of notations and graphs that the proofs of scripts rest on.
use Rattle.std.proofs.Common.{◌≡◌, ℕ, List, length, ◌≤◌}
use Rattle.hessian_graph.specs.declared.parts.Parts.{Parts}
use Rattle.hessian_graph.specs.Shape.{Shape, shape_of}
use Rattle.hessian_graph.specs.Faults.{IsSound}
use Rattle.hessian_graph.specs.InUse.{InOrderOfUse}
use Rattle.hessian_graph.proofs.Rebuilding.{there_of}
use Rattle.hessian_graph.proofs.SameTables.{same_in_order}
use Rattle.graph_notation.specs.declared.fault.NotationFault.{NotationFault}
use Rattle.graph_notation.specs.Notation.{IsNotation, IsPrinted}
use Rattle.graph_notation.specs.Refusal.{Refusal}
use Rattle.graph_notation.proofs.Verdict.{read_or_refused}
use Rattle.graph_notation.proofs.OneGraph.{one_graph}
use Rattle.graph_notation.proofs.OneText.{one_text}

-- a text is a notation of one graph
pub one_notation_graph : (text : List ℕ) (g h : Shape) → IsNotation text g → IsNotation text h → g ≡ h
one_notation_graph = one_graph

-- no notation of a graph with few nodes is refused
pub notation_not_refused : (bound : ℕ) (text : List ℕ) (g : Shape) (fault : NotationFault) → IsNotation text g → length g.nodes ≤ bound → Refusal bound text fault → ⊥
notation_not_refused = read_or_refused

-- a graph is printed in one way
pub one_printed : (g : Shape) (s t : List ℕ) → IsPrinted g s → IsPrinted g t → s ≡ t
one_printed = one_text

-- parts of one graph with tables in the order of first use are equal
pub one_parts : (p q : Parts) → IsSound p → IsSound q → InOrderOfUse p → InOrderOfUse q → shape_of p ≡ shape_of q → p ≡ q
one_parts p q sound sound' tables tables' same = same_in_order p q tables tables' (there_of p sound) (there_of q sound') same
