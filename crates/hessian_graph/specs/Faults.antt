-- What is wrong with parts, in the order in which it is looked for.
use Rattle.std.specs.Prelude.{◌≡◌, ℕ, suc, ◌++◌, List, [], ◌∷◌, length, get_or, nat_lt, nat_eq, if◌then◌else◌, Option, Some, None, Result, Ok, Err}
use Rattle.std.specs.List.{flat_map}
use Rattle.hessian_graph.specs.declared.value.Value.{Value}
use Rattle.hessian_graph.specs.declared.node.Node.{Node}
use Rattle.hessian_graph.specs.declared.node.Node.TheVariants as nodes
use Rattle.hessian_graph.specs.declared.node.Class.{Class}
use Rattle.hessian_graph.specs.declared.parts.Parts.{Parts}
use Rattle.hessian_graph.specs.declared.parts.PartsFault.{PartsFault}
use Rattle.hessian_graph.specs.declared.parts.PartsFault.TheVariants.{BadNode, BadTypeName, BadClass, BadFieldCount}
use Rattle.hessian_graph.specs.Shape.{node_of, alternately, no_class}

-- a number that is given and isn't below the count
abbrev pub unless_below : (ℕ → PartsFault) → ℕ → Option ℕ → List PartsFault
unless_below fault count None = []
unless_below fault count (Some k) = if nat_lt k count then [] else fault k ∷ []

-- the fault of a value, among so many nodes
abbrev pub value_faults : ℕ → Value → List PartsFault
value_faults count v = unless_below BadNode count (node_of v)

-- the faults of an object's class and of its number of values
abbrev pub class_faults : List Class → ℕ → ℕ → ℕ → List PartsFault
class_faults classes number class count =
    if nat_lt class (length classes)
    then (if nat_eq count (length (get_or classes class no_class).fields) then [] else BadFieldCount number ∷ [])
    else BadClass class ∷ []

-- the faults of the node of this number: its type or class, its number of values, its values
abbrev pub node_faults : Parts → ℕ → Node → List PartsFault
node_faults p number (nodes.List type_name items) =
    unless_below BadTypeName (length p.types) type_name ++ flat_map (value_faults (length p.nodes)) items
node_faults p number (nodes.Map type_name pairs) =
    unless_below BadTypeName (length p.types) type_name ++ flat_map (value_faults (length p.nodes)) (alternately pairs)
node_faults p number (nodes.Object class vs) =
    class_faults p.classes number class (length vs) ++ flat_map (value_faults (length p.nodes)) vs

-- the faults of the nodes from this number on
abbrev pub faults_from : Parts → ℕ → List Node → List PartsFault
faults_from p number [] = []
faults_from p number (node ∷ rest) = node_faults p number node ++ faults_from p (suc number) rest

-- all faults: of the roots, then of the nodes in order
abbrev pub faults : Parts → List PartsFault
faults p = flat_map (value_faults (length p.nodes)) p.roots ++ faults_from p 0 p.nodes

-- the parts of a graph
abbrev pub IsSound : Parts → Type 0
IsSound p = faults p ≡ []

-- the answer is the first fault, or there is none
abbrev pub First : {A : Type 0} → Result A PartsFault → List PartsFault → Type 0
First (Ok a) all = all ≡ []
First (Err fault) all = (rest : List PartsFault) × (all ≡ fault ∷ rest)
