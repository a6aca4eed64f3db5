-- Tables of names in the order of first use, each name once.
use Rattle.std.specs.Prelude.{◌≡◌, ℕ, ◌<◌, [], length, get_or}
use Rattle.std.specs.List.{flat_map}
use Rattle.hessian_graph.specs.declared.parts.Parts.{Parts}
use Rattle.hessian_graph.specs.Shape.{no_class}
use Rattle.hessian_graph.specs.Canon.{Rises, type_number, class_number}

-- types and classes stand in the order of first use by the nodes, each once
pub record InOrderOfUse (p : Parts) : Type 0 where
  pub types : Rises 0 (flat_map type_number p.nodes) (length p.types)
  pub types_once : (i j : ℕ) → i < length p.types → j < length p.types → get_or p.types i [] ≡ get_or p.types j [] → i ≡ j
  pub classes : Rises 0 (flat_map class_number p.nodes) (length p.classes)
  pub classes_once : (i j : ℕ) → i < length p.classes → j < length p.classes → get_or p.classes i no_class ≡ get_or p.classes j no_class → i ≡ j
