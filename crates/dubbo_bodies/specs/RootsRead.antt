-- The arguments of a request, without what stands behind them.
use Rattle.std.specs.Prelude.{◌≡◌, ◌-◌, length, take}
use Rattle.hessian_graph.specs.declared.parts.Parts.{Parts}

-- the same parts, without the last root
pub record DropsLast (old new : Parts) : Type 0 where
  pub roots : new.roots ≡ take (length old.roots - 1) old.roots
  pub nodes : new.nodes ≡ old.nodes
  pub types : new.types ≡ old.types
  pub classes : new.classes ≡ old.classes
