-- How a ring's fields are seen, and what holds of them.
use Rattle.std.specs.Prelude.{ℕ, List}
use Rattle.hash_ring.specs.declared.ring.Ring.TheInside.{Inside}
use Rattle.hash_ring.specs.Names.{AreNames}
use Rattle.hash_ring.specs.Held.{spelled, pairs, HoldsPointsOf}

-- the names, in the order of their bytes
abbrev pub names_of : Inside → List (List ℕ)
names_of ring = spelled ring.names

-- the names are such a list, and the points are theirs
pub record IsSound (ring : Inside) : Type 0 where
  pub names : AreNames (names_of ring)
  pub points : HoldsPointsOf (names_of ring) (pairs ring.points)
