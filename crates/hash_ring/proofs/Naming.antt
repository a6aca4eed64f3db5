-- What a scan over bytes knows of a name.
use Rattle.std.proofs.Common.{ℕ, ◌<◌, List}
use Rattle.hash_ring.specs.Names.{StopsAt}

-- up to a place the bytes don't stop being a name
abbrev pub IsNameUpTo : List ℕ → ℕ → Type 0
IsNameUpTo name at = (k : ℕ) → k < at → StopsAt name k → ⊥
