-- When a ring takes a name, and why it refuses one.
use Rattle.std.specs.Prelude.{◌≡◌, ℕ, ◌<◌, List, length}
use Rattle.std.specs.List.{Contains}
use Rattle.hash_ring.specs.declared.fault.RingFault.{RingFault}
use Rattle.hash_ring.specs.declared.fault.RingFault.TheVariants.{BadName, Repeated, TooMany, OutOfMemory}
use Rattle.hash_ring.specs.Names.{IsName, IsBadAt, MOST}

-- a name that the ring hasn't
pub record IsNew (names : List (List ℕ)) (name : List ℕ) : Type 0 where
  pub is_name : IsName name
  pub absent : Contains names name → ⊥

-- a name that the ring hasn't, and has room for
pub record HasRoomFor (names : List (List ℕ)) (name : List ℕ) : Type 0 where
  pub new : IsNew names name
  pub room : length names < MOST

-- why a name is refused: the first cause in the enum's order
abbrev pub Refuses : List (List ℕ) → List ℕ → RingFault → Type 0
Refuses names name (BadName at) = IsBadAt name at
Refuses names name Repeated = IsName name × Contains names name
Refuses names name TooMany = IsNew names name × (length names ≡ MOST)
Refuses names name OutOfMemory = HasRoomFor names name
