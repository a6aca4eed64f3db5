-- Which name a key gets: a choice over all points of all names.
use Rattle.std.specs.Prelude.{ℕ, ◌<◌, ◌≤◌, ◌⊎◌, List}
use Rattle.std.specs.List.{Contains}
use Rattle.hash_ring.specs.Points.{Pair, IsPoint, IsUpTo, part}

-- the least of the pairs that are of a kind
pub record IsLeast (Kind : Pair → Type 0) (pair : Pair) : Type 0 where
  pub is : Kind pair
  pub least : (other : Pair) → Kind other → IsUpTo pair other

-- a point of the names whose number isn't below this one
pub record IsPointFrom (names : List (List ℕ)) (number : ℕ) (pair : Pair) : Type 0 where
  pub point : IsPoint names pair
  pub from : number ≤ pair.number

-- no point of the names has a number from this one on
abbrev pub HasNoneFrom : List (List ℕ) → ℕ → Type 0
HasNoneFrom names number = (other : Pair) → IsPoint names other → other.number < number

-- the point that a number comes to: the least from it on, or where there is none, the least of all
abbrev pub IsReached : List (List ℕ) → ℕ → Pair → Type 0
IsReached names number pair = IsLeast (IsPointFrom names number) pair
    ⊎ (HasNoneFrom names number × IsLeast (IsPoint names) pair)

-- the name that the key gets among these names
pub record IsChosen (names : List (List ℕ)) (key name : List ℕ) : Type 0 where
  pub number : ℕ
  pub reached : IsReached names (part key 0) (record { number = number; name = name })

-- the two lists have the same names
abbrev pub HaveSameNames : List (List ℕ) → List (List ℕ) → Type 0
HaveSameNames names others = ((name : List ℕ) → Contains names name → Contains others name)
    × ((name : List ℕ) → Contains others name → Contains names name)
