-- What a ring holds: its names, and an ordered set of their points.
use Rattle.std.specs.Prelude.{◌≡◌, ◌≢◌, ℕ, ◌<◌, ◌≤◌, ◌⊎◌, ◌++◌, List, map}
use Rattle.std.specs.List.{Contains}
use Rattle.std.specs.String.{string_bytes}
use Rattle.std.specs.Fmt.{decimal}
use Rattle.std.specs.BTreeSet.{BTreeSet}
use Rattle.std.specs.declared.string.String.{String}
use Rattle.std.specs.Global.{Global}
use Rattle.hash_ring.specs.declared.point.Point.{Point}
use Rattle.hash_ring.specs.Points.{Pair, IsPoint, part}
use Rattle.hash_ring.specs.Choice.{IsLeast}

-- a stored point as a pair
abbrev pub pair_of : Point → Pair
pair_of point = record { number = point.number; name = string_bytes point.name }

-- the stored points as pairs, in order
abbrev pub pairs : BTreeSet Point → List Pair
pairs points = map pair_of points.keys

-- the stored names as bytes, in order
abbrev pub spelled : BTreeSet (String Global) → List (List ℕ)
spelled names = map string_bytes names.keys

-- the stored points are the points of the names, all of them and no other
pub record HoldsPointsOf (names : List (List ℕ)) (held : List Pair) : Type 0 where
  pub all : (pair : Pair) → IsPoint names pair → Contains held pair
  pub only : (pair : Pair) → Contains held pair → IsPoint names pair

-- the pair is a point that one of the first quarters of this round's digest gives
pub record IsPointIn (name : List ℕ) (round : ℕ) (quarters : ℕ) (pair : Pair) : Type 0 where
  pub named : pair.name ≡ name
  pub quarter : ℕ
  pub in_quarters : quarter < quarters
  pub is : pair.number ≡ part (name ++ decimal round) quarter

-- the old pairs stayed, and each other one is of a kind
pub record GrewBy (Kind : Pair → Type 0) (old new : List Pair) : Type 0 where
  pub stayed : (pair : Pair) → Contains old pair → Contains new pair
  pub other : (pair : Pair) → Contains new pair → Contains old pair ⊎ Kind pair

-- the same, and each pair of the kind came
pub record GrewByAll (Kind : Pair → Type 0) (old new : List Pair) : Type 0 where
  pub grew : GrewBy Kind old new
  pub came : (pair : Pair) → Kind pair → Contains new pair

-- the pairs of this name went, and the others stayed
pub record LostName (name : List ℕ) (old new : List Pair) : Type 0 where
  pub stayed : (pair : Pair) → Contains old pair → pair.name ≢ name → Contains new pair
  pub was : (pair : Pair) → Contains new pair → Contains old pair
  pub went : (pair : Pair) → Contains new pair → pair.name ≢ name

-- no pair is of this name
abbrev pub IsApart : List ℕ → List Pair → Type 0
IsApart name held = (pair : Pair) → Contains held pair → pair.name ≢ name

-- the two lists have the same pairs
pub record HaveSamePairs (old new : List Pair) : Type 0 where
  pub stayed : (pair : Pair) → Contains old pair → Contains new pair
  pub was : (pair : Pair) → Contains new pair → Contains old pair

-- the pair is held, with a number not below this one
pub record IsHeldFrom (held : List Pair) (number : ℕ) (pair : Pair) : Type 0 where
  pub is : Contains held pair
  pub from : number ≤ pair.number

-- the least held pair from this number on, or where there is none, the least of all that are held
abbrev pub IsFirstFrom : List Pair → ℕ → Pair → Type 0
IsFirstFrom held number pair = IsLeast (IsHeldFrom held number) pair
    ⊎ (((other : Pair) → Contains held other → other.number < number) × IsLeast (Contains held) pair)
