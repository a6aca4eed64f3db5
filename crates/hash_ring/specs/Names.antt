-- Names, and the list of names that a ring is seen as.
use Rattle.std.specs.Prelude.{◌≡◌, ℕ, ◌<◌, ◌≤◌, ◌⊎◌, List, [], length, slice_index, filter, not}
use Rattle.std.specs.List.{All}
use Rattle.std.specs.List.Sorted.{IsStrictlySortedBy}
use Rattle.std.specs.Ordering.{nat_cmp}
use Rattle.std.specs.Cmp.Lexicographic.{slice_cmp}
use Rattle.std.specs.BTreeSet.{insert_key}
use Rattle.std.specs.Str.{bytes_eq}

-- the most bytes that a name may have
abbrev pub LONGEST : ℕ
LONGEST = 255

-- the most names that a ring may have
abbrev pub MOST : ℕ
MOST = 1024

-- a byte that a name may have: what ASCII prints, without the space
pub record IsNameByte (byte : ℕ) : Type 0 where
  pub from : 0x21 ≤ byte
  pub up_to : byte ≤ 0x7e

-- the bytes are a name
pub record IsName (name : List ℕ) : Type 0 where
  pub some : 0 < length name
  pub short : length name ≤ LONGEST
  pub printed : All IsNameByte name

-- where bytes stop being a name: at a byte that no name has, or at one too many
pub record StopsAt (name : List ℕ) (at : ℕ) : Type 0 where
  pub inside : at < length name
  pub bad : (LONGEST ≤ at) ⊎ (IsNameByte (slice_index name at) → ⊥)

-- the place that a refusal tells: 0 where there is no byte, else the first at which the bytes stop
-- being a name
abbrev pub IsBadAt : List ℕ → ℕ → Type 0
IsBadAt name at = ((name ≡ []) × (at ≡ 0))
    ⊎ (StopsAt name at × ((earlier : ℕ) → StopsAt name earlier → at ≤ earlier))

-- the list that a ring is seen as: names in the order of their bytes, each once
pub record AreNames (names : List (List ℕ)) : Type 0 where
  pub ordered : IsStrictlySortedBy (slice_cmp nat_cmp) names
  pub each : All IsName names
  pub few : length names ≤ MOST

-- the names with this one at its place in the order
abbrev pub with_name : List ℕ → List (List ℕ) → List (List ℕ)
with_name name names = insert_key (slice_cmp nat_cmp) names name

-- the names other than this one
abbrev pub without : List ℕ → List (List ℕ) → List (List ℕ)
without name names = filter (λ other. not (bytes_eq other name)) names
