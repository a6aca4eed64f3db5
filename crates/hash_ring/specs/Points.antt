-- The points of names on the ring, by MD5 (RFC 1321).
use Rattle.std.specs.Prelude.{◌≡◌, ℕ, ◌+◌, ◌*◌, ◌<◌, ◌⊎◌, false, List, [], ◌∷◌, ◌++◌, slice_index}
use Rattle.std.specs.List.{Contains}
use Rattle.std.specs.Int.{w32, from_le_bytes}
use Rattle.std.specs.Fmt.{decimal}
use Rattle.std.specs.Ordering.{nat_cmp, is_gt}
use Rattle.std.specs.Cmp.Lexicographic.{slice_cmp}
use Rattle.md5.specs.Md5.{md5}

-- how many digests give points for a name, and how many points each digest gives
abbrev pub ROUNDS : ℕ
ROUNDS = 40

abbrev pub QUARTERS : ℕ
QUARTERS = 4

-- the number of bytes 4q to 4q + 3 of a digest, the least significant byte first
abbrev pub number_at : List ℕ → ℕ → ℕ
number_at digest quarter = from_le_bytes w32
    (slice_index digest (4 * quarter)
    ∷ slice_index digest (4 * quarter + 1)
    ∷ slice_index digest (4 * quarter + 2)
    ∷ slice_index digest (4 * quarter + 3)
    ∷ [])

-- that number of the MD5 of the bytes
unfoldable pub part : List ℕ → ℕ → ℕ
part bytes quarter = number_at (md5 bytes) quarter

-- a point of the ring: a number, and the name that it stands for
pub record Pair : Type 0 where
  pub number : ℕ
  pub name : List ℕ

-- the number is that of a point of the name: a part of the MD5 of the name with a count behind it
pub record IsNumberOf (name : List ℕ) (number : ℕ) : Type 0 where
  pub round : ℕ
  pub quarter : ℕ
  pub in_rounds : round < ROUNDS
  pub in_quarters : quarter < QUARTERS
  pub is : number ≡ part (name ++ decimal round) quarter

-- the pair is a point of the name
abbrev pub IsPointOf : List ℕ → Pair → Type 0
IsPointOf name pair = (pair.name ≡ name) × IsNumberOf name pair.number

-- the pair is a point of one of the names
pub record IsPoint (names : List (List ℕ)) (pair : Pair) : Type 0 where
  pub named : Contains names pair.name
  pub number : IsNumberOf pair.name pair.number

-- the order of points: by number, then by the bytes of the name
abbrev pub IsUpTo : Pair → Pair → Type 0
IsUpTo one other = (one.number < other.number)
    ⊎ ((one.number ≡ other.number) × (is_gt (slice_cmp nat_cmp one.name other.name) ≡ false))
