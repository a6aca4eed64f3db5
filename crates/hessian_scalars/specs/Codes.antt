-- A spelling as a reader goes through it: its length stands in its code, its value in its bytes.
use Rattle.std.specs.Prelude.{◌≢◌, ℕ, ◌*◌, ◌+◌, ◌<◌, ◌≤◌, ℤ, pos, ◌-ℤ◌, ◌*ℤ◌, Bool, ◌||◌, List, [], ◌∷◌, length, slice_index, take, nat_lt, ◌==◌, if◌then◌else◌, Result, Ok, Err}
use Rattle.std.specs.Int.{is_in_range}
use Rattle.hessian_scalars.specs.declared.scalar.Scalar.{Scalar}
use Rattle.hessian_scalars.specs.declared.scalar.Scalar.TheVariants as scalars
use Rattle.hessian_scalars.specs.declared.code.Opening.{Opening}
use Rattle.hessian_scalars.specs.declared.code.Opening.TheVariants as openings
use Rattle.hessian_scalars.specs.declared.front.Front.{Front}
use Rattle.hessian_scalars.specs.declared.front.Front.TheVariants as fronts
use Rattle.hessian_scalars.specs.declared.fault.ScalarFault.{ScalarFault}
use Rattle.hessian_scalars.specs.declared.fault.ScalarFault.TheVariants as faults
use Rattle.hessian_scalars.specs.ScalarSpelling.{int_of, long_of, compact}

-- what a code begins
unfoldable pub opening_of : ℕ → Opening
opening_of c =
    if is_in_range 0x80 0xbf c then openings.Spelling 1 else
    if is_in_range 0xc0 0xcf c then openings.Spelling 2 else
    if is_in_range 0xd0 0xd7 c then openings.Spelling 3 else
    if is_in_range 0xd8 0xef c then openings.Spelling 1 else
    if is_in_range 0xf0 0xff c then openings.Spelling 2 else
    if is_in_range 0x38 0x3f c then openings.Spelling 3 else
    if c == 0x49 then openings.Spelling 5 else
    if c == 0x4a then openings.Spelling 9 else
    if c == 0x4b then openings.Spelling 5 else
    if c == 0x4c then openings.Spelling 9 else
    if c == 0x59 then openings.Spelling 5 else
    if c == 0x46 then openings.Spelling 1 else
    if c == 0x4e then openings.Spelling 1 else
    if c == 0x54 then openings.Spelling 1 else
    if c == 0x44 then openings.Double else
    if is_in_range 0x5b 0x5f c then openings.Double else
    openings.Nothing

-- how many bytes a spelling may have
pub record IsLength (len : ℕ) : Type 0 where
  pub some : 0 < len
  pub most : len ≤ 9
  pub not_four : len ≢ 4
  pub not_six : len ≢ 6
  pub not_seven : len ≢ 7
  pub not_eight : len ≢ 8

-- the values of spellings of each length
abbrev pub value_of_one : ℕ → Scalar
value_of_one c =
    if is_in_range 0x80 0xbf c then scalars.Int (pos c -ℤ pos 0x90) else
    if is_in_range 0xd8 0xef c then scalars.Long (pos c -ℤ pos 0xe0) else
    if c == 0x4e then scalars.Null else
    scalars.Bool (c == 0x54)

abbrev pub value_of_two : ℕ → ℕ → Scalar
value_of_two c b0 =
    if is_in_range 0xc0 0xcf c then scalars.Int (compact 0xc8 c 256 b0) else
    scalars.Long (compact 0xf8 c 256 b0)

abbrev pub value_of_three : ℕ → ℕ → ℕ → Scalar
value_of_three c b1 b0 =
    if is_in_range 0xd0 0xd7 c then scalars.Int (compact 0xd4 c 65536 (b1 * 256 + b0)) else
    scalars.Long (compact 0x3c c 65536 (b1 * 256 + b0))

abbrev pub value_of_five : ℕ → List ℕ → Scalar
value_of_five c four =
    if c == 0x49 then scalars.Int (int_of four) else
    if c == 0x59 then scalars.Long (int_of four) else
    scalars.Date (int_of four *ℤ pos 60000)

abbrev pub value_of_nine : ℕ → List ℕ → Scalar
value_of_nine c eight = if c == 0x4c then scalars.Long (long_of eight) else scalars.Date (long_of eight)

-- the value of a whole spelling
unfoldable pub value_of : List ℕ → Scalar
value_of bytes =
    if length bytes == 1 then value_of_one (slice_index bytes 0) else
    if length bytes == 2 then value_of_two (slice_index bytes 0) (slice_index bytes 1) else
    if length bytes == 3 then value_of_three (slice_index bytes 0) (slice_index bytes 1) (slice_index bytes 2) else
    if length bytes == 5 then value_of_five (slice_index bytes 0) (slice_index bytes 1 ∷ slice_index bytes 2 ∷ slice_index bytes 3 ∷ slice_index bytes 4 ∷ []) else
    value_of_nine (slice_index bytes 0) (slice_index bytes 1 ∷ slice_index bytes 2 ∷ slice_index bytes 3 ∷ slice_index bytes 4 ∷ slice_index bytes 5 ∷ slice_index bytes 6 ∷ slice_index bytes 7 ∷ slice_index bytes 8 ∷ [])

-- what stands at the front of bytes, by what their first byte begins
abbrev pub front_by : Opening → ℕ → List ℕ → Front
front_by (openings.Spelling len) c bytes = if nat_lt (length bytes) len then fronts.Part else fronts.Whole (value_of (take len bytes)) len
front_by openings.Double c bytes = fronts.Double c
front_by openings.Nothing c bytes = fronts.Other c

unfoldable pub front_of : List ℕ → Front
front_of bytes = if length bytes == 0 then fronts.Part else front_by (opening_of (slice_index bytes 0)) (slice_index bytes 0) bytes

-- a whole scalar at the front ends in the bytes
abbrev pub EndsWithin : ℕ → Front → Type 0
EndsWithin total (fronts.Whole v len) = len ≤ total
EndsWithin total fronts.Part = Unit {0}
EndsWithin total (fronts.Double c) = Unit {0}
EndsWithin total (fronts.Other c) = Unit {0}

-- the codes of ints
abbrev pub is_int_code : ℕ → Bool
is_int_code c = is_in_range 0x80 0xd7 c || c == 0x49

-- the int of a front behind a place, in bytes of which there are so many
abbrev pub int_placed : (at total : ℕ) → Front → Result (ℤ × ℕ) ScalarFault
int_placed at total (fronts.Whole (scalars.Int z) len) = Ok (z, at + len)
int_placed at total (fronts.Whole scalars.Null len) = Err (faults.Short total)
int_placed at total (fronts.Whole (scalars.Bool b) len) = Err (faults.Short total)
int_placed at total (fronts.Whole (scalars.Long z) len) = Err (faults.Short total)
int_placed at total (fronts.Whole (scalars.Date z) len) = Err (faults.Short total)
int_placed at total fronts.Part = Err (faults.Short total)
int_placed at total (fronts.Double c) = Err (faults.Short total)
int_placed at total (fronts.Other c) = Err (faults.Short total)

-- the int at a place, in bytes of which these are the rest
unfoldable pub int_at : (at total : ℕ) → List ℕ → Result (ℤ × ℕ) ScalarFault
int_at at total rest =
    if length rest == 0 then Err (faults.Short total) else
    if is_int_code (slice_index rest 0) then int_placed at total (front_of rest) else
    Err (faults.Other at (slice_index rest 0))
