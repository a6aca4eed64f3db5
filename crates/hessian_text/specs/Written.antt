-- The writer's spelling of a text or a binary: the one that has the fewest chunks.
use Rattle.std.specs.Prelude.{◌≡◌, ℕ, ◌<◌, ◌≤◌, ◌+◌, ◌/◌, ◌%◌, List, [], ◌∷◌, ◌++◌, length, take, drop, slice_index, nat_lt, if◌then◌else◌, encode_utf8, encode_utf8_all, true}
use Rattle.std.specs.Int.{is_in_range}
use Rattle.hessian_text.specs.declared.stage.Kind.{Kind}
use Rattle.hessian_text.specs.declared.stage.Kind.TheVariants.{Text, Binary}
use Rattle.std.specs.Str.{all_scalars}
use Rattle.std.specs.Char.Escape.{encode_utf16}
use Rattle.std.specs.List.{flat_map}

-- the most units of one chunk of the writer's
abbrev pub CHUNK : ℕ
CHUNK = 32768

-- heads of final chunks: in one byte where it can be, else in two, else in three
abbrev pub binary_head : ℕ → List ℕ
binary_head n = if nat_lt n 16 then (0x20 + n) ∷ [] else if nat_lt n 1024 then (0x34 + n / 256) ∷ n % 256 ∷ [] else 0x42 ∷ n / 256 ∷ n % 256 ∷ []

abbrev pub text_head : ℕ → List ℕ
text_head n = if nat_lt n 32 then n ∷ [] else if nat_lt n 1024 then (0x30 + n / 256) ∷ n % 256 ∷ [] else 0x53 ∷ n / 256 ∷ n % 256 ∷ []

pub data WrittenBinary : List ℕ → List ℕ → Type 0 where
  last : (contents : List ℕ) → length contents ≤ CHUNK → WrittenBinary contents (binary_head (length contents) ++ contents)
  chunk : (contents rest : List ℕ) → CHUNK < length contents → WrittenBinary (drop CHUNK contents) rest → WrittenBinary contents (0x41 ∷ 0x80 ∷ 0x00 ∷ (take CHUNK contents ++ rest))

-- units of UTF-16, each by itself in the one, two or three bytes that UTF-8 gives its number
abbrev pub by_units : List ℕ → List ℕ
by_units units = flat_map encode_utf8 units

-- how many units the first chunk has: no pair of surrogates is parted
abbrev pub first_chunk : List ℕ → ℕ
first_chunk units = if is_in_range 0xd800 0xdbff (slice_index units 32767) then 32767 else CHUNK

-- the units of a text, and the writer's bytes for it
pub data WrittenUnits : List ℕ → List ℕ → Type 0 where
  last : (units : List ℕ) → length units ≤ CHUNK → WrittenUnits units (text_head (length units) ++ by_units units)
  chunk : (units rest : List ℕ) (n : ℕ) → CHUNK < length units → n ≡ first_chunk units → WrittenUnits (drop n units) rest → WrittenUnits units (0x52 ∷ n / 256 ∷ n % 256 ∷ (by_units (take n units) ++ rest))

-- the writer's bytes for a text in UTF-8
pub record WrittenText (text bytes : List ℕ) : Type 0 where
  pub chars : List ℕ
  pub scalar : all_scalars chars ≡ true
  pub are_chars : text ≡ encode_utf8_all chars
  pub written : WrittenUnits (flat_map encode_utf16 chars) bytes

-- the code of a chunk that isn't the last, and the head of the last
abbrev pub inner_code : Kind → ℕ
inner_code Text = 0x52
inner_code Binary = 0x41

abbrev pub final_head : Kind → ℕ → List ℕ
final_head Text n = text_head n
final_head Binary n = binary_head n

-- chunks of bytes that are their own forms
pub data WrittenPlain (kind : Kind) : List ℕ → List ℕ → Type 0 where
  last : (bytes : List ℕ) → length bytes ≤ CHUNK → WrittenPlain kind bytes (final_head kind (length bytes) ++ bytes)
  chunk : (bytes rest : List ℕ) → CHUNK < length bytes → WrittenPlain kind (drop CHUNK bytes) rest → WrittenPlain kind bytes (inner_code kind ∷ 0x80 ∷ 0x00 ∷ (take CHUNK bytes ++ rest))

-- new is old with the writer's bytes at its end
pub record AppendsBinary (old contents new : List ℕ) : Type 0 where
  pub written : List ℕ
  pub spells : WrittenBinary contents written
  pub appended : new ≡ old ++ written

pub record AppendsText (old text new : List ℕ) : Type 0 where
  pub written : List ℕ
  pub spells : WrittenText text written
  pub appended : new ≡ old ++ written

pub record AppendsPlain (kind : Kind) (old bytes new : List ℕ) : Type 0 where
  pub written : List ℕ
  pub spells : WrittenPlain kind bytes written
  pub appended : new ≡ old ++ written

-- new is old and perhaps more
pub record BeginsWith (old new : List ℕ) : Type 0 where
  pub more : List ℕ
  pub appended : new ≡ old ++ more
