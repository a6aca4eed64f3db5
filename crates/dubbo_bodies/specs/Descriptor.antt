-- Descriptors: runs of parameters, each written as a field descriptor of Java's class files.
use Rattle.std.specs.Prelude.{◌≡◌, ◌≢◌, ℕ, suc, ◌<◌, ◌≤◌, List, [], ◌∷◌, ◌++◌, length, take, All, Result, Ok, Err}
use Rattle.dubbo_bodies.specs.declared.fault.DescFault.{DescFault}
use Rattle.dubbo_bodies.specs.declared.fault.DescFault.TheVariants.{BadDescriptor, TooManyArgs}

-- the most parameters of a descriptor
abbrev pub MOST : ℕ
MOST = 255

-- the codes of boolean, byte, char, short, int, long, float and double
pub data IsPrimitive : ℕ → Type 0 where
  boolean : IsPrimitive 0x5a
  byte : IsPrimitive 0x42
  char : IsPrimitive 0x43
  short : IsPrimitive 0x53
  int : IsPrimitive 0x49
  long : IsPrimitive 0x4a
  float : IsPrimitive 0x46
  double : IsPrimitive 0x44

-- a byte of a class's name: any but `;`
pub record IsNameByte (b : ℕ) : Type 0 where
  pub small : b < 256
  pub inside : b ≢ 0x3b

-- a parameter: one primitive code; `L`, a name and `;`; or `[` and the parameter that its elements would be
pub data Parameter : List ℕ → Type 0 where
  primitive : (code : ℕ) → IsPrimitive code → Parameter (code ∷ [])
  class : (first : ℕ) (name : List ℕ) → All IsNameByte (first ∷ name) → Parameter (0x4c ∷ first ∷ (name ++ 0x3b ∷ []))
  array : (element : List ℕ) → Parameter element → Parameter (0x5b ∷ element)

-- so many parameters, one after another
pub data Parameters : ℕ → List ℕ → Type 0 where
  none : Parameters 0 []
  more : (count : ℕ) (front rest : List ℕ) → Parameter front → Parameters count rest → Parameters (suc count) (front ++ rest)

-- a run of parameters goes on behind these bytes, or ends with them
pub record BeginsDescriptor (bytes : List ℕ) : Type 0 where
  pub count : ℕ
  pub more : List ℕ
  pub are : Parameters count (bytes ++ more)

-- the bytes are a descriptor of so many parameters, which are no more than there may be
pub record HasArgs (desc : List ℕ) (count : ℕ) : Type 0 where
  pub are : Parameters count desc
  pub few : count ≤ MOST

-- The bytes are no descriptor, and this is the place of the first byte with which none goes on, or the length where
-- they end inside a parameter.
pub record IsBadAt (desc : List ℕ) (at : ℕ) : Type 0 where
  pub within : at ≤ length desc
  pub begins : BeginsDescriptor (take at desc)
  pub stops : at < length desc → BeginsDescriptor (take (suc at) desc) → ⊥
  pub ends : at ≡ length desc → (count : ℕ) → Parameters count desc → ⊥

-- one parameter more than there may be begins at this place
pub record ExceedsAt (desc : List ℕ) (at : ℕ) : Type 0 where
  pub within : at < length desc
  pub full : Parameters MOST (take at desc)
  pub begins : BeginsDescriptor (take (suc at) desc)

-- the bytes are bad at this place, and none before begins a parameter too many
pub record StopsAt (desc : List ℕ) (at : ℕ) : Type 0 where
  pub bad : IsBadAt desc at
  pub few : (earlier : ℕ) → earlier < at → ExceedsAt desc earlier → ⊥

-- what an answer says of the bytes
abbrev pub Tells : List ℕ → Result ℕ DescFault → Type 0
Tells desc (Ok count) = HasArgs desc count
Tells desc (Err (BadDescriptor at)) = StopsAt desc at
Tells desc (Err (TooManyArgs at)) = ExceedsAt desc at
