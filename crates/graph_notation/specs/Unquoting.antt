-- The contents of texts and byte lists, byte by byte.
use Rattle.std.specs.Prelude.{◌≡◌, ℕ, ◌+◌, ◌-◌, ◌*◌, ◌<◌, ◌≤◌, ◌^◌, ◌&&◌, ◌||◌, nat_lt, nat_le, nat_eq, Bool, false, List, [], ◌∷◌, ◌++◌, get_or, Option, Some, None, if◌then◌else◌}
use Rattle.std.specs.Char.{encode_utf8}
use lib.Utf8.{scalar}
use Rattle.graph_notation.specs.declared.contents.Mode.{Mode}
use Rattle.graph_notation.specs.declared.contents.Mode.TheVariants as modes
use Rattle.graph_notation.specs.Elements.{is_control}

-- the number of a hexadecimal digit in lower case
abbrev pub digit_of : ℕ → Option ℕ
digit_of b = if nat_le 0x30 b && nat_le b 0x39 then Some (b - 0x30) else (if nat_le 0x61 b && nat_le b 0x66 then Some (b - 0x57) else None)

-- where a byte leads, and the bytes that it adds
pub record Turn : Type 0 where
  pub mode : Mode
  pub adds : List ℕ

abbrev pub one_digit : Option ℕ → ℕ → ℕ → Option Turn
one_digit None count value = None
one_digit (Some d) count value = if nat_lt count 6 then Some (record { mode = modes.Digits (count + 1) (value * 16 + d); adds = [] }) else None

abbrev pub turn : Mode → ℕ → Option Turn
turn modes.Plain b = if nat_eq b 0x5c then Some (record { mode = modes.Escape; adds = [] }) else (if is_control b || nat_eq b 0x22 then None else Some (record { mode = modes.Plain; adds = b ∷ [] }))
turn modes.Escape b = if nat_eq b 0x75 then Some (record { mode = modes.Brace; adds = [] }) else (if nat_eq b 0x22 || nat_eq b 0x5c then Some (record { mode = modes.Plain; adds = b ∷ [] }) else None)
turn modes.Brace b = if nat_eq b 0x7b then Some (record { mode = modes.Digits 0 0; adds = [] }) else None
turn (modes.Digits count value) b = if nat_eq b 0x7d then (if nat_lt 0 count && scalar value then Some (record { mode = modes.Plain; adds = encode_utf8 value }) else None) else one_digit (digit_of b) count value

-- what was added before stands in front
abbrev pub behind : List ℕ → Option (List ℕ) → Option (List ℕ)
behind front None = None
behind front (Some bs) = Some (front ++ bs)

abbrev pub turned : Option Turn → (Mode → Option (List ℕ)) → Option (List ℕ)
turned None f = None
turned (Some t) f = behind t.adds (f t.mode)

abbrev pub ended : Mode → Option (List ℕ)
ended modes.Plain = Some []
ended modes.Escape = None
ended modes.Brace = None
ended (modes.Digits count value) = None

-- the text whose content this is
abbrev pub unquoted : Mode → List ℕ → Option (List ℕ)
unquoted mode [] = ended mode
unquoted mode (b ∷ bs) = turned (turn mode b) (λ m. unquoted m bs)

-- so many digits write no more
abbrev pub Small : Mode → Type 0
Small modes.Plain = Unit {0}
Small modes.Escape = Unit {0}
Small modes.Brace = Unit {0}
Small (modes.Digits count value) = (count ≤ 6) × (value < 16 ^ count)

-- a byte's step, and what stands written then
abbrev pub Turns : Mode → ℕ → List ℕ → List ℕ → Option Mode → Type 0
Turns mode b old new None = turn mode b ≡ None
Turns mode b old new (Some m) = (adds : List ℕ) × (turn mode b ≡ Some (record { mode = m; adds = adds })) × (new ≡ old ++ adds)

abbrev pub paired : Option ℕ → Option ℕ → Option (List ℕ) → Option (List ℕ)
paired None low rest = None
paired (Some high) None rest = None
paired (Some high) (Some low) rest = behind ((high * 16 + low) ∷ []) rest

-- the bytes that pairs of digits write
abbrev pub unhexed : List ℕ → Option (List ℕ)
unhexed [] = Some []
unhexed (a ∷ []) = None
unhexed (a ∷ b ∷ rest) = paired (digit_of a) (digit_of b) (unhexed rest)

-- a byte that doesn't stand for itself
abbrev pub is_special : ℕ → Bool
is_special b = is_control b || nat_eq b 0x22 || nat_eq b 0x5c

-- the bytes from one place up to another stand for themselves
abbrev pub ArePlain : List ℕ → ℕ → ℕ → Type 0
ArePlain text from to = (k : ℕ) → from ≤ k → k < to → is_special (get_or text k 0) ≡ false

-- the digit of a number below 16
abbrev pub below_16 : ℕ → Option ℕ
below_16 n = if nat_lt n 16 then Some n else None
