-- The header of a frame, by the layout of the Dubbo protocol (dubbo.apache.org, "Dubbo protocol").
use Rattle.std.specs.Prelude.{◌≡◌, ◌≢◌, ℕ, ◌<◌, ◌≤◌, ◌^◌, List, [], ◌∷◌, ◌++◌, take, drop}
use Rattle.std.specs.Int.{w32, w64, to_be_bytes, from_be_bytes}
use Rattle.dubbo_header.specs.declared.header.Header.{Header}
use Rattle.dubbo_header.specs.Flags.{flag_byte}

-- the two bytes that each frame begins with
abbrev pub MAGIC : List ℕ
MAGIC = 0xda ∷ 0xbb ∷ []

-- the most bytes that a body may have: the protocol's default payload limit
abbrev pub LIMIT : ℕ
LIMIT = 8388608

-- the one spelling of a header: the magic, the flags, the status, the id and the length of the body
unfoldable pub header_bytes : Header → List ℕ
header_bytes header =
    MAGIC
    ++ flag_byte header.request header.two_way header.event header.serial ∷ header.status ∷ []
    ++ to_be_bytes w64 header.id
    ++ to_be_bytes w32 header.length

-- the values that a header may have
pub record IsHeader (header : Header) : Type 0 where
  pub serial : header.serial < 32
  pub status : header.status < 256
  pub id : header.id < 2 ^ 64
  pub length : header.length ≤ LIMIT

-- these bytes are this header
abbrev pub Spells : List ℕ → Header → Type 0
Spells bytes header = (bytes ≡ header_bytes header) × IsHeader header

-- these bytes are no header
abbrev pub SpellsNone : List ℕ → Type 0
SpellsNone bytes = (header : Header) → Spells bytes header → ⊥

-- the length of the body that sixteen bytes state
abbrev pub stated_length : List ℕ → ℕ
stated_length bytes = from_be_bytes w32 (drop 12 bytes)

-- the first two bytes, which are not the magic
abbrev pub HasBadMagic : List ℕ → ℕ → ℕ → Type 0
HasBadMagic bytes first second = (take 2 bytes ≡ first ∷ second ∷ []) × (take 2 bytes ≢ MAGIC)

-- behind the right magic, a stated length above the limit
abbrev pub IsTooLong : List ℕ → ℕ → Type 0
IsTooLong bytes length = (take 2 bytes ≡ MAGIC) × (length ≡ stated_length bytes) × (LIMIT < length)
