-- One byte on: the stage that follows, and what the value gains.
use Rattle.std.specs.Prelude.{◌≡◌, ℕ, ◌+◌, ◌*◌, ◌-◌, ◌/◌, ◌%◌, List, [], ◌∷◌, ◌++◌, nat_lt, nat_le, nat_eq, ◌&&◌, if◌then◌else◌, Option, Some, None}
use Rattle.std.specs.Int.{is_in_range}
use Rattle.hessian_text.specs.declared.stage.Kind.{Kind}
use Rattle.hessian_text.specs.declared.stage.Kind.TheVariants.{Text, Binary}
use Rattle.hessian_text.specs.declared.stage.Part.{Part}
use Rattle.hessian_text.specs.declared.stage.Part.TheVariants.{Inner, Final}
use Rattle.hessian_text.specs.declared.stage.Begun.{Begun}
use Rattle.hessian_text.specs.declared.stage.Begun.TheVariants.{Nothing, One, Two, Three, Four, Five}
use Rattle.hessian_text.specs.declared.stage.Letter.{Letter}
use Rattle.hessian_text.specs.declared.stage.Letter.TheVariants.{Single, Pair, Triple, Quad}
use Rattle.hessian_text.specs.declared.stage.Stage.{Stage}
use Rattle.hessian_text.specs.declared.stage.Stage.TheVariants.{Code, High, Low, Inside, Ended}
use Rattle.hessian_text.specs.declared.step.Item.{Item}
use Rattle.hessian_text.specs.declared.step.Item.TheVariants.{Grows, Whole, Wrong}

abbrev pub letter_bytes : Letter → List ℕ
letter_bytes (Single a) = a ∷ []
letter_bytes (Pair a b) = a ∷ b ∷ []
letter_bytes (Triple a b c) = a ∷ b ∷ c ∷ []
letter_bytes (Quad a b c d) = a ∷ b ∷ c ∷ d ∷ []

abbrev pub letter_units : Letter → ℕ
letter_units (Single a) = 1
letter_units (Pair a b) = 1
letter_units (Triple a b c) = 1
letter_units (Quad a b c d) = 2

-- behind a chunk
abbrev pub behind : Part → Stage
behind Inner = Code
behind Final = Ended

-- so many units of a chunk are to come
abbrev pub entered : Part → ℕ → Stage
entered part n = if nat_eq n 0 then behind part else Inside part n Nothing

abbrev pub after_code : Kind → ℕ → Option Stage
after_code Text c =
    if nat_le c 0x1f then Some (entered Final c) else
    if is_in_range 0x30 0x33 c then Some (Low Final (c - 0x30)) else
    if nat_eq c 0x52 then Some (High Inner) else
    if nat_eq c 0x53 then Some (High Final) else
    None
after_code Binary c =
    if is_in_range 0x20 0x2f c then Some (entered Final (c - 0x20)) else
    if is_in_range 0x34 0x37 c then Some (Low Final (c - 0x34)) else
    if nat_eq c 0x41 then Some (High Inner) else
    if nat_eq c 0x42 then Some (High Final) else
    None

-- where a byte lies in its range, this item
abbrev pub within : ℕ → ℕ → ℕ → Item → Item
within low high b item = if is_in_range low high b then item else Wrong

-- the character of two surrogates, by the last two bytes of each
abbrev pub pair_code : ℕ → ℕ → ℕ → ℕ → ℕ
pair_code b c e f = 0x10000 + ((b - 0xa0) * 64 + (c - 0x80)) * 1024 + ((e - 0xb0) * 64 + (f - 0x80))

abbrev pub quad_of : ℕ → Letter
quad_of c = Quad (0xf0 + c / 262144) (0x80 + c / 4096 % 64) (0x80 + c / 64 % 64) (0x80 + c % 64)

-- a character's first byte, where so many units are left
abbrev pub first_byte : ℕ → ℕ → Item
first_byte left a =
    if nat_lt a 0x80 then Whole (Single a) else
    if is_in_range 0xc2 0xef a then Grows (One a) else
    if nat_lt left 2 then Wrong else
    within 0xf0 0xf4 a (Grows (One a))

abbrev pub second_byte : ℕ → ℕ → ℕ → Item
second_byte left a b =
    if nat_le a 0xdf then within 0x80 0xbf b (Whole (Pair a b)) else
    if nat_eq a 0xe0 then within 0xa0 0xbf b (Grows (Two a b)) else
    if nat_eq a 0xed then within 0x80 (if nat_lt left 2 then 0x9f else 0xaf) b (Grows (Two a b)) else
    if nat_le a 0xef then within 0x80 0xbf b (Grows (Two a b)) else
    if nat_eq a 0xf0 then within 0x90 0xbf b (Grows (Two a b)) else
    if nat_eq a 0xf4 then within 0x80 0x8f b (Grows (Two a b)) else
    within 0x80 0xbf b (Grows (Two a b))

abbrev pub third_byte : ℕ → ℕ → ℕ → Item
third_byte a b c =
    within 0x80 0xbf c (
    if nat_le 0xf0 a then Grows (Three a b c) else
    if nat_eq a 0xed && nat_le 0xa0 b then Grows (Three a b c) else
    Whole (Triple a b c))

abbrev pub fourth_byte : ℕ → ℕ → ℕ → ℕ → Item
fourth_byte a b c d =
    if nat_le 0xf0 a then within 0x80 0xbf d (Whole (Quad a b c d)) else
    within 0xed 0xed d (Grows (Four a b c d))

abbrev pub item_step : Kind → ℕ → Begun → ℕ → Item
item_step Binary left begun b = Whole (Single b)
item_step Text left Nothing a = first_byte left a
item_step Text left (One a) b = second_byte left a b
item_step Text left (Two a b) c = third_byte a b c
item_step Text left (Three a b c) d = fourth_byte a b c d
item_step Text left (Four a b c d) e = within 0xb0 0xbf e (Grows (Five a b c d e))
item_step Text left (Five a b c d e) f = within 0x80 0xbf f (Whole (quad_of (pair_code b c e f)))

-- what a byte makes of a stage inside a chunk
abbrev pub taken : Part → ℕ → Item → Option (Stage × List ℕ)
taken part left (Grows p) = Some (Inside part left p, [])
taken part left (Whole w) = Some (entered part (left - letter_units w), letter_bytes w)
taken part left Wrong = None

-- a stage, with nothing gained
abbrev pub arrived : Option Stage → Option (Stage × List ℕ)
arrived (Some s) = Some (s, [])
arrived None = None

-- the stage behind a byte, and what the value gains; nothing where no spelling goes on with it
abbrev pub step : Kind → Stage → ℕ → Option (Stage × List ℕ)
step kind Code b = arrived (after_code kind b)
step kind (High part) b = Some (Low part b, [])
step kind (Low part high) b = Some (entered part (high * 256 + b), [])
step kind (Inside part left begun) b = taken part left (item_step kind left begun b)
step kind Ended b = None

-- bytes lead from a stage to a stage, and the value gains so much
pub data Runs (kind : Kind) : Stage → List ℕ → Stage → List ℕ → Type 0 where
  stay : (s : Stage) → Runs kind s [] s []
  go : (s t u : Stage) (b : ℕ) (bs gained more : List ℕ) → step kind s b ≡ Some (t, gained) → Runs kind t bs u more → Runs kind s (b ∷ bs) u (gained ++ more)
