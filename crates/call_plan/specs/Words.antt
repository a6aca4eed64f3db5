-- The fields of a script's lines, and what each stands for.
use Rattle.std.specs.Prelude.{◌≡◌, ◌≢◌, ◌⊎◌, ℕ, ◌≤◌, List, [], ◌∷◌, length, codes, decimal}
use Rattle.std.specs.Int.{IsInRange}
use Rattle.std.specs.List.{All}
use Rattle.service_table.specs.declared.kind.Kind.{Kind}
use Rattle.service_table.specs.declared.kind.Kind.TheVariants.{Void, Echo, Args, Twice, Reverse, Sum, Knot, Throw}
use Rattle.call_plan.specs.declared.calls.Mode.{Mode}
use Rattle.call_plan.specs.declared.calls.Mode.TheVariants.{Failover, Failfast, Failsafe, Forking, Oneway}

-- what stands between two fields
abbrev pub SPACE : ℕ
SPACE = 0x20

-- a word: 1 to 255 bytes, each from x21 to x7e
pub record IsWord (bytes : List ℕ) : Type 0 where
  pub begun : 1 ≤ length bytes
  pub short : length bytes ≤ 255
  pub shown : All (IsInRange 0x21 0x7e) bytes

-- a text that may be left out: the empty text, or a word other than `-`
abbrev pub IsOptionalWord : List ℕ → Type 0
IsOptionalWord text = (text ≡ []) ⊎ (IsWord text × (text ≢ codes "-"))

-- the field of such a text: `-` stands for the empty one
abbrev pub field_of : List ℕ → List ℕ
field_of [] = codes "-"
field_of (b ∷ bs) = b ∷ bs

-- a field that says a number from the least to the most in decimal, or `-`, which stands for the default
abbrev pub SaysNumber : (least most default : ℕ) → List ℕ → ℕ → Type 0
SaysNumber least most default field n =
    ((field ≡ decimal n) × (least ≤ n) × (n ≤ most)) ⊎ ((field ≡ codes "-") × (n ≡ default))

-- the word of a mode
abbrev pub mode_word : Mode → List ℕ
mode_word Failover = codes "failover"
mode_word Failfast = codes "failfast"
mode_word Failsafe = codes "failsafe"
mode_word Forking = codes "forking"
mode_word Oneway = codes "oneway"

-- the word of a kind of service
abbrev pub kind_word : Kind → List ℕ
kind_word Void = codes "none"
kind_word Echo = codes "echo"
kind_word Args = codes "args"
kind_word Twice = codes "twice"
kind_word Reverse = codes "reverse"
kind_word Sum = codes "sum"
kind_word Knot = codes "knot"
kind_word Throw = codes "throw"
