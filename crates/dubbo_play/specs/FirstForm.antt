-- The lines of a script of the first form: how each is written, and what must stand before it.
use Rattle.std.specs.Prelude.{ℕ, ◌≤◌, ◌++◌, List, [], ◌∷◌, ℤ, length, codes}
use Rattle.std.specs.Fmt.{signed_decimal}
use Rattle.std.specs.Int.{IsInRange, w32}
use Rattle.std.specs.Int.RustNames.{FitsSigned}
use Rattle.std.specs.List.{All}

-- one call: the path and the method of its service, and the int that it sends
pub record Call : Type 0 where
  pub path : List ℕ
  pub method : List ℕ
  pub argument : ℤ

-- a path or a method: 1 to 255 bytes, each from x21 to x7e
pub record IsWord (bytes : List ℕ) : Type 0 where
  pub begun : 1 ≤ length bytes
  pub short : length bytes ≤ 255
  pub shown : All (IsInRange 0x21 0x7e) bytes

-- a call that a line can name
pub record IsCall (c : Call) : Type 0 where
  pub path : IsWord c.path
  pub method : IsWord c.method
  pub argument : FitsSigned w32 c.argument

-- the calls that a script can have: 4,096 at most
pub record AreCalls (calls : List Call) : Type 0 where
  pub few : length calls ≤ 4096
  pub each : All IsCall calls

-- the fields that name what is called: no version, and one parameter of any type
abbrev pub target_text : List ℕ → List ℕ → List ℕ
target_text path method = path ++ (codes " - " ++ (method ++ codes " Ljava/lang/Object; "))

-- the line of a service that answers with its argument
abbrev pub service_line : List ℕ → List ℕ → List ℕ
service_line path method = codes "service " ++ (target_text path method ++ codes "echo")

-- the line of a call: its int is decimal, `-` before a negative, no leading zero, no `-0`
abbrev pub call_line : Call → List ℕ
call_line c = codes "call failover - - - " ++ (target_text c.path c.method ++ signed_decimal c.argument)

-- what a line says: nothing, a service of this path and method, or a call
pub data Line : Type 0 where
  nothing : Line
  service : List ℕ → List ℕ → Line
  call : Call → Line

-- the bytes of a line say this
pub data Says : List ℕ → Line → Type 0 where
  empty : Says [] nothing
  comment : (rest : List ℕ) → Says (0x23 ∷ rest) nothing
  offers : (path method : List ℕ) → IsWord path → IsWord method
      → Says (service_line path method) (service path method)
  asks : (c : Call) → IsCall c → Says (call_line c) (call c)

-- the calls of one line
abbrev pub calls_in : Line → List Call
calls_in nothing = []
calls_in (service path method) = []
calls_in (call c) = c ∷ []
