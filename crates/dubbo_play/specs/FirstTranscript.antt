-- What is printed of a run in which each call was answered with its own argument.
use Rattle.std.specs.Prelude.{ℕ, suc, ℤ, List, [], ◌∷◌, ◌++◌, length, codes, decimal}
use Rattle.std.specs.Fmt.{signed_decimal}
use Rattle.dubbo_play.specs.FirstForm.{Call}

-- the line of call k, which was answered with this int
abbrev pub ok_line : ℕ → ℤ → List ℕ
ok_line k value = decimal k ++ codes " ok " ++ signed_decimal value ++ codes "\n"

-- the lines of these calls in order, the first of which is call k: each has that call's own argument
abbrev pub ok_lines : ℕ → List Call → List ℕ
ok_lines k [] = []
ok_lines k (call ∷ calls) = ok_line k call.argument ++ ok_lines (suc k) calls

-- the last line: how many calls there are, and how many attempts were written on the one link
abbrev pub summary : ℕ → List ℕ
summary calls = codes "calls " ++ decimal calls ++ codes " attempts " ++ decimal calls ++ codes "\n"

-- a line for each call in order, and the summary
abbrev pub transcript : List Call → List ℕ
transcript calls = ok_lines 0 calls ++ summary (length calls)
