-- The script that `gen` makes: a service of each kind, and calls that go through the kinds and through four arguments.
use Rattle.std.specs.Prelude.{ℕ, ◌++◌, ◌/◌, ◌%◌, List, [], ◌∷◌, codes, decimal, flat_map, get_or, suc, zero}

-- the words of the kinds, in the order in which the kinds are listed
abbrev pub kinds : List (List ℕ)
kinds = codes "none" ∷ codes "echo" ∷ codes "args" ∷ codes "twice" ∷ codes "reverse" ∷ codes "sum" ∷ codes "knot" ∷ codes "throw" ∷ []

-- a service of a kind, which has the kind's word as its method
abbrev pub service_line : List ℕ → List ℕ
service_line kind = codes "service demo.G - " ++ kind ++ codes " Ljava/lang/Object; " ++ kind ++ codes "\n"

-- the arguments of a call by its form: its number, the number's text, a list that has one list twice, and a list that
-- has itself
abbrev pub argument : ℕ → List ℕ → List ℕ
argument zero number = number
argument (suc zero) number = codes "\"" ++ number ++ codes "\""
argument (suc (suc zero)) number = codes "[[" ++ number ++ codes "],#1]"
argument (suc (suc (suc form))) number = codes "[" ++ number ++ codes ",#0]"

-- the line of the call of this number: eight calls have the eight kinds, and the next eight the next form of arguments
abbrev pub call_line : ℕ → List ℕ
call_line call = codes "call failover - - - demo.G - " ++ get_or kinds (call % 8) [] ++ codes " Ljava/lang/Object; "
    ++ argument (call / 8 % 4) (decimal call) ++ codes "\n"

-- the lines of the first calls, so many
abbrev pub call_lines : ℕ → List ℕ
call_lines zero = []
call_lines (suc calls) = call_lines calls ++ call_line calls

-- the script of so many calls
abbrev pub generated_script : ℕ → List ℕ
generated_script calls = flat_map service_line kinds ++ call_lines calls
