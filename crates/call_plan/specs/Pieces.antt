-- The pieces of a line between its spaces.
use Rattle.std.specs.Prelude.{◌≡◌, ℕ, zero, suc, ◌≤◌, ◌==◌, List, [], ◌∷◌, length, cond, Option, Some, None}
use denote.Ref.{Bor}
use Rattle.call_plan.specs.declared.scripts.fields.CallFields.{CallFields}
use Rattle.call_plan.specs.ScriptLines.{onto_first}

-- the pieces of a line that is cut at its first spaces, at most so many: the last piece may have spaces
unfoldable pub pieces : ℕ → List ℕ → List (List ℕ)
pieces zero bytes = bytes ∷ []
pieces (suc n) [] = [] ∷ []
pieces (suc n) (byte ∷ bytes) = cond (byte == 0x20) ([] ∷ pieces n bytes) (onto_first byte (pieces (suc n) bytes))

-- the most cuts of a line: the tenth field of a call, its arguments, may have spaces
abbrev pub CUTS : ℕ
CUTS = 9

-- a field that may be lacking
abbrev pub fields_in : Option (Bor (List ℕ)) → List (List ℕ)
fields_in None = []
fields_in (Some field) = field.now ∷ []

-- the fields of a call's line behind its first word
abbrev pub call_fields_of : CallFields → List (List ℕ)
call_fields_of f = f.mode.now ∷ f.timeout.now ∷ f.retries.now ∷ f.forks.now ∷ f.path.now ∷ f.version.now ∷ f.method.now ∷ f.desc.now ∷ fields_in f.arguments

-- the pieces of a line have this first word, and behind it not as many others as wanted
abbrev pub Lack : List ℕ → ℕ → List (List ℕ) → Type 0
Lack word wanted all = (fields : List (List ℕ)) → all ≡ word ∷ fields → wanted ≤ length fields → ⊥
