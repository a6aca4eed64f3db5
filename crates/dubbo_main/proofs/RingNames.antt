-- What is spelled like a name is text, and a ring doesn't call it bad.
use Rattle.std.proofs.Common.{ℕ, List, length, get_or, IsUtf8, inl, inr, arith}
use Rattle.std.proofs.lemmas.Bool.{cases_lt}
use Rattle.std.proofs.lemmas.List.{get_or_past}
use Rattle.std.proofs.lemmas.Str.{IsUtf8-from_ascii}
use Rattle.hash_ring.specs.Names.{IsName, IsNameByte}

pub name_is_text : (name : List ℕ) → IsName name → IsUtf8 name
name_is_text name is = IsUtf8-from_ascii name (λ i. elim (cases_lt i (length name)) [
  | inl within ↦ (let shown : IsNameByte (get_or name i 0) = is.printed i 0 within in omega (arith, shown.up_to))
  | inr past ↦ rw (get_or_past name i 0 past) (omega arith)
])
