-- Bytes that are taken from a list piece by piece, front first.
use Rattle.std.proofs.Common.{◌≡◌, ℕ, ◌+◌, ◌-◌, List, ◌++◌, length, take, drop, sym}
use Rattle.std.proofs.Math.Seq.{take-add}
use Rattle.std.proofs.lemmas.List.{take_rest, take-append-drop, drop-drop}

-- what stands before the place and behind it once a piece was moved from there
pub moved_on : (bytes moved : List ℕ) (at n : ℕ) → moved ≡ take n (take (length bytes - at) (drop at bytes)) → (take (at + n) bytes ≡ take at bytes ++ moved) × (drop at bytes ≡ moved ++ drop (at + n) bytes)
moved_on bytes moved at n e =
    let piece : moved ≡ take n (drop at bytes) = rw take_rest at e in (
      rw piece (take-add at n bytes),
      rw (piece, ← drop-drop n at bytes) (sym (take-append-drop n (drop at bytes))),
    )

-- a front, and then a front of the rest
pub take_on : (bytes : List ℕ) (at n : ℕ) → take at bytes ++ take n (take (length bytes - at) (drop at bytes)) ≡ take (at + n) bytes
take_on bytes at n = simp take_rest (sym (take-add at n bytes))
