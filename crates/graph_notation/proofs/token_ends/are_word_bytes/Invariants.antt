use Rattle.std.proofs.Common.{◌≡◌, ℕ, ◌<◌, get_or, true}
use Rattle.graph_notation.specs.Tokens.{is_word_byte}
use Rattle.graph_notation.proofs.token_ends.are_word_bytes.Given as goal

abbrev pub invariant-loop-byte : goal.invariant-loop-byte
invariant-loop-byte l = l.all ≡ true → (k : ℕ) → k < l.byte-index → is_word_byte (get_or l.block k 0) ≡ true
