-- How long the token at the front of a text is.
use Rattle.std.specs.Prelude.{ℕ, suc, Bool, false, not, ◌&&◌, nat_eq, List, [], ◌∷◌, if◌then◌else◌}
use Rattle.graph_notation.specs.Tokens.{is_word_byte}

-- how many bytes of a word stand at the front
abbrev pub word_run : List ℕ → ℕ
word_run [] = 0
word_run (b ∷ bs) = if is_word_byte b then suc (word_run bs) else 0

-- how many bytes the rest of a text has, its last `"` with it; whether a `\` stands before
abbrev pub closing : Bool → List ℕ → ℕ
closing escape [] = 0
closing escape (b ∷ bs) = if not escape && nat_eq b 0x22 then 1 else suc (closing (not escape && nat_eq b 0x5c) bs)

abbrev pub token_length : List ℕ → ℕ
token_length [] = 0
token_length (b ∷ bs) = if is_word_byte b then suc (word_run bs) else (if nat_eq b 0x22 then suc (closing false bs) else 1)
