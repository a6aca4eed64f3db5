-- Steps through a text, byte by byte.
use Rattle.std.proofs.Common.{◌≡◌, ℕ, suc, ◌+◌, ◌<◌, ◌≤◌, Bool, true, false, List, length, get_or, drop, ap, ◌∙◌, add-one, drop-cons, arith}
use Rattle.std.specs.Prelude.{nat_eq, not, ◌&&◌, if◌then◌else◌}
use Rattle.std.proofs.lemmas.List.{drop_all}
use Rattle.graph_notation.specs.Tokens.{is_word_byte}
use Rattle.graph_notation.specs.Lexing.{word_run, closing, token_length}

pub run_on : (text : List ℕ) (i : ℕ) → i < length text → is_word_byte (get_or text i 0) ≡ true → word_run (drop i text) ≡ suc (word_run (drop (i + 1) text))
run_on text i h w = rw (add-one) (ap word_run (drop-cons text i 0 h) ∙ ap (λ b. if b then suc (word_run (drop (suc i) text)) else 0) w)

pub run_off : (text : List ℕ) (i : ℕ) → i < length text → is_word_byte (get_or text i 0) ≡ false → word_run (drop i text) ≡ 0
run_off text i h w = ap word_run (drop-cons text i 0 h) ∙ ap (λ b. if b then suc (word_run (drop (suc i) text)) else 0) w

pub run_end : (text : List ℕ) (i : ℕ) → length text ≤ i → word_run (drop i text) ≡ 0
run_end text i h = ap word_run (drop_all i text h)

pub quote_on : (text : List ℕ) (i : ℕ) (e : Bool) → i < length text → (not e && nat_eq (get_or text i 0) 0x22) ≡ false → closing e (drop i text) ≡ suc (closing (not e && nat_eq (get_or text i 0) 0x5c) (drop (i + 1) text))
quote_on text i e h w = rw (add-one) (ap (closing e) (drop-cons text i 0 h) ∙ ap (λ b. if b then 1 else suc (closing (not e && nat_eq (get_or text i 0) 0x5c) (drop (suc i) text))) w)

pub quote_off : (text : List ℕ) (i : ℕ) (e : Bool) → i < length text → (not e && nat_eq (get_or text i 0) 0x22) ≡ true → closing e (drop i text) ≡ 1
quote_off text i e h w = ap (closing e) (drop-cons text i 0 h) ∙ ap (λ b. if b then 1 else suc (closing (not e && nat_eq (get_or text i 0) 0x5c) (drop (suc i) text))) w

pub quote_end : (text : List ℕ) (i : ℕ) (e : Bool) → length text ≤ i → closing e (drop i text) ≡ 0
quote_end text i e h = ap (closing e) (drop_all i text h)

pub first_byte : (text : List ℕ) (i : ℕ) → i < length text → token_length (drop i text) ≡ (if is_word_byte (get_or text i 0) then suc (word_run (drop (i + 1) text)) else (if nat_eq (get_or text i 0) 0x22 then suc (closing false (drop (i + 1) text)) else 1))
first_byte text i h = rw (add-one) (ap token_length (drop-cons text i 0 h))

-- a decimal digit is a byte of a word
pub figure_on : (b : ℕ) → 0x30 ≤ b → b ≤ 0x39 → is_word_byte b ≡ true
figure_on b h l = grind arith
