-- Runs of bytes that stand for themselves, and of word bytes.
use Rattle.std.proofs.Common.{◌≡◌, ℕ, zero, suc, ◌+◌, ◌-◌, ◌<◌, ◌≤◌, Bool, true, false, List, [], ◌∷◌, ◌++◌, length, get_or, take, drop, refl, ap, sym, ◌∙◌, subst, arith, inl, inr, drop-cons, length-drop}
use Rattle.std.specs.Prelude.{nat_eq, ◌||◌, Some}
use Rattle.std.proofs.lemmas.Bool.{cases_lt}
use Rattle.std.proofs.lemmas.List.{length-take-le, get_or-take, get_or-drop}
use Rattle.graph_notation.specs.declared.contents.Mode.{Mode}
use Rattle.graph_notation.specs.declared.contents.Mode.TheVariants as modes
use Rattle.graph_notation.specs.Tokens.{is_word_byte}
use Rattle.graph_notation.specs.Lexing.{word_run, closing}
use Rattle.graph_notation.specs.Elements.{is_control}
use Rattle.graph_notation.specs.Unquoting.{is_special, ArePlain, turn, turned, behind, unquoted}
use Rattle.graph_notation.proofs.Cutting.{run_on, quote_on}
use Rattle.graph_notation.proofs.Digits.{behind_behind, behind_none}

-- what holds of each byte of a block holds of the bytes up to its end
block_more : (test : ℕ → Bool) (value : Bool) (text : List ℕ) (from at size n : ℕ) → size ≡ n → at + n ≤ length text → ((k : ℕ) → from ≤ k → k < at → test (get_or text k 0) ≡ value) → ((k : ℕ) → k < length (take size (drop at text)) → test (get_or (take size (drop at text)) k 0) ≡ value) → (k : ℕ) → from ≤ k → k < at + n → test (get_or text k 0) ≡ value
block_more test value text from at size n is within before here k low h = elim (cases_lt k at) [
  | inl l ↦ before k low l
  | inr l ↦
      let rest : length (drop at text) ≡ length text - at = length-drop at text in
      let len : length (take size (drop at text)) ≡ size = length-take-le size (drop at text) (omega (arith, rest)) in
      let top = here (k - at) (omega (arith, len)) in
      let same : get_or (take size (drop at text)) (k - at) 0 ≡ get_or text (at + (k - at)) 0 = get_or-take size (drop at text) (k - at) 0 (omega arith) ∙ get_or-drop at text (k - at) 0 in
      let place : get_or text (at + (k - at)) 0 ≡ get_or text k 0 = ap (λ j. get_or text j 0) (let e : at + (k - at) ≡ k = omega arith in e) in
      ap test (sym (same ∙ place)) ∙ top
]

pub plain_block : (text : List ℕ) (from at size : ℕ) → size ≡ 32 → at + 32 ≤ length text → ArePlain text from at → ((k : ℕ) → k < length (take size (drop at text)) → is_special (get_or (take size (drop at text)) k 0) ≡ false) → ArePlain text from (at + 32)
plain_block text from at size is within before here = block_more is_special false text from at size 32 is within before here

or_false : (a b : Bool) → (a || b) ≡ false → (a ≡ false) × (b ≡ false)
or_false false b e = (refl, e)
or_false true b e = absurd cc

-- a byte that stands for itself
record Stands (b : ℕ) : Type 0 where
  control : is_control b ≡ false
  quote : nat_eq b 0x22 ≡ false
  slash : nat_eq b 0x5c ≡ false

stands : (b : ℕ) → is_special b ≡ false → Stands b
stands b e =
    let x = or_false (is_control b || nat_eq b 0x22) (nat_eq b 0x5c) e in
    let y = or_false (is_control b) (nat_eq b 0x22) x.0 in
    record { control = y.0; quote = y.1; slash = x.1 }

quote_steps : (text : List ℕ) (i n : ℕ) → i + n ≤ length text → ArePlain text i (i + n) → closing false (drop i text) ≡ n + closing false (drop (i + n) text)
quote_steps text i zero h p = let e : i ≡ i + 0 = omega arith in let f : closing false (drop i text) ≡ closing false (drop (i + 0) text) = ap (λ k. closing false (drop k text)) e in omega (arith, f)
quote_steps text i (suc n) h p =
    let s = stands (get_or text i 0) (p i (omega arith) (omega arith)) in
    let e : i + 1 + n ≡ i + suc n = omega arith in
    let a : closing false (drop i text) ≡ suc (closing false (drop (i + 1) text)) = quote_on text i false (omega arith) s.quote ∙ ap (λ x. suc (closing x (drop (i + 1) text))) s.slash in
    let b : closing false (drop (i + 1) text) ≡ n + closing false (drop (i + 1 + n) text) = quote_steps text (i + 1) n (omega arith) (λ k low l. p k (omega arith) (omega arith)) in
    let c : closing false (drop (i + 1 + n) text) ≡ closing false (drop (i + suc n) text) = ap (λ k. closing false (drop k text)) e in
    omega (arith, a, b, c)

-- the end of a text stays where it is, seen from behind a run
pub quote_run : (text : List ℕ) (i j : ℕ) → i ≤ j → j ≤ length text → ArePlain text i j → i + closing false (drop i text) ≡ j + closing false (drop j text)
quote_run text i j low h p =
    let e : i + (j - i) ≡ j = omega arith in
    let s = quote_steps text i (j - i) (omega arith) (subst (ArePlain text i) (sym e) p) in
    let t : closing false (drop (i + (j - i)) text) ≡ closing false (drop j text) = ap (λ k. closing false (drop k text)) e in
    omega (arith, s, t)

word_steps : (text : List ℕ) (i n : ℕ) → i + n ≤ length text → ((k : ℕ) → i ≤ k → k < i + n → is_word_byte (get_or text k 0) ≡ true) → word_run (drop i text) ≡ n + word_run (drop (i + n) text)
word_steps text i zero h p = let e : i ≡ i + 0 = omega arith in let f : word_run (drop i text) ≡ word_run (drop (i + 0) text) = ap (λ k. word_run (drop k text)) e in omega (arith, f)
word_steps text i (suc n) h p =
    let e : i + 1 + n ≡ i + suc n = omega arith in
    let a : word_run (drop i text) ≡ suc (word_run (drop (i + 1) text)) = run_on text i (omega arith) (p i (omega arith) (omega arith)) in
    let b : word_run (drop (i + 1) text) ≡ n + word_run (drop (i + 1 + n) text) = word_steps text (i + 1) n (omega arith) (λ k low l. p k (omega arith) (omega arith)) in
    let c : word_run (drop (i + 1 + n) text) ≡ word_run (drop (i + suc n) text) = ap (λ k. word_run (drop k text)) e in
    omega (arith, a, b, c)

-- the end of a word stays where it is, seen from behind a block
pub word_block : (text : List ℕ) (from at size : ℕ) → size ≡ 32 → at + 32 ≤ length text → from + word_run (drop from text) ≡ at + word_run (drop at text) → ((k : ℕ) → k < length (take size (drop at text)) → is_word_byte (get_or (take size (drop at text)) k 0) ≡ true) → from + word_run (drop from text) ≡ (at + 32) + word_run (drop (at + 32) text)
word_block text from at size is within before here =
    let s = word_steps text at 32 within (block_more is_word_byte true text at at size 32 is within (λ k low h. absurd (omega (arith, low, h))) here) in
    omega (arith, before, s)

content_steps : (inner : List ℕ) (i n : ℕ) → i + n ≤ length inner → ArePlain inner i (i + n) → unquoted modes.Plain (drop i inner) ≡ behind (take n (drop i inner)) (unquoted modes.Plain (drop (i + n) inner))
content_steps inner i zero h p = let e : i ≡ i + 0 = omega arith in ap (λ k. unquoted modes.Plain (drop k inner)) e ∙ sym (behind_none (unquoted modes.Plain (drop (i + 0) inner)))
content_steps inner i (suc n) h p =
    let b : ℕ = get_or inner i 0 in
    let s = stands b (p i (omega arith) (omega arith)) in
    let e : suc i + n ≡ i + suc n = omega arith in
    let front : drop i inner ≡ b ∷ drop (suc i) inner = drop-cons inner i 0 (omega arith) in
    let t : turn modes.Plain b ≡ Some (record { mode = modes.Plain; adds = b ∷ [] }) = rw (s.slash, s.control, s.quote) refl in
    ap (unquoted modes.Plain) front
    ∙ ap (λ x. turned x (λ m. unquoted m (drop (suc i) inner))) t
    ∙ ap (behind (b ∷ [])) (content_steps inner (suc i) n (omega arith) (λ k low l. p k (omega arith) (omega arith)))
    ∙ behind_behind (b ∷ []) (take n (drop (suc i) inner)) (unquoted modes.Plain (drop (suc i + n) inner))
    ∙ ap (λ x. behind x (unquoted modes.Plain (drop (suc i + n) inner))) (sym (ap (take (suc n)) front))
    ∙ ap (λ k. behind (take (suc n) (drop i inner)) (unquoted modes.Plain (drop k inner))) e

-- a run of a text's content is copied
pub content_run : (inner : List ℕ) (i j : ℕ) (m : Mode) (old new : List ℕ) → i ≤ j → j ≤ length inner → (m ≡ modes.Plain) × ArePlain inner i j → new ≡ old ++ take (j - i) (drop i inner) → unquoted modes.Plain inner ≡ behind old (unquoted m (drop i inner)) → unquoted modes.Plain inner ≡ behind new (unquoted m (drop j inner))
content_run inner i j m old new low h p n before =
    let e : i + (j - i) ≡ j = omega arith in
    let run = content_steps inner i (j - i) (omega arith) (subst (ArePlain inner i) (sym e) p.1) in
    before
    ∙ ap (λ k. behind old (unquoted k (drop i inner))) p.0
    ∙ ap (behind old) run
    ∙ behind_behind old (take (j - i) (drop i inner)) (unquoted modes.Plain (drop (i + (j - i)) inner))
    ∙ ap (λ x. behind x (unquoted modes.Plain (drop (i + (j - i)) inner))) (sym n)
    ∙ ap (λ k. behind new (unquoted modes.Plain (drop k inner))) e
    ∙ ap (λ k. behind new (unquoted k (drop j inner))) (sym p.0)
