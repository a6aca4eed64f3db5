-- A text is cut in one way.
use Rattle.std.proofs.Common.{◌≡◌, ◌≢◌, ℕ, suc, ◌+◌, ◌<◌, Bool, true, false, List, [], ◌∷◌, ◌++◌, length, refl, ap, sym, ◌∙◌, subst, arith, inl, inr, append_assoc, length-append}
use Rattle.std.specs.Prelude.{nat_eq, if◌then◌else◌}
use Rattle.std.proofs.lemmas.Bool.{cases_Bool, ne_eqb, eqb-true, eqb-false}
use Rattle.std.proofs.lemmas.List.{append-nil}
use Rattle.graph_notation.specs.Tokens.{Token, is_word_byte, AreWordBytes, BeginsNoWord, Escaped, IsToken, Cut}
use Rattle.graph_notation.specs.Tokens.Escaped.{none as no_bytes, plain, escape}
use Rattle.graph_notation.specs.Tokens.IsToken.{word, whole, endless, endless_escape, other}
use Rattle.graph_notation.specs.Tokens.Cut.{none, one}
use Rattle.graph_notation.specs.Lexing.{word_run, closing, token_length}

if_true : {A : Type 0} (b : Bool) (x y : A) → b ≡ true → (if b then x else y) ≡ x
if_true b x y e = rw e refl

if_false : {A : Type 0} (b : Bool) (x y : A) → b ≡ false → (if b then x else y) ≡ y
if_false b x y e = rw e refl

-- the length of a token at the front
run_is : (more rest : List ℕ) → AreWordBytes more → BeginsNoWord rest → word_run (more ++ rest) ≡ length more
run_is [] [] a n = refl
run_is [] (b ∷ bs) a n = if_false (is_word_byte b) (suc (word_run bs)) 0 n
run_is (b ∷ bs) rest a n = if_true (is_word_byte b) (suc (word_run (bs ++ rest))) 0 a.0 ∙ ap suc (run_is bs rest a.1 n)

plain_step : (b : ℕ) (bs : List ℕ) → b ≢ 0x22 → b ≢ 0x5c → closing false (b ∷ bs) ≡ suc (closing false bs)
plain_step b bs q s =
    let e1 : nat_eq b 0x22 ≡ false = ne_eqb b 0x22 q in
    let e2 : nat_eq b 0x5c ≡ false = ne_eqb b 0x5c s in
    rw (e1, e2) refl

closing_is : {inner : List ℕ} (rest : List ℕ) → Escaped inner → closing false (inner ++ 0x22 ∷ rest) ≡ suc (length inner)
closing_is rest no_bytes = refl
closing_is rest (plain b more q s x) = plain_step b (more ++ 0x22 ∷ rest) q s ∙ ap suc (closing_is rest x)
closing_is rest (escape b more x) = ap (λ n. suc (suc n)) (closing_is rest x)

closing_all : {inner : List ℕ} → Escaped inner → closing false inner ≡ length inner
closing_all no_bytes = refl
closing_all (plain b more q s x) = plain_step b more q s ∙ ap suc (closing_all x)
closing_all (escape b more x) = ap (λ n. suc (suc n)) (closing_all x)

closing_escape : {inner : List ℕ} → Escaped inner → closing false (inner ++ 0x5c ∷ []) ≡ length (inner ++ 0x5c ∷ [])
closing_escape no_bytes = refl
closing_escape (plain b more q s x) = plain_step b (more ++ 0x5c ∷ []) q s ∙ ap suc (closing_escape x)
closing_escape (escape b more x) = ap (λ n. suc (suc n)) (closing_escape x)

pub length_is : {token rest : List ℕ} → IsToken token rest → token_length (token ++ rest) ≡ length token
length_is (word b more rest a n) = if_true (is_word_byte b) (suc (word_run (more ++ rest))) (if nat_eq b 0x22 then suc (closing false (more ++ rest)) else 1) a.0 ∙ ap suc (run_is more rest a.1 n)
length_is (whole inner rest x) = ap (λ n. suc n) (ap (closing false) (append_assoc inner (0x22 ∷ []) rest) ∙ closing_is rest x ∙ sym (length-append inner (0x22 ∷ []) ∙ (omega arith)))
length_is (endless inner x) = ap (λ n. suc n) (ap (closing false) (append-nil inner) ∙ closing_all x)
length_is (endless_escape inner x) = ap (λ n. suc n) (ap (closing false) (append-nil (inner ++ 0x5c ∷ [])) ∙ closing_escape x)
length_is (other b rest w q) = if_false (is_word_byte b) (suc (word_run rest)) (if nat_eq b 0x22 then suc (closing false rest) else 1) w ∙ if_false (nat_eq b 0x22) (suc (closing false rest)) 1 (ne_eqb b 0x22 q)

pub fronts : {A : Type 0} (xs ys xs' ys' : List A) → length xs ≡ length xs' → xs ++ ys ≡ xs' ++ ys' → (xs ≡ xs') × (ys ≡ ys')
fronts [] ys [] ys' n e = (refl, e)
fronts [] ys (x' ∷ xs') ys' n e = absurd (omega arith)
fronts (x ∷ xs) ys [] ys' n e = absurd (omega arith)
fronts (x ∷ xs) ys (x' ∷ xs') ys' n e =
    let same : x ≡ x' = cc in
    let tail : xs ++ ys ≡ xs' ++ ys' = cc in
    let both = fronts xs ys xs' ys' (omega arith) tail in
    let front : xs ≡ xs' = both.0 in
    (cc, both.1)

-- tokens at the front of the same text are the same
pub one_token : {a b rest rest' : List ℕ} → IsToken a rest → IsToken b rest' → a ++ rest ≡ b ++ rest' → (a ≡ b) × (rest ≡ rest')
one_token {a} {b} {rest} {rest'} x y e = fronts a rest b rest' (sym (length_is x) ∙ ap token_length e ∙ length_is y) e

-- a token isn't empty
pub some_token : {token rest : List ℕ} → IsToken token rest → 0 < length token
some_token (word b more rest a n) = omega arith
some_token (whole inner rest x) = omega arith
some_token (endless inner x) = omega arith
some_token (endless_escape inner x) = omega arith
some_token (other b rest w q) = omega arith

-- a whole text is cut in one way
pub one_cut : {s : List ℕ} {ts : List Token} (t : List ℕ) (us : List Token) → s ≡ t → Cut s ts [] → Cut t us [] → ts ≡ us
one_cut t us e x y = by_both x y refl refl e
  where
    by_both : {s t r r' : List ℕ} {ts us : List Token} → Cut s ts r → Cut t us r' → r ≡ [] → r' ≡ [] → s ≡ t → ts ≡ us
    by_both (none text) (none text') h h' e = refl
    by_both (none text) (one token middle rest tokens x y) h h' e = let big = some_token x in let long : length text ≡ length token + length middle = ap length e ∙ length-append token middle in let short : length text ≡ 0 = ap length h in absurd (omega arith)
    by_both (one token middle rest tokens x y) (none text) h h' e = let big = some_token x in let long : length token + length middle ≡ length text = sym (length-append token middle) ∙ ap length e in let short : length text ≡ 0 = ap length h' in absurd (omega arith)
    by_both (one token middle rest tokens x y) (one token' middle' rest' tokens' x' y') h h' e =
        let same = one_token x x' e in
        let first : token ≡ token' = same.0 in
        let others : tokens ≡ tokens' = by_both y y' h h' same.1 in
        cc

-- the token at the front of a text
data ClosingAt (bs : List ℕ) (n : ℕ) : Type 0 where
  at_quote : (inner rest : List ℕ) → Escaped inner → bs ≡ inner ++ 0x22 ∷ rest → n ≡ suc (length inner) → ClosingAt bs n
  at_end : Escaped bs → n ≡ length bs → ClosingAt bs n
  at_escape : (inner : List ℕ) → Escaped inner → bs ≡ inner ++ 0x5c ∷ [] → n ≡ length bs → ClosingAt bs n

after_plain : (b : ℕ) (bs : List ℕ) (n : ℕ) → b ≢ 0x22 → b ≢ 0x5c → ClosingAt bs n → ClosingAt (b ∷ bs) (suc n)
after_plain b bs n q s (at_quote inner rest x e m) = at_quote (b ∷ inner) rest (plain b inner q s x) (ap (λ z. b ∷ z) e) (ap suc m)
after_plain b bs n q s (at_end x m) = at_end (plain b bs q s x) (ap suc m)
after_plain b bs n q s (at_escape inner x e m) = at_escape (b ∷ inner) (plain b inner q s x) (ap (λ z. b ∷ z) e) (ap suc m)

after_escape : (b : ℕ) (bs : List ℕ) (n : ℕ) → ClosingAt bs n → ClosingAt (0x5c ∷ b ∷ bs) (suc (suc n))
after_escape b bs n (at_quote inner rest x e m) = at_quote (0x5c ∷ b ∷ inner) rest (escape b inner x) (ap (λ z. 0x5c ∷ b ∷ z) e) (ap (λ z. suc (suc z)) m)
after_escape b bs n (at_end x m) = at_end (escape b bs x) (ap (λ z. suc (suc z)) m)
after_escape b bs n (at_escape inner x e m) = at_escape (0x5c ∷ b ∷ inner) (escape b inner x) (ap (λ z. 0x5c ∷ b ∷ z) e) (ap (λ z. suc (suc z)) m)

mutual
  closing_of : (bs : List ℕ) → ClosingAt bs (closing false bs)
  closing_of [] = at_end no_bytes refl
  closing_of (b ∷ bs) = elim (cases_Bool (nat_eq b 0x22)) [
    | inl q ↦ let e : b ≡ 0x22 = eqb-true b 0x22 q in at_quote [] bs no_bytes (ap (λ z. z ∷ bs) e) (if_true (nat_eq b 0x22) 1 (suc (closing (nat_eq b 0x5c) bs)) q)
    | inr q ↦ elim (cases_Bool (nat_eq b 0x5c)) [
      | inl s ↦
          let e : b ≡ 0x5c = eqb-true b 0x5c s in
          let n : closing false (b ∷ bs) ≡ suc (closing true bs) = if_false (nat_eq b 0x22) 1 (suc (closing (nat_eq b 0x5c) bs)) q ∙ ap (λ z. suc (closing z bs)) s in
          subst (λ z. ClosingAt (b ∷ bs) z) (sym n) (subst (λ z. ClosingAt (z ∷ bs) (suc (closing true bs))) (sym e) (escaped_of bs))
      | inr s ↦
          let q' : b ≢ 0x22 = eqb-false b 0x22 q in
          let s' : b ≢ 0x5c = eqb-false b 0x5c s in
          subst (λ z. ClosingAt (b ∷ bs) z) (sym (plain_step b bs q' s')) (after_plain b bs (closing false bs) q' s' (closing_of bs))
    ]
  ]

  escaped_of : (bs : List ℕ) → ClosingAt (0x5c ∷ bs) (suc (closing true bs))
  escaped_of [] = at_escape [] no_bytes refl refl
  escaped_of (b ∷ bs) = after_escape b bs (closing false bs) (closing_of bs)

-- a token at the front, and the rest
pub record FirstToken (text : List ℕ) : Type 0 where
  pub token : Token
  pub rest : List ℕ
  pub is : text ≡ token ++ rest
  pub next : IsToken token rest

word_front : (bs : List ℕ) → (more : List ℕ) × (rest : List ℕ) × (bs ≡ more ++ rest) × AreWordBytes more × BeginsNoWord rest
word_front [] = ([], [], refl, tt, tt)
word_front (b ∷ bs) = elim (cases_Bool (is_word_byte b)) [
  | inl w ↦ let x = word_front bs in (b ∷ x.0, x.1, ap (λ z. b ∷ z) x.2, (w, x.3), x.4)
  | inr w ↦ ([], b ∷ bs, refl, tt, w)
]

quote_front : (bs : List ℕ) (n : ℕ) → ClosingAt bs n → FirstToken (0x22 ∷ bs)
quote_front bs n (at_quote inner rest x e m) = record { token = 0x22 ∷ (inner ++ 0x22 ∷ []); rest = rest; is = ap (λ z. 0x22 ∷ z) (e ∙ sym (append_assoc inner (0x22 ∷ []) rest)); next = whole inner rest x }
quote_front bs n (at_end x m) = record { token = 0x22 ∷ bs; rest = []; is = sym (append-nil (0x22 ∷ bs)); next = endless bs x }
quote_front bs n (at_escape inner x e m) = record { token = 0x22 ∷ (inner ++ 0x5c ∷ []); rest = []; is = ap (λ z. 0x22 ∷ z) e ∙ sym (append-nil (0x22 ∷ (inner ++ 0x5c ∷ []))); next = endless_escape inner x }

pub first_token : (b : ℕ) (bs : List ℕ) → FirstToken (b ∷ bs)
first_token b bs = elim (cases_Bool (is_word_byte b)) [
  | inl w ↦ let x = word_front bs in record { token = b ∷ x.0; rest = x.1; is = ap (λ z. b ∷ z) x.2; next = word b x.0 x.1 (w, x.3) x.4 }
  | inr w ↦ elim (cases_Bool (nat_eq b 0x22)) [
    | inl q ↦ let e : b ≡ 0x22 = eqb-true b 0x22 q in subst (λ z. FirstToken (z ∷ bs)) (sym e) (quote_front bs (closing false bs) (closing_of bs))
    | inr q ↦ record { token = b ∷ []; rest = bs; is = refl; next = other b bs w (eqb-false b 0x22 q) }
  ]
]
