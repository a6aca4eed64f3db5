-- The words of a line have no space, are text, and tell what they stand for.
use Rattle.std.proofs.Common.{◌≡◌, ◌≢◌, ℕ, ◌+◌, ◌<◌, ◌≤◌, ◌^◌, ◌%◌, Bool, true, false, cond, List, [], ◌∷◌, length, get_or, IsUtf8, inl, inr, refl, sym, ap, subst, ◌∙◌, arith, codes}
use Rattle.std.specs.Prelude.{decimal}
use Rattle.std.specs.Int.{IsInRange}
use Rattle.std.specs.List.{All}
use Rattle.std.proofs.lemmas.Bool.{cases_lt}
use Rattle.std.proofs.lemmas.Fmt.{decimal_by_steps, decimal_injective}
use Rattle.std.proofs.lemmas.List.{get_or_past}
use Rattle.std.proofs.lemmas.List.Elements.{All-nil, All-cons, All-push}
use Rattle.std.proofs.lemmas.Bool.{eqb-false}
use Rattle.std.proofs.lemmas.Str.{IsUtf8-from_ascii}
use lib.Dec.{eqb}
use Rattle.service_table.specs.declared.kind.Kind.{Kind}
use Rattle.service_table.specs.declared.kind.Kind.TheVariants.{Void, Echo, Args, Twice, Reverse, Sum, Knot, Throw}
use Rattle.call_plan.specs.declared.calls.Mode.{Mode}
use Rattle.call_plan.specs.declared.calls.Mode.TheVariants.{Failover, Failfast, Failsafe, Forking, Oneway}
use Rattle.call_plan.specs.Words.{IsWord, IsOptionalWord, field_of, SaysNumber, mode_word, kind_word}
use Rattle.call_plan.proofs.Cutting.{Unmarked}

-- a word has no space
pub unspaced : (word : List ℕ) → IsWord word → Unmarked 32 word
unspaced word is = λ k d within same.
    let shown : IsInRange 0x21 0x7e (get_or word k d) = is.shown k d within in
    omega (arith, shown.0, same)

-- a word is a text
pub word_is_text : (word : List ℕ) → IsWord word → IsUtf8 word
word_is_text word is = IsUtf8-from_ascii word (λ i. elim (cases_lt i (length word)) [
  | inl within ↦ (let shown : IsInRange 0x21 0x7e (get_or word i 0) = is.shown i 0 within in omega (arith, shown.1))
  | inr past ↦ rw (get_or_past word i 0 past) (omega arith)
])

-- whether a space is among the bytes
abbrev has_space : List ℕ → Bool
has_space [] = false
has_space (b ∷ bs) = cond (eqb b 32) true (has_space bs)

first_none : (b : ℕ) (rest : Bool) → cond (eqb b 32) true rest ≡ false → b ≢ 32
first_none b rest none = eqb-false b 32 (test (eqb b 32) none)
  where
    test : (t : Bool) → cond t true rest ≡ false → t ≡ false
    test true e = absurd cc
    test false e = refl

rest_none : (t rest : Bool) → cond t true rest ≡ false → rest ≡ false
rest_none true rest e = absurd cc
rest_none false rest e = e

pub spaceless : (bytes : List ℕ) → has_space bytes ≡ false → Unmarked 32 bytes
spaceless [] none = All-nil (λ b. b ≢ 32)
spaceless (b ∷ bs) none = All-cons (λ b. b ≢ 32) b bs (first_none b (has_space bs) none) (spaceless bs (rest_none (eqb b 32) (has_space bs) none))

pub mode_spaceless : (mode : Mode) → Unmarked 32 (mode_word mode)
mode_spaceless Failover = spaceless (mode_word Failover) refl
mode_spaceless Failfast = spaceless (mode_word Failfast) refl
mode_spaceless Failsafe = spaceless (mode_word Failsafe) refl
mode_spaceless Forking = spaceless (mode_word Forking) refl
mode_spaceless Oneway = spaceless (mode_word Oneway) refl

pub kind_spaceless : (kind : Kind) → Unmarked 32 (kind_word kind)
kind_spaceless Void = spaceless (kind_word Void) refl
kind_spaceless Echo = spaceless (kind_word Echo) refl
kind_spaceless Args = spaceless (kind_word Args) refl
kind_spaceless Twice = spaceless (kind_word Twice) refl
kind_spaceless Reverse = spaceless (kind_word Reverse) refl
kind_spaceless Sum = spaceless (kind_word Sum) refl
kind_spaceless Knot = spaceless (kind_word Knot) refl
kind_spaceless Throw = spaceless (kind_word Throw) refl

-- the field of a text that may be left out
pub field_spaceless : (text : List ℕ) → IsOptionalWord text → Unmarked 32 (field_of text)
field_spaceless [] is = spaceless (codes "-") refl
field_spaceless (b ∷ bs) (inl e) = absurd cc
field_spaceless (b ∷ bs) (inr p) = unspaced (b ∷ bs) p.0

-- a digit
abbrev IsDigit : ℕ → Type 0
IsDigit b = (48 ≤ b) × (b < 58)

last_digit : (n : ℕ) → IsDigit (48 + n % 10)
last_digit n = (omega arith, omega arith)

digits : (n : ℕ) → n < 2 ^ 64 → All IsDigit (decimal n)
digits n few = decimal_by_steps (λ k ds. All IsDigit ds)
    (λ k low. All-cons IsDigit (48 + k) [] (omega arith, omega arith) (All-nil IsDigit))
    (λ k ds high all. All-push IsDigit ds (48 + k % 10) all (last_digit k)) n few

pub decimal_spaceless : (n : ℕ) → n < 2 ^ 64 → Unmarked 32 (decimal n)
decimal_spaceless n few = λ k d within same. let digit = digits n few k d within in omega (arith, digit.0, same)

-- no decimal is `-`
pub decimal_no_dash : (n : ℕ) → n < 2 ^ 64 → decimal n ≢ codes "-"
decimal_no_dash n few same =
    let all : All IsDigit (codes "-") = subst (All IsDigit) same (digits n few) in
    let digit = all 0 0 (omega arith) in
    omega (arith, digit.0)

pub number_spaceless : (least most default n : ℕ) (field : List ℕ) → most < 2 ^ 64 → SaysNumber least most default field n → Unmarked 32 field
number_spaceless least most default n field few (inl p) = subst (Unmarked 32) (sym p.0) (decimal_spaceless n (omega (arith, p.2)))
number_spaceless least most default n field few (inr p) = subst (Unmarked 32) (sym p.0) (spaceless (codes "-") refl)

-- a field says one number
pub number_once : (least most default a b : ℕ) (field : List ℕ) → most < 2 ^ 64 → SaysNumber least most default field a → SaysNumber least most default field b → a ≡ b
number_once least most default a b field few (inl p) (inl q) = decimal_injective a b (omega (arith, p.2)) (omega (arith, q.2)) (sym p.0 ∙ q.0)
number_once least most default a b field few (inl p) (inr q) = absurd (decimal_no_dash a (omega (arith, p.2)) (sym p.0 ∙ q.0))
number_once least most default a b field few (inr p) (inl q) = absurd (decimal_no_dash b (omega (arith, q.2)) (sym q.0 ∙ p.0))
number_once least most default a b field few (inr p) (inr q) = p.1 ∙ sym q.1

-- a word's second byte tells the kind, a word's fifth the mode
abbrev kind_by : ℕ → Kind
kind_by b =
    cond (eqb b 0x6f) Void (cond (eqb b 0x63) Echo (cond (eqb b 0x72) Args (cond (eqb b 0x77) Twice
    (cond (eqb b 0x65) Reverse (cond (eqb b 0x75) Sum (cond (eqb b 0x6e) Knot Throw))))))

kind_back : (kind : Kind) → kind_by (get_or (kind_word kind) 1 0) ≡ kind
kind_back Void = refl
kind_back Echo = refl
kind_back Args = refl
kind_back Twice = refl
kind_back Reverse = refl
kind_back Sum = refl
kind_back Knot = refl
kind_back Throw = refl

pub kind_once : (a b : Kind) → kind_word a ≡ kind_word b → a ≡ b
kind_once a b same = sym (kind_back a) ∙ ap (λ w. kind_by (get_or w 1 0)) same ∙ kind_back b

abbrev mode_by : ℕ → Mode
mode_by b = cond (eqb b 0x6f) Failover (cond (eqb b 0x66) Failfast (cond (eqb b 0x73) Failsafe (cond (eqb b 0x69) Forking Oneway)))

mode_back : (mode : Mode) → mode_by (get_or (mode_word mode) 4 0) ≡ mode
mode_back Failover = refl
mode_back Failfast = refl
mode_back Failsafe = refl
mode_back Forking = refl
mode_back Oneway = refl

pub mode_once : (a b : Mode) → mode_word a ≡ mode_word b → a ≡ b
mode_once a b same = sym (mode_back a) ∙ ap (λ w. mode_by (get_or w 4 0)) same ∙ mode_back b

-- two texts that may be left out and have one field are equal
pub field_once : (s t : List ℕ) → IsOptionalWord s → IsOptionalWord t → field_of s ≡ field_of t → s ≡ t
field_once [] [] is is' same = refl
field_once [] (b ∷ bs) is (inl e) same = absurd cc
field_once [] (b ∷ bs) is (inr p) same = absurd (p.1 (sym same))
field_once (b ∷ bs) [] (inl e) is' same = absurd cc
field_once (b ∷ bs) [] (inr p) is' same = absurd (p.1 same)
field_once (b ∷ bs) (c ∷ cs) is is' same = same
