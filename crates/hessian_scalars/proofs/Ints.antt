-- Each answer of the reader of ints comes exactly where it may.
use Rattle.std.proofs.Common.{◌≡◌, ℕ, zero, suc, ◌+◌, ◌-◌, ◌<◌, ◌≤◌, ℤ, Bool, true, false, List, [], ◌∷◌, ◌++◌, length, take, drop, Some, Result, Ok, Err, refl, sym, ap, subst, ◌∙◌, inl, inr, arith}
use Rattle.std.specs.Int.{is_in_range}
use Rattle.std.specs.Prelude.{◌↔◌, slice_get}
use Rattle.std.proofs.Math.Dec.{eqb-suc-zero}
use Rattle.std.proofs.lemmas.Bool.Decides.{nat_tests}
use Rattle.std.proofs.lemmas.List.{length-take, length-drop}
use Rattle.hessian_scalars.specs.declared.scalar.Scalar.{Scalar}
use Rattle.hessian_scalars.specs.declared.scalar.Scalar.TheVariants as scalars
use Rattle.hessian_scalars.specs.declared.front.Front.{Front}
use Rattle.hessian_scalars.specs.declared.front.Front.TheVariants as fronts
use Rattle.hessian_scalars.specs.declared.fault.ScalarFault.{ScalarFault}
use Rattle.hessian_scalars.specs.declared.fault.ScalarFault.TheVariants as faults
use Rattle.hessian_scalars.specs.ScalarSpelling.{IsCode, IsDoubleCode, int_of, ScalarSpelling}
use Rattle.hessian_scalars.specs.ScalarSpelling.ScalarSpelling.{null, no, yes, int_in_code, int_and_byte, int_and_two, int_whole, long_in_code, long_and_byte, long_and_two, long_as_int, long_whole, date_in_millis, date_in_minutes}
use Rattle.hessian_scalars.specs.Read.{IsSpelledAt, IsIntPrefix, IsProperPrefix, BeginsInt, IsInt, BeginsNoInt}
use Rattle.hessian_scalars.specs.Codes.{front_of, is_int_code, int_placed, int_at}
use Rattle.hessian_scalars.proofs.Whole.{IsBytes, inside}
use Rattle.hessian_scalars.proofs.Fronts.{IsBytes-drop, Shows, shown, found, part, has_code}

-- ---- the codes of ints

code_in_code : (c : ℕ) → IsCode 0x80 0xbf c → is_int_code c ≡ true
code_in_code c i = grind (arith, nat_tests, i.above, i.below)

code_and_byte : (c : ℕ) → IsCode 0xc0 0xcf c → is_int_code c ≡ true
code_and_byte c i = grind (arith, nat_tests, i.above, i.below)

code_and_two : (c : ℕ) → IsCode 0xd0 0xd7 c → is_int_code c ≡ true
code_and_two c i = grind (arith, nat_tests, i.above, i.below)

-- an int begins with such a code
pub int_has_code : (z : ℤ) (c : ℕ) (more : List ℕ) → ScalarSpelling (scalars.Int z) (c ∷ more) → is_int_code c ≡ true
int_has_code z c more (int_in_code code number i e) = code_in_code c i
int_has_code z c more (int_and_byte code b0 number i l e) = code_and_byte c i
int_has_code z c more (int_and_two code b1 b0 number i k l e) = code_and_two c i
int_has_code z c more (int_whole b3 b2 b1 b0 number f e) = refl

no_int_below : (lo hi c : ℕ) → IsCode lo hi c → hi < 0x80 → is_int_code c ≡ true → c ≡ 0x49
no_int_below lo hi c i h e = grind (arith, nat_tests, i.above, i.below)

no_int_above : (lo hi c : ℕ) → IsCode lo hi c → 0xd7 < lo → is_int_code c ≡ true → ⊥
no_int_above lo hi c i h e = grind (arith, nat_tests, i.above, i.below)

-- what begins with such a code is an int
pub int_by_code : (v : Scalar) (c : ℕ) (more : List ℕ) → is_int_code c ≡ true → ScalarSpelling v (c ∷ more) → (z : ℤ) × (v ≡ scalars.Int z)
int_by_code v c more e null = absurd cc
int_by_code v c more e no = absurd cc
int_by_code v c more e yes = absurd cc
int_by_code v c more e (int_in_code code z i p) = (z, refl)
int_by_code v c more e (int_and_byte code b0 z i l p) = (z, refl)
int_by_code v c more e (int_and_two code b1 b0 z i k l p) = (z, refl)
int_by_code v c more e (int_whole b3 b2 b1 b0 z f p) = (z, refl)
int_by_code v c more e (long_in_code code z i p) = absurd (no_int_above _ _ c i (omega arith) e)
int_by_code v c more e (long_and_byte code b0 z i l p) = absurd (no_int_above _ _ c i (omega arith) e)
int_by_code v c more e (long_and_two code b1 b0 z i k l p) = absurd (omega (arith, no_int_below _ _ c i (omega arith) e, i.below))
int_by_code v c more e (long_as_int b3 b2 b1 b0 z f p) = absurd cc
int_by_code v c more e (long_whole b7 b6 b5 b4 b3 b2 b1 b0 z g f p) = absurd cc
int_by_code v c more e (date_in_millis b7 b6 b5 b4 b3 b2 b1 b0 z g f p) = absurd cc
int_by_code v c more e (date_in_minutes b3 b2 b1 b0 z f p) = absurd cc

-- such a code begins an int
outside : (c : ℕ) → is_int_code c ≡ true → is_in_range 0x80 0xbf c ≡ false → is_in_range 0xc0 0xcf c ≡ false → is_in_range 0xd0 0xd7 c ≡ false → c ≡ 0x49
outside c e h i j = grind (arith, nat_tests)

pub begins_int : (c : ℕ) → is_int_code c ≡ true → BeginsInt c
begins_int c e = by_range (is_in_range 0x80 0xbf c) refl (is_in_range 0xc0 0xcf c) refl (is_in_range 0xd0 0xd7 c) refl
  where
    whole : c ≡ 0x49 → BeginsInt c
    whole h = record { number = int_of (0 ∷ 0 ∷ 0 ∷ 0 ∷ []); more = 0 ∷ 0 ∷ 0 ∷ 0 ∷ []; spells = rw h (int_whole 0 0 0 0 _ (record { highest = omega arith; high = omega arith; low = omega arith; lowest = omega arith }) refl) }

    by_range : (p : Bool) → is_in_range 0x80 0xbf c ≡ p → (q : Bool) → is_in_range 0xc0 0xcf c ≡ q → (r : Bool) → is_in_range 0xd0 0xd7 c ≡ r → BeginsInt c
    by_range true h q i r j = record { number = _; more = []; spells = int_in_code c _ (inside _ _ c h) refl }
    by_range false h true i r j = record { number = _; more = 0 ∷ []; spells = int_and_byte c 0 _ (inside _ _ c i) (omega arith) refl }
    by_range false h false i true j = record { number = _; more = 0 ∷ 0 ∷ []; spells = int_and_two c 0 0 _ (inside _ _ c j) (omega arith) (omega arith) refl }
    by_range false h false i false j = whole (outside c e h i j)

other_code : (c : ℕ) → BeginsNoInt c → is_int_code c ≡ false
other_code c h = by_test (is_int_code c) refl
  where
    by_test : (b : Bool) → is_int_code c ≡ b → is_int_code c ≡ false
    by_test true e = let begun = begins_int c e in absurd (h begun.number begun.more begun.spells)
    by_test false e = e

pub begins_int_iff : (c : ℕ) → (is_int_code c ≡ true) ↔ BeginsInt c
begins_int_iff c = (begins_int c, λ b. int_has_code b.number c b.more b.spells)

pub only_ints : (v : Scalar) (c : ℕ) (more : List ℕ) → BeginsInt c → ScalarSpelling v (c ∷ more) → IsInt v
only_ints v c more b s =
    let i = int_by_code v c more (int_has_code b.number c b.more b.spells) s in
    record { number = i.0; is = i.1 }

-- ---- the answers, in bytes of which there are so many and of which `rest` stands from the place on

pub get-drop : (at : ℕ) (bytes : List ℕ) → slice_get (drop at bytes) 0 ≡ slice_get bytes at
get-drop zero bytes = refl
get-drop (suc at) [] = refl
get-drop (suc at) (b ∷ bytes) = get-drop at bytes

-- the answer behind a code: by whether it is an int's
behind_int : (at total c : ℕ) (bs : List ℕ) → is_int_code c ≡ true → int_at at total (c ∷ bs) ≡ int_placed at total (front_of (c ∷ bs))
unfolding int_at
behind_int at total c bs e = rw (eqb-suc-zero (length bs), e) refl

behind_other : (at total c : ℕ) (bs : List ℕ) → is_int_code c ≡ false → int_at at total (c ∷ bs) ≡ Err (faults.Other at c)
unfolding int_at
behind_other at total c bs e = rw (eqb-suc-zero (length bs), e) refl

behind_nothing : (at total : ℕ) → int_at at total [] ≡ Err (faults.Short total)
unfolding int_at
behind_nothing at total = refl

-- the int that is spelled by so many bytes of the rest
record IsIntIn (rest : List ℕ) (z : ℤ) (len : ℕ) : Type 0 where
  pub within : len ≤ length rest
  pub spells : ScalarSpelling (scalars.Int z) (take len rest)

-- what an answer means
abbrev Means : (at total : ℕ) → List ℕ → Result (ℤ × ℕ) ScalarFault → Type 0
Means at total rest (Ok r) = (len : ℕ) × (r.1 ≡ at + len) × IsIntIn rest r.0 len
Means at total rest (Err (faults.Short place)) = (place ≡ total) × IsIntPrefix rest
Means at total rest (Err (faults.Double place c)) = ⊥
Means at total rest (Err (faults.Other place c)) = (place ≡ at) × (slice_get rest 0 ≡ Some c) × BeginsNoInt c

as_int : (v : Scalar) (z : ℤ) (bytes : List ℕ) → v ≡ scalars.Int z → ScalarSpelling v bytes → ScalarSpelling (scalars.Int z) bytes
as_int v z bytes e s = rw (← e) s

int_prefix : (c : ℕ) (bs : List ℕ) → is_int_code c ≡ true → IsProperPrefix (c ∷ bs) → IsIntPrefix (c ∷ bs)
int_prefix c bs e p =
    let i = int_by_code p.value c (bs ++ p.more) e p.spells in
    record { number = i.0; more = p.more; lacks = p.lacks; spells = as_int p.value i.0 (c ∷ (bs ++ p.more)) i.1 p.spells }

-- what is behind an int's code is an int, or the beginning of one
no_other : (c : ℕ) (bs : List ℕ) (v : Scalar) (len : ℕ) → is_int_code c ≡ true → ScalarSpelling v (take len (c ∷ bs)) → (z : ℤ) × (v ≡ scalars.Int z)
no_other c bs v zero e s = absurd (omega (arith, has_code v _ s))
no_other c bs v (suc n) e s = int_by_code v c (take n bs) e s

double_no_int : (c : ℕ) → is_int_code c ≡ true → IsDoubleCode c → ⊥
double_no_int c e (inl p) = let q : is_int_code c ≡ false = rw p refl in cc
double_no_int c e (inr i) = omega (arith, no_int_below _ _ c i (omega arith) e, i.above)

placed_means : (at total c : ℕ) (bs : List ℕ) (f : Front) → is_int_code c ≡ true → Shows (c ∷ bs) f → Means at total (c ∷ bs) (int_placed at total f)
placed_means at total c bs (fronts.Whole (scalars.Int z) len) e s = (len, refl, record { within = s.0; spells = s.1 })
placed_means at total c bs (fronts.Whole scalars.Null len) e s = let i = no_other c bs _ len e s.1 in absurd (cc (i.1))
placed_means at total c bs (fronts.Whole (scalars.Bool b) len) e s = let i = no_other c bs _ len e s.1 in absurd (cc (i.1))
placed_means at total c bs (fronts.Whole (scalars.Long z) len) e s = let i = no_other c bs _ len e s.1 in absurd (cc (i.1))
placed_means at total c bs (fronts.Whole (scalars.Date z) len) e s = let i = no_other c bs _ len e s.1 in absurd (cc (i.1))
placed_means at total c bs fronts.Part e s = (refl, int_prefix c bs e s)
placed_means at total c bs (fronts.Double d) e s =
    let same : c ≡ d = cc (s.0) in
    absurd (double_no_int c e (rw same s.1))
placed_means at total c bs (fronts.Other d) e s =
    let same : c ≡ d = cc (s.0) in
    let begun = begins_int c e in
    absurd (s.1.no_scalar (scalars.Int begun.number) begun.more (rw (← same) begun.spells))

means : (at total : ℕ) (rest : List ℕ) → IsBytes rest → Means at total rest (int_at at total rest)
means at total [] fits = rw (behind_nothing at total) (refl, record { number = _; more = 0x90 ∷ []; lacks = λ e. absurd cc; spells = int_in_code 0x90 _ (record { above = omega arith; below = omega arith }) refl })
means at total (c ∷ bs) fits = by_code (is_int_code c) refl
  where
    by_code : (b : Bool) → is_int_code c ≡ b → Means at total (c ∷ bs) (int_at at total (c ∷ bs))
    by_code true e = rw (behind_int at total c bs e) (placed_means at total c bs (front_of (c ∷ bs)) e (shown (c ∷ bs) fits))
    by_code false e = rw (behind_other at total c bs e) (refl, refl, λ z more s. let f = int_has_code z c more s in absurd cc)

answers_int : (at total : ℕ) (rest : List ℕ) (z : ℤ) (len : ℕ) → IsIntIn rest z len → int_at at total rest ≡ Ok (z, at + len)
answers_int at total [] z len i = absurd (omega (arith, has_code _ _ i.spells, length-take {A = ℕ} len []))
answers_int at total (c ∷ bs) z zero i = absurd (omega (arith, has_code _ _ i.spells))
answers_int at total (c ∷ bs) z (suc n) i =
    let code = int_has_code z c (take n bs) i.spells in
    rw (behind_int at total c bs code, found (c ∷ bs) (scalars.Int z) (suc n) i.within i.spells) refl

answers_short : (at total : ℕ) (rest : List ℕ) → IsIntPrefix rest → int_at at total rest ≡ Err (faults.Short total)
answers_short at total [] p = behind_nothing at total
answers_short at total (c ∷ bs) p =
    let code = int_has_code p.number c (bs ++ p.more) p.spells in
    rw (behind_int at total c bs code, part (c ∷ bs) (record { value = scalars.Int p.number; more = p.more; lacks = p.lacks; spells = p.spells })) refl

answers_other : (at total : ℕ) (rest : List ℕ) (c : ℕ) → slice_get rest 0 ≡ Some c → BeginsNoInt c → int_at at total rest ≡ Err (faults.Other at c)
answers_other at total [] c g n = absurd cc
answers_other at total (d ∷ bs) c g n =
    let same : d ≡ c = cc in
    rw (← same) (behind_other at total d bs (other_code d (rw same n)))

-- ---- the four clauses

module _ (bytes : List ℕ) (at : ℕ) (starts : at ≤ length bytes) (are_bytes : IsBytes bytes) where
  abbrev answer : Result (ℤ × ℕ) ScalarFault
  answer = int_at at (length bytes) (drop at bytes)

  answer_means : (r : Result (ℤ × ℕ) ScalarFault) → answer ≡ r → Means at (length bytes) (drop at bytes) r
  answer_means r e = subst (Means at (length bytes) (drop at bytes)) e (means at (length bytes) (drop at bytes) (IsBytes-drop at bytes are_bytes))

  pub ok_iff : (v : ℤ) (end : ℕ) → (answer ≡ Ok (v, end)) ↔ IsSpelledAt bytes at (scalars.Int v) end
  ok_iff v end = (
    λ e.
        let m = answer_means (Ok (v, end)) e in
        let len : end - at ≡ m.0 = omega (arith, m.1) in
        record { within = omega (arith, m.1, m.2.within, length-drop at bytes); spells = rw len m.2.spells },
    λ s.
        let filled = has_code _ _ s.spells in
        let after : at + (end - at) ≡ end = omega (arith, filled, length-take (end - at) (drop at bytes)) in
        answers_int at (length bytes) (drop at bytes) v (end - at) (record { within = omega (arith, s.within, length-drop at bytes); spells = s.spells }) ∙ ap (λ (k : ℕ). Ok (v, k)) after,
  )

  pub short_iff : (place : ℕ) → (answer ≡ Err (faults.Short place)) ↔ ((place ≡ length bytes) × IsIntPrefix (drop at bytes))
  short_iff place = (
    λ e. answer_means (Err (faults.Short place)) e,
    λ p. answers_short at (length bytes) (drop at bytes) p.1 ∙ ap (λ (k : ℕ). Err (faults.Short k)) (sym p.0),
  )

  pub other_iff : (place code : ℕ) → (answer ≡ Err (faults.Other place code)) ↔ ((place ≡ at) × (slice_get bytes at ≡ Some code) × BeginsNoInt code)
  other_iff place code = (
    λ e. let m = answer_means (Err (faults.Other place code)) e in (m.0, sym (get-drop at bytes) ∙ m.1, m.2),
    λ p. rw p.0 (answers_other at (length bytes) (drop at bytes) code (get-drop at bytes ∙ p.1) p.2),
  )

  pub no_double : (place code : ℕ) → answer ≡ Err (faults.Double place code) → ⊥
  no_double place code e = answer_means (Err (faults.Double place code)) e
