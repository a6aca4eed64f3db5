-- What a reader finds at the front of bytes, and why.
use Rattle.std.proofs.Common.{◌≡◌, ℕ, zero, suc, ◌+◌, ◌-◌, ◌<◌, ◌≤◌, Bool, true, false, ltb, List, [], ◌∷◌, ◌++◌, length, take, drop, replicate, Some, refl, ap, ◌∙◌, arith}
use Rattle.std.specs.Prelude.{slice_get}
use Rattle.std.proofs.lemmas.Bool.{le-ltb, lt-ltb, ltb-true, ltb-false}
use Rattle.std.proofs.Math.Dec.{eqb-suc-zero}
use Rattle.std.proofs.lemmas.List.{length-append, length-take, length-replicate, get_or-drop}
use Rattle.hessian_scalars.specs.declared.scalar.Scalar.{Scalar}
use Rattle.hessian_scalars.specs.declared.scalar.Scalar.TheVariants as scalars
use Rattle.hessian_scalars.specs.declared.code.Opening.{Opening}
use Rattle.hessian_scalars.specs.declared.code.Opening.TheVariants as openings
use Rattle.hessian_scalars.specs.declared.front.Front.{Front}
use Rattle.hessian_scalars.specs.declared.front.Front.TheVariants as fronts
use Rattle.hessian_scalars.specs.ScalarSpelling.{ScalarSpelling, IsDoubleCode}
use Rattle.hessian_scalars.specs.ScalarSpelling.ScalarSpelling.{null}
use Rattle.hessian_scalars.specs.Read.{IsProperPrefix, BeginsNothing}
use Rattle.hessian_scalars.specs.Codes.{opening_of, value_of, front_by, front_of}
use Rattle.hessian_scalars.proofs.Rows.{opens_double, complete}
use Rattle.hessian_scalars.proofs.Whole.{IsBytes, by_rows, length_opened, sound}

-- the front of bytes that begin with a code
pub front_behind : (c : ℕ) (bs : List ℕ) → front_of (c ∷ bs) ≡ front_by (opening_of c) c (c ∷ bs)
unfolding front_of
front_behind c bs = rw (eqb-suc-zero (length bs)) refl

-- ---- what is spelled is found

-- a spelling has a code
pub has_code : (v : Scalar) (s : List ℕ) → ScalarSpelling v s → 0 < length s
has_code v s spells = let w = complete v s spells in (length_opened _ _ w.opens).some

found_behind : (v : Scalar) (n c : ℕ) (bs : List ℕ) → suc n ≤ length (c ∷ bs) → ScalarSpelling v (c ∷ take n bs) → front_of (c ∷ bs) ≡ fronts.Whole v (suc n)
found_behind v n c bs l s =
    let w = complete v (c ∷ take n bs) s in
    let len : suc (length (take n bs)) ≡ suc n = omega (arith, length-take n bs) in
    let opens : opening_of c ≡ openings.Spelling (suc n) = w.opens ∙ ap openings.Spelling len in
    let enough : ltb (length (c ∷ bs)) (suc n) ≡ false = le-ltb _ _ l in
    rw (front_behind c bs, opens, enough) (ap (λ (x : Scalar). fronts.Whole x (suc n)) w.value)

pub found : (rest : List ℕ) (v : Scalar) (n : ℕ) → n ≤ length rest → ScalarSpelling v (take n rest) → front_of rest ≡ fronts.Whole v n
found [] v n l s = absurd (omega (arith, has_code v _ s, length-take {A = ℕ} n []))
found (c ∷ bs) v zero l s = absurd (omega (arith, has_code v _ s))
found (c ∷ bs) v (suc n) l s = found_behind v n c bs l s

-- ---- the beginning of a spelling is found as such

pub filled : (more : List ℕ) → (more ≡ [] → ⊥) → 0 < length more
filled [] h = absurd (h refl)
filled (b ∷ more) h = omega arith

pub part : (rest : List ℕ) → IsProperPrefix rest → front_of rest ≡ fronts.Part
unfolding front_of
part [] p = refl
part (c ∷ bs) p =
    let w = complete p.value (c ∷ (bs ++ p.more)) p.spells in
    let more : 0 < length p.more = filled p.more p.lacks in
    let few : ltb (length (c ∷ bs)) (length (c ∷ (bs ++ p.more))) ≡ true = lt-ltb _ _ (omega (arith, length-append bs p.more)) in
    rw (front_behind c bs, w.opens, few) refl

pub double : (c : ℕ) (bs : List ℕ) → IsDoubleCode c → front_of (c ∷ bs) ≡ fronts.Double c
double c bs d = rw (front_behind c bs, opens_double c d) refl

-- ---- what is found has its cause

abbrev pub Shows : List ℕ → Front → Type 0
Shows bytes (fronts.Whole v len) = (len ≤ length bytes) × ScalarSpelling v (take len bytes)
Shows bytes fronts.Part = IsProperPrefix bytes
Shows bytes (fronts.Double c) = (slice_get bytes 0 ≡ Some c) × IsDoubleCode c
Shows bytes (fronts.Other c) = (slice_get bytes 0 ≡ Some c) × BeginsNothing c

IsBytes-take : (n : ℕ) (bytes : List ℕ) → IsBytes bytes → IsBytes (take n bytes)
IsBytes-take zero bytes h i = omega arith
IsBytes-take (suc n) [] h i = omega arith
IsBytes-take (suc n) (b ∷ bytes) h zero = h 0
IsBytes-take (suc n) (b ∷ bytes) h (suc i) = IsBytes-take n bytes (λ j. h (suc j)) i

pub IsBytes-drop : (n : ℕ) (bytes : List ℕ) → IsBytes bytes → IsBytes (drop n bytes)
IsBytes-drop n bytes h i = rw get_or-drop (h (n + i))

-- filled up with bytes of zero
IsBytes-filled : (n : ℕ) (bytes : List ℕ) → IsBytes bytes → IsBytes (bytes ++ replicate n 0)
IsBytes-filled zero [] h i = omega arith
IsBytes-filled (suc n) [] h zero = omega arith
IsBytes-filled (suc n) [] h (suc i) = IsBytes-filled n [] h i
IsBytes-filled n (b ∷ bytes) h zero = h 0
IsBytes-filled n (b ∷ bytes) h (suc i) = IsBytes-filled n bytes (λ j. h (suc j)) i

whole_shown : (c n : ℕ) (bs : List ℕ) → opening_of c ≡ openings.Spelling (suc n) → suc n ≤ length (c ∷ bs) → IsBytes (c ∷ bs) → ScalarSpelling (value_of (take (suc n) (c ∷ bs))) (take (suc n) (c ∷ bs))
whole_shown c n bs o l fits =
    let len : suc n ≡ suc (length (take n bs)) = omega (arith, length-take n bs) in
    sound c (take n bs) (o ∙ ap openings.Spelling len) (IsBytes-take (suc n) (c ∷ bs) fits)

part_shown : (c len : ℕ) (bs : List ℕ) → opening_of c ≡ openings.Spelling len → length (c ∷ bs) < len → IsBytes (c ∷ bs) → IsProperPrefix (c ∷ bs)
part_shown c len bs o l fits =
    let more : List ℕ = replicate (len - length (c ∷ bs)) 0 in
    let lacking : length more ≡ len - length (c ∷ bs) = length-replicate _ _ in
    let whole : len ≡ suc (length (bs ++ more)) = omega (arith, length-append bs more) in
    record {
      value = value_of (c ∷ (bs ++ more));
      more = more;
      lacks = λ e. absurd (omega (arith, ap length e));
      spells = sound c (bs ++ more) (o ∙ ap openings.Spelling whole) (IsBytes-filled _ (c ∷ bs) fits);
    }

spelling_shown : (c len : ℕ) (bs : List ℕ) → opening_of c ≡ openings.Spelling len → IsBytes (c ∷ bs) → Shows (c ∷ bs) (front_by (openings.Spelling len) c (c ∷ bs))
spelling_shown c zero bs o fits = absurd (omega (arith, (length_opened c zero o).some))
spelling_shown c (suc n) bs o fits = by_room (ltb (length (c ∷ bs)) (suc n)) refl
  where
    by_room : (b : Bool) → ltb (length (c ∷ bs)) (suc n) ≡ b → Shows (c ∷ bs) (front_by (openings.Spelling (suc n)) c (c ∷ bs))
    by_room true e = rw e (part_shown c (suc n) bs o (ltb-true _ _ e) fits)
    by_room false e = rw e (ltb-false _ _ e, whole_shown c n bs o (ltb-false _ _ e) fits)

-- a code that opens nothing begins nothing
nothing_begun : (c : ℕ) → opening_of c ≡ openings.Nothing → BeginsNothing c
nothing_begun c o = record {
  no_scalar = λ v more s. let w = complete v (c ∷ more) s in absurd cc;
  no_double = λ d. let e = opens_double c d in absurd cc;
}

-- a code that opens a double is a double's
double_opened : (c : ℕ) → opening_of c ≡ openings.Double → IsDoubleCode c
double_opened c = by_rows Opened (record {
  ones = λ c i e. absurd cc;
  twos = λ c i e. absurd cc;
  threes = λ c i e. absurd cc;
  long_ones = λ c i e. absurd cc;
  long_twos = λ c i e. absurd cc;
  long_threes = λ c i e. absurd cc;
  int = λ e. absurd cc;
  millis = λ e. absurd cc;
  minutes = λ e. absurd cc;
  long = λ e. absurd cc;
  long_int = λ e. absurd cc;
  f = λ e. absurd cc;
  n = λ e. absurd cc;
  t = λ e. absurd cc;
  doubles = λ c d e. d;
  others = λ c e. absurd cc;
}) c
  where
    Opened : ℕ → Opening → Type 0
    Opened c o = o ≡ openings.Double → IsDoubleCode c

shown_by : (c : ℕ) (bs : List ℕ) (o : Opening) → opening_of c ≡ o → IsBytes (c ∷ bs) → Shows (c ∷ bs) (front_by o c (c ∷ bs))
shown_by c bs (openings.Spelling len) e fits = spelling_shown c len bs e fits
shown_by c bs openings.Double e fits = (refl, double_opened c e)
shown_by c bs openings.Nothing e fits = (refl, nothing_begun c e)

pub shown : (bytes : List ℕ) → IsBytes bytes → Shows bytes (front_of bytes)
unfolding front_of
shown [] fits = record { value = scalars.Null; more = 0x4e ∷ []; lacks = λ e. absurd cc; spells = null }
shown (c ∷ bs) fits = rw (eqb-suc-zero (length bs)) (shown_by c bs (opening_of c) refl fits)
