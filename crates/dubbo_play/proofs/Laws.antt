-- Bytes are a script or are refused at one line, and not both; a script has one list of calls.
use Rattle.std.proofs.Common.{◌≡◌, ◌≢◌, ◌⊎◌, ℕ, ◌<◌, List, [], ◌∷◌, ◌++◌, length, refl, sym, ap, subst, ◌∙◌, inl, inr, arith, append_assoc}
use Rattle.std.proofs.lemmas.List.{same_from_push}
use Rattle.dubbo_play.specs.FirstForm.{Call, Line, Says, calls_in}
use Rattle.dubbo_play.specs.FirstScript.{HaveCalls, IsFirstOther, IsOfFirstForm, Reads, lines_of}
use Rattle.dubbo_play.specs.FirstScript.HaveCalls.{none, more}
use Rattle.dubbo_play.proofs.Lines.{says_once}

-- a list with something behind it isn't empty
filled : {X : Type 0} (xs ys : List X) (x : X) → [] ≢ xs ++ x ∷ ys
filled [] ys x same = cc
filled (y ∷ xs) ys x same = cc

-- a list is empty, or has a last element
last_of : {X : Type 0} (xs : List X) → (xs ≡ []) ⊎ ((front : List X) × (x : X) × (xs ≡ front ++ x ∷ []))
last_of [] = inl refl
last_of (x ∷ xs) = elim (last_of xs) [
  | inl alone ↦ inr ([], x, ap (λ ys. x ∷ ys) alone)
  | inr parts ↦ inr (x ∷ parts.0, parts.1, ap (λ ys. x ∷ ys) parts.2)
]

-- equal lines have equal calls
same_calls : (lines lines' : List (List ℕ)) (calls calls' : List Call) → HaveCalls lines calls → HaveCalls lines' calls' → lines ≡ lines' → calls ≡ calls'
same_calls _ _ _ _ none none same = refl
same_calls _ _ _ _ none (more before calls line says have is) same = absurd (filled before [] line same)
same_calls _ _ _ _ (more before calls line says have is) none same = absurd (filled before [] line (sym same))
same_calls _ _ _ _ (more before calls line says have is) (more before' calls' line' says' have' is') same =
    let parts = same_from_push before before' line line' same in
    let fronts : calls ≡ calls' = same_calls before before' calls calls' have have' parts.0 in
    let lasts : says ≡ says' = says_once line says says' is.written (subst (λ l. Says l says') (sym parts.1) is'.written) in
    ap (λ c. c ++ calls_in says) fronts ∙ ap (λ s. calls' ++ calls_in s) lasts

-- lines that have calls have them at each front, and each next line is of the first form
fronts_good : (lines before : List (List ℕ)) (line : List ℕ) (after : List (List ℕ)) (calls some : List Call)
    → HaveCalls lines calls → lines ≡ before ++ line ∷ after → HaveCalls before some
    → (says : Line) × IsOfFirstForm before (length some) line says
fronts_good _ before line after _ some none same have = absurd (filled before after line same)
fronts_good _ before line after _ some (more before' calls line' says have' is) same have = elim (last_of after) [
  | inl end ↦
      let parts = same_from_push before' before line' line (same ∙ ap (λ t. before ++ line ∷ t) end) in
      let fronts = same_calls before' before calls some have' have parts.0 in (
        says,
        subst (λ l. IsOfFirstForm before (length some) l says) parts.1
            (subst (λ c. IsOfFirstForm before (length c) line' says) fronts
            (subst (λ b. IsOfFirstForm b (length calls) line' says) parts.0 is)),
      )
  | inr tail ↦
      let whole = same ∙ ap (λ t. before ++ line ∷ t) tail.2 ∙ sym (append_assoc before (line ∷ tail.0) (tail.1 ∷ [])) in
      fronts_good before' before line tail.0 calls some have' (same_from_push before' (before ++ line ∷ tail.0) line' tail.1 whole).0 have
]

-- the public laws
pub calls_once : (bytes : List ℕ) (calls calls' : List Call) → Reads bytes calls → Reads bytes calls' → calls ≡ calls'
calls_once bytes calls calls' one other = same_calls (lines_of bytes) (lines_of bytes) calls calls' one other refl

pub read_or_refused : (bytes : List ℕ) (calls : List Call) (number : ℕ) → Reads bytes calls → ¬ IsFirstOther bytes number
read_or_refused bytes calls number reads refused =
    let found = fronts_good (lines_of bytes) refused.before refused.line refused.after calls refused.calls reads refused.cut refused.good in
    refused.other found.0 found.1

-- a longer front of the same list goes on behind a shorter one
longer : {X : Type 0} (xs ys r s : List X) (x : X) → xs ++ x ∷ r ≡ ys ++ s → length xs < length ys → (mid : List X) × (ys ≡ xs ++ x ∷ mid)
longer xs [] r s x same less = absurd (omega arith)
longer [] (y ∷ ys) r s x same less = let heads : x ≡ y = cc in (ys, ap (λ z. z ∷ ys) (sym heads))
longer (x' ∷ xs) (y ∷ ys) r s x same less =
    let heads : x' ≡ y = cc in
    let tails : xs ++ x ∷ r ≡ ys ++ s = cc in
    let found = longer xs ys r s x tails (omega arith) in
    (found.0, ap (λ z. z ∷ ys) (sym heads) ∙ ap (λ zs. x' ∷ zs) found.1)

-- a first other line stands behind no other
not_before : (bytes : List ℕ) (one other : ℕ) (a : IsFirstOther bytes one) (b : IsFirstOther bytes other) → ¬ (length a.before < length b.before)
not_before bytes one other a b less =
    let front = longer a.before b.before a.after (b.line ∷ b.after) a.line (sym a.cut ∙ b.cut) less in
    let found = fronts_good b.before a.before a.line front.0 b.calls a.calls b.good front.1 a.good in
    a.other found.0 found.1

pub refused_once : (bytes : List ℕ) (one other : ℕ) → IsFirstOther bytes one → IsFirstOther bytes other → one ≡ other
refused_once bytes one other a b =
    let up : ¬ (length a.before < length b.before) = not_before bytes one other a b in
    let down : ¬ (length b.before < length a.before) = not_before bytes other one b a in
    omega (arith, a.counted, b.counted, up, down)
