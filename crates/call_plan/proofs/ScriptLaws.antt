-- Bytes are a script in one way, or are refused for one cause, and not both.
use Rattle.std.proofs.Common.{◌≡◌, ◌≢◌, ◌⊎◌, ℕ, suc, ◌<◌, List, [], ◌∷◌, ◌++◌, length, refl, sym, ap, subst, ◌∙◌, inl, inr, arith, append_assoc}
use Rattle.std.specs.Prelude.{All}
use Rattle.std.proofs.lemmas.List.{same_from_push}
use Rattle.service_table.specs.declared.row.Row.{Row}
use Rattle.call_plan.specs.declared.calls.Call.{Call}
use Rattle.call_plan.specs.declared.fault.ScriptFault.{ScriptFault}
use Rattle.call_plan.specs.declared.fault.ScriptFault.TheVariants.{BadLine, TooManyCalls, TooLarge, OutOfMemory}
use Rattle.call_plan.specs.LineForms.{Line, Says, ask}
use Rattle.call_plan.specs.Size.{IsSmall, IsFirstLarge, IsTooLarge}
use Rattle.call_plan.specs.ScriptLines.{lines_of, HaveLines, IsGoodLine, IsCallTooMany, RefusesLine, rows_in, calls_in, MayFollow}
use Rattle.call_plan.specs.ScriptLines.HaveLines.{none, more}
use Rattle.call_plan.specs.ScriptReading.{Plan, IsScript, IsRefusedAtLine, Refuses}
use Rattle.call_plan.proofs.Saying.{says_once, begun_says}

-- a list with something behind it isn't empty
filled : {X : Type 0} (xs ys : List X) (x : X) → [] ≢ xs ++ x ∷ ys
filled [] ys x same = cc
filled (y ∷ xs) ys x same = cc

-- a list is empty, or has a last element
last_of : {X : Type 0} (xs : List X) → (xs ≡ []) ⊎ ((front : List X) × (x : X) × (xs ≡ front ++ x ∷ []))
last_of [] = inl refl
last_of (x ∷ xs) = elim (last_of xs) [
  | inl alone ↦ inr ([], x, ap (λ ys. x ∷ ys) alone)
  | inr parts ↦ inr (x ∷ parts.0, parts.1, ap (λ ys. x ∷ ys) parts.2)
]

-- the services and calls of lines
record Same (rows rows' : List Row) (calls calls' : List Call) : Type 0 where
  pub of_rows : rows ≡ rows'
  pub of_calls : calls ≡ calls'

-- equal lines have equal services and calls
same_lines : (lines lines' : List (List ℕ)) (rows rows' : List Row) (calls calls' : List Call) → HaveLines lines rows calls → HaveLines lines' rows' calls' → lines ≡ lines' → Same rows rows' calls calls'
same_lines _ _ _ _ _ _ none none same = record { of_rows = refl; of_calls = refl }
same_lines _ _ _ _ _ _ none (more before rows calls text line have good) same = absurd (filled before [] text same)
same_lines _ _ _ _ _ _ (more before rows calls text line have good) none same = absurd (filled before [] text (sym same))
same_lines _ _ _ _ _ _ (more before rows calls text line have good) (more before' rows' calls' text' line' have' good') same =
    let parts = same_from_push before before' text text' same in
    let fronts : Same rows rows' calls calls' = same_lines before before' rows rows' calls calls' have have' parts.0 in
    let there : Says (suc (length before)) text line' = subst (λ t. Says (suc (length before)) t line') (sym parts.1)
    (subst (λ n. Says n text' line') (ap (λ b. suc (length b)) (sym parts.0)) good'.says) in
    let lasts : line ≡ line' = says_once (suc (length before)) text line line' good.says there in
    record {
      of_rows = ap (λ r. r ++ rows_in line) fronts.of_rows ∙ ap (λ l. rows' ++ rows_in l) lasts;
      of_calls = ap (λ c. c ++ calls_in line) fronts.of_calls ∙ ap (λ l. calls' ++ calls_in l) lasts;
    }

-- lines that have services and calls have them at each front, and each next line is good
fronts_good : (lines before : List (List ℕ)) (text : List ℕ) (after : List (List ℕ)) (rows some_rows : List Row) (calls some : List Call)
    → HaveLines lines rows calls → lines ≡ before ++ text ∷ after → HaveLines before some_rows some
    → (line : Line) × IsGoodLine some_rows some (suc (length before)) text line
fronts_good _ before text after _ some_rows _ some none same have = absurd (filled before after text same)
fronts_good _ before text after _ some_rows _ some (more before' rows calls text' line have' good) same have = elim (last_of after) [
  | inl end ↦
      let parts = same_from_push before' before text' text (same ∙ ap (λ t. before ++ text ∷ t) end) in
      let fronts : Same rows some_rows calls some = same_lines before' before rows some_rows calls some have' have parts.0 in (
        line,
        subst (λ t. IsGoodLine some_rows some (suc (length before)) t line) parts.1
            (subst (λ b. IsGoodLine some_rows some (suc (length b)) text' line) parts.0
            (subst (λ c. IsGoodLine some_rows c (suc (length before')) text' line) fronts.of_calls
            (subst (λ r. IsGoodLine r calls (suc (length before')) text' line) fronts.of_rows good))),
      )
  | inr tail ↦
      let whole = same ∙ ap (λ t. before ++ text ∷ t) tail.2 ∙ sym (append_assoc before (text ∷ tail.0) (tail.1 ∷ [])) in
      fronts_good before' before text tail.0 rows some_rows calls some have' (same_from_push before' (before ++ text ∷ tail.0) text' tail.1 whole).0 have
]

-- a longer front of the same list goes on behind a shorter one
longer : {X : Type 0} (xs ys r s : List X) (x : X) → xs ++ x ∷ r ≡ ys ++ s → length xs < length ys → (mid : List X) × (ys ≡ xs ++ x ∷ mid)
longer xs [] r s x same less = absurd (omega arith)
longer [] (y ∷ ys) r s x same less = let heads : x ≡ y = cc in (ys, ap (λ z. z ∷ ys) (sym heads))
longer (x' ∷ xs) (y ∷ ys) r s x same less =
    let heads : x' ≡ y = cc in
    let tails : xs ++ x ∷ r ≡ ys ++ s = cc in
    let found = longer xs ys r s x tails (omega arith) in
    (found.0, ap (λ z. z ∷ ys) (sym heads) ∙ ap (λ zs. x' ∷ zs) found.1)

-- fronts of one length of the same list are equal, and so is what follows
level : {X : Type 0} (xs ys r s : List X) (x y : X) → xs ++ x ∷ r ≡ ys ++ y ∷ s → length xs ≡ length ys → (xs ≡ ys) × (x ≡ y) × (r ≡ s)
level [] [] r s x y same even = (refl, cc, cc)
level [] (y' ∷ ys) r s x y same even = absurd (omega arith)
level (x' ∷ xs) [] r s x y same even = absurd (omega arith)
level (x' ∷ xs) (y' ∷ ys) r s x y same even =
    let heads : x' ≡ y' = cc in
    let tails : xs ++ x ∷ r ≡ ys ++ y ∷ s = cc in
    let rest = level xs ys r s x y tails (omega arith) in
    (ap (λ z. z ∷ xs) heads ∙ ap (λ zs. y' ∷ zs) rest.0, rest.1, rest.2)

-- a cause for which a line is refused
abbrev IsOfLine : ScriptFault → Type 0
IsOfLine (BadLine line) = Unit {0}
IsOfLine (TooManyCalls line) = Unit {0}
IsOfLine (TooLarge line) = ⊥
IsOfLine OutOfMemory = ⊥

-- a call too many is no good line
too_many_never_good : (rows : List Row) (calls : List Call) (number : ℕ) (text : List ℕ) → IsCallTooMany calls text → (line : Line) → ¬ IsGoodLine rows calls number text line
too_many_never_good rows calls number text many line good =
    let a = begun_says number text line many.begins good.says in
    let placed : MayFollow rows calls (ask a.0) = subst (MayFollow rows calls) a.1 good.placed in
    omega (arith, placed, many.full)

-- a line that is refused isn't good
refused_never_good : (rows : List Row) (calls : List Call) (number : ℕ) (text : List ℕ) (fault : ScriptFault) → IsOfLine fault → RefusesLine rows calls number text fault → (line : Line) → ¬ IsGoodLine rows calls number text line
refused_never_good rows calls number text (BadLine l) of p line good = p.1.never_good line good
refused_never_good rows calls number text (TooManyCalls l) of p line good = too_many_never_good rows calls number text p.1 line good
refused_never_good rows calls number text (TooLarge l) of p line good = of
refused_never_good rows calls number text OutOfMemory of p line good = of

-- lines that are good to their end have none that is refused
good_or_refused : (bytes : List ℕ) (rows : List Row) (calls : List Call) (fault : ScriptFault) → IsOfLine fault → HaveLines (lines_of bytes) rows calls → ¬ IsRefusedAtLine bytes fault
good_or_refused bytes rows calls fault of have refused =
    let found = fronts_good (lines_of bytes) refused.before refused.text refused.after rows refused.rows calls refused.calls have refused.cut refused.good in
    refused_never_good refused.rows refused.calls (suc (length refused.before)) refused.text fault of refused.refused found.0 found.1

not_before : (bytes : List ℕ) (one other : ScriptFault) → IsOfLine one → (a : IsRefusedAtLine bytes one) (b : IsRefusedAtLine bytes other) → ¬ (length a.before < length b.before)
not_before bytes one other of a b less =
    let front = longer a.before b.before a.after (b.text ∷ b.after) a.text (sym a.cut ∙ b.cut) less in
    let found = fronts_good b.before a.before a.text front.0 b.rows a.rows b.calls a.calls b.good front.1 a.good in
    refused_never_good a.rows a.calls (suc (length a.before)) a.text one of a.refused found.0 found.1

-- one line has one cause
one_cause : (rows : List Row) (calls : List Call) (number : ℕ) (text : List ℕ) (one other : ScriptFault) → IsOfLine one → IsOfLine other
    → RefusesLine rows calls number text one → RefusesLine rows calls number text other → one ≡ other
one_cause rows calls number text (BadLine l) (BadLine m) of of' p q = ap BadLine (p.0 ∙ sym q.0)
one_cause rows calls number text (BadLine l) (TooManyCalls m) of of' p q = absurd (p.1.another q.1)
one_cause rows calls number text (TooManyCalls l) (BadLine m) of of' p q = absurd (q.1.another p.1)
one_cause rows calls number text (TooManyCalls l) (TooManyCalls m) of of' p q = ap TooManyCalls (p.0 ∙ sym q.0)
one_cause rows calls number text (BadLine l) (TooLarge m) of of' p q = absurd of'
one_cause rows calls number text (BadLine l) OutOfMemory of of' p q = absurd of'
one_cause rows calls number text (TooManyCalls l) (TooLarge m) of of' p q = absurd of'
one_cause rows calls number text (TooManyCalls l) OutOfMemory of of' p q = absurd of'
one_cause rows calls number text (TooLarge l) other of of' p q = absurd of
one_cause rows calls number text OutOfMemory other of of' p q = absurd of

one_line : (bytes : List ℕ) (one other : ScriptFault) → IsOfLine one → IsOfLine other → IsRefusedAtLine bytes one → IsRefusedAtLine bytes other → one ≡ other
one_line bytes one other of of' a b =
    let up : ¬ (length a.before < length b.before) = not_before bytes one other of a b in
    let down : ¬ (length b.before < length a.before) = not_before bytes other one of' b a in
    let even : length a.before ≡ length b.before = omega (arith, up, down) in
    let both = level a.before b.before a.after b.after a.text b.text (sym a.cut ∙ b.cut) even in
    let same : Same a.rows b.rows a.calls b.calls = same_lines a.before b.before a.rows b.rows a.calls b.calls a.good b.good both.0 in
    one_cause b.rows b.calls (suc (length b.before)) b.text one other of of'
    (subst (λ t. RefusesLine b.rows b.calls (suc (length b.before)) t one) both.1
    (subst (λ n. RefusesLine b.rows b.calls (suc n) a.text one) even
    (subst (λ cs. RefusesLine b.rows cs (suc (length a.before)) a.text one) same.of_calls
    (subst (λ rs. RefusesLine rs a.calls (suc (length a.before)) a.text one) same.of_rows a.refused)))) b.refused

-- the first of two large calls
not_behind : (calls : List Call) (l m : ℕ) (a : IsFirstLarge calls l) (b : IsFirstLarge calls m) → ¬ (length a.before < length b.before)
not_behind calls l m a b less =
    let front = longer a.before b.before a.after (b.call ∷ b.after) a.call (sym a.cut ∙ b.cut) less in
    let small : All IsSmall (a.before ++ a.call ∷ front.0) = subst (All IsSmall) front.1 b.small in
    at a.before a.call front.0 small a.large
  where
    at : (xs : List Call) (x : Call) (ys : List Call) → All IsSmall (xs ++ x ∷ ys) → IsTooLarge x.request → ⊥
    at [] x ys all large = all 0 x (omega arith) large
    at (y ∷ xs) x ys all large = at xs x ys (λ k d within. all (suc k) d (omega arith)) large

one_large : (calls : List Call) (l m : ℕ) → IsFirstLarge calls l → IsFirstLarge calls m → l ≡ m
one_large calls l m a b =
    let up : ¬ (length a.before < length b.before) = not_behind calls l m a b in
    let down : ¬ (length b.before < length a.before) = not_behind calls m l b a in
    let even : length a.before ≡ length b.before = omega (arith, up, down) in
    let both = level a.before b.before a.after b.after a.call b.call (sym a.cut ∙ b.cut) even in
    a.place ∙ ap (λ c. c.line) both.1 ∙ sym b.place

-- a call that is too large isn't small
large_or_small : (calls : List Call) (l : ℕ) → IsFirstLarge calls l → ¬ All IsSmall calls
large_or_small calls l a small = at a.before a.call a.after (subst (All IsSmall) a.cut small) a.large
  where
    at : (xs : List Call) (x : Call) (ys : List Call) → All IsSmall (xs ++ x ∷ ys) → IsTooLarge x.request → ⊥
    at [] x ys all large = all 0 x (omega arith) large
    at (y ∷ xs) x ys all large = at xs x ys (λ k d within. all (suc k) d (omega arith)) large

-- the public laws

pub one_reading : (bytes : List ℕ) (p q : Plan) → IsScript bytes p → IsScript bytes q → p ≡ q
one_reading bytes p q a b =
    let same : Same p.services q.services p.calls q.calls = same_lines (lines_of bytes) (lines_of bytes) p.services q.services p.calls q.calls a.lines b.lines refl in
    ap (λ r. record { services = r; calls = p.calls }) same.of_rows ∙ ap (λ c. record { services = q.services; calls = c }) same.of_calls

pub read_or_refused : (bytes : List ℕ) (plan : Plan) (fault : ScriptFault) → fault ≢ OutOfMemory → IsScript bytes plan → Refuses bytes fault → ⊥
read_or_refused bytes plan (BadLine line) other is refused = good_or_refused bytes plan.services plan.calls (BadLine line) tt is.lines refused
read_or_refused bytes plan (TooManyCalls line) other is refused = good_or_refused bytes plan.services plan.calls (TooManyCalls line) tt is.lines refused
read_or_refused bytes plan (TooLarge line) other is refused =
    let same : Same refused.rows plan.services refused.calls plan.calls = same_lines (lines_of bytes) (lines_of bytes) refused.rows plan.services refused.calls plan.calls refused.lines is.lines refl in
    large_or_small refused.calls line refused.first (subst (All IsSmall) (sym same.of_calls) is.small)
read_or_refused bytes plan OutOfMemory other is refused = other refl

pub one_refusal : (bytes : List ℕ) (a b : ScriptFault) → a ≢ OutOfMemory → b ≢ OutOfMemory → Refuses bytes a → Refuses bytes b → a ≡ b
one_refusal bytes (BadLine l) (BadLine m) x y p q = one_line bytes (BadLine l) (BadLine m) tt tt p q
one_refusal bytes (BadLine l) (TooManyCalls m) x y p q = one_line bytes (BadLine l) (TooManyCalls m) tt tt p q
one_refusal bytes (BadLine l) (TooLarge m) x y p q = absurd (good_or_refused bytes q.rows q.calls (BadLine l) tt q.lines p)
one_refusal bytes (BadLine l) OutOfMemory x y p q = absurd (y refl)
one_refusal bytes (TooManyCalls l) (BadLine m) x y p q = one_line bytes (TooManyCalls l) (BadLine m) tt tt p q
one_refusal bytes (TooManyCalls l) (TooManyCalls m) x y p q = one_line bytes (TooManyCalls l) (TooManyCalls m) tt tt p q
one_refusal bytes (TooManyCalls l) (TooLarge m) x y p q = absurd (good_or_refused bytes q.rows q.calls (TooManyCalls l) tt q.lines p)
one_refusal bytes (TooManyCalls l) OutOfMemory x y p q = absurd (y refl)
one_refusal bytes (TooLarge l) (BadLine m) x y p q = absurd (good_or_refused bytes p.rows p.calls (BadLine m) tt p.lines q)
one_refusal bytes (TooLarge l) (TooManyCalls m) x y p q = absurd (good_or_refused bytes p.rows p.calls (TooManyCalls m) tt p.lines q)
one_refusal bytes (TooLarge l) (TooLarge m) x y p q =
    let same : Same p.rows q.rows p.calls q.calls = same_lines (lines_of bytes) (lines_of bytes) p.rows q.rows p.calls q.calls p.lines q.lines refl in
    ap TooLarge (one_large q.calls l m (subst (λ cs. IsFirstLarge cs l) same.of_calls p.first) q.first)
one_refusal bytes (TooLarge l) OutOfMemory x y p q = absurd (y refl)
one_refusal bytes OutOfMemory b x y p q = absurd (x refl)
