-- What is written run by run.
use Rattle.std.proofs.Common.{◌≡◌, ℕ, zero, suc, ◌+◌, ◌-◌, ◌*◌, ◌/◌, ◌%◌, ◌<◌, ◌≤◌, List, [], ◌∷◌, ◌++◌, length, get_or, take, drop, set, refl, ap, sym, ◌∙◌, subst, arith, inl, inr, append_assoc, length-drop, length-set, length-take-le, add-one, add-zero}
use Rattle.std.specs.List.{flat_map}
use Rattle.std.proofs.lemmas.Bool.{cases_lt}
use Rattle.std.proofs.lemmas.Grind.{flat_map-append}
use Rattle.std.proofs.lemmas.List.{append-nil, take_all, take_more_set, take-append-drop}
use Rattle.std.proofs.Math.Seq.{take-suc}
use Rattle.graph_notation.specs.Elements.{escaped, quoted, hex_digit, hex_pair}
use Rattle.graph_notation.specs.Pressing.{IsOn}

pub one_more : (f : ℕ → List ℕ) (xs : List ℕ) (i : ℕ) → i < length xs → flat_map f (take (i + 1) xs) ≡ flat_map f (take i xs) ++ f (get_or xs i 0)
one_more f xs i h = ap (λ n. flat_map f (take n xs)) (add-one i) ∙ ap (flat_map f) (take-suc xs i 0 h) ∙ flat_map-append f (take i xs) (get_or xs i 0 ∷ []) ∙ ap (λ y. flat_map f (take i xs) ++ y) (append-nil (f (get_or xs i 0)))

get_drop : (xs : List ℕ) (n k : ℕ) → get_or (drop n xs) k 0 ≡ get_or xs (n + k) 0
get_drop xs zero k = let e : 0 + k ≡ k = omega arith in ap (λ j. get_or xs j 0) (sym e)
get_drop [] (suc n) k = refl
get_drop (x ∷ xs) (suc n) k = get_drop xs n k ∙ (let e : suc n + k ≡ suc (n + k) = omega arith in ap (λ j. get_or (x ∷ xs) j 0) (sym e))

run_longer : (xs : List ℕ) (from i : ℕ) → from ≤ i → i < length xs → take (i + 1 - from) (drop from xs) ≡ take (i - from) (drop from xs) ++ get_or xs i 0 ∷ []
run_longer xs from i low h =
    let n : i + 1 - from ≡ suc (i - from) = omega arith in
    let m : length (drop from xs) ≡ length xs - from = length-drop from xs in
    let k : from + (i - from) ≡ i = omega arith in
    ap (λ j. take j (drop from xs)) n ∙ take-suc (drop from xs) (i - from) 0 (omega (arith, m)) ∙ ap (λ b. take (i - from) (drop from xs) ++ b ∷ []) (get_drop xs from (i - from) ∙ ap (λ j. get_or xs j 0) k)

-- a byte that stands for itself
pub stands_on : (text out : List ℕ) (from i : ℕ) → from ≤ i → i < length text → escaped (get_or text i 0) ≡ get_or text i 0 ∷ [] → out ++ take (i + 1 - from) (drop from text) ≡ (out ++ take (i - from) (drop from text)) ++ escaped (get_or text i 0)
stands_on text out from i low h e =
    ap (λ x. out ++ x) (run_longer text from i low h)
    ∙ sym (append_assoc out (take (i - from) (drop from text)) (get_or text i 0 ∷ []))
    ∙ ap (λ x. (out ++ take (i - from) (drop from text)) ++ x) (sym e)

none_left : (xs : List ℕ) (n : ℕ) → take (n - n) xs ≡ []
none_left xs n = let e : n - n ≡ 0 = omega arith in ap (λ k. take k xs) e

-- a byte that is escaped
pub escaped_on : (text new whole : List ℕ) (i : ℕ) → new ≡ whole → new ++ take (i + 1 - (i + 1)) (drop (i + 1) text) ≡ whole
escaped_on text new whole i e = ap (λ x. new ++ x) (none_left (drop (i + 1) text) (i + 1)) ∙ append-nil new ∙ e

-- a byte more
pub byte_on : (text before whole out : List ℕ) (i : ℕ) → i < length text → out ≡ before ++ flat_map escaped (take i text) → whole ≡ out ++ escaped (get_or text i 0) → whole ≡ before ++ flat_map escaped (take (i + 1) text)
byte_on text before whole out i h w e =
    e ∙ ap (λ x. x ++ escaped (get_or text i 0)) w
    ∙ append_assoc before (flat_map escaped (take i text)) (escaped (get_or text i 0))
    ∙ ap (λ x. before ++ x) (sym (one_more escaped text i h))

-- many bytes that stand for themselves
pub block_on : (text before out : List ℕ) (from at n : ℕ) → from ≤ at → at + n ≤ length text → ((k : ℕ) → k < n → escaped (get_or text (at + k) 0) ≡ get_or text (at + k) 0 ∷ []) → IsOn before text out from at → IsOn before text out from (at + n)
block_on text before out from at zero low h stand w = subst (IsOn before text out from) (sym (add-zero at)) w
block_on text before out from at (suc n) low h stand w =
    let i : at + suc n ≡ at + n + 1 = omega arith in
    let before_it : IsOn before text out from (at + n) = block_on text before out from at n low (omega (arith, h)) (λ k l. stand k (omega (arith, l))) w in
    subst (IsOn before text out from) (sym i)
    (byte_on text before (out ++ take (at + n + 1 - from) (drop from text)) (out ++ take (at + n - from) (drop from text)) (at + n) (omega (arith, h)) before_it
    (stands_on text out from (at + n) (omega (arith, low)) (omega (arith, h)) (stand n (omega arith))))

get_front : (xs : List ℕ) (n k : ℕ) → k < n → get_or (take n xs) k 0 ≡ get_or xs k 0
get_front xs zero k h = absurd (omega (arith, h))
get_front [] (suc n) k h = refl
get_front (x ∷ xs) (suc n) zero h = refl
get_front (x ∷ xs) (suc n) (suc k) h = get_front xs n k (omega (arith, h))

-- the block of a text from a place on
pub in_block : (text block : List ℕ) (at n : ℕ) → block ≡ take n (drop at text) → ((k : ℕ) → k < length block → escaped (get_or block k 0) ≡ get_or block k 0 ∷ []) → at + n ≤ length text → (k : ℕ) → k < n → escaped (get_or text (at + k) 0) ≡ get_or text (at + k) 0 ∷ []
in_block text block at n is stand h k low =
    let m : length (drop at text) ≡ length text - at = length-drop at text in
    let long : length block ≡ n = ap length is ∙ length-take-le n (drop at text) (omega (arith, m, h)) in
    let same : get_or block k 0 ≡ get_or text (at + k) 0 = ap (λ xs. get_or xs k 0) is ∙ get_front (drop at text) n k low ∙ get_drop text at k in
    subst (λ b. escaped b ≡ b ∷ []) same (stand k (omega (arith, long, low)))

-- two digits more
pub pair_on : (block pairs : List ℕ) (at high low : ℕ) → at < length block → 2 * at + 1 < length pairs → take (2 * at) pairs ≡ flat_map hex_pair (take at block) → high ≡ hex_digit (get_or block at 0 / 16) → low ≡ hex_digit (get_or block at 0 % 16) → take (2 * (at + 1)) (set (set pairs (2 * at) high) (2 * at + 1) low) ≡ flat_map hex_pair (take (at + 1) block)
pair_on block pairs at high low h room w a b =
    let n : 2 * (at + 1) ≡ 2 * at + 1 + 1 = omega arith in
    let long = length-set pairs (2 * at) high in
    let d : high ∷ low ∷ [] ≡ hex_pair (get_or block at 0) = ap (λ x. x ∷ low ∷ []) a ∙ ap (λ x. hex_digit (get_or block at 0 / 16) ∷ x ∷ []) b in
    ap (λ k. take k (set (set pairs (2 * at) high) (2 * at + 1) low)) n
    ∙ take_more_set (set pairs (2 * at) high) (2 * at + 1) low (omega (arith, long, room))
    ∙ ap (λ x. x ++ low ∷ []) (take_more_set pairs (2 * at) high (omega (arith, room)))
    ∙ append_assoc (take (2 * at) pairs) (high ∷ []) (low ∷ [])
    ∙ ap (λ x. x ++ (high ∷ low ∷ [])) w
    ∙ ap (λ x. flat_map hex_pair (take at block) ++ x) d
    ∙ sym (one_more hex_pair block at h)

take_plus : (i n : ℕ) (xs : List ℕ) → take (i + n) xs ≡ take i xs ++ take n (drop i xs)
take_plus zero n xs = let e : 0 + n ≡ n = omega arith in ap (λ k. take k xs) e
take_plus (suc i) n [] = take_all (suc i + n) [] (omega arith) ∙ sym (take_all n [] (omega arith))
take_plus (suc i) n (x ∷ xs) = let e : suc i + n ≡ suc (i + n) = omega arith in ap (λ k. take k (x ∷ xs)) e ∙ ap (λ ys. x ∷ ys) (take_plus i n xs)

-- a block of pairs more
pub pairs_on : (bytes block before out new : List ℕ) (at n : ℕ) → out ≡ before ++ flat_map hex_pair (take at bytes) → block ≡ take n (drop at bytes) → new ≡ out ++ flat_map hex_pair block → new ≡ before ++ flat_map hex_pair (take (at + n) bytes)
pairs_on bytes block before out new at n w is e =
    e ∙ ap (λ x. x ++ flat_map hex_pair block) w
    ∙ append_assoc before (flat_map hex_pair (take at bytes)) (flat_map hex_pair block)
    ∙ ap (λ x. before ++ x)
    (ap (λ x. flat_map hex_pair (take at bytes) ++ flat_map hex_pair x) is
    ∙ sym (flat_map-append hex_pair (take at bytes) (take n (drop at bytes)))
    ∙ ap (flat_map hex_pair) (sym (take_plus at n bytes)))

-- the last of the pairs
pub pairs_end : (bytes before out new : List ℕ) (at : ℕ) → out ≡ before ++ flat_map hex_pair (take at bytes) → new ≡ out ++ flat_map hex_pair (take (length bytes - at) (drop at bytes)) → new ≡ before ++ flat_map hex_pair bytes
pairs_end bytes before out new at w e =
    let m : length (drop at bytes) ≡ length bytes - at = length-drop at bytes in
    e ∙ ap (λ x. x ++ flat_map hex_pair (take (length bytes - at) (drop at bytes))) w
    ∙ ap (λ x. (before ++ flat_map hex_pair (take at bytes)) ++ flat_map hex_pair x) (take_all (length bytes - at) (drop at bytes) (omega (arith, m)))
    ∙ append_assoc before (flat_map hex_pair (take at bytes)) (flat_map hex_pair (drop at bytes))
    ∙ ap (λ x. before ++ x) (sym (flat_map-append hex_pair (take at bytes) (drop at bytes)) ∙ ap (flat_map hex_pair) (take-append-drop at bytes))

-- the last run
pub all_written : (text before out : List ℕ) (from i : ℕ) → from ≤ i → length text ≤ i → out ++ take (i - from) (drop from text) ≡ before ++ flat_map escaped (take i text) → out ++ drop from text ≡ before ++ flat_map escaped text
all_written text before out from i low h w =
    let m : length (drop from text) ≡ length text - from = length-drop from text in
    ap (λ x. out ++ x) (sym (take_all (i - from) (drop from text) (omega (arith, m)))) ∙ w ∙ ap (λ x. before ++ flat_map escaped x) (take_all i text h)

-- bytes before a place stand for themselves
abbrev pub StandTo : List ℕ → ℕ → Type 0
StandTo text end = (k : ℕ) → k < end → escaped (get_or text k 0) ≡ get_or text k 0 ∷ []

-- and those of the block behind it
pub stand_further : (text block : List ℕ) (at n : ℕ) → StandTo text at → block ≡ take n (drop at text) → StandTo block (length block) → at + n ≤ length text → StandTo text (at + n)
stand_further text block at n before is stand h k low = elim (cases_lt k at) [
  | inl l ↦ before k l
  | inr l ↦
      let e : at + (k - at) ≡ k = omega (arith, l) in
      subst (λ i. escaped (get_or text i 0) ≡ get_or text i 0 ∷ []) e (in_block text block at n is stand h (k - at) (omega (arith, low, l)))
]

-- bytes that all stand for themselves are what is written of them
all_as_they_are : (xs : List ℕ) → StandTo xs (length xs) → flat_map escaped xs ≡ xs
all_as_they_are [] h = refl
all_as_they_are (x ∷ xs) h = ap (λ y. y ++ flat_map escaped xs) (h 0 (omega arith)) ∙ ap (λ ys. x ∷ ys) (all_as_they_are xs (λ k low. h (suc k) (omega (arith, low))))

pub as_is : (text old first mid new : List ℕ) → StandTo text (length text) → first ≡ old ++ 0x22 ∷ [] → mid ≡ first ++ text → new ≡ mid ++ 0x22 ∷ [] → new ≡ old ++ quoted text
as_is text old first mid new stand a b e =
    e ∙ ap (λ x. x ++ 0x22 ∷ []) (b ∙ ap (λ x. x ++ text) a ∙ append_assoc old (0x22 ∷ []) text)
    ∙ append_assoc old (0x22 ∷ text) (0x22 ∷ [])
    ∙ ap (λ x. old ++ 0x22 ∷ (x ++ 0x22 ∷ [])) (sym (all_as_they_are text stand))
