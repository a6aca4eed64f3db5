-- What a token is by itself.
use Rattle.std.proofs.Common.{◌≡◌, ◌≢◌, ℕ, ℤ, ◌<◌, ◌^◌, true, false, List, [], ◌∷◌, ◌++◌, length, get_or, refl, ap, sym, ◌∙◌, subst, arith}
use Rattle.std.specs.Prelude.{codes, decimal, Option, Some, None, FitsSigned, All, MatchOption}
use Rattle.std.specs.Fmt.{signed_decimal}
use Rattle.std.specs.Int.{w32, w64}
use Rattle.std.specs.List.{flat_map}
use Rattle.std.specs.Str.{IsUtf8}
use Rattle.hessian_graph.specs.declared.value.Value.TheVariants as values
use Rattle.graph_notation.specs.declared.element.Element.{Element}
use Rattle.graph_notation.specs.declared.element.Element.TheVariants.{Plain, Words, Reference}
use Rattle.graph_notation.specs.declared.contents.Mode.TheVariants as modes
use Rattle.graph_notation.specs.Tokens.{Token}
use Rattle.graph_notation.specs.Elements.{Reads, Quoted, hex_pair}
use Rattle.graph_notation.specs.Elements.Reads.{null, yes, no, int, long, date, binary, words, reference, sign}
use Rattle.graph_notation.specs.Unquoting.{unquoted, unhexed}
use Rattle.graph_notation.specs.Words.{IsNoValue, IsNoMark, IsNoReference}
use Rattle.graph_notation.proofs.Digits.{unquoted_where, quoted_where, unhexed_where, hex_where}

pub no_reading : (token : Token) → IsNoMark token → IsNoReference token → IsNoValue token → ((bytes digits : List ℕ) → All (λ b. b < 256) bytes → digits ≡ flat_map hex_pair bytes → token ≢ 0x78 ∷ digits) → ((text : List ℕ) → Reads token (Words text) → ⊥) → (e : Element) → Reads token e → ⊥
no_reading token nm nr nv nb nt e r = by_row r refl
  where
    by_row : {t : Token} {e : Element} → Reads t e → t ≡ token → ⊥
    by_row null h = nv.null (sym h)
    by_row yes h = nv.yes (sym h)
    by_row no h = nv.no (sym h)
    by_row (int z t fits is) h = nv.int z fits (sym h ∙ is)
    by_row (long z t fits is) h = nv.long z fits (sym h ∙ is)
    by_row (date z digits fits is) h = nv.date z digits fits (sym h) is
    by_row (binary bytes digits low is) h = nb bytes digits low is (sym h)
    by_row (words inner text q u) h = nt text (subst (λ t. Reads t (Words text)) h (words inner text q u))
    by_row (reference k digits low is) h = nr k digits low (sym h) is
    by_row (sign mark) h = nm mark (sym h)

pub one_byte : (token : List ℕ) → length token ≡ 1 → token ≡ get_or token 0 0 ∷ []
one_byte [] h = absurd (omega arith)
one_byte (b ∷ []) h = refl
one_byte (b ∷ c ∷ more) h = absurd (omega arith)

pub lasts : (xs ys : List ℕ) (b c : ℕ) → xs ++ b ∷ [] ≡ ys ++ c ∷ [] → (xs ≡ ys) × (b ≡ c)
lasts [] [] b c e = (refl, (cc))
lasts [] (y ∷ []) b c e = cc
lasts [] (y ∷ z ∷ ys) b c e = cc
lasts (x ∷ []) [] b c e = cc
lasts (x ∷ z ∷ xs) [] b c e = cc
lasts (x ∷ xs) (y ∷ ys) b c e =
    let t : xs ++ b ∷ [] ≡ ys ++ c ∷ [] = cc in
    let both = lasts xs ys b c t in
    let front : xs ≡ ys = both.0 in
    ((cc), both.1)

pub reads_null : (token : Token) → token ≡ codes "null" → Reads token (Plain values.Null)
reads_null token e = subst (λ t. Reads t (Plain values.Null)) (sym e) null

pub reads_true : (token : Token) → token ≡ codes "true" → Reads token (Plain (values.Bool true))
reads_true token e = subst (λ t. Reads t (Plain (values.Bool true))) (sym e) yes

pub reads_false : (token : Token) → token ≡ codes "false" → Reads token (Plain (values.Bool false))
reads_false token e = subst (λ t. Reads t (Plain (values.Bool false))) (sym e) no

pub no_value : (token : Token) → (token ≢ codes "null") × (token ≢ codes "true") × (token ≢ codes "false") → ((z : ℤ) → FitsSigned w32 z → token ≢ signed_decimal z) → ((z : ℤ) → FitsSigned w64 z → token ≢ signed_decimal z ++ 0x4c ∷ []) → ((z : ℤ) (digits : List ℕ) → FitsSigned w64 z → token ≡ 0x40 ∷ digits → digits ≢ signed_decimal z) → IsNoValue token
no_value token k i l d = record { null = k.0; yes = k.1; no = k.2; int = i; long = l; date = d }

pub date_answer : (token digits : List ℕ) (r : Option ℤ) → token ≡ 0x40 ∷ digits → MatchOption r ((z : ℤ) → FitsSigned w64 z → digits ≢ signed_decimal z) (λ z. FitsSigned w64 z × (digits ≡ signed_decimal z)) → MatchOption r ((z : ℤ) (ds : List ℕ) → FitsSigned w64 z → token ≡ 0x40 ∷ ds → ds ≢ signed_decimal z) (λ z. Reads token (Plain (values.Date z)))
date_answer token digits None e h = λ z ds fits e'. let same : ds ≡ digits = cc in subst (λ x. x ≢ signed_decimal z) (sym same) (h z fits)
date_answer token digits (Some z) e h = subst (λ t. Reads t (Plain (values.Date z))) (sym e) (date z digits h.0 h.1)

pub reference_answer : (token digits : List ℕ) (r : Option ℕ) → token ≡ 0x23 ∷ digits → MatchOption r ((n : ℕ) → n < 2 ^ 32 → digits ≢ decimal n) (λ n. (n < 2 ^ 32) × (digits ≡ decimal n)) → MatchOption r (IsNoReference token) (λ k. Reads token (Reference k))
reference_answer token digits None e h = λ k ds low e'. let same : ds ≡ digits = cc in subst (λ x. x ≢ decimal k) (sym same) (h k low)
reference_answer token digits (Some k) e h = subst (λ t. Reads t (Reference k)) (sym e) (reference k digits h.0 h.1)

pub binary_some : (token digits bytes : List ℕ) → token ≡ 0x78 ∷ digits → unhexed digits ≡ Some bytes → Reads token (Plain (values.Bytes bytes))
binary_some token digits bytes e h = let x = hex_where digits bytes h in subst (λ t. Reads t (Plain (values.Bytes bytes))) (sym e) (binary bytes digits x.low x.is)

pub binary_none : (token digits : List ℕ) → token ≡ 0x78 ∷ digits → unhexed digits ≡ None → (bytes ds : List ℕ) → All (λ b. b < 256) bytes → ds ≡ flat_map hex_pair bytes → token ≢ 0x78 ∷ ds
binary_none token digits e h bytes ds low is e' =
    let same : digits ≡ ds = cc in
    let some : None ≡ Some bytes = sym h ∙ ap unhexed (same ∙ is) ∙ unhexed_where bytes low in
    cc

pub insides : (a b : List ℕ) → 0x22 ∷ (a ++ 0x22 ∷ []) ≡ 0x22 ∷ (b ++ 0x22 ∷ []) → a ≡ b
insides a b e = let t : a ++ 0x22 ∷ [] ≡ b ++ 0x22 ∷ [] = cc in (lasts a b 0x22 0x22 t).0

no_content : (token : Token) → ((inner text : List ℕ) → token ≡ 0x22 ∷ (inner ++ 0x22 ∷ []) → Quoted inner text → IsUtf8 text → ⊥) → (text : List ℕ) → Reads token (Words text) → ⊥
no_content token none' text r = by_row r refl refl
  where
    by_row : {t : Token} {e : Element} → Reads t e → t ≡ token → e ≡ Words text → ⊥
    by_row null h k = cc
    by_row yes h k = cc
    by_row no h k = cc
    by_row (int z t fits is) h k = cc
    by_row (long z t fits is) h k = cc
    by_row (date z digits fits is) h k = cc
    by_row (binary bytes digits low is) h k = cc
    by_row (words inner text' q u) h k = none' inner text' (sym h) q u
    by_row (reference n digits low is) h k = cc
    by_row (sign mark) h k = cc

pub bad_content : (token inner : List ℕ) → token ≡ 0x22 ∷ (inner ++ 0x22 ∷ []) → unquoted modes.Plain inner ≡ None → (text : List ℕ) → Reads token (Words text) → ⊥
bad_content token inner e h text r = no_content token (λ inner' text' e' q u. let same : inner ≡ inner' = insides inner inner' (sym e ∙ e') in let some : None ≡ Some text' = sym h ∙ ap (unquoted modes.Plain) same ∙ unquoted_where q in absurd (cc)) text r

pub text_answer : (token inner bytes : List ℕ) (r : Option (List ℕ)) → token ≡ 0x22 ∷ (inner ++ 0x22 ∷ []) → unquoted modes.Plain inner ≡ Some bytes → MatchOption r (IsUtf8 bytes → ⊥) (λ text. (text ≡ bytes) × IsUtf8 bytes) → MatchOption r ((text : List ℕ) → Reads token (Words text) → ⊥) (λ text. Reads token (Words text))
text_answer token inner bytes None e h u = λ text r. no_content token (λ inner' text' e' q u'.
    let same : inner ≡ inner' = insides inner inner' (sym e ∙ e') in
    let some : Some bytes ≡ Some text' = sym h ∙ ap (unquoted modes.Plain) same ∙ unquoted_where q in
    let is : text' ≡ bytes = cc in
    u (subst IsUtf8 is u')) text r
text_answer token inner bytes (Some text) e h u =
    let whole : Reads (0x22 ∷ (inner ++ 0x22 ∷ [])) (Words bytes) = words inner bytes (quoted_where inner bytes h) u.1 in
    subst (λ x. Reads token (Words x)) (sym u.0) (subst (λ t. Reads t (Words bytes)) (sym e) whole)
