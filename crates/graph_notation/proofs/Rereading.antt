-- What is printed is read back.
use Rattle.std.proofs.Common.{◌≡◌, ◌≢◌, ℕ, ℤ, zero, suc, ◌+◌, ◌/◌, ◌%◌, ◌<◌, ◌≤◌, ◌^◌, Bool, true, false, List, [], ◌∷◌, ◌++◌, length, map, refl, ap, sym, ◌∙◌, subst, arith, inl, inr, append_assoc, length-append}
use Rattle.std.specs.Prelude.{nat_eq, nat_lt, nat_le, ◌&&◌, ◌||◌, decimal, pos, negsuc, All}
use Rattle.std.specs.Fmt.{signed_decimal}
use Rattle.std.specs.Int.Signed.{mag}
use Rattle.std.specs.List.{flat_map}
use Rattle.std.specs.Char.{encode_utf8, IsScalar}
use lib.Utf8.{low_scalar}
use Rattle.std.proofs.lemmas.Str.{encode_ascii}
use Rattle.std.proofs.lemmas.Bool.Decides.{nat_tests}
use Rattle.std.proofs.lemmas.Bool.{cases_Bool, eqb-true, eqb-false, ltb-true, ltb-false, le-leb}
use Rattle.hessian_graph.specs.declared.value.Value.{Value}
use Rattle.hessian_graph.specs.declared.value.Value.TheVariants as values
use Rattle.hessian_graph.specs.Shape.{Text, Kind, NodeShape, Shape}
use Rattle.graph_notation.specs.declared.element.Mark.{Mark}
use Rattle.graph_notation.specs.declared.element.Mark.TheVariants as marks
use Rattle.graph_notation.specs.declared.element.Element.{Element}
use Rattle.graph_notation.specs.declared.element.Element.TheVariants.{Plain, Words, Reference, Sign}
use Rattle.graph_notation.specs.Tokens.{is_word_byte, AreWordBytes, BeginsNoWord, Escaped, IsToken, Cut}
use Rattle.graph_notation.specs.Tokens.Escaped.{none as e_none, plain as e_plain, escape as e_escape}
use Rattle.graph_notation.specs.Tokens.IsToken.{word as t_word, whole as t_whole, other as t_other}
use Rattle.graph_notation.specs.Tokens.Cut.{none as c_none, one as c_one}
use Rattle.graph_notation.specs.Elements.{Reads, Quoted, mark_byte, hex_digit, hex_pair, hex_value, short_hex, is_control, escaped, word_of, printed}
use Rattle.graph_notation.specs.Elements.Reads.{null as r_null, yes as r_yes, no as r_no, int as r_int, long as r_long, date as r_date, binary as r_binary, words as r_words, reference as r_reference, sign as r_sign}
use Rattle.graph_notation.specs.Elements.Quoted.{none as q_none, plain as q_plain, quote as q_quote, backslash as q_backslash, code as q_code}
use Rattle.graph_notation.specs.Forms.{Form, IsPlain, Brackets, Spells, Entry, Joined, Entries}
use Rattle.graph_notation.specs.Forms.Brackets.{list, typed_list, map as map_row, typed_map, object}
use Rattle.graph_notation.specs.Forms.Spells.{plain, words, reference, node}
use Rattle.graph_notation.specs.Forms.Entry.{item, pair, field}
use Rattle.graph_notation.specs.Forms.Joined.{last, more}
use Rattle.graph_notation.specs.Forms.Entries.{none, some}
use Rattle.graph_notation.specs.Notation.{ReadAs, IsNotation, IsSoundElement, IsSoundWord, IsPrinted}
use Rattle.graph_notation.proofs.Nexts.{IsForm}
use Rattle.graph_notation.proofs.Distinct.{AreDigits, decimal_digits}
use Rattle.graph_notation.proofs.Decimals.{small_w32, small_w64}

-- whether a token is a word
abbrev wordy : Element → Bool
wordy (Plain v) = true
wordy (Words text) = false
wordy (Reference k) = true
wordy (Sign mark) = false

abbrev Clear : Element → List Element → Type 0
Clear e [] = Unit {0}
Clear e (f ∷ fs) = (wordy e && wordy f) ≡ false

-- no two words stand side by side, and no plain element stands for a text or a node
abbrev pub Apart : List Element → Type 0
Apart [] = Unit {0}
Apart (e ∷ es) = IsForm e × Clear e es × Apart es

clear_sign : (e : Element) (front : List Element) (mark : Mark) (back : List Element) → Clear e front → Clear e (front ++ Sign mark ∷ back)
clear_sign (Plain v) [] mark back c = refl
clear_sign (Words text) [] mark back c = refl
clear_sign (Reference k) [] mark back c = refl
clear_sign (Sign m) [] mark back c = refl
clear_sign e (f ∷ fs) mark back c = c

apart_sign : (front : List Element) (mark : Mark) (back : List Element) → Apart front → Apart back → Apart (front ++ Sign mark ∷ back)
apart_sign [] mark [] a b = (tt, tt, tt)
apart_sign [] mark (f ∷ fs) a b = (tt, refl, b)
apart_sign (e ∷ es) mark back a b = (a.0, clear_sign e es mark back a.1, apart_sign es mark back a.2 b)

by_row : {kind : Kind} {head : List Element} {form : Form} {names : List Text} {end : Element} (inner : List Element) → Brackets kind head form names end → Apart inner → Apart (head ++ (inner ++ end ∷ []))
by_row inner list a = apart_sign [] marks.BeginList (inner ++ Sign marks.EndList ∷ []) tt (apart_sign inner marks.EndList [] a tt)
by_row inner (typed_list type) a = apart_sign (Sign marks.Named ∷ Words type ∷ []) marks.BeginList (inner ++ Sign marks.EndList ∷ []) (tt, refl, (tt, tt, tt)) (apart_sign inner marks.EndList [] a tt)
by_row inner map_row a = apart_sign [] marks.BeginMap (inner ++ Sign marks.EndMap ∷ []) tt (apart_sign inner marks.EndMap [] a tt)
by_row inner (typed_map type) a = apart_sign (Sign marks.Named ∷ Words type ∷ []) marks.BeginMap (inner ++ Sign marks.EndMap ∷ []) (tt, refl, (tt, tt, tt)) (apart_sign inner marks.EndMap [] a tt)
by_row inner (object class) a = apart_sign (Sign marks.Named ∷ Words class.name ∷ []) marks.BeginFields (inner ++ Sign marks.EndFields ∷ []) (tt, refl, (tt, tt, tt)) (apart_sign inner marks.EndFields [] a tt)

mutual
  value_apart : {v : Value} {n : ℕ} {seg : List NodeShape} {es : List Element} → Spells v n seg es → Apart es
  value_apart (plain n v h) = (h, tt, tt)
  value_apart (words n text) = (tt, tt, tt)
  value_apart (reference n k low) = (tt, tt, tt)
  value_apart (node n kind form names head end vs nodes inner row entries) = by_row inner row (entries_apart entries)

  entry_apart : {form : Form} {names : List Text} {vs : List Value} {n : ℕ} {seg : List NodeShape} {es : List Element} → Entry form names vs n seg es → Apart es
  entry_apart (item v n nodes es s) = value_apart s
  entry_apart (pair key v n first second front back s1 s2) = apart_sign front marks.Colon back (value_apart s1) (value_apart s2)
  entry_apart (field name v n nodes es s) = apart_sign (Words name ∷ []) marks.Colon es (tt, tt, tt) (value_apart s)

  joined_apart : {form : Form} {names : List Text} {vs : List Value} {n : ℕ} {seg : List NodeShape} {es : List Element} → Joined form names vs n seg es → Apart es
  joined_apart (last form names vs n nodes es x) = entry_apart x
  joined_apart (more form names names' vs vs' n first second front back x y) = apart_sign front marks.Comma back (entry_apart x) (joined_apart y)

  entries_apart : {form : Form} {names : List Text} {vs : List Value} {n : ℕ} {seg : List NodeShape} {es : List Element} → Entries form names vs n seg es → Apart es
  entries_apart (none form n) = tt
  entries_apart (some form names vs n nodes es x) = joined_apart x

-- words are made of word bytes
word_join : (a b : List ℕ) → AreWordBytes a → AreWordBytes b → AreWordBytes (a ++ b)
word_join [] b x y = y
word_join (c ∷ cs) b x y = (x.0, word_join cs b x.1 y)

digit_word : (d : ℕ) → 48 ≤ d → d ≤ 57 → is_word_byte d ≡ true
digit_word d low high = let a : nat_le 0x30 d ≡ true = le-leb 48 d low in let b : nat_le d 0x39 ≡ true = le-leb d 57 high in rw (a, b) refl

digits_word : (ds : List ℕ) → AreDigits ds → AreWordBytes ds
digits_word [] a = tt
digits_word (d ∷ ds) a = (digit_word d a.0 a.1, digits_word ds a.2)

record Wordy (bs : List ℕ) : Type 0 where
  pub bytes : AreWordBytes bs
  pub some : 0 < length bs

decimal_word : (n : ℕ) → n < 2 ^ 64 → Wordy (decimal n)
decimal_word n h = let x = decimal_digits n h in record { bytes = digits_word (decimal n) x.digits; some = x.some }

signed_word : (z : ℤ) → mag z < 2 ^ 63 → Wordy (signed_decimal z)
signed_word (pos n) h = decimal_word n (omega arith)
signed_word (negsuc n) h = let x = decimal_word (suc n) (omega arith) in record { bytes = (refl, x.bytes); some = omega arith }

hex_word : (d : ℕ) → d < 16 → is_word_byte (hex_digit d) ≡ true
hex_word d h = elim (cases_Bool (nat_lt d 10)) [
  | inl e ↦ let low : d < 10 = ltb-true d 10 e in rw e (digit_word (0x30 + d) (omega arith) (omega arith))
  | inr e ↦
      let high : 10 ≤ d = ltb-false d 10 e in
      let a : nat_le 0x61 (0x57 + d) ≡ true = le-leb 97 (0x57 + d) (omega arith) in
      let b : nat_le (0x57 + d) 0x7a ≡ true = le-leb (0x57 + d) 122 (omega arith) in
      rw e (letter (0x57 + d) a b)
]
  where
    any : (p q r s t : Bool) → (p || q || true || r || s || t) ≡ true
    any p q r s t = grind arith

    letter : (b : ℕ) → nat_le 0x61 b ≡ true → nat_le b 0x7a ≡ true → is_word_byte b ≡ true
    letter b x y = rw (x, y) (any (nat_le 0x30 b && nat_le b 0x39) (nat_le 0x41 b && nat_le b 0x5a) (nat_eq b 0x2d) (nat_eq b 0x40) (nat_eq b 0x23))

pairs_word : (bs : List ℕ) → All (λ b. b < 256) bs → AreWordBytes (flat_map hex_pair bs)
pairs_word [] a = tt
pairs_word (b ∷ bs) a =
    let low : b < 256 = a 0 0 (omega arith) in
    (hex_word (b / 16) (omega arith), (hex_word (b % 16) (omega arith), pairs_word bs (λ k x h. a (suc k) x (omega arith))))

plain_word : (v : Value) → IsPlain v → IsSoundWord v → Wordy (word_of v)
plain_word values.Null p s = record { bytes = (refl, (refl, (refl, (refl, tt)))); some = omega arith }
plain_word (values.Bool true) p s = record { bytes = (refl, (refl, (refl, (refl, tt)))); some = omega arith }
plain_word (values.Bool false) p s = record { bytes = (refl, (refl, (refl, (refl, (refl, tt))))); some = omega arith }
plain_word (values.Int z) p s = signed_word z (small_w32 z s)
plain_word (values.Long z) p s = let x = signed_word z (small_w64 z s) in record { bytes = word_join (signed_decimal z) (0x4c ∷ []) x.bytes (refl, tt); some = rw (length-append (signed_decimal z) (0x4c ∷ [])) (omega arith) }
plain_word (values.Date z) p s = let x = signed_word z (small_w64 z s) in record { bytes = (refl, x.bytes); some = omega arith }
plain_word (values.Text text) p s = absurd p
plain_word (values.Bytes bytes) p s = record { bytes = (refl, pairs_word bytes s); some = omega arith }
plain_word (values.Node k) p s = absurd p

-- what is written between quotes
quote_byte : (b : ℕ) → nat_eq b 0x22 ≡ true → (after text : List ℕ) → Quoted after text → Quoted (escaped b ++ after) (b ∷ text)
quote_byte b e after text q = let is : b ≡ 0x22 = eqb-true b 0x22 e in subst (λ x. Quoted (escaped x ++ after) (x ∷ text)) (sym is) (q_quote after text q)

slash_byte : (b : ℕ) → nat_eq b 0x5c ≡ true → (after text : List ℕ) → Quoted after text → Quoted (escaped b ++ after) (b ∷ text)
slash_byte b e after text q = let is : b ≡ 0x5c = eqb-true b 0x5c e in subst (λ x. Quoted (escaped x ++ after) (x ∷ text)) (sym is) (q_backslash after text q)

record Spelt (b : ℕ) : Type 0 where
  pub digits : List ℕ
  pub low : All (λ d. d < 16) digits
  pub some : 1 ≤ length digits
  pub few : length digits ≤ 6
  pub value : b ≡ hex_value 0 digits
  pub is : short_hex b ≡ map hex_digit digits

one_low : (b : ℕ) → b < 16 → All (λ d. d < 16) (b ∷ [])
one_low b h zero d l = h
one_low b h (suc k) d l = absurd (omega arith)

two_low : (a b : ℕ) → a < 16 → b < 16 → All (λ d. d < 16) (a ∷ b ∷ [])
two_low a b h k zero d l = h
two_low a b h k (suc zero) d l = k
two_low a b h k (suc (suc n)) d l = absurd (omega arith)

spelt : (b : ℕ) → b < 256 → Spelt b
spelt b h = elim (cases_Bool (nat_lt b 16)) [
  | inl e ↦
      let low : b < 16 = ltb-true b 16 e in
      record { digits = b ∷ []; low = one_low b low; some = omega arith; few = omega arith; value = omega arith; is = rw e refl }
  | inr e ↦
      record { digits = (b / 16) ∷ (b % 16) ∷ []; low = two_low (b / 16) (b % 16) (omega arith) (omega arith); some = omega arith; few = omega arith; value = omega arith; is = rw e refl }
]

control_below : (b : ℕ) → is_control b ≡ true → b < 128
control_below b h = grind (arith, nat_tests)

ascii_scalar : (b : ℕ) → b < 128 → IsScalar b
ascii_scalar b h = low_scalar b (omega arith)

ascii_form : (b : ℕ) → b < 128 → encode_utf8 b ≡ b ∷ []
ascii_form b h = encode_ascii b h

control_byte : (b : ℕ) → nat_eq b 0x22 ≡ false → nat_eq b 0x5c ≡ false → is_control b ≡ true → (after text : List ℕ) → Quoted after text → Quoted (escaped b ++ after) (b ∷ text)
control_byte b q s c after text x =
    let low : b < 128 = control_below b c in
    let y = spelt b (omega arith) in
    let e : escaped b ++ after ≡ 0x5c ∷ 0x75 ∷ 0x7b ∷ (map hex_digit y.digits ++ 0x7d ∷ after) = rw (q, s, c) (ap (λ z. 0x5c ∷ 0x75 ∷ 0x7b ∷ z) (append_assoc (short_hex b) (0x7d ∷ []) after ∙ ap (λ z. z ++ 0x7d ∷ after) y.is)) in
    let whole = q_code y.digits after text b y.low y.some y.few y.value (ascii_scalar b low) x in
    subst (λ z. Quoted z (b ∷ text)) (sym e) (subst (λ z. Quoted (0x5c ∷ 0x75 ∷ 0x7b ∷ (map hex_digit y.digits ++ 0x7d ∷ after)) (z ++ text)) (ascii_form b low) whole)

plain_byte : (b : ℕ) → nat_eq b 0x22 ≡ false → nat_eq b 0x5c ≡ false → is_control b ≡ false → (after text : List ℕ) → Quoted after text → Quoted (escaped b ++ after) (b ∷ text)
plain_byte b q s c after text x =
    let e : escaped b ++ after ≡ b ∷ after = rw (q, s, c) refl in
    subst (λ z. Quoted z (b ∷ text)) (sym e) (q_plain b after text c (eqb-false b 0x22 q) (eqb-false b 0x5c s) x)

pub quoted_is : (text : List ℕ) → Quoted (flat_map escaped text) text
quoted_is [] = q_none
quoted_is (b ∷ bs) =
    let x = quoted_is bs in
    elim (cases_Bool (nat_eq b 0x22)) [
      | inl q ↦ quote_byte b q (flat_map escaped bs) bs x
      | inr q ↦ elim (cases_Bool (nat_eq b 0x5c)) [
        | inl s ↦ slash_byte b s (flat_map escaped bs) bs x
        | inr s ↦ elim (cases_Bool (is_control b)) [
          | inl c ↦ control_byte b q s c (flat_map escaped bs) bs x
          | inr c ↦ plain_byte b q s c (flat_map escaped bs) bs x
        ]
      ]
    ]

-- a content without a raw quote is escaped
quoted_escaped : {inner text : List ℕ} → Quoted inner text → Escaped inner
quoted_escaped q_none = e_none
quoted_escaped (q_plain b rest text c q s x) = e_plain b rest q s (quoted_escaped x)
quoted_escaped (q_quote rest text x) = e_escape 0x22 rest (quoted_escaped x)
quoted_escaped (q_backslash rest text x) = e_escape 0x5c rest (quoted_escaped x)
quoted_escaped (q_code digits rest text c low least few is sc x) = e_escape 0x75 (0x7b ∷ (map hex_digit digits ++ 0x7d ∷ rest)) (e_plain 0x7b (map hex_digit digits ++ 0x7d ∷ rest) (λ e. omega arith) (λ e. omega arith) (digits_escaped digits low (e_plain 0x7d rest (λ e. omega arith) (λ e. omega arith) (quoted_escaped x))))
  where
    hex_high : (d : ℕ) → d < 16 → (0x30 ≤ hex_digit d) × (hex_digit d ≢ 0x5c)
    hex_high d h = grind arith

    digits_escaped : (ds : List ℕ) → All (λ d. d < 16) ds → {tail : List ℕ} → Escaped tail → Escaped (map hex_digit ds ++ tail)
    digits_escaped [] a t = t
    digits_escaped (d ∷ ds) a {tail} t = let h = hex_high d (a 0 d (omega arith)) in e_plain (hex_digit d) (map hex_digit ds ++ tail) (λ e. omega (arith, h.0, e)) h.1 (digits_escaped ds (λ k x l. a (suc k) x (omega arith)) t)

-- what is written is read as the element
reads_printed : (e : Element) → IsForm e → IsSoundElement e → Reads (printed e) e
reads_printed (Plain values.Null) f s = r_null
reads_printed (Plain (values.Bool true)) f s = r_yes
reads_printed (Plain (values.Bool false)) f s = r_no
reads_printed (Plain (values.Int z)) f s = r_int z (signed_decimal z) s.1 refl
reads_printed (Plain (values.Long z)) f s = r_long z (signed_decimal z ++ 0x4c ∷ []) s.1 refl
reads_printed (Plain (values.Date z)) f s = r_date z (signed_decimal z) s.1 refl
reads_printed (Plain (values.Text text)) f s = absurd f
reads_printed (Plain (values.Bytes bytes)) f s = r_binary bytes (flat_map hex_pair bytes) s.1 refl
reads_printed (Plain (values.Node k)) f s = absurd f
reads_printed (Words text) f s = r_words (flat_map escaped text) text (quoted_is text) s
reads_printed (Reference k) f s = r_reference k (decimal k) s refl
reads_printed (Sign mark) f s = r_sign mark

-- what doesn't begin a word
mark_other : (mark : Mark) → (is_word_byte (mark_byte mark) ≡ false) × (mark_byte mark ≢ 0x22)
mark_other marks.BeginList = (refl, λ e. omega arith)
mark_other marks.EndList = (refl, λ e. omega arith)
mark_other marks.BeginMap = (refl, λ e. omega arith)
mark_other marks.EndMap = (refl, λ e. omega arith)
mark_other marks.BeginFields = (refl, λ e. omega arith)
mark_other marks.EndFields = (refl, λ e. omega arith)
mark_other marks.Comma = (refl, λ e. omega arith)
mark_other marks.Colon = (refl, λ e. omega arith)
mark_other marks.Named = (refl, λ e. omega arith)

clear_rest : (e : Element) (es : List Element) → wordy e ≡ true → Clear e es → BeginsNoWord (flat_map printed es)
clear_rest e [] w c = tt
clear_rest e (Plain v ∷ es) w c = let bad : true ≡ false = ap (λ b. b && true) (sym w) ∙ c in absurd (cc)
clear_rest e (Words text ∷ es) w c = refl
clear_rest e (Reference k ∷ es) w c = let bad : true ≡ false = ap (λ b. b && true) (sym w) ∙ c in absurd (cc)
clear_rest e (Sign mark ∷ es) w c = (mark_other mark).0

word_token : (bs rest : List ℕ) → Wordy bs → BeginsNoWord rest → IsToken bs rest
word_token [] rest w n = let s = w.some in absurd (omega arith)
word_token (b ∷ bs) rest w n = t_word b bs rest w.bytes n

token_printed : (e : Element) (es : List Element) → IsForm e → Clear e es → IsSoundElement e → IsToken (printed e) (flat_map printed es)
token_printed (Plain v) es f c s = word_token (word_of v) (flat_map printed es) (plain_word v f s.1) (clear_rest (Plain v) es refl c)
token_printed (Words text) es f c s = t_whole (flat_map escaped text) (flat_map printed es) (quoted_escaped (quoted_is text))
token_printed (Reference k) es f c s = let x = decimal_word k (omega arith) in t_word 0x23 (decimal k) (flat_map printed es) (refl, x.bytes) (clear_rest (Reference k) es refl c)
token_printed (Sign mark) es f c s = let x = mark_other mark in t_other (mark_byte mark) (flat_map printed es) x.0 x.1

-- what is written is cut into its tokens, and each is read
record Reread (es : List Element) : Type 0 where
  pub cut : Cut (flat_map printed es) (map printed es) []
  pub read : ReadAs (map printed es) es

reread : (es : List Element) → Apart es → All IsSoundElement es → Reread es
reread [] a s = record { cut = c_none []; read = tt }
reread (e ∷ es) a s =
    let sound : IsSoundElement e = s 0 e (omega arith) in
    let x = reread es a.2 (λ k d l. s (suc k) d (omega arith)) in
    record {
      cut = c_one (printed e) (flat_map printed es) [] (map printed es) (token_printed e es a.0 a.1 sound) x.cut;
      read = (reads_printed e a.0 sound, x.read);
    }

-- what is printed for a graph is a notation of it
pub is_notation : (g : Shape) (text : List ℕ) → IsPrinted g text → IsNotation text g
is_notation g text p =
    let x = reread p.elements (entries_apart p.spelled) p.sound in
    record {
      tokens = map printed p.elements;
      elements = p.elements;
      cut = subst (λ t. Cut t (map printed p.elements) []) (sym p.written) x.cut;
      read = x.read;
      spelled = p.spelled;
    }
