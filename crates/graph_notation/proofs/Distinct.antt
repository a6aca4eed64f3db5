-- A token is one element.
use Rattle.std.proofs.Common.{◌≡◌, ℕ, ℤ, zero, suc, ◌+◌, ◌-◌, ◌%◌, ◌<◌, ◌≤◌, ◌^◌, Bool, true, false, List, [], ◌∷◌, ◌++◌, length, get_or, refl, ap, sym, ◌∙◌, arith, inl, inr, ◌⊎◌, length-append}
use Rattle.std.specs.Prelude.{nat_eq, nat_le, ◌||◌, ◌&&◌, if◌then◌else◌, decimal, pos, negsuc, Option, Some}
use Rattle.std.specs.Fmt.{signed_decimal}
use Rattle.std.specs.Int.Signed.{mag}
use Rattle.std.proofs.lemmas.Bool.{ne_eqb, le-leb}
use Rattle.std.proofs.lemmas.Fmt.{decimal_by_steps, decimal_injective, signed_decimal_injective}
use Rattle.hessian_graph.specs.declared.value.Value.TheVariants as values
use Rattle.graph_notation.specs.declared.element.Mark.{Mark}
use Rattle.graph_notation.specs.declared.element.Mark.TheVariants as marks
use Rattle.graph_notation.specs.declared.element.Element.{Element}
use Rattle.graph_notation.specs.declared.element.Element.TheVariants.{Plain, Words, Reference, Sign}
use Rattle.graph_notation.specs.declared.contents.Mode.TheVariants as modes
use Rattle.graph_notation.specs.Tokens.{Token}
use Rattle.graph_notation.specs.Elements.{Reads, mark_byte}
use Rattle.graph_notation.specs.Elements.Reads.{null, yes, no, int, long, date, binary, words, reference, sign}
use Rattle.graph_notation.specs.Notation.{ReadAs}
use Rattle.graph_notation.specs.Unquoting.{unquoted, unhexed}
use Rattle.graph_notation.proofs.Digits.{unquoted_where, unhexed_where}
use Rattle.graph_notation.proofs.Decimals.{small_w32, small_w64}
use Rattle.graph_notation.proofs.Readings.{lasts, insides}

-- decimal digits, and at least one
abbrev pub AreDigits : List ℕ → Type 0
AreDigits [] = Unit {0}
AreDigits (d ∷ ds) = (48 ≤ d) × (d ≤ 57) × AreDigits ds

digits_more : (ds : List ℕ) (d : ℕ) → AreDigits ds → 48 ≤ d → d ≤ 57 → AreDigits (ds ++ d ∷ [])
digits_more [] d a h k = (h, k, tt)
digits_more (x ∷ xs) d a h k = (a.0, a.1, digits_more xs d a.2 h k)

pub record SomeDigits (n : ℕ) (ds : List ℕ) : Type 0 where
  pub digits : AreDigits ds
  pub some : 0 < length ds

pub decimal_digits : (n : ℕ) → n < 2 ^ 64 → SomeDigits n (decimal n)
decimal_digits n h = decimal_by_steps SomeDigits
    (λ m low. record { digits = (omega arith, omega arith, tt); some = omega arith })
    (λ m ds big x. record { digits = digits_more ds (48 + m % 10) x.digits (omega arith) (omega arith); some = rw (length-append ds ((48 + m % 10) ∷ [])) (omega arith) })
    n h

-- the sorts of elements
data Sort : Type 0 where
  NullSort : Sort
  TrueSort : Sort
  FalseSort : Sort
  IntSort : Sort
  LongSort : Sort
  DateSort : Sort
  BytesSort : Sort
  WordsSort : Sort
  ReferenceSort : Sort
  MarkSort : Sort

abbrev sort_of : Element → Sort
sort_of (Plain values.Null) = NullSort
sort_of (Plain (values.Bool true)) = TrueSort
sort_of (Plain (values.Bool false)) = FalseSort
sort_of (Plain (values.Int z)) = IntSort
sort_of (Plain (values.Long z)) = LongSort
sort_of (Plain (values.Date z)) = DateSort
sort_of (Plain (values.Bytes bytes)) = BytesSort
sort_of (Plain (values.Text text)) = WordsSort
sort_of (Plain (values.Node k)) = ReferenceSort
sort_of (Words text) = WordsSort
sort_of (Reference k) = ReferenceSort
sort_of (Sign mark) = MarkSort

abbrev first_byte : List ℕ → ℕ
first_byte [] = 0
first_byte (b ∷ bs) = b

abbrev last_byte : List ℕ → ℕ
last_byte bs = get_or bs (length bs - 1) 0

abbrev byte_sort : ℕ → Bool → Sort
byte_sort b l =
    if nat_eq b 110 then NullSort
    else (if nat_eq b 116 then TrueSort
    else (if nat_eq b 102 then FalseSort
    else (if nat_eq b 64 then DateSort
    else (if nat_eq b 120 then BytesSort
    else (if nat_eq b 34 then WordsSort
    else (if nat_eq b 35 then ReferenceSort
    else (if nat_eq b 45 || (nat_le 48 b && nat_le b 57) then (if l then LongSort else IntSort)
    else MarkSort)))))))

abbrev token_sort : Token → Sort
token_sort token = byte_sort (first_byte token) (nat_eq (last_byte token) 76)

abbrev IsStart : ℕ → Type 0
IsStart b = (b ≡ 45) ⊎ ((48 ≤ b) × (b ≤ 57))

start_sort : (b : ℕ) (l : Bool) → IsStart b → byte_sort b l ≡ (if l then LongSort else IntSort)
start_sort b l (inl e) = rw e refl
start_sort b l (inr h) =
    let low = h.0 in
    let high = h.1 in
    let e1 : nat_eq b 110 ≡ false = ne_eqb b 110 (λ e. omega (arith, low, high)) in
    let e2 : nat_eq b 116 ≡ false = ne_eqb b 116 (λ e. omega (arith, low, high)) in
    let e3 : nat_eq b 102 ≡ false = ne_eqb b 102 (λ e. omega (arith, low, high)) in
    let e4 : nat_eq b 64 ≡ false = ne_eqb b 64 (λ e. omega (arith, low, high)) in
    let e5 : nat_eq b 120 ≡ false = ne_eqb b 120 (λ e. omega (arith, low, high)) in
    let e6 : nat_eq b 34 ≡ false = ne_eqb b 34 (λ e. omega (arith, low, high)) in
    let e7 : nat_eq b 35 ≡ false = ne_eqb b 35 (λ e. omega (arith, low, high)) in
    let e8 : nat_eq b 45 ≡ false = ne_eqb b 45 (λ e. omega (arith, low, high)) in
    let e9 : nat_le 48 b ≡ true = le-leb 48 b low in
    let e10 : nat_le b 57 ≡ true = le-leb b 57 high in
    rw (e1, e2, e3, e4, e5, e6, e7, e8, e9, e10) refl

-- bytes of a number
abbrev AllLow : List ℕ → Type 0
AllLow [] = Unit {0}
AllLow (b ∷ bs) = (b ≤ 57) × AllLow bs

digits_low : (ds : List ℕ) → AreDigits ds → AllLow ds
digits_low [] a = tt
digits_low (d ∷ ds) a = (a.1, digits_low ds a.2)

low_at : (bs : List ℕ) (k : ℕ) → AllLow bs → get_or bs k 0 ≤ 57
low_at [] k a = omega arith
low_at (b ∷ bs) zero a = a.0
low_at (b ∷ bs) (suc k) a = low_at bs k a.1

record NumberBytes (bs : List ℕ) : Type 0 where
  pub starts : IsStart (first_byte bs)
  pub low : AllLow bs
  pub some : 0 < length bs

first_digit : (ds : List ℕ) → AreDigits ds → 0 < length ds → IsStart (first_byte ds)
first_digit [] a h = absurd (omega arith)
first_digit (d ∷ ds) a h = inr (a.0, a.1)

number_bytes : (z : ℤ) → mag z < 2 ^ 63 → NumberBytes (signed_decimal z)
number_bytes (pos n) h = let x = decimal_digits n (omega arith) in record { starts = first_digit (decimal n) x.digits x.some; low = digits_low (decimal n) x.digits; some = x.some }
number_bytes (negsuc n) h = let x = decimal_digits (suc n) (omega arith) in record { starts = inl refl; low = (omega arith, digits_low (decimal (suc n)) x.digits); some = omega arith }

last_of : (bs : List ℕ) (b : ℕ) → last_byte (bs ++ b ∷ []) ≡ b
last_of bs b = let n : length (bs ++ b ∷ []) - 1 ≡ length bs = rw (length-append bs (b ∷ [])) (omega arith) in ap (λ k. get_or (bs ++ b ∷ []) k 0) n ∙ at_end bs
  where
    at_end : (xs : List ℕ) → get_or (xs ++ b ∷ []) (length xs) 0 ≡ b
    at_end [] = refl
    at_end (x ∷ xs) = at_end xs

first_front : (bs cs : List ℕ) → 0 < length bs → first_byte (bs ++ cs) ≡ first_byte bs
first_front [] cs h = absurd (omega arith)
first_front (b ∷ bs) cs h = refl

mark_sort : (mark : Mark) → token_sort (mark_byte mark ∷ []) ≡ MarkSort
mark_sort marks.BeginList = refl
mark_sort marks.EndList = refl
mark_sort marks.BeginMap = refl
mark_sort marks.EndMap = refl
mark_sort marks.BeginFields = refl
mark_sort marks.EndFields = refl
mark_sort marks.Comma = refl
mark_sort marks.Colon = refl
mark_sort marks.Named = refl

sorted : {token : Token} {e : Element} → Reads token e → token_sort token ≡ sort_of e
sorted null = refl
sorted yes = refl
sorted no = refl
sorted (int z token fits is) =
    let x = number_bytes z (small_w32 z fits) in
    let low = low_at (signed_decimal z) (length (signed_decimal z) - 1) x.low in
    let l : nat_eq (last_byte (signed_decimal z)) 76 ≡ false = ne_eqb (last_byte (signed_decimal z)) 76 (λ e. omega (arith, low)) in
    ap token_sort is ∙ start_sort (first_byte (signed_decimal z)) (nat_eq (last_byte (signed_decimal z)) 76) x.starts ∙ ap (λ b. if b then LongSort else IntSort) l
sorted (long z token fits is) =
    let x = number_bytes z (small_w64 z fits) in
    let whole : List ℕ = signed_decimal z ++ 0x4c ∷ [] in
    let f : first_byte whole ≡ first_byte (signed_decimal z) = first_front (signed_decimal z) (0x4c ∷ []) x.some in
    let l : nat_eq (last_byte whole) 76 ≡ true = ap (λ b. nat_eq b 76) (last_of (signed_decimal z) 0x4c) in
    ap token_sort is ∙ ap (λ b. byte_sort b (nat_eq (last_byte whole) 76)) f ∙ start_sort (first_byte (signed_decimal z)) (nat_eq (last_byte whole) 76) x.starts ∙ ap (λ b. if b then LongSort else IntSort) l
sorted (date z digits fits is) = refl
sorted (binary bytes digits low is) = refl
sorted (words inner text q u) = refl
sorted (reference k digits low is) = refl
sorted (sign mark) = mark_sort mark

abbrev mark_back : ℕ → Option Mark
mark_back b =
    if nat_eq b 0x5b then Some marks.BeginList
    else (if nat_eq b 0x5d then Some marks.EndList
    else (if nat_eq b 0x7b then Some marks.BeginMap
    else (if nat_eq b 0x7d then Some marks.EndMap
    else (if nat_eq b 0x28 then Some marks.BeginFields
    else (if nat_eq b 0x29 then Some marks.EndFields
    else (if nat_eq b 0x2c then Some marks.Comma
    else (if nat_eq b 0x3a then Some marks.Colon
    else Some marks.Named)))))))

mark_is : (mark : Mark) → mark_back (mark_byte mark) ≡ Some mark
mark_is marks.BeginList = refl
mark_is marks.EndList = refl
mark_is marks.BeginMap = refl
mark_is marks.EndMap = refl
mark_is marks.BeginFields = refl
mark_is marks.EndFields = refl
mark_is marks.Comma = refl
mark_is marks.Colon = refl
mark_is marks.Named = refl

some_same : {A : Type 0} (x y : A) → Some x ≡ Some y → x ≡ y
some_same x y e = cc

tails : (b : ℕ) (xs ys : List ℕ) → b ∷ xs ≡ b ∷ ys → xs ≡ ys
tails b xs ys e = cc

same_element : {a b : Token} {e f : Element} → Reads a e → Reads b f → a ≡ b → sort_of e ≡ sort_of f → e ≡ f
same_element null null t s = refl
same_element yes yes t s = refl
same_element no no t s = refl
same_element (int z a fits is) (int y b fits' is') t s = ap (λ x. Plain (values.Int x)) (signed_decimal_injective z y (small_w32 z fits) (small_w32 y fits') (sym is ∙ t ∙ is'))
same_element (long z a fits is) (long y b fits' is') t s = ap (λ x. Plain (values.Long x)) (signed_decimal_injective z y (small_w64 z fits) (small_w64 y fits') ((lasts (signed_decimal z) (signed_decimal y) 0x4c 0x4c (sym is ∙ t ∙ is')).0))
same_element (date z ds fits is) (date y es fits' is') t s = ap (λ x. Plain (values.Date x)) (signed_decimal_injective z y (small_w64 z fits) (small_w64 y fits') (sym is ∙ tails 0x40 ds es t ∙ is'))
same_element (binary bytes ds low is) (binary bytes' es low' is') t s = ap (λ x. Plain (values.Bytes x)) (some_same bytes bytes' (sym (unhexed_where bytes low) ∙ ap unhexed (sym is ∙ tails 0x78 ds es t ∙ is') ∙ unhexed_where bytes' low'))
same_element (words inner text q u) (words inner' text' q' u') t s = ap Words (some_same text text' (sym (unquoted_where q) ∙ ap (unquoted modes.Plain) (insides inner inner' t) ∙ unquoted_where q'))
same_element (reference k ds low is) (reference n es low' is') t s = ap Reference (decimal_injective k n (omega arith) (omega arith) (sym is ∙ tails 0x23 ds es t ∙ is'))
same_element (sign m) (sign n) t s = ap Sign (some_same m n (sym (mark_is m) ∙ ap mark_back (ap first_byte t) ∙ mark_is n))
same_element x y t s = cc

pub one_element : {token : Token} {e f : Element} → Reads token e → Reads token f → e ≡ f
one_element x y = same_element x y refl (sym (sorted x) ∙ sorted y)

pub one_reading : (tokens : List Token) (es fs : List Element) → ReadAs tokens es → ReadAs tokens fs → es ≡ fs
one_reading [] [] [] a b = refl
one_reading [] [] (f ∷ fs) a b = absurd b
one_reading [] (e ∷ es) fs a b = absurd a
one_reading (t ∷ ts) [] fs a b = absurd a
one_reading (t ∷ ts) (e ∷ es) [] a b = absurd b
one_reading (t ∷ ts) (e ∷ es) (f ∷ fs) a b =
    let x : e ≡ f = one_element a.0 b.0 in
    let y : es ≡ fs = one_reading ts es fs a.1 b.1 in
    cc
