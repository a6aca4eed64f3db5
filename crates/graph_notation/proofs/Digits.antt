-- Contents are read exactly.
use Rattle.std.proofs.Common.{◌≡◌, ℕ, zero, suc, ◌+◌, ◌*◌, ◌/◌, ◌%◌, ◌<◌, ◌≤◌, ◌^◌, Bool, true, false, List, [], ◌∷◌, ◌++◌, length, get_or, drop, refl, ap, sym, ◌∙◌, subst, arith, inl, inr, ◌⊎◌, append_assoc, length-append, add-one, drop-cons, map}
use Rattle.std.specs.Prelude.{nat_eq, nat_lt, ◌&&◌, ◌||◌, if◌then◌else◌, Option, Some, None, All}
use Rattle.std.specs.List.{flat_map}
use Rattle.std.specs.Char.{encode_utf8, IsScalar}
use lib.Utf8.{scalar}
use Rattle.std.proofs.lemmas.Bool.{cases_Bool, ne_eqb, eqb-true, eqb-false, and_parts, ltb-true, lt-ltb}
use Rattle.std.proofs.lemmas.List.{drop_all}
use Rattle.std.proofs.Math.Nat.{pow-suc}
use Rattle.graph_notation.specs.declared.contents.Mode.{Mode}
use Rattle.graph_notation.specs.declared.contents.Mode.TheVariants as modes
use Rattle.graph_notation.specs.Elements.{hex_digit, hex_pair, hex_value, is_control, Quoted}
use Rattle.graph_notation.specs.Elements.Quoted.{none, plain, quote, backslash, code}
use Rattle.graph_notation.specs.Unquoting.{digit_of, Turn, one_digit, turn, behind, turned, unquoted, paired, unhexed}

pub digit_back : (d : ℕ) → d < 16 → digit_of (hex_digit d) ≡ Some d
digit_back d h = grind arith

pub digit_is : (b d : ℕ) → digit_of b ≡ Some d → (d < 16) × (b ≡ hex_digit d)
digit_is b d e = grind arith

-- so many digits write no more than this
pub room : (n v : ℕ) → n < 6 → v < 16 ^ n → v < 1048576
room zero v h l = omega arith
room (suc zero) v h l = omega arith
room (suc (suc zero)) v h l = omega arith
room (suc (suc (suc zero))) v h l = omega arith
room (suc (suc (suc (suc zero)))) v h l = omega arith
room (suc (suc (suc (suc (suc zero))))) v h l = omega arith
room (suc (suc (suc (suc (suc (suc n)))))) v h l = absurd (omega arith)

pub fits : (n v d : ℕ) → v < 16 ^ n → d < 16 → v * 16 + d < 16 ^ (n + 1)
fits n v d h l = rw (add-one, pow-suc 16 n) (omega arith)

pub no_scalar : (v : ℕ) → ¬ (IsScalar v) → scalar v ≡ false
no_scalar v never = elim (cases_Bool (scalar v)) [ inl e ↦ absurd (never e) | inr e ↦ e ]

pub behind_behind : (a b : List ℕ) (r : Option (List ℕ)) → behind a (behind b r) ≡ behind (a ++ b) r
behind_behind a b None = refl
behind_behind a b (Some bs) = ap Some (sym (append_assoc a b bs))

pub behind_none : (r : Option (List ℕ)) → behind [] r ≡ r
behind_none None = refl
behind_none (Some bs) = refl

-- a pair goes on
pair_drop : (ds : List ℕ) (i : ℕ) → i + 1 < length ds → drop i ds ≡ get_or ds i 0 ∷ get_or ds (i + 1) 0 ∷ drop (i + 2) ds
pair_drop ds i h =
    let two : suc (suc i) ≡ i + 2 = omega arith in
    let next : suc i ≡ i + 1 = omega arith in
    drop-cons ds i 0 (omega arith)
    ∙ ap (λ x. get_or ds i 0 ∷ x) (drop-cons ds (suc i) 0 (omega arith))
    ∙ ap (λ n. get_or ds i 0 ∷ get_or ds (suc i) 0 ∷ drop n ds) two
    ∙ ap (λ n. get_or ds i 0 ∷ get_or ds n 0 ∷ drop (i + 2) ds) next

pub pair_on : (ds : List ℕ) (i b : ℕ) (old : List ℕ) → i + 1 < length ds → unhexed ds ≡ behind old (unhexed (drop i ds)) → paired (digit_of (get_or ds i 0)) (digit_of (get_or ds (i + 1) 0)) (unhexed (drop (i + 2) ds)) ≡ behind (b ∷ []) (unhexed (drop (i + 2) ds)) → unhexed ds ≡ behind (old ++ b ∷ []) (unhexed (drop (i + 2) ds))
pair_on ds i b old h before e = before ∙ ap (λ x. behind old (unhexed x)) (pair_drop ds i h) ∙ ap (behind old) e ∙ behind_behind old (b ∷ []) (unhexed (drop (i + 2) ds))

pub pair_off : (ds : List ℕ) (i : ℕ) (old : List ℕ) → i + 1 < length ds → unhexed ds ≡ behind old (unhexed (drop i ds)) → paired (digit_of (get_or ds i 0)) (digit_of (get_or ds (i + 1) 0)) (unhexed (drop (i + 2) ds)) ≡ None → unhexed ds ≡ None
pair_off ds i old h before e = before ∙ ap (λ x. behind old (unhexed x)) (pair_drop ds i h) ∙ ap (behind old) e

one_left : (ds : List ℕ) (i : ℕ) → i + 1 ≡ length ds → unhexed (drop i ds) ≡ None
one_left ds i h = ap unhexed (drop-cons ds i 0 (omega arith) ∙ ap (λ x. get_or ds i 0 ∷ x) (drop_all (suc i) ds (omega arith)))

pub odd_end : (ds : List ℕ) (i : ℕ) (old : List ℕ) → i + 1 ≡ length ds → unhexed ds ≡ behind old (unhexed (drop i ds)) → unhexed ds ≡ None
odd_end ds i old h before = before ∙ ap (behind old) (one_left ds i h)

-- Contents are exactly those of the definition.
run_digits : (ds : List ℕ) (n v : ℕ) (rest : List ℕ) → All (λ d. d < 16) ds → n + length ds ≤ 6 → unquoted (modes.Digits n v) (map hex_digit ds ++ rest) ≡ unquoted (modes.Digits (n + length ds) (hex_value v ds)) rest
run_digits [] n v rest a b = let e : n ≡ n + 0 = omega arith in ap (λ k. unquoted (modes.Digits k v) rest) e
run_digits (d ∷ ds) n v rest a b =
    let low : d < 16 = a 0 0 (omega arith) in
    let rest_low : All (λ x. x < 16) ds = λ k x h. a (suc k) x (omega arith) in
    let e1 : nat_eq (hex_digit d) 0x7d ≡ false = no_brace d low in
    let e2 : digit_of (hex_digit d) ≡ Some d = digit_back d low in
    let e3 : nat_lt n 6 ≡ true = lt-ltb n 6 (omega arith) in
    let e : n + 1 + length ds ≡ n + length (d ∷ ds) = omega arith in
    let t : turn (modes.Digits n v) (hex_digit d) ≡ Some (record { mode = modes.Digits (n + 1) (v * 16 + d); adds = [] }) = rw (e1, e2, e3) refl in
    ap (λ x. turned x (λ m. unquoted m (map hex_digit ds ++ rest))) t
    ∙ behind_none (unquoted (modes.Digits (n + 1) (v * 16 + d)) (map hex_digit ds ++ rest))
    ∙ run_digits ds (n + 1) (v * 16 + d) rest rest_low (omega arith)
    ∙ ap (λ k. unquoted (modes.Digits k (hex_value (v * 16 + d) ds)) rest) e
  where
    no_brace : (d : ℕ) → d < 16 → nat_eq (hex_digit d) 0x7d ≡ false
    no_brace d h = grind arith

pub unquoted_where : {inner text : List ℕ} → Quoted inner text → unquoted modes.Plain inner ≡ Some text
unquoted_where none = refl
unquoted_where (plain b more text c q s x) =
    let e1 : nat_eq b 0x5c ≡ false = ne_eqb b 0x5c s in
    let e2 : nat_eq b 0x22 ≡ false = ne_eqb b 0x22 q in
    let t : turn modes.Plain b ≡ Some (record { mode = modes.Plain; adds = b ∷ [] }) = rw (e1, c, e2) refl in
    ap (λ y. turned y (λ m. unquoted m more)) t ∙ ap (behind (b ∷ [])) (unquoted_where x)
unquoted_where (quote more text x) = ap (λ r. behind [] (behind (0x22 ∷ []) r)) (unquoted_where x)
unquoted_where (backslash more text x) = ap (λ r. behind [] (behind (0x5c ∷ []) r)) (unquoted_where x)
unquoted_where (code digits more text c low some few is scalar' x) =
    let e1 : nat_lt 0 (length digits) ≡ true = lt-ltb 0 (length digits) (omega arith) in
    let t : turn (modes.Digits (length digits) c) 0x7d ≡ Some (record { mode = modes.Plain; adds = encode_utf8 c }) = rw (e1, scalar') refl in
    let zero' : 0 + length digits ≡ length digits = omega arith in
    behind_none (behind [] (behind [] (unquoted (modes.Digits 0 0) (map hex_digit digits ++ 0x7d ∷ more))))
    ∙ behind_none (behind [] (unquoted (modes.Digits 0 0) (map hex_digit digits ++ 0x7d ∷ more)))
    ∙ behind_none (unquoted (modes.Digits 0 0) (map hex_digit digits ++ 0x7d ∷ more))
    ∙ run_digits digits 0 0 (0x7d ∷ more) low (omega arith)
    ∙ ap (λ k. unquoted (modes.Digits k (hex_value 0 digits)) (0x7d ∷ more)) zero'
    ∙ ap (λ k. unquoted (modes.Digits (length digits) k) (0x7d ∷ more)) (sym is)
    ∙ ap (λ y. turned y (λ m. unquoted m more)) t
    ∙ ap (behind (encode_utf8 c)) (unquoted_where x)

pub unhexed_where : (bs : List ℕ) → All (λ b. b < 256) bs → unhexed (flat_map hex_pair bs) ≡ Some bs
unhexed_where [] a = refl
unhexed_where (b ∷ bs) a =
    let low : b < 256 = a 0 0 (omega arith) in
    let rest_low : All (λ x. x < 256) bs = λ k x h. a (suc k) x (omega arith) in
    let e1 : digit_of (hex_digit (b / 16)) ≡ Some (b / 16) = digit_back (b / 16) (omega arith) in
    let e2 : digit_of (hex_digit (b % 16)) ≡ Some (b % 16) = digit_back (b % 16) (omega arith) in
    let e3 : b / 16 * 16 + b % 16 ≡ b = omega arith in
    ap (λ x. paired x (digit_of (hex_digit (b % 16))) (unhexed (flat_map hex_pair bs))) e1
    ∙ ap (λ x. paired (Some (b / 16)) x (unhexed (flat_map hex_pair bs))) e2
    ∙ ap (behind ((b / 16 * 16 + b % 16) ∷ [])) (unhexed_where bs rest_low)
    ∙ ap (λ x. Some (x ∷ bs)) e3

-- the other way round
behind_some : (front out : List ℕ) (r : Option (List ℕ)) → behind front r ≡ Some out → (rest : List ℕ) × (r ≡ Some rest) × (out ≡ front ++ rest)
behind_some front out None e = cc
behind_some front out (Some rest) e = (rest, refl, (cc))

if_some : {A : Type 0} (b : Bool) (x y : Option A) (z : A) → (if b then x else y) ≡ Some z → ((b ≡ true) × (x ≡ Some z)) ⊎ ((b ≡ false) × (y ≡ Some z))
if_some true x y z e = inl (refl, e)
if_some false x y z e = inr (refl, e)

-- a turn was made
record Turned (m : Mode) (b : ℕ) (bs text : List ℕ) : Type 0 where
  pub next : Turn
  pub rest : List ℕ
  pub is : turn m b ≡ Some next
  pub goes : unquoted next.mode bs ≡ Some rest
  pub whole : text ≡ next.adds ++ rest

turned_is : (m : Mode) (b : ℕ) (bs text : List ℕ) → unquoted m (b ∷ bs) ≡ Some text → Turned m b bs text
turned_is m b bs text e = by_turn (turn m b) refl e
  where
    by_turn : (t : Option Turn) → turn m b ≡ t → turned t (λ k. unquoted k bs) ≡ Some text → Turned m b bs text
    by_turn None h e = cc
    by_turn (Some t) h e = let x = behind_some t.adds text (unquoted t.mode bs) e in record { next = t; rest = x.0; is = h; goes = x.1; whole = x.2 }

none_some : {A : Type 0} (x : A) → None ≡ Some x → ⊥
none_some x e = cc

some_is : {A : Type 0} (x y : A) → Some x ≡ Some y → x ≡ y
some_is x y e = cc

or_parts : (a b : Bool) → (a || b) ≡ false → (a ≡ false) × (b ≡ false)
or_parts true b e = absurd cc
or_parts false b e = (refl, e)

-- what the digits so far write
record DigitsAre (n v : ℕ) (ds : List ℕ) : Type 0 where
  pub many : length ds ≡ n
  pub value : hex_value 0 ds ≡ v
  pub low : All (λ d. d < 16) ds

hex_more : (high : ℕ) (ds : List ℕ) (d : ℕ) → hex_value high (ds ++ d ∷ []) ≡ hex_value high ds * 16 + d
hex_more high [] d = refl
hex_more high (x ∷ xs) d = hex_more (high * 16 + x) xs d

all_more : (ds : List ℕ) (d : ℕ) → All (λ x. x < 16) ds → d < 16 → All (λ x. x < 16) (ds ++ d ∷ [])
all_more [] d a h zero x l = h
all_more [] d a h (suc k) x l = absurd (omega arith)
all_more (y ∷ ys) d a h zero x l = a 0 x (omega arith)
all_more (y ∷ ys) d a h (suc k) x l = all_more ys d (λ j z m. a (suc j) z (omega arith)) h k x (omega arith)

map_more : (ds : List ℕ) (d : ℕ) (bs : List ℕ) → map hex_digit (ds ++ d ∷ []) ++ bs ≡ map hex_digit ds ++ hex_digit d ∷ bs
map_more [] d bs = refl
map_more (x ∷ xs) d bs = ap (λ z. hex_digit x ∷ z) (map_more xs d bs)

mutual
  pub quoted_where : (bs text : List ℕ) → unquoted modes.Plain bs ≡ Some text → Quoted bs text
  quoted_where [] text e = let t : text ≡ [] = sym (some_is [] text e) in rw t none
  quoted_where (b ∷ bs) text e =
      let x = turned_is modes.Plain b bs text e in
      elim (if_some (nat_eq b 0x5c) (Some (record { mode = modes.Escape; adds = [] })) (if is_control b || nat_eq b 0x22 then None else Some (record { mode = modes.Plain; adds = b ∷ [] })) x.next x.is) [
        | inl h ↦
            let t : record { mode = modes.Escape; adds = [] } ≡ x.next = some_is _ x.next h.1 in
            let go : unquoted modes.Escape bs ≡ Some x.rest = subst (λ (y : Turn). unquoted y.mode bs ≡ Some x.rest) (sym t) x.goes in
            let whole : text ≡ x.rest = x.whole ∙ ap (λ (y : Turn). y.adds ++ x.rest) (sym t) in
            let first : b ≡ 0x5c = eqb-true b 0x5c h.0 in
            subst (λ y. Quoted (b ∷ bs) y) (sym whole) (subst (λ y. Quoted (y ∷ bs) x.rest) (sym first) (escape_where bs x.rest go))
        | inr h ↦ elim (if_some (is_control b || nat_eq b 0x22) None (Some (record { mode = modes.Plain; adds = b ∷ [] })) x.next h.1) [
          | inl k ↦ absurd (none_some x.next k.1)
          | inr k ↦
              let t : record { mode = modes.Plain; adds = b ∷ [] } ≡ x.next = some_is _ x.next k.1 in
              let go : unquoted modes.Plain bs ≡ Some x.rest = subst (λ (y : Turn). unquoted y.mode bs ≡ Some x.rest) (sym t) x.goes in
              let whole : text ≡ b ∷ x.rest = x.whole ∙ ap (λ (y : Turn). y.adds ++ x.rest) (sym t) in
              let both = or_parts (is_control b) (nat_eq b 0x22) k.0 in
              subst (λ y. Quoted (b ∷ bs) y) (sym whole) (plain b bs x.rest both.0 (eqb-false b 0x22 both.1) (eqb-false b 0x5c h.0) (quoted_where bs x.rest go))
        ]
      ]

  escape_where : (bs text : List ℕ) → unquoted modes.Escape bs ≡ Some text → Quoted (0x5c ∷ bs) text
  escape_where [] text e = cc
  escape_where (b ∷ bs) text e =
      let x = turned_is modes.Escape b bs text e in
      elim (if_some (nat_eq b 0x75) (Some (record { mode = modes.Brace; adds = [] })) (if nat_eq b 0x22 || nat_eq b 0x5c then Some (record { mode = modes.Plain; adds = b ∷ [] }) else None) x.next x.is) [
        | inl h ↦
            let t : record { mode = modes.Brace; adds = [] } ≡ x.next = some_is _ x.next h.1 in
            let go : unquoted modes.Brace bs ≡ Some x.rest = subst (λ (y : Turn). unquoted y.mode bs ≡ Some x.rest) (sym t) x.goes in
            let whole : text ≡ x.rest = x.whole ∙ ap (λ (y : Turn). y.adds ++ x.rest) (sym t) in
            let first : b ≡ 0x75 = eqb-true b 0x75 h.0 in
            subst (λ y. Quoted (0x5c ∷ b ∷ bs) y) (sym whole) (subst (λ y. Quoted (0x5c ∷ y ∷ bs) x.rest) (sym first) (brace_where bs x.rest go))
        | inr h ↦ elim (if_some (nat_eq b 0x22 || nat_eq b 0x5c) (Some (record { mode = modes.Plain; adds = b ∷ [] })) None x.next h.1) [
          | inl k ↦
              let t : record { mode = modes.Plain; adds = b ∷ [] } ≡ x.next = some_is _ x.next k.1 in
              let go : unquoted modes.Plain bs ≡ Some x.rest = subst (λ (y : Turn). unquoted y.mode bs ≡ Some x.rest) (sym t) x.goes in
              let whole : text ≡ b ∷ x.rest = x.whole ∙ ap (λ (y : Turn). y.adds ++ x.rest) (sym t) in
              let inner : Quoted bs x.rest = quoted_where bs x.rest go in
              elim (cases_Bool (nat_eq b 0x22)) [
                | inl q ↦ let first : b ≡ 0x22 = eqb-true b 0x22 q in subst (λ y. Quoted (0x5c ∷ b ∷ bs) y) (sym whole) (subst (λ y. Quoted (0x5c ∷ y ∷ bs) (y ∷ x.rest)) (sym first) (quote bs x.rest inner))
                | inr q ↦
                    let s : nat_eq b 0x5c ≡ true = ap (λ y. y || nat_eq b 0x5c) (sym q) ∙ k.0 in
                    let first : b ≡ 0x5c = eqb-true b 0x5c s in
                    subst (λ y. Quoted (0x5c ∷ b ∷ bs) y) (sym whole) (subst (λ y. Quoted (0x5c ∷ y ∷ bs) (y ∷ x.rest)) (sym first) (backslash bs x.rest inner))
              ]
          | inr k ↦ absurd (none_some x.next k.1)
        ]
      ]

  brace_where : (bs text : List ℕ) → unquoted modes.Brace bs ≡ Some text → Quoted (0x5c ∷ 0x75 ∷ bs) text
  brace_where [] text e = cc
  brace_where (b ∷ bs) text e =
      let x = turned_is modes.Brace b bs text e in
      elim (if_some (nat_eq b 0x7b) (Some (record { mode = modes.Digits 0 0; adds = [] })) None x.next x.is) [
        | inl h ↦
            let t : record { mode = modes.Digits 0 0; adds = [] } ≡ x.next = some_is _ x.next h.1 in
            let go : unquoted (modes.Digits 0 0) bs ≡ Some x.rest = subst (λ (y : Turn). unquoted y.mode bs ≡ Some x.rest) (sym t) x.goes in
            let whole : text ≡ x.rest = x.whole ∙ ap (λ (y : Turn). y.adds ++ x.rest) (sym t) in
            let first : b ≡ 0x7b = eqb-true b 0x7b h.0 in
            let no_digits : DigitsAre 0 0 [] = record { many = refl; value = refl; low = λ k d l. absurd (omega arith) } in
            subst (λ y. Quoted (0x5c ∷ 0x75 ∷ b ∷ bs) y) (sym whole) (subst (λ y. Quoted (0x5c ∷ 0x75 ∷ y ∷ bs) x.rest) (sym first) (digits_where bs x.rest 0 0 [] no_digits (omega arith) go))
        | inr h ↦ absurd (none_some x.next h.1)
      ]

  digits_where : (bs text : List ℕ) (n v : ℕ) (ds : List ℕ) → DigitsAre n v ds → n ≤ 6 → unquoted (modes.Digits n v) bs ≡ Some text → Quoted (0x5c ∷ 0x75 ∷ 0x7b ∷ (map hex_digit ds ++ bs)) text
  digits_where [] text n v ds are few e = cc
  digits_where (b ∷ bs) text n v ds are few e =
      let x = turned_is (modes.Digits n v) b bs text e in
      elim (if_some (nat_eq b 0x7d) (if nat_lt 0 n && scalar v then Some (record { mode = modes.Plain; adds = encode_utf8 v }) else None) (one_digit (digit_of b) n v) x.next x.is) [
        | inl h ↦ elim (if_some (nat_lt 0 n && scalar v) (Some (record { mode = modes.Plain; adds = encode_utf8 v })) None x.next h.1) [
          | inl k ↦
              let t : record { mode = modes.Plain; adds = encode_utf8 v } ≡ x.next = some_is _ x.next k.1 in
              let go : unquoted modes.Plain bs ≡ Some x.rest = subst (λ (y : Turn). unquoted y.mode bs ≡ Some x.rest) (sym t) x.goes in
              let whole : text ≡ encode_utf8 v ++ x.rest = x.whole ∙ ap (λ (y : Turn). y.adds ++ x.rest) (sym t) in
              let first : b ≡ 0x7d = eqb-true b 0x7d h.0 in
              let both = and_parts (nat_lt 0 n) (scalar v) k.0 in
              let some : 0 < n = ltb-true 0 n both.0 in
              let many = are.many in
              subst (λ y. Quoted (0x5c ∷ 0x75 ∷ 0x7b ∷ (map hex_digit ds ++ b ∷ bs)) y) (sym whole)
              (subst (λ y. Quoted (0x5c ∷ 0x75 ∷ 0x7b ∷ (map hex_digit ds ++ y ∷ bs)) (encode_utf8 v ++ x.rest)) (sym first)
              (code ds bs x.rest v are.low (omega arith) (omega arith) (sym are.value) both.1 (quoted_where bs x.rest go)))
          | inr k ↦ absurd (none_some x.next k.1)
        ]
        | inr h ↦ by_digit (digit_of b) refl x h.1 (λ d is y. digits_where bs x.rest (n + 1) (v * 16 + d) (ds ++ d ∷ []) is y)
      ]
    where
      by_digit : (o : Option ℕ) → digit_of b ≡ o → (x : Turned (modes.Digits n v) b bs text) → one_digit o n v ≡ Some x.next → ((d : ℕ) → DigitsAre (n + 1) (v * 16 + d) (ds ++ d ∷ []) → n + 1 ≤ 6 → unquoted (modes.Digits (n + 1) (v * 16 + d)) bs ≡ Some x.rest → Quoted (0x5c ∷ 0x75 ∷ 0x7b ∷ (map hex_digit (ds ++ d ∷ []) ++ bs)) x.rest) → Quoted (0x5c ∷ 0x75 ∷ 0x7b ∷ (map hex_digit ds ++ b ∷ bs)) text
      by_digit None is x e again = absurd (none_some x.next e)
      by_digit (Some d) is x e again =
          let dig = digit_is b d is in
          elim (if_some (nat_lt n 6) (Some (record { mode = modes.Digits (n + 1) (v * 16 + d); adds = [] })) None x.next e) [
            | inl k ↦
                let t : record { mode = modes.Digits (n + 1) (v * 16 + d); adds = [] } ≡ x.next = some_is _ x.next k.1 in
                let go : unquoted (modes.Digits (n + 1) (v * 16 + d)) bs ≡ Some x.rest = subst (λ (y : Turn). unquoted y.mode bs ≡ Some x.rest) (sym t) x.goes in
                let whole : text ≡ x.rest = x.whole ∙ ap (λ (y : Turn). y.adds ++ x.rest) (sym t) in
                let below : n < 6 = ltb-true n 6 k.0 in
                let many = are.many in
                let more : DigitsAre (n + 1) (v * 16 + d) (ds ++ d ∷ []) = record { many = length-append ds (d ∷ []) ∙ omega arith; value = hex_more 0 ds d ∙ ap (λ y. y * 16 + d) are.value; low = all_more ds d are.low dig.0 } in
                subst (λ y. Quoted (0x5c ∷ 0x75 ∷ 0x7b ∷ (map hex_digit ds ++ b ∷ bs)) y) (sym whole)
                (subst (λ y. Quoted (0x5c ∷ 0x75 ∷ 0x7b ∷ (map hex_digit ds ++ y ∷ bs)) x.rest) (sym dig.1)
                (subst (λ y. Quoted (0x5c ∷ 0x75 ∷ 0x7b ∷ y) x.rest) (map_more ds d bs) (again d more (omega arith) go)))
            | inr k ↦ absurd (none_some x.next k.1)
          ]

-- the bytes that pairs of digits write
pub record HexOf (ds bs : List ℕ) : Type 0 where
  pub low : All (λ b. b < 256) bs
  pub is : ds ≡ flat_map hex_pair bs

first_low : (c : ℕ) → c < 256 → (xs : List ℕ) → All (λ b. b < 256) xs → All (λ b. b < 256) (c ∷ xs)
first_low c h xs l zero d m = h
first_low c h xs l (suc k) d m = l k d (omega arith)

pub hex_where : (ds bs : List ℕ) → unhexed ds ≡ Some bs → HexOf ds bs
hex_where [] bs e = let t : bs ≡ [] = sym (some_is [] bs e) in rw t (record { low = λ k b l. absurd (omega arith); is = refl })
hex_where (a ∷ []) bs e = cc
hex_where (a ∷ b ∷ rest) bs e = by_digits (digit_of a) (digit_of b) refl refl e (hex_where rest)
  where
    by_digits : (h l : Option ℕ) → digit_of a ≡ h → digit_of b ≡ l → paired h l (unhexed rest) ≡ Some bs → ((xs : List ℕ) → unhexed rest ≡ Some xs → HexOf rest xs) → HexOf (a ∷ b ∷ rest) bs
    by_digits None l h1 h2 e again = cc
    by_digits (Some h) None h1 h2 e again = cc
    by_digits (Some h) (Some l) h1 h2 e again =
        let x = behind_some ((h * 16 + l) ∷ []) bs (unhexed rest) e in
        let y = again x.0 x.1 in
        let d1 = digit_is a h h1 in
        let d2 = digit_is b l h2 in
        let c : ℕ = h * 16 + l in
        let top : c / 16 ≡ h = omega (arith, d1, d2) in
        let bottom : c % 16 ≡ l = omega (arith, d1, d2) in
        let first : a ≡ hex_digit (c / 16) = d1.1 ∙ ap hex_digit (sym top) in
        let second : b ≡ hex_digit (c % 16) = d2.1 ∙ ap hex_digit (sym bottom) in
        let tail = y.is in
        subst (HexOf (a ∷ b ∷ rest)) (sym x.2) (record {
          low = first_low c (omega (arith, d1, d2)) x.0 y.low;
          is = (cc);
        })
