-- One byte of a text or a binary, forwards and back.
use Rattle.std.proofs.Common.{◌≡◌, ℕ, ◌+◌, ◌*◌, ◌-◌, ◌<◌, ◌≤◌, List, [], ◌∷◌, ◌++◌, refl, sym, ap, ◌∙◌, subst, arith, inl, inr, append_assoc}
use Rattle.std.specs.Prelude.{Option, Some, None}
use Rattle.std.proofs.lemmas.Bool.{cases_lt}
use Rattle.std.proofs.lemmas.Bool.Decides.{nat_tests}
use Rattle.std.proofs.lemmas.List.{append-nil}
use Rattle.hessian_text.specs.declared.stage.Kind.{Kind}
use Rattle.hessian_text.specs.declared.stage.Kind.TheVariants.{Text, Binary}
use Rattle.hessian_text.specs.declared.stage.Part.{Part}
use Rattle.hessian_text.specs.declared.stage.Part.TheVariants.{Inner, Final}
use Rattle.hessian_text.specs.declared.stage.Begun.{Begun}
use Rattle.hessian_text.specs.declared.stage.Begun.TheVariants.{Nothing}
use Rattle.hessian_text.specs.declared.stage.Stage.{Stage}
use Rattle.hessian_text.specs.declared.stage.Stage.TheVariants.{Code, High, Low, Inside, Ended}
use Rattle.hessian_text.specs.declared.step.Item.{Item}
use Rattle.hessian_text.specs.declared.step.Item.TheVariants.{Grows, Whole, Wrong}
use Rattle.hessian_text.specs.ChunkHead.{IsCode, ChunkHead}
use Rattle.hessian_text.specs.ChunkHead.ChunkHead.{text_short, text_middle, text_inner, text_final, binary_short, binary_middle, binary_inner, binary_final}
use Rattle.hessian_text.specs.Items.{IsItem, Contents}
use Rattle.hessian_text.specs.Items.Contents.{none, item}
use Rattle.hessian_text.specs.Spelling.{Spelling}
use Rattle.hessian_text.specs.Spelling.Spelling.{last, chunk}
use Rattle.hessian_text.specs.Residual.{begun_bytes, Follows, IsRest, IsLowRest, IsHighRest, Completes}
use Rattle.hessian_text.specs.Sound.{SoundBegun, SoundStage}
use Rattle.hessian_text.specs.Steps.{letter_bytes, letter_units, behind, entered, after_code, item_step, taken, arrived, step}
use Rattle.hessian_text.proofs.Characters.{Goes, item_forward, item_ended, item_grown, item_some}
use Rattle.hessian_text.proofs.Characters.Goes.{grown, ended}

-- ---- so many units

pub entered_some : (part : Part) (n : ℕ) → 0 < n → entered part n ≡ Inside part n Nothing
entered_some part n h = grind (arith, nat_tests)

pub entered_none : (part : Part) (n : ℕ) → n ≡ 0 → entered part n ≡ behind part
entered_none part n h = grind (arith, nat_tests)

nothing_left : (kind : Kind) (value forms : List ℕ) (n : ℕ) → Contents kind value n forms → n ≡ 0 → (value ≡ []) × (forms ≡ [])
nothing_left kind value forms n none e = (refl, refl)
nothing_left kind value forms n (item v form vs fs units more i rest) e = absurd (let h = item_some kind v units form i in omega arith)

behind_completes : (kind : Kind) (part : Part) (value bytes inside values forms after : List ℕ) → Follows kind part values after → inside ≡ [] → forms ≡ [] → value ≡ inside ++ values → bytes ≡ forms ++ after → Completes kind (behind part) value bytes
behind_completes kind Final value bytes inside values forms after f p q r s = (r ∙ ap (λ x. x ++ values) p ∙ f.0, s ∙ ap (λ x. x ++ after) q ∙ f.1)
behind_completes kind Inner value bytes inside values forms after f p q r s =
    let e : value ≡ values = r ∙ ap (λ x. x ++ values) p in
    let k : bytes ≡ after = s ∙ ap (λ x. x ++ after) q in
    rw (e, k) f

pub enter : (kind : Kind) (part : Part) (n : ℕ) (value bytes : List ℕ) → IsRest kind part n value bytes → Completes kind (entered part n) value bytes
enter kind part n value bytes r = elim (cases_lt 0 n) [
  | inl h ↦ rw (entered_some part n h) r
  | inr h ↦ let e : n ≡ 0 = omega arith in let k = nothing_left kind r.inside r.forms n r.contents e in rw (entered_none part n e) (behind_completes kind part value bytes r.inside r.values r.forms r.after r.follows k.0 k.1 r.value_is r.bytes_are)
]

rest_behind : (kind : Kind) (part : Part) (n : ℕ) (value bytes : List ℕ) → n ≡ 0 → Completes kind (behind part) value bytes → IsRest kind part n value bytes
rest_behind kind Final n value bytes e c = rw e (record { inside = []; values = []; forms = []; after = []; contents = none; follows = (refl, refl); value_is = c.0; bytes_are = c.1 })
rest_behind kind Inner n value bytes e c = rw e (record { inside = []; values = value; forms = []; after = bytes; contents = none; follows = c; value_is = refl; bytes_are = refl })

pub left_by : (kind : Kind) (part : Part) (n : ℕ) (value bytes : List ℕ) → Completes kind (entered part n) value bytes → IsRest kind part n value bytes
left_by kind part n value bytes c = elim (cases_lt 0 n) [
  | inl h ↦ rw (entered_some part n h) at c
  | inr h ↦ let e : n ≡ 0 = omega arith in rest_behind kind part n value bytes e (rw (entered_none part n e) at c)
]

-- ---- heads

-- a head and so many units are a spelling
pub headed : (kind : Kind) (part : Part) (n : ℕ) (head value bytes : List ℕ) → ChunkHead kind part n head → IsRest kind part n value bytes → Spelling kind value (head ++ bytes)
headed kind Final n head value bytes h r =
    let e : value ≡ r.inside = r.value_is ∙ ap (λ x. r.inside ++ x) r.follows.0 ∙ append-nil r.inside in
    let k : bytes ≡ r.forms = r.bytes_are ∙ ap (λ x. r.forms ++ x) r.follows.1 ∙ append-nil r.forms in
    rw (e, k) (last r.inside head r.forms n h r.contents)
headed kind Inner n head value bytes h r = rw (r.value_is, r.bytes_are) (chunk r.inside r.values head r.forms r.after n h r.contents r.follows)

-- a spelling is a head and so many units
pub record IsHeaded (kind : Kind) (value bytes : List ℕ) : Type 0 where
  pub part : Part
  pub units : ℕ
  pub head : List ℕ
  pub rest : List ℕ
  pub begins : ChunkHead kind part units head
  pub goes_on : IsRest kind part units value rest
  pub bytes_are : bytes ≡ head ++ rest

pub to_headed : (kind : Kind) (value bytes : List ℕ) → Spelling kind value bytes → IsHeaded kind value bytes
to_headed kind value bytes (last v head forms units h c) = record { part = Final; units = units; head = head; rest = forms; begins = h; goes_on = record { inside = v; values = []; forms = forms; after = []; contents = c; follows = (refl, refl); value_is = sym (append-nil v); bytes_are = sym (append-nil forms) }; bytes_are = refl }
to_headed kind value bytes (chunk v vs head forms rest units h c s) = record { part = Inner; units = units; head = head; rest = forms ++ rest; begins = h; goes_on = record { inside = v; values = vs; forms = forms; after = rest; contents = c; follows = s; value_is = refl; bytes_are = refl }; bytes_are = refl }

-- ---- forwards

pub record Ahead (kind : Kind) (moved : Option (Stage × List ℕ)) (value bytes : List ℕ) : Type 0 where
  pub next : Stage
  pub gained : List ℕ
  pub more : List ℕ
  pub is : moved ≡ Some (next, gained)
  pub value_is : value ≡ gained ++ more
  pub completes : Completes kind next more bytes

pub text_short_code : (c : ℕ) → IsCode 0x00 0x1f c → after_code Text c ≡ Some (entered Final c)
text_short_code c h = grind (arith, nat_tests)

pub text_middle_code : (c : ℕ) → IsCode 0x30 0x33 c → after_code Text c ≡ Some (Low Final (c - 0x30))
text_middle_code c h = grind (arith, nat_tests)

pub binary_short_code : (c : ℕ) → IsCode 0x20 0x2f c → after_code Binary c ≡ Some (entered Final (c - 0x20))
binary_short_code c h = grind (arith, nat_tests)

pub binary_middle_code : (c : ℕ) → IsCode 0x34 0x37 c → after_code Binary c ≡ Some (Low Final (c - 0x34))
binary_middle_code c h = grind (arith, nat_tests)

arrived_at : (kind : Kind) (o : Option Stage) (s : Stage) (value bytes : List ℕ) → o ≡ Some s → Completes kind s value bytes → Ahead kind (arrived o) value bytes
arrived_at kind o s value bytes e c = record { next = s; gained = []; more = value; is = ap arrived e; value_is = refl; completes = c }

code_is : (kind : Kind) (c b : ℕ) (value bs : List ℕ) → c ≡ b → Ahead kind (step kind Code c) value bs → Ahead kind (step kind Code b) value bs
code_is kind c b value bs e a = subst (λ x. Ahead kind (step kind Code x) value bs) e a

at_number : (kind : Kind) (part : Part) (n m : ℕ) (value bytes : List ℕ) → n ≡ m → IsRest kind part n value bytes → IsRest kind part m value bytes
at_number kind part n m value bytes e r = subst (λ x. IsRest kind part x value bytes) e r

same_bytes : (kind : Kind) (part : Part) (n : ℕ) (value bytes bs : List ℕ) → bytes ≡ bs → IsRest kind part n value bytes → IsRest kind part n value bs
same_bytes kind part n value bytes bs e r = subst (λ x. IsRest kind part n value x) e r

head_of : (x y : ℕ) (xs ys : List ℕ) → x ∷ xs ≡ y ∷ ys → x ≡ y
head_of x y xs ys e = cc

tail_of : (x y : ℕ) (xs ys : List ℕ) → x ∷ xs ≡ y ∷ ys → xs ≡ ys
tail_of x y xs ys e = cc

low_then : (kind : Kind) (part : Part) (high b0 n : ℕ) (value rest bs : List ℕ) → b0 < 256 → n ≡ high * 256 + b0 → IsRest kind part n value rest → b0 ∷ rest ≡ bs → IsLowRest kind part high value bs
low_then kind part high b0 n value rest bs h e r k = record { b0 = b0; rest = rest; small = h; bytes_are = sym k; goes_on = at_number kind part n (high * 256 + b0) value rest e r }

high_then : (kind : Kind) (part : Part) (b1 b0 n : ℕ) (value rest bs : List ℕ) → b1 < 256 → b0 < 256 → n ≡ b1 * 256 + b0 → IsRest kind part n value rest → b1 ∷ b0 ∷ rest ≡ bs → IsHighRest kind part value bs
high_then kind part b1 b0 n value rest bs g h e r k = record { b1 = b1; rest = b0 ∷ rest; small = g; bytes_are = sym k; goes_on = low_then kind part b1 b0 n value rest (b0 ∷ rest) h e r refl }

code_forward : (kind : Kind) (part : Part) (n b : ℕ) (head value rest bs : List ℕ) → ChunkHead kind part n head → IsRest kind part n value rest → head ++ rest ≡ b ∷ bs → Ahead kind (step kind Code b) value bs
code_forward kind part n b head value rest bs (text_short c m h e) r k = code_is Text c b value bs (head_of c b _ _ k) (arrived_at Text (after_code Text c) (entered Final c) value bs (text_short_code c h) (enter Text Final c value bs (same_bytes Text Final c value rest bs (tail_of c b _ _ k) (at_number Text Final m c value rest e r))))
code_forward kind part n b head value rest bs (text_middle c b0 m h s e) r k = code_is Text c b value bs (head_of c b _ _ k) (arrived_at Text (after_code Text c) (Low Final (c - 0x30)) value bs (text_middle_code c h) (low_then Text Final (c - 0x30) b0 m value rest bs s e r (tail_of c b _ _ k)))
code_forward kind part n b head value rest bs (text_inner b1 b0 m s1 s0 e) r k = code_is Text 0x52 b value bs (head_of 0x52 b _ _ k) (arrived_at Text (Some (High Inner)) (High Inner) value bs refl (high_then Text Inner b1 b0 m value rest bs s1 s0 e r (tail_of 0x52 b _ _ k)))
code_forward kind part n b head value rest bs (text_final b1 b0 m s1 s0 e) r k = code_is Text 0x53 b value bs (head_of 0x53 b _ _ k) (arrived_at Text (Some (High Final)) (High Final) value bs refl (high_then Text Final b1 b0 m value rest bs s1 s0 e r (tail_of 0x53 b _ _ k)))
code_forward kind part n b head value rest bs (binary_short c m h e) r k = code_is Binary c b value bs (head_of c b _ _ k) (arrived_at Binary (after_code Binary c) (entered Final (c - 0x20)) value bs (binary_short_code c h) (enter Binary Final (c - 0x20) value bs (same_bytes Binary Final (c - 0x20) value rest bs (tail_of c b _ _ k) (at_number Binary Final m (c - 0x20) value rest e r))))
code_forward kind part n b head value rest bs (binary_middle c b0 m h s e) r k = code_is Binary c b value bs (head_of c b _ _ k) (arrived_at Binary (after_code Binary c) (Low Final (c - 0x34)) value bs (binary_middle_code c h) (low_then Binary Final (c - 0x34) b0 m value rest bs s e r (tail_of c b _ _ k)))
code_forward kind part n b head value rest bs (binary_inner b1 b0 m s1 s0 e) r k = code_is Binary 0x41 b value bs (head_of 0x41 b _ _ k) (arrived_at Binary (Some (High Inner)) (High Inner) value bs refl (high_then Binary Inner b1 b0 m value rest bs s1 s0 e r (tail_of 0x41 b _ _ k)))
code_forward kind part n b head value rest bs (binary_final b1 b0 m s1 s0 e) r k = code_is Binary 0x42 b value bs (head_of 0x42 b _ _ k) (arrived_at Binary (Some (High Final)) (High Final) value bs refl (high_then Binary Final b1 b0 m value rest bs s1 s0 e r (tail_of 0x42 b _ _ k)))

inside_goes : (kind : Kind) (part : Part) (left b units more : ℕ) (begun : Begun) (out : Item) (value v vs form fs values after bs : List ℕ) → Contents kind vs more fs → Follows kind part values after → units + more ≡ left → value ≡ (v ++ vs) ++ values → begun_bytes begun ++ b ∷ bs ≡ (form ++ fs) ++ after → Goes out begun b bs v units (fs ++ after) → IsItem kind v units form → Ahead kind (taken part left out) value bs
inside_goes kind part left b units more begun out value v vs form fs values after bs c f e ve be (grown p is same) i = record { next = Inside part left p; gained = []; more = value; is = ap (taken part left) is; value_is = refl; completes = record { inside = v ++ vs; values = values; forms = form ++ fs; after = after; contents = subst (λ n. Contents kind (v ++ vs) n (form ++ fs)) e (item v form vs fs units more i c); follows = f; value_is = ve; bytes_are = ap (λ x. x ++ bs) same ∙ append_assoc (begun_bytes begun) (b ∷ []) bs ∙ be } }
inside_goes kind part left b units more begun out value v vs form fs values after bs c f e ve be (ended w is vis uis rest) i = record { next = entered part (left - letter_units w); gained = letter_bytes w; more = vs ++ values; is = ap (taken part left) is; value_is = ve ∙ append_assoc v vs values ∙ ap (λ x. x ++ (vs ++ values)) (sym vis); completes = enter kind part (left - letter_units w) (vs ++ values) bs (record { inside = vs; values = values; forms = fs; after = after; contents = subst (λ n. Contents kind vs n fs) (omega arith) c; follows = f; value_is = refl; bytes_are = sym rest }) }

inside_forward : (kind : Kind) (part : Part) (left b n : ℕ) (begun : Begun) (value inside forms values after bs : List ℕ) → 0 < left → SoundBegun kind left begun → Contents kind inside n forms → n ≡ left → Follows kind part values after → value ≡ inside ++ values → begun_bytes begun ++ b ∷ bs ≡ forms ++ after → Ahead kind (taken part left (item_step kind left begun b)) value bs
inside_forward kind part left b n begun value inside forms values after bs some s none e f ve be = absurd (omega arith)
inside_forward kind part left b n begun value inside forms values after bs some s (item v form vs fs units more i c) e f ve be = inside_goes kind part left b units more begun (item_step kind left begun b) value v vs form fs values after bs c f e ve be (item_forward kind left begun b units v form (fs ++ after) bs i s (omega arith) (sym (be ∙ append_assoc form fs after))) i

high_forward : (kind : Kind) (part : Part) (b : ℕ) (value bs : List ℕ) → IsHighRest kind part value (b ∷ bs) → Ahead kind (step kind (High part) b) value bs
high_forward kind part b value bs r = record { next = Low part b; gained = []; more = value; is = refl; value_is = refl; completes = low_is (sym (head_of b r.b1 bs r.rest r.bytes_are)) (sym (tail_of b r.b1 bs r.rest r.bytes_are)) r.goes_on }
  where
    low_is : {b1 : ℕ} {rest : List ℕ} → b1 ≡ b → rest ≡ bs → IsLowRest kind part b1 value rest → IsLowRest kind part b value bs
    low_is e k l = rw (sym e, sym k) l

low_forward : (kind : Kind) (part : Part) (high b : ℕ) (value bs : List ℕ) → IsLowRest kind part high value (b ∷ bs) → Ahead kind (step kind (Low part high) b) value bs
low_forward kind part high b value bs r = record { next = entered part (high * 256 + b); gained = []; more = value; is = refl; value_is = refl; completes = enter kind part (high * 256 + b) value bs (same_bytes kind part (high * 256 + b) value r.rest bs (sym (tail_of b r.b0 bs r.rest r.bytes_are)) (at_number kind part (high * 256 + r.b0) (high * 256 + b) value r.rest (ap (λ x. high * 256 + x) (sym (head_of b r.b0 bs r.rest r.bytes_are))) r.goes_on)) }

pub stage_forward : (kind : Kind) (s : Stage) (b : ℕ) (value bs : List ℕ) → SoundStage kind s → Completes kind s value (b ∷ bs) → Ahead kind (step kind s b) value bs
stage_forward kind Code b value bs s c = let h = to_headed kind value (b ∷ bs) c in code_forward kind h.part h.units b h.head value h.rest bs h.begins h.goes_on (sym h.bytes_are)
stage_forward kind (High part) b value bs s c = high_forward kind part b value bs c
stage_forward kind (Low part high) b value bs s c = low_forward kind part high b value bs c
stage_forward kind (Inside part left begun) b value bs s c = inside_forward kind part left b left begun value c.inside c.forms c.values c.after bs s.0 s.2 c.contents refl c.follows c.value_is c.bytes_are
stage_forward kind Ended b value bs s c = absurd (let e : b ∷ bs ≡ [] = c.1 in cc)

-- ---- back

-- a code leads to a stage by its row of the table
pub data CodeRow (kind : Kind) (c : ℕ) (s : Stage) : Type 0 where
  short : (n : ℕ) → n < 65536 → ChunkHead kind Final n (c ∷ []) → s ≡ entered Final n → CodeRow kind c s
  middle : (high : ℕ) → high < 256 → ((b0 : ℕ) → b0 < 256 → ChunkHead kind Final (high * 256 + b0) (c ∷ b0 ∷ [])) → s ≡ Low Final high → CodeRow kind c s
  long : (part : Part) → ((b1 b0 : ℕ) → b1 < 256 → b0 < 256 → ChunkHead kind part (b1 * 256 + b0) (c ∷ b1 ∷ b0 ∷ [])) → s ≡ High part → CodeRow kind c s

same_stage : (o : Option Stage) (s t : Stage) → o ≡ Some s → o ≡ Some t → s ≡ t
same_stage o s t p q = cc

no_stage : (o : Option Stage) (s : Stage) → o ≡ Some s → o ≡ None → ⊥
no_stage o s p q = cc

text_gap_1 : (c : ℕ) → 0x20 ≤ c → c < 0x30 → after_code Text c ≡ None
text_gap_1 c l h = grind (arith, nat_tests)

text_gap_2 : (c : ℕ) → 0x34 ≤ c → c < 0x52 → after_code Text c ≡ None
text_gap_2 c l h = grind (arith, nat_tests)

text_gap_3 : (c : ℕ) → 0x54 ≤ c → after_code Text c ≡ None
text_gap_3 c l = grind (arith, nat_tests)

text_inner_row : (c : ℕ) (s : Stage) → c ≡ 0x52 → after_code Text c ≡ Some s → CodeRow Text c s
text_inner_row c s e h = rw e (long Inner (λ b1 b0 k m. text_inner b1 b0 (b1 * 256 + b0) k m refl) (same_stage (after_code Text c) s (High Inner) h (ap (after_code Text) e)))

text_final_row : (c : ℕ) (s : Stage) → c ≡ 0x53 → after_code Text c ≡ Some s → CodeRow Text c s
text_final_row c s e h = rw e (long Final (λ b1 b0 k m. text_final b1 b0 (b1 * 256 + b0) k m refl) (same_stage (after_code Text c) s (High Final) h (ap (after_code Text) e)))

text_row : (c : ℕ) (s : Stage) → after_code Text c ≡ Some s → CodeRow Text c s
text_row c s e = elim (cases_lt c 0x20) [
  | inl h ↦ short c (omega arith) (text_short c c (record { low = omega arith; high = omega arith }) refl) (same_stage (after_code Text c) s (entered Final c) e (text_short_code c (record { low = omega arith; high = omega arith })))
  | inr l ↦ elim (cases_lt c 0x30) [
    | inl h ↦ absurd (no_stage (after_code Text c) s e (text_gap_1 c l h))
    | inr l ↦ elim (cases_lt c 0x34) [
      | inl h ↦ middle (c - 0x30) (omega arith) (λ b0 k. text_middle c b0 ((c - 0x30) * 256 + b0) (record { low = l; high = omega arith }) k refl) (same_stage (after_code Text c) s (Low Final (c - 0x30)) e (text_middle_code c (record { low = l; high = omega arith })))
      | inr l ↦ elim (cases_lt c 0x52) [
        | inl h ↦ absurd (no_stage (after_code Text c) s e (text_gap_2 c l h))
        | inr l ↦ elim (cases_lt c 0x53) [
          | inl h ↦ text_inner_row c s (omega arith) e
          | inr l ↦ elim (cases_lt c 0x54) [
            | inl h ↦ text_final_row c s (omega arith) e
            | inr l ↦ absurd (no_stage (after_code Text c) s e (text_gap_3 c l))
          ]
        ]
      ]
    ]
  ]
]

binary_gap_1 : (c : ℕ) → c < 0x20 → after_code Binary c ≡ None
binary_gap_1 c h = grind (arith, nat_tests)

binary_gap_2 : (c : ℕ) → 0x30 ≤ c → c < 0x34 → after_code Binary c ≡ None
binary_gap_2 c l h = grind (arith, nat_tests)

binary_gap_3 : (c : ℕ) → 0x38 ≤ c → c < 0x41 → after_code Binary c ≡ None
binary_gap_3 c l h = grind (arith, nat_tests)

binary_gap_4 : (c : ℕ) → 0x43 ≤ c → after_code Binary c ≡ None
binary_gap_4 c l = grind (arith, nat_tests)

binary_inner_row : (c : ℕ) (s : Stage) → c ≡ 0x41 → after_code Binary c ≡ Some s → CodeRow Binary c s
binary_inner_row c s e h = rw e (long Inner (λ b1 b0 k m. binary_inner b1 b0 (b1 * 256 + b0) k m refl) (same_stage (after_code Binary c) s (High Inner) h (ap (after_code Binary) e)))

binary_final_row : (c : ℕ) (s : Stage) → c ≡ 0x42 → after_code Binary c ≡ Some s → CodeRow Binary c s
binary_final_row c s e h = rw e (long Final (λ b1 b0 k m. binary_final b1 b0 (b1 * 256 + b0) k m refl) (same_stage (after_code Binary c) s (High Final) h (ap (after_code Binary) e)))

binary_row : (c : ℕ) (s : Stage) → after_code Binary c ≡ Some s → CodeRow Binary c s
binary_row c s e = elim (cases_lt c 0x20) [
  | inl h ↦ absurd (no_stage (after_code Binary c) s e (binary_gap_1 c h))
  | inr l ↦ elim (cases_lt c 0x30) [
    | inl h ↦ short (c - 0x20) (omega arith) (binary_short c (c - 0x20) (record { low = l; high = omega arith }) refl) (same_stage (after_code Binary c) s (entered Final (c - 0x20)) e (binary_short_code c (record { low = l; high = omega arith })))
    | inr l ↦ elim (cases_lt c 0x34) [
      | inl h ↦ absurd (no_stage (after_code Binary c) s e (binary_gap_2 c l h))
      | inr l ↦ elim (cases_lt c 0x38) [
        | inl h ↦ middle (c - 0x34) (omega arith) (λ b0 k. binary_middle c b0 ((c - 0x34) * 256 + b0) (record { low = l; high = omega arith }) k refl) (same_stage (after_code Binary c) s (Low Final (c - 0x34)) e (binary_middle_code c (record { low = l; high = omega arith })))
        | inr l ↦ elim (cases_lt c 0x41) [
          | inl h ↦ absurd (no_stage (after_code Binary c) s e (binary_gap_3 c l h))
          | inr l ↦ elim (cases_lt c 0x42) [
            | inl h ↦ binary_inner_row c s (omega arith) e
            | inr l ↦ elim (cases_lt c 0x43) [
              | inl h ↦ binary_final_row c s (omega arith) e
              | inr l ↦ absurd (no_stage (after_code Binary c) s e (binary_gap_4 c l))
            ]
          ]
        ]
      ]
    ]
  ]
]

pub code_row : (kind : Kind) (c : ℕ) (s : Stage) → after_code kind c ≡ Some s → CodeRow kind c s
code_row Text c s e = text_row c s e
code_row Binary c s e = binary_row c s e

pub arrived_is : (o : Option Stage) (t : Stage) (g : List ℕ) → arrived o ≡ Some (t, g) → (o ≡ Some t) × (g ≡ [])
arrived_is (Some s) t g e = let k = pair_is s t [] g e in (ap Some k.0, sym k.1)
  where
    pair_is : (s t : Stage) (g h : List ℕ) → ◌≡◌ {A = Option (Stage × List ℕ)} (Some (s, g)) (Some (t, h)) → (s ≡ t) × (g ≡ h)
    pair_is s t g h e = (ap (λ p. p.0) (some_is (s, g) (t, h) e), ap (λ p. p.1) (some_is (s, g) (t, h) e))
      where
        some_is : (p q : Stage × List ℕ) → Some p ≡ Some q → p ≡ q
        some_is p q e = cc
arrived_is None t g e = absurd (cc)

-- the stage and the gain of a step
pub moved_is : (s t : Stage) (g h : List ℕ) → ◌≡◌ {A = Option (Stage × List ℕ)} (Some (s, g)) (Some (t, h)) → (s ≡ t) × (g ≡ h)
moved_is s t g h e = (ap (λ p. p.0) (some_is (s, g) (t, h) e), ap (λ p. p.1) (some_is (s, g) (t, h) e))
  where
    some_is : (p q : Stage × List ℕ) → Some p ≡ Some q → p ≡ q
    some_is p q e = cc

gaining : (kind : Kind) (s : Stage) (g h value bytes : List ℕ) → g ≡ h → Completes kind s (h ++ value) bytes → Completes kind s (g ++ value) bytes
gaining kind s g h value bytes e c = rw e c

at_stage : (kind : Kind) (s t : Stage) (value bytes : List ℕ) → s ≡ t → Completes kind t value bytes → Completes kind s value bytes
at_stage kind s t value bytes e c = rw e c

row_back : (kind : Kind) (c : ℕ) (t : Stage) (value bs : List ℕ) → CodeRow kind c t → Completes kind t value bs → Spelling kind value (c ∷ bs)
row_back kind c t value bs (short n h head e) k = headed kind Final n (c ∷ []) value bs head (left_by kind Final n value bs (at_stage kind (entered Final n) t value bs (sym e) k))
row_back kind c t value bs (middle high h head e) k = low_back (at_stage kind (Low Final high) t value bs (sym e) k)
  where
    low_back : IsLowRest kind Final high value bs → Spelling kind value (c ∷ bs)
    low_back r = rw r.bytes_are (headed kind Final (high * 256 + r.b0) (c ∷ r.b0 ∷ []) value r.rest (head r.b0 r.small) r.goes_on)
row_back kind c t value bs (long part head e) k = high_back (at_stage kind (High part) t value bs (sym e) k)
  where
    high_back : IsHighRest kind part value bs → Spelling kind value (c ∷ bs)
    high_back r = rw (r.bytes_are, r.goes_on.bytes_are) (headed kind part (r.b1 * 256 + r.goes_on.b0) (c ∷ r.b1 ∷ r.goes_on.b0 ∷ []) value r.goes_on.rest (head r.b1 r.goes_on.b0 r.small r.goes_on.small) r.goes_on.goes_on)

taken_back : (kind : Kind) (part : Part) (left : ℕ) (begun : Begun) (b : ℕ) (t : Stage) (gained value bs : List ℕ) (out : Item) → 0 < left → b < 256 → SoundBegun kind left begun → item_step kind left begun b ≡ out → taken part left out ≡ Some (t, gained) → Completes kind t value bs → IsRest kind part left (gained ++ value) (begun_bytes begun ++ b ∷ bs)
taken_back kind part left begun b t gained value bs (Grows p) some small s is e c =
    let m = moved_is (Inside part left p) t [] gained e in
    let g = (item_grown kind left begun b p s is).grown in
    let r : IsRest kind part left value (begun_bytes p ++ bs) = at_stage kind (Inside part left p) t value bs m.0 c in
    let k : begun_bytes p ++ bs ≡ begun_bytes begun ++ b ∷ bs = ap (λ x. x ++ bs) g ∙ append_assoc (begun_bytes begun) (b ∷ []) bs in
    rw (sym m.1, sym k) r
taken_back kind part left begun b t gained value bs (Whole w) some small s is e c =
    let m = moved_is (entered part (left - letter_units w)) t (letter_bytes w) gained e in
    let i = item_ended kind left begun b w some small s is in
    let r = left_by kind part (left - letter_units w) value bs (at_stage kind (entered part (left - letter_units w)) t value bs m.0 c) in
    with_item i.item i.fits (sym m.1) r
  where
    with_item : IsItem kind (letter_bytes w) (letter_units w) (begun_bytes begun ++ b ∷ []) → letter_units w ≤ left → gained ≡ letter_bytes w → IsRest kind part (left - letter_units w) value bs → IsRest kind part left (gained ++ value) (begun_bytes begun ++ b ∷ bs)
    with_item i fits g r = record {
      inside = letter_bytes w ++ r.inside;
      values = r.values;
      forms = (begun_bytes begun ++ b ∷ []) ++ r.forms;
      after = r.after;
      contents = subst (λ n. Contents kind (letter_bytes w ++ r.inside) n ((begun_bytes begun ++ b ∷ []) ++ r.forms)) (let k : letter_units w + (left - letter_units w) ≡ left = omega arith in k) (item (letter_bytes w) (begun_bytes begun ++ b ∷ []) r.inside r.forms (letter_units w) (left - letter_units w) i r.contents);
      follows = r.follows;
      value_is = ap (λ x. x ++ value) g ∙ ap (λ x. letter_bytes w ++ x) r.value_is ∙ sym (append_assoc (letter_bytes w) r.inside r.values);
      bytes_are = sym (append_assoc (begun_bytes begun) (b ∷ []) bs) ∙ ap (λ x. (begun_bytes begun ++ b ∷ []) ++ x) r.bytes_are ∙ sym (append_assoc (begun_bytes begun ++ b ∷ []) r.forms r.after);
    }
taken_back kind part left begun b t gained value bs Wrong some small s is e c = absurd (cc)

pub stage_back : (kind : Kind) (s t : Stage) (b : ℕ) (gained value bs : List ℕ) → SoundStage kind s → b < 256 → step kind s b ≡ Some (t, gained) → Completes kind t value bs → Completes kind s (gained ++ value) (b ∷ bs)
stage_back kind Code t b gained value bs s small e c = let a = arrived_is (after_code kind b) t gained e in rw a.1 (row_back kind b t value bs (code_row kind b t a.0) c)
stage_back kind (High part) t b gained value bs s small e c = let m = moved_is (Low part b) t [] gained e in gaining kind (High part) gained [] value (b ∷ bs) (sym m.1) (record { b1 = b; rest = bs; small = small; bytes_are = refl; goes_on = at_stage kind (Low part b) t value bs m.0 c })
stage_back kind (Low part high) t b gained value bs s small e c = let m = moved_is (entered part (high * 256 + b)) t [] gained e in gaining kind (Low part high) gained [] value (b ∷ bs) (sym m.1) (record { b0 = b; rest = bs; small = small; bytes_are = refl; goes_on = left_by kind part (high * 256 + b) value bs (at_stage kind (entered part (high * 256 + b)) t value bs m.0 c) })
stage_back kind (Inside part left begun) t b gained value bs s small e c = taken_back kind part left begun b t gained value bs (item_step kind left begun b) s.0 small s.2 refl e c
stage_back kind Ended t b gained value bs s small e c = absurd (cc)
