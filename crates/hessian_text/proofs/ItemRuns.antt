-- Whole items lead through their chunk.
use Rattle.std.proofs.Common.{◌≡◌, ℕ, ◌+◌, ◌-◌, ◌<◌, ◌≤◌, true, List, [], ◌∷◌, ◌++◌, length, take, refl, sym, ap, ◌∙◌, subst, arith, inl, append_assoc, length-append}
use Rattle.std.specs.Prelude.{encode_utf8_all, IsUtf8, slice_index}
use Rattle.std.specs.Str.{all_scalars, chars}
use Rattle.std.specs.Char.Escape.{encode_utf16}
use Rattle.std.specs.List.{flat_map}
use lib.Utf8.{encode, scalar}
use Rattle.std.proofs.lemmas.Bool.{and_parts}
use Rattle.std.proofs.lemmas.List.{append-nil}
use Rattle.std.proofs.lemmas.Str.{encodes-chars, scalars-chars}
use Rattle.hessian_text.specs.declared.stage.Kind.{Kind}
use Rattle.hessian_text.specs.declared.stage.Kind.TheVariants.{Text, Binary}
use Rattle.hessian_text.specs.declared.stage.Part.{Part}
use Rattle.hessian_text.specs.declared.stage.Begun.{Begun}
use Rattle.hessian_text.specs.declared.stage.Begun.TheVariants.{Nothing}
use Rattle.hessian_text.specs.declared.stage.Stage.TheVariants.{Inside}
use Rattle.hessian_text.specs.ChunkHead.{IsCode}
use Rattle.hessian_text.specs.Items.{IsItem, Contents}
use Rattle.hessian_text.specs.Items.Contents.{none, item}
use Rattle.hessian_text.specs.Residual.{begun_bytes}
use Rattle.hessian_text.specs.Sound.{SoundBegun}
use Rattle.hessian_text.specs.Steps.{letter_bytes, letter_units, entered, item_step, pair_code, quad_of, taken, Runs}
use Rattle.hessian_text.specs.Steps.Runs.{stay, go}
use Rattle.hessian_text.specs.Units.{utf16}
use Rattle.hessian_text.proofs.Shapes.{IsPair}
use Rattle.hessian_text.proofs.Characters.{Goes, pair_character, item_forward, item_grown, item_some}
use Rattle.hessian_text.proofs.Characters.Goes.{grown, ended}
use Rattle.hessian_text.proofs.Stages.{entered_some}
use Rattle.hessian_text.proofs.Running.{runs_more, runs_one, no_more}

begun_none : (kind : Kind) (left : ℕ) → SoundBegun kind left Nothing
begun_none Text left = tt
begun_none Binary left = tt

-- the last byte of an item
last_runs : (kind : Kind) (part : Part) (left : ℕ) (begun : Begun) (b units : ℕ) (value : List ℕ) → IsItem kind value units (begun_bytes begun ++ b ∷ []) → SoundBegun kind left begun → units ≤ left → Goes (item_step kind left begun b) begun b [] value units [] → Runs kind (Inside part left begun) (b ∷ []) (entered part (left - units)) value
last_runs kind part left begun b units value i s fit (grown p is same) = absurd (no_more kind left p units value (begun_bytes begun ++ b ∷ []) [] (item_grown kind left begun b p s is).sound i fit (append-nil (begun_bytes begun ++ b ∷ []) ∙ sym same))
last_runs kind part left begun b units value i s fit (ended w is v u r) =
    let one : Runs kind (Inside part left begun) (b ∷ []) (entered part (left - letter_units w)) (letter_bytes w) = runs_one kind (Inside part left begun) (entered part (left - letter_units w)) b (letter_bytes w) (ap (taken part left) is) in
    subst (λ x. Runs kind (Inside part left begun) (b ∷ []) (entered part (left - units)) x) v (subst (λ n. Runs kind (Inside part left begun) (b ∷ []) (entered part (left - n)) (letter_bytes w)) u one)

-- the bytes of an item that are left
rest_runs : (kind : Kind) (part : Part) (left : ℕ) (begun : Begun) (b units : ℕ) (value bs : List ℕ) → IsItem kind value units (begun_bytes begun ++ b ∷ bs) → SoundBegun kind left begun → units ≤ left → Runs kind (Inside part left begun) (b ∷ bs) (entered part (left - units)) value
rest_runs kind part left begun b units value [] i s fit = last_runs kind part left begun b units value i s fit (item_forward kind left begun b units value (begun_bytes begun ++ b ∷ []) [] [] i s fit (append-nil (begun_bytes begun ++ b ∷ [])))
rest_runs kind part left begun b units value (c ∷ bs) i s fit = by_goes (item_forward kind left begun b units value (begun_bytes begun ++ b ∷ c ∷ bs) [] (c ∷ bs) i s fit (append-nil (begun_bytes begun ++ b ∷ c ∷ bs))) (λ p j t. rest_runs kind part left p c units value bs j t fit)
  where
    by_goes : Goes (item_step kind left begun b) begun b (c ∷ bs) value units [] → ((p : Begun) → IsItem kind value units (begun_bytes p ++ c ∷ bs) → SoundBegun kind left p → Runs kind (Inside part left p) (c ∷ bs) (entered part (left - units)) value) → Runs kind (Inside part left begun) (b ∷ c ∷ bs) (entered part (left - units)) value
    by_goes (grown p is same) rec =
        let e : begun_bytes begun ++ b ∷ c ∷ bs ≡ begun_bytes p ++ c ∷ bs = sym (append_assoc (begun_bytes begun) (b ∷ []) (c ∷ bs)) ∙ ap (λ x. x ++ c ∷ bs) (sym same) in
        go (Inside part left begun) (Inside part left p) (entered part (left - units)) b (c ∷ bs) [] value (ap (taken part left) is) (rec p (subst (IsItem kind value units) e i) (item_grown kind left begun b p s is).sound)
    by_goes (ended w is v u r) rec = absurd (cc)

item_runs : (kind : Kind) (part : Part) (left units : ℕ) (value form : List ℕ) → IsItem kind value units form → units ≤ left → Runs kind (Inside part left Nothing) form (entered part (left - units)) value
item_runs kind part left units value [] i fit = absurd (no_more kind left Nothing units value [] [] (begun_none kind left) i fit refl)
item_runs kind part left units value (b ∷ bs) i fit = rest_runs kind part left Nothing b units value bs i (begun_none kind left) fit

pub contents_runs : (kind : Kind) (part : Part) (left units : ℕ) (value forms : List ℕ) → Contents kind value units forms → units ≤ left → Runs kind (entered part left) forms (entered part (left - units)) value
contents_runs kind part left units value forms none fit = let e : left ≡ left - 0 = omega arith in subst (λ n. Runs kind (entered part left) [] (entered part n) []) e (stay (entered part left))
contents_runs kind part left units value forms (item v form vs fs n more i c) fit =
    let some : 0 < n = item_some kind v n form i in
    let first : Runs kind (Inside part left Nothing) form (entered part (left - n)) v = item_runs kind part left n v form i (omega arith) in
    let rest : Runs kind (entered part (left - n)) fs (entered part (left - n - more)) vs = contents_runs kind part (left - n) more vs fs c (omega arith) in
    let all : Runs kind (Inside part left Nothing) (form ++ fs) (entered part (left - n - more)) (v ++ vs) = runs_more kind (Inside part left Nothing) (entered part (left - n)) (entered part (left - n - more)) form fs v vs first rest in
    let e : left - n - more ≡ left - (n + more) = omega arith in
    subst (λ s. Runs kind s (form ++ fs) (entered part (left - (n + more))) (v ++ vs)) (sym (entered_some part left (omega arith))) (subst (λ m. Runs kind (Inside part left Nothing) (form ++ fs) (entered part m) (v ++ vs)) e all)

-- characters in UTF-8, which are their own values
pub utf8_contents : (cs : List ℕ) → all_scalars cs ≡ true → Contents Text (encode_utf8_all cs) (length (flat_map encode_utf16 cs)) (encode_utf8_all cs)
utf8_contents [] h = none
utf8_contents (c ∷ cs) h =
    let parts : (scalar c ≡ true) × (all_scalars cs ≡ true) = and_parts (scalar c) (all_scalars cs) h in
    let rest = flat_map encode_utf16 cs in
    let one = item (encode c) (encode c) (encode_utf8_all cs) (encode_utf8_all cs) (length (encode_utf16 c)) (length rest) (record { char = c; scalar = parts.0; value_is = refl; units_are = refl; form_is = inl refl }) (utf8_contents cs parts.1) in
    subst (λ n. Contents Text (encode c ++ encode_utf8_all cs) n (encode c ++ encode_utf8_all cs)) (sym (length-append (encode_utf16 c) rest)) one

pub utf8_front : (text : List ℕ) → IsUtf8 text → Contents Text text (length (utf16 text)) text
utf8_front text u = subst (λ x. Contents Text x (length (utf16 text)) x) (encodes-chars text u) (utf8_contents (chars text) (scalars-chars text u))

-- two surrogates at the front
pub pair_contents : (piece : List ℕ) (b c e f : ℕ) → 6 ≤ length piece → slice_index piece 0 ≡ 0xed → slice_index piece 1 ≡ b → slice_index piece 2 ≡ c → slice_index piece 3 ≡ 0xed → slice_index piece 4 ≡ e → slice_index piece 5 ≡ f → IsCode 0xa0 0xaf b → IsCode 0x80 0xbf c → IsCode 0xb0 0xbf e → IsCode 0x80 0xbf f → Contents Text (letter_bytes (quad_of (pair_code b c e f))) 2 (take 6 piece)
pair_contents [] b c e f size p q r s t u h k m n = absurd (omega arith)
pair_contents (a0 ∷ []) b c e f size p q r s t u h k m n = absurd (omega arith)
pair_contents (a0 ∷ a1 ∷ []) b c e f size p q r s t u h k m n = absurd (omega arith)
pair_contents (a0 ∷ a1 ∷ a2 ∷ []) b c e f size p q r s t u h k m n = absurd (omega arith)
pair_contents (a0 ∷ a1 ∷ a2 ∷ a3 ∷ []) b c e f size p q r s t u h k m n = absurd (omega arith)
pair_contents (a0 ∷ a1 ∷ a2 ∷ a3 ∷ a4 ∷ []) b c e f size p q r s t u h k m n = absurd (omega arith)
pair_contents (a0 ∷ a1 ∷ a2 ∷ a3 ∷ a4 ∷ a5 ∷ more) b c e f size p q r s t u h k m n =
    let pair : IsPair 0xed b c 0xed e f = record { first = refl; second = h; third = k; fourth = refl; fifth = m; sixth = n } in
    let one : Contents Text (letter_bytes (quad_of (pair_code b c e f))) 2 (0xed ∷ b ∷ c ∷ 0xed ∷ e ∷ f ∷ []) = item (letter_bytes (quad_of (pair_code b c e f))) (0xed ∷ b ∷ c ∷ 0xed ∷ e ∷ f ∷ []) [] [] 2 0 (pair_character 0xed b c 0xed e f pair) none in
    subst (Contents Text (letter_bytes (quad_of (pair_code b c e f))) 2) (six_are p q r s t u) one
  where
    six_are : a0 ≡ 0xed → a1 ≡ b → a2 ≡ c → a3 ≡ 0xed → a4 ≡ e → a5 ≡ f → 0xed ∷ b ∷ c ∷ 0xed ∷ e ∷ f ∷ [] ≡ a0 ∷ a1 ∷ a2 ∷ a3 ∷ a4 ∷ a5 ∷ []
    six_are p q r s t u = cc
