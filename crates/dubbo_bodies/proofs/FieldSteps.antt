-- Texts in front of the values, read as their bytes come: what whole texts and a part of one are.
use Rattle.std.proofs.Common.{◌≡◌, ◌≢◌, ℕ, suc, ◌+◌, ◌-◌, ◌<◌, ◌≤◌, List, [], ◌∷◌, ◌++◌, length, take, refl, sym, ap, ◌∙◌, subst, arith, append_assoc, length-append}
use Rattle.std.specs.Prelude.{slice_index, Result, Err, ◌↔◌}
use Rattle.std.proofs.lemmas.List.{append-nil, get_or-append-add}
use Rattle.std.proofs.Math.Seq.{take-append-add}
use Rattle.hessian_graph.specs.Shape.{Text}
use Rattle.hessian_graph.specs.Refusal.Cause.{BadCode, BadText}
use Rattle.hessian_text.specs.declared.stage.Kind.{Kind}
use Rattle.hessian_text.specs.declared.stage.Kind.TheVariants as kinds
use Rattle.hessian_text.specs.declared.stage.Stage.{Stage}
use Rattle.hessian_text.specs.declared.stage.Stage.TheVariants as stages
use Rattle.hessian_text.specs.Residual.{Completes}
use Rattle.hessian_text.specs.Reader.{Reading, Advances, RefusesCode, RefusesItem}
use Rattle.hessian_text.specs.Refusal.{BeginsNothing, IsBadCode, IsBadText}
use Rattle.hessian_text.specs.Spelling.{AreBytes, TextSpelling}
use Rattle.hessian_text.proofs.Advancing.{advances_none, advances_more}
use Rattle.hessian_text.proofs.Answering.{code_at, item_at, begun_within, goes_on}
use Rattle.hessian_text.proofs.Running.{cut_short}
use Rattle.hessian_reader.specs.Leaves.{hessian}
use Rattle.hessian_reader.specs.declared.fault.HessianFault.TheVariants as told
use Rattle.hessian_reader.proofs.OneWay.{bytes_both}
use Rattle.dubbo_header.specs.declared.header.Header.{Header}
use Rattle.dubbo_bodies.specs.declared.fault.DescFault.{DescFault}
use Rattle.dubbo_bodies.specs.declared.fault.DescFault.TheVariants.{BadDescriptor, TooManyArgs}
use Rattle.dubbo_bodies.specs.declared.fault.RequestFault.TheVariants as faulty
use Rattle.dubbo_bodies.specs.Descriptor.{StopsAt, ExceedsAt, Tells}
use Rattle.dubbo_bodies.specs.Fields.{HESSIAN, FIELDS, VERSION, DESCRIPTOR, NULL, FieldSpelling, FieldsSpelling, BeginsWith}
use Rattle.dubbo_bodies.specs.Fields.OptionalText.{null as o_null}
use Rattle.dubbo_bodies.specs.Fields.FieldSpelling.{text as f_text, version as f_version}
use Rattle.dubbo_bodies.specs.Fields.FieldsSpelling.{none as no_fields, one as one_field}
use Rattle.dubbo_bodies.specs.Refusals.{BadSerial, NotText, Hessian, Descriptor, behind, EndsInside, IsField, NoneBegins}
use Rattle.dubbo_bodies.specs.Refusals.TextRefused.{bad_code, bad_character}
use Rattle.dubbo_bodies.specs.Refusals.RequestRefusal.{serial, not_text, in_text, short, descriptor}
use Rattle.dubbo_bodies.specs.RequestReading.{IsRefusedRequest}
use Rattle.dubbo_bodies.specs.RequestStages.{StaysRefused}
use Rattle.dubbo_bodies.proofs.FieldsOnce.{FieldForm, form_of}
use Rattle.dubbo_bodies.proofs.FieldsOnce.FieldForm.{a_text, a_null}

abbrev pub fresh : Reading
fresh = record { kind = kinds.Text; done = []; stage = stages.Code }

-- ---- what a body begins with

pub begins_none : (header : Header) → header.serial ≡ HESSIAN → BeginsWith hessian header [] [] 0 []
begins_none header e = record { serial = e; front = []; fields = no_fields 0; place = refl; joined = refl }

pub begins_more : {texts : List Text} {at : ℕ} {rest : List ℕ} {body : List ℕ} (header : Header) (more : List ℕ) → BeginsWith hessian header body texts at rest → BeginsWith hessian header (body ++ more) texts at (rest ++ more)
begins_more {rest = rest} header more b = record { serial = b.serial; front = b.front; fields = b.fields; place = b.place; joined = ap (λ xs. xs ++ more) b.joined ∙ append_assoc b.front rest more }

fields_more : {place : ℕ} {texts : List Text} {front : List ℕ} (text : Text) (bytes : List ℕ) → FieldsSpelling hessian place texts front → FieldSpelling hessian (place + length texts) text bytes → FieldsSpelling hessian place (texts ++ text ∷ []) (front ++ bytes)
fields_more text bytes (no_fields place) is = subst (FieldsSpelling hessian place (text ∷ [])) (append-nil bytes) (one_field place text [] bytes [] (subst (λ n. FieldSpelling hessian n text bytes) (let k : place + 0 ≡ place = omega arith in k) is) (no_fields (suc place)))
fields_more text bytes (one_field place text' texts f r is' more) is =
    subst (FieldsSpelling hessian place (text' ∷ (texts ++ text ∷ []))) (sym (append_assoc f r bytes))
    (one_field place text' (texts ++ text ∷ []) f (r ++ bytes) is' (fields_more text bytes more (subst (λ n. FieldSpelling hessian n text bytes) (let k : place + length (text' ∷ texts) ≡ suc place + length texts = omega arith in k) is)))

-- one text more, which takes up what came behind the others
pub one_begins : {texts : List Text} {at : ℕ} {came : List ℕ} {body : List ℕ} (header : Header) (text : Text) (next : ℕ) → BeginsWith hessian header body texts at came → FieldSpelling hessian (length texts) text came → next ≡ length body → BeginsWith hessian header body (texts ++ text ∷ []) next []
one_begins {texts} {at} {came} {body} header text next b is e = record {
  serial = b.serial;
  front = b.front ++ came;
  fields = fields_more text came b.fields (subst (λ n. FieldSpelling hessian n text came) (let k : length texts ≡ 0 + length texts = omega arith in k) is);
  place = e ∙ ap length b.joined;
  joined = b.joined ∙ sym (append-nil (b.front ++ came));
}

-- the text that is being read begins behind so many bytes
pub came_at : {texts : List Text} {at : ℕ} {came : List ℕ} {body : List ℕ} (header : Header) → BeginsWith hessian header body texts at came → length body ≡ at + length came
came_at {came = came} header b = ap length b.joined ∙ length-append b.front came ∙ ap (λ n. n + length came) (sym b.place)

-- ---- a text

pub none_came : (r : Reading) → r ≡ fresh → Advances fresh [] r
none_came r e = subst (Advances fresh []) (sym e) (advances_none fresh)

pub came_more : (r after : Reading) (came piece : List ℕ) → Advances fresh came r → Advances r piece after → Advances fresh (came ++ piece) after
came_more r after came piece a b = advances_more fresh r after came piece a b

at_end : (kind : Kind) (stage : Stage) → stage ≡ stages.Ended → Completes kind stage [] []
at_end kind stage e = subst (λ s. Completes kind s [] []) (sym e) (refl, refl)

-- where the reading has ended, what came is a text
pub whole_text : (after : Reading) (came : List ℕ) → AreBytes came → Advances fresh came after → after.stage ≡ stages.Ended → TextSpelling after.done came
whole_text after came small a e =
    subst (TextSpelling after.done) (append-nil came) ((goes_on kinds.Text after came after.done [] small a).1 (record { more = []; value_is = sym (append-nil after.done); completes = at_end after.kind after.stage e }))

-- where it hasn't, the bytes end inside one
pub inside_text : (place : ℕ) (after : Reading) (came : List ℕ) → AreBytes came → Advances fresh came after → after.stage ≢ stages.Ended → EndsInside (IsField hessian place) came
inside_text place after came small a n =
    let c = cut_short kinds.Text after.stage came a.gained small a.runs n in
    record { more = c.more; lacks = c.lacks; whole = (c.value, f_text place c.value (came ++ c.more) c.spells) }

-- what is taken of a piece, behind what came
taken_front : (came piece : List ℕ) (n : ℕ) → take (length came + n) (came ++ piece) ≡ came ++ take n piece
taken_front came piece n = take-append-add came piece n

-- a code that begins no chunk
pub code_refused : (r after : Reading) (came piece : List ℕ) (n : ℕ) → AreBytes came → AreBytes piece → n < length piece → Advances fresh came r → Advances r (take n piece) after → RefusesCode r.kind after.stage (slice_index piece n) → r.kind ≡ kinds.Text → IsBadCode kinds.Text (came ++ piece) 0 (length came + n) (slice_index piece n)
code_refused r after came piece n a b h c d refuses k =
    let at : Advances fresh (take (length came + n) (came ++ piece)) after = subst (λ xs. Advances fresh xs after) (sym (taken_front came piece n)) (came_more r after came (take n piece) c d) in
    let code : slice_index (came ++ piece) (length came + n) ≡ slice_index piece n = get_or-append-add came piece n 0 in
    let long = length-append came piece in
    let same : 0 + (length came + n) ≡ length came + n = omega arith in
    let bad = code_at kinds.Text (came ++ piece) 0 (length came + n) after (omega arith) (bytes_both came piece a b) (omega (arith, long, h)) at (subst (RefusesCode kinds.Text after.stage) (sym code) (subst (λ q. RefusesCode q after.stage (slice_index piece n)) k refuses)) in
    subst (λ p. IsBadCode kinds.Text (came ++ piece) 0 (length came + n) p) code (subst (λ k. IsBadCode kinds.Text (came ++ piece) 0 k (slice_index (came ++ piece) k)) same bad)

-- bytes that are no character
pub item_refused : (r after : Reading) (came piece : List ℕ) (n begun : ℕ) → AreBytes came → AreBytes piece → n < length piece → Advances fresh came r → Advances r (take n piece) after → RefusesItem r.kind after.stage (slice_index piece n) begun → r.kind ≡ kinds.Text → IsBadText (came ++ piece) 0 (length came + n - begun)
item_refused r after came piece n begun a b h c d refuses k =
    let at : Advances fresh (take (length came + n) (came ++ piece)) after = subst (λ xs. Advances fresh xs after) (sym (taken_front came piece n)) (came_more r after came (take n piece) c d) in
    let code : slice_index (came ++ piece) (length came + n) ≡ slice_index piece n = get_or-append-add came piece n 0 in
    let long = length-append came piece in
    let same : 0 + (length came + n) ≡ length came + n = omega arith in
    subst (λ m. IsBadText (came ++ piece) 0 (m - begun)) same (item_at kinds.Text (came ++ piece) 0 (length came + n) begun after (omega arith) (bytes_both came piece a b) (omega (arith, long, h)) at (subst (λ x. RefusesItem kinds.Text after.stage x begun) (sym code) (subst (λ q. RefusesItem q after.stage (slice_index piece n) begun) k refuses))).1

-- the bytes of a character that has begun came
pub begun_low : (r after : Reading) (came piece : List ℕ) (n begun : ℕ) → AreBytes came → AreBytes piece → n < length piece → Advances fresh came r → Advances r (take n piece) after → RefusesItem r.kind after.stage (slice_index piece n) begun → r.kind ≡ kinds.Text → begun ≤ length came + n
begun_low r after came piece n begun a b h c d refuses k =
    let at : Advances fresh (take (length came + n) (came ++ piece)) after = subst (λ xs. Advances fresh xs after) (sym (taken_front came piece n)) (came_more r after came (take n piece) c d) in
    let code : slice_index (came ++ piece) (length came + n) ≡ slice_index piece n = get_or-append-add came piece n 0 in
    let long = length-append came piece in
    begun_within kinds.Text (came ++ piece) 0 (length came + n) begun after (bytes_both came piece a b) (omega (arith, long, h)) at (subst (λ x. RefusesItem kinds.Text after.stage x begun) (sym code) (subst (λ q. RefusesItem q after.stage (slice_index piece n) begun) k refuses))

-- ---- what is refused, whatever follows

pub serial_refused : (header : Header) (fed : List ℕ) → header.serial ≢ HESSIAN → StaysRefused (faulty.BadSerial header.serial) header fed
serial_refused header fed other = λ some more. (BadSerial header.serial, refl, serial other)

-- no text and no null stands in a place
pub none_begins : (place code : ℕ) → BeginsNothing kinds.Text code → (place ≡ VERSION → code ≢ NULL) → NoneBegins (IsField hessian place) code
none_begins place code never other = λ more f. by_form more f.0 (form_of f.1)
  where
    by_form : (more : List ℕ) (text : Text) → FieldForm place text (code ∷ more) → ⊥
    by_form more text (a_text s) = never text more s
    by_form more text (a_null p t e) = let k : code ≡ NULL = cc in other p k

pub field_refused : {texts : List Text} {at : ℕ} {came : List ℕ} {fed : List ℕ} (header : Header) (code : ℕ) → BeginsWith hessian header fed texts at came → came ≡ code ∷ [] → length texts < FIELDS → BeginsNothing kinds.Text code → (length texts ≡ VERSION → code ≢ NULL) → StaysRefused (faulty.NotText (length texts)) header fed
field_refused {texts} {at} {came} {fed} header code b e few never other = λ some more.
    (NotText (length texts), refl, not_text texts at code more (subst (λ xs. BeginsWith hessian header (fed ++ more) texts at (xs ++ more)) e (begins_more header more b)) few (none_begins (length texts) code never other))

pub code_stays : {texts : List Text} {at : ℕ} {came : List ℕ} {fed : List ℕ} (header : Header) (p code place : ℕ) → BeginsWith hessian header fed texts at came → length texts < FIELDS → 0 < p → IsBadCode kinds.Text came 0 p code → place ≡ at + p → StaysRefused (faulty.Hessian (told.BadCode place code)) header fed
code_stays {texts} {at} {came} header p code place b few some bad e = λ s more.
    (Hessian (behind at (BadCode p code)), ap (λ n. faulty.Hessian (told.BadCode n code)) e, in_text texts at (came ++ more) (BadCode p code) (begins_more header more b) few (bad_code came more p code some bad))

pub character_stays : {texts : List Text} {at : ℕ} {came : List ℕ} {fed : List ℕ} (header : Header) (p place : ℕ) → BeginsWith hessian header fed texts at came → length texts < FIELDS → IsBadText came 0 p → place ≡ at + p → StaysRefused (faulty.Hessian (told.BadText place)) header fed
character_stays {texts} {at} {came} header p place b few bad e = λ s more.
    (Hessian (behind at (BadText p)), ap (λ n. faulty.Hessian (told.BadText n)) e, in_text texts at (came ++ more) (BadText p) (begins_more header more b) few (bad_character came more p bad))

pub desc_stays : {at : ℕ} {fed : List ℕ} (header : Header) (texts : List Text) (desc : Text) (fault : DescFault) → BeginsWith hessian header fed (texts ++ desc ∷ []) at [] → length texts ≡ DESCRIPTOR → Tells desc (Err fault) → StaysRefused (faulty.Descriptor fault) header fed
desc_stays {at} header texts desc fault b e told = λ some more. (Descriptor fault, refl, descriptor texts desc at more fault (begins_more header more b) e told)

-- what counting answers where it refuses
pub desc_told : (desc : Text) (result : Result ℕ DescFault) (fault : DescFault) → result ≡ Err fault → ((at : ℕ) → (result ≡ Err (BadDescriptor at)) ↔ StopsAt desc at) → ((at : ℕ) → (result ≡ Err (TooManyArgs at)) ↔ ExceedsAt desc at) → Tells desc (Err fault)
desc_told desc result (BadDescriptor at) e bad many = (bad at).0 e
desc_told desc result (TooManyArgs at) e bad many = (many at).0 e

-- the body ends inside a text
pub short_text : {texts : List Text} {at : ℕ} {came : List ℕ} {fed : List ℕ} (header : Header) (place : ℕ) → BeginsWith hessian header fed texts at came → length texts < FIELDS → EndsInside (IsField hessian (length texts)) came → place ≡ length fed → IsRefusedRequest header fed (faulty.Hessian (told.Short place))
short_text {texts} {at} {came} header place b few inside e = (_, ap (λ n. faulty.Hessian (told.Short n)) e, short texts at came b few inside)

-- null in the place of the version is the empty text
pub null_field : (place : ℕ) (bytes : List ℕ) → place ≡ VERSION → bytes ≡ NULL ∷ [] → FieldSpelling hessian place [] bytes
null_field place bytes p e = subst (λ n. FieldSpelling hessian n [] bytes) (sym p) (subst (FieldSpelling hessian VERSION []) (sym e) (f_version [] (NULL ∷ []) o_null))
