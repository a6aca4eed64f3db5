-- What each answer of a text's reading makes of the reading of a request.
use Rattle.std.proofs.Common.{◌≡◌, ◌≢◌, ℕ, zero, suc, ◌+◌, ◌-◌, ◌<◌, ◌≤◌, List, [], ◌∷◌, ◌++◌, length, get_or, take, refl, sym, ap, ◌∙◌, subst, arith, length-append}
use Rattle.std.specs.Prelude.{slice_index, None}
use Rattle.std.proofs.Math.Seq.{take-suc}
use Rattle.std.proofs.lemmas.List.{length-take-le, take_all}
use Rattle.hessian_graph.specs.Shape.{Text}
use Rattle.hessian_text.specs.declared.stage.Kind.TheVariants as kinds
use Rattle.hessian_text.specs.declared.stage.Stage.TheVariants as stages
use Rattle.hessian_text.specs.Reader.{Reading, Advances, RefusesCode, RefusesItem}
use Rattle.hessian_text.specs.Refusal.{BeginsNothing}
use Rattle.hessian_text.specs.Spelling.{AreBytes, TextSpelling}
use Rattle.hessian_text.proofs.Answering.{take_bytes}
use Rattle.hessian_reader.specs.declared.fault.HessianFault.TheVariants as told
use Rattle.hessian_reader.specs.Leaves.{hessian}
use Rattle.hessian_reader.specs.Reading.{HasRead, refusal_of}
use Rattle.hessian_reader.proofs.LeafBytes.{no_bytes}
use Rattle.hessian_reader.proofs.OneWay.{bytes_both}
use Rattle.dubbo_header.specs.declared.header.Header.{Header}
use Rattle.dubbo_bodies.specs.declared.fault.RequestFault.TheVariants as faulty
use Rattle.dubbo_bodies.specs.declared.request_reader.fields.FieldPart.{FieldPart}
use Rattle.dubbo_bodies.specs.declared.request_reader.values.ValuePart.{ValuePart}
use Rattle.dubbo_bodies.specs.Descriptor.{HasArgs}
use Rattle.dubbo_bodies.specs.Fields.{FIELDS, DESCRIPTOR, BeginsWith}
use Rattle.dubbo_bodies.specs.Fields.FieldSpelling.{text as f_text}
use Rattle.dubbo_bodies.specs.RequestReading.{IsRefusedRequest}
use Rattle.dubbo_bodies.specs.RequestStages.{InFields, InValues, StaysRefused}
use Rattle.dubbo_bodies.proofs.FieldSteps.{begins_more, one_begins, came_at, fresh, none_came, came_more, whole_text, inside_text, code_refused, item_refused, begun_low, code_stays, character_stays, short_text}
use Rattle.dubbo_bodies.proofs.ValueSteps.{none_ends}

-- ---- where a text begins

pub fields_begin : (p : FieldPart) (header : Header) (fed : List ℕ) → p.text ≡ fresh → BeginsWith hessian header fed p.texts.items p.from [] → InFields p header fed
fields_begin p header fed e b = record { came = []; bytes = no_bytes; begins = b; advances = none_came p.text e }

-- ---- a piece of a text

pub fields_go_on : (p q : FieldPart) (header : Header) (fed piece : List ℕ) → AreBytes piece → q.texts ≡ p.texts → q.from ≡ p.from → Advances p.text piece q.text → InFields p header fed → InFields q header (fed ++ piece)
fields_go_on p q header fed piece small e f a i = record {
  came = i.came ++ piece;
  bytes = bytes_both i.came piece i.bytes small;
  begins = subst (λ n. BeginsWith hessian header (fed ++ piece) q.texts.items n (i.came ++ piece)) (sym f) (subst (λ t. BeginsWith hessian header (fed ++ piece) t.items p.from (i.came ++ piece)) (sym e) (begins_more header piece i.begins));
  advances = came_more p.text q.text i.came piece i.advances a;
}

pub text_ends : (p : FieldPart) (after : Reading) (header : Header) (fed piece : List ℕ) (n at next : ℕ) (whole : Text) → AreBytes piece → n ≤ length piece → at ≡ length fed → next ≡ at + n → whole ≡ after.done → Advances p.text (take n piece) after → after.stage ≡ stages.Ended → InFields p header fed → BeginsWith hessian header (fed ++ take n piece) (p.texts.items ++ whole ∷ []) next []
text_ends p after header fed piece n at next whole small low here there same a ended i =
    let front = take n piece in
    let came = i.came ++ front in
    let bytes : AreBytes came = bytes_both i.came front i.bytes (take_bytes n piece small low) in
    let spells : TextSpelling whole came = subst (λ t. TextSpelling t came) (sym same) (whole_text after came bytes (came_more p.text after i.came front i.advances a) ended) in
    let long = length-append fed front in
    let part = length-take-le n piece low in
    one_begins header whole next (begins_more header front i.begins) (f_text (length p.texts.items) whole came spells) (omega (arith, long, part, here, there))

-- ---- a byte that is refused

empty : (xs : List ℕ) → length xs ≡ 0 → xs ≡ []
empty [] e = refl
empty (x ∷ xs) e = absurd (omega (arith, e))

first_taken : (piece : List ℕ) → 0 < length piece → take 1 piece ≡ slice_index piece 0 ∷ []
first_taken [] h = absurd (omega (arith, h))
first_taken (b ∷ bs) h = refl

-- the first byte of a text, which begins none
pub record AtFirst (p : FieldPart) (header : Header) (fed : List ℕ) (code : ℕ) : Type 0 where
  pub nothing : BeginsNothing kinds.Text code
  pub begins : BeginsWith hessian header fed p.texts.items p.from (code ∷ [])

pub code_first : (p : FieldPart) (after : Reading) (header : Header) (fed piece : List ℕ) (n at : ℕ) → AreBytes piece → n < length piece → at ≡ length fed → at + n ≡ p.from → p.text.kind ≡ kinds.Text → Advances p.text (take n piece) after → RefusesCode p.text.kind after.stage (slice_index piece n) → InFields p header fed → AtFirst p header (fed ++ take 1 piece) (slice_index piece n)
code_first p after header fed piece n at small low here first kind a refuses i =
    let long = came_at header i.begins in
    let none : i.came ≡ [] = empty i.came (omega (arith, long, here, first)) in
    let zero_n : n ≡ 0 = omega (arith, long, here, first) in
    let bad = code_refused p.text after i.came piece n i.bytes small low i.advances a refuses kind in
    let came : i.came ++ take 1 piece ≡ slice_index piece n ∷ [] = ap (λ xs. xs ++ take 1 piece) none ∙ first_taken piece (omega (arith, low)) ∙ ap (λ k. slice_index piece k ∷ []) (sym zero_n) in
    record {
      nothing = bad.begins;
      begins = subst (BeginsWith hessian header (fed ++ take 1 piece) p.texts.items p.from) came (begins_more header (take 1 piece) i.begins);
    }

pub code_inside : (p : FieldPart) (after : Reading) (header : Header) (fed piece : List ℕ) (n at : ℕ) → AreBytes piece → n < length piece → at ≡ length fed → at + n ≢ p.from → p.text.kind ≡ kinds.Text → length p.texts.items < FIELDS → Advances p.text (take n piece) after → RefusesCode p.text.kind after.stage (slice_index piece n) → InFields p header fed → StaysRefused (faulty.Hessian (told.BadCode (at + n) (slice_index piece n))) header (fed ++ piece)
code_inside p after header fed piece n at small low here other kind few a refuses i =
    let long = came_at header i.begins in
    let bad = code_refused p.text after i.came piece n i.bytes small low i.advances a refuses kind in
    code_stays header (length i.came + n) (slice_index piece n) (at + n) (begins_more header piece i.begins) few (some (length i.came + n) (λ z. other (omega (arith, long, here, z)))) bad (omega (arith, long, here))
  where
    some : (m : ℕ) → (m ≡ 0 → ⊥) → 0 < m
    some zero h = absurd (h refl)
    some (suc m) h = omega arith

pub item_inside : (p : FieldPart) (after : Reading) (header : Header) (fed piece : List ℕ) (n begun at place : ℕ) → AreBytes piece → n < length piece → at ≡ length fed → place ≡ at + n - begun → p.text.kind ≡ kinds.Text → length p.texts.items < FIELDS → Advances p.text (take n piece) after → RefusesItem p.text.kind after.stage (slice_index piece n) begun → InFields p header fed → StaysRefused (faulty.Hessian (told.BadText place)) header (fed ++ piece)
item_inside p after header fed piece n begun at place small low here there kind few a refuses i =
    let long = came_at header i.begins in
    let bad = item_refused p.text after i.came piece n begun i.bytes small low i.advances a refuses kind in
    character_stays header (length i.came + n - begun) place (begins_more header piece i.begins) few bad (let w = within in omega (arith, long, here, there, w))
  where
    within : begun ≤ length i.came + n
    within = begun_low p.text after i.came piece n begun i.bytes small low i.advances a refuses kind

-- ---- the end

pub fields_short : (p : FieldPart) (header : Header) (fed : List ℕ) (at : ℕ) → at ≡ length fed → length p.texts.items < FIELDS → p.text.stage ≢ stages.Ended → InFields p header fed → IsRefusedRequest header fed (faulty.Hessian (told.Short at))
fields_short p header fed at here few going i = short_text header at i.begins few (inside_text (length p.texts.items) p.text i.came i.bytes i.advances going) here

-- ---- all texts came

pub values_begin : (p : ValuePart) (header : Header) (fed : List ℕ) (count : ℕ) (texts : List Text) (desc : Text) → p.texts.items ≡ texts ++ desc ∷ [] → length texts ≡ DESCRIPTOR → HasArgs desc count → HasRead p.values (suc count) [] → refusal_of p.values ≡ None → BeginsWith hessian header fed p.texts.items p.from [] → InValues p header fed
values_begin p header fed count texts desc e place counted read serves b = record {
  texts = texts;
  desc = desc;
  came = [];
  count = count;
  texts_are = e;
  place = place;
  begins = b;
  counted = counted;
  read = read;
  serves = serves;
  whole = λ n k. none_ends (suc count) n k;
}

-- five texts are four, and the descriptor
pub desc_last : (texts : List Text) (desc : Text) → length texts ≡ FIELDS → desc ≡ get_or texts DESCRIPTOR desc → texts ≡ take DESCRIPTOR texts ++ desc ∷ []
desc_last texts desc five e =
    sym (take_all (suc DESCRIPTOR) texts (let k : length texts ≤ 5 = omega (arith, five) in k)) ∙ take-suc texts DESCRIPTOR desc (let k : 4 < length texts = omega (arith, five) in k) ∙ ap (λ d. take DESCRIPTOR texts ++ d ∷ []) (sym e)

pub four_texts : (texts : List Text) → length texts ≡ FIELDS → length (take DESCRIPTOR texts) ≡ DESCRIPTOR
four_texts texts five = length-take-le DESCRIPTOR texts (let k : 4 ≤ length texts = omega (arith, five) in k)
