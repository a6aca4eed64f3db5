-- A shorter front of a request's body ends inside a text or inside the values.
use Rattle.std.proofs.Common.{◌≡◌, ◌≢◌, ℕ, suc, ◌+◌, ◌<◌, List, [], ◌∷◌, ◌++◌, length, refl, sym, ap, ◌∙◌, subst, arith, append_assoc, length-append}
use Rattle.std.proofs.lemmas.List.{append-nil}
use Rattle.hessian_graph.specs.Shape.{Text}
use Rattle.hessian_graph.specs.Refusal.{Refusal, Short}
use Rattle.hessian_graph.specs.Spells.{Denotes}
use Rattle.hessian_text.specs.Spelling.{AreBytes}
use Rattle.hessian_reader.specs.Faults.{faults}
use Rattle.hessian_reader.specs.Leaves.{hessian, node_limit}
use Rattle.hessian_reader.proofs.OneWay.{Fronts, fronts, bytes_rest}
use Rattle.hessian_reader.proofs.OneWay.Fronts.{first_shorter, second_shorter}
use Rattle.hessian_reader.proofs.RefusalLaws.{front_is_short}
use Rattle.dubbo_header.specs.declared.header.Header.{Header}
use Rattle.dubbo_bodies.specs.declared.message.Request.{Request}
use Rattle.dubbo_bodies.specs.Fields.{HESSIAN, FIELDS, FieldSpelling, FieldsSpelling, BeginsWith, fields_of}
use Rattle.dubbo_bodies.specs.Fields.FieldsSpelling.{none as no_fields, one as one_field}
use Rattle.dubbo_bodies.specs.Refusals.{Hessian, EndsInside, IsField, RequestRefusal}
use Rattle.dubbo_bodies.specs.Refusals.RequestRefusal.{short, values}
use Rattle.dubbo_bodies.specs.RequestBody.{RequestOf}
use Rattle.dubbo_bodies.proofs.OneReading.{many_roots}
use Rattle.dubbo_bodies.proofs.RequestBytes.{request_bytes}

-- whole texts, and then a part of one
record InsideText (place : ℕ) (texts : List Text) (front : List ℕ) : Type 0 where
  whole : List Text
  bytes : List ℕ
  part : List ℕ
  spelled : FieldsSpelling hessian place whole bytes
  joined : front ≡ bytes ++ part
  fewer : length whole < length texts
  ends : EndsInside (IsField hessian (place + length whole)) part

one_whole : (place : ℕ) (text : Text) (texts : List Text) (f front j : List ℕ) → FieldSpelling hessian place text f → front ≡ f ++ j → InsideText (suc place) texts j → InsideText place (text ∷ texts) front
one_whole place text texts f front j is e i = record {
  whole = text ∷ i.whole;
  bytes = f ++ i.bytes;
  part = i.part;
  spelled = one_field place text i.whole f i.bytes is i.spelled;
  joined = e ∙ ap (λ xs. f ++ xs) i.joined ∙ sym (append_assoc f i.bytes i.part);
  fewer = let k = i.fewer in omega (arith, k);
  ends = subst (λ n. EndsInside (IsField hessian n) i.part) (let k : suc place + length i.whole ≡ place + length (text ∷ i.whole) = omega arith in k) i.ends;
}

in_first : (place : ℕ) (text : Text) (texts : List Text) (f front j : List ℕ) → FieldSpelling hessian place text f → f ≡ front ++ j → j ≢ [] → InsideText place (text ∷ texts) front
in_first place text texts f front j is e some = record {
  whole = [];
  bytes = [];
  part = front;
  spelled = no_fields place;
  joined = refl;
  fewer = omega arith;
  ends = subst (λ n. EndsInside (IsField hessian n) front) (let k : place ≡ place + 0 = omega arith in k) (record { more = j; lacks = some; whole = (text, subst (FieldSpelling hessian place text) e is) });
}

no_more : (xs ys : List ℕ) → [] ≡ xs ++ ys → ys ≡ []
no_more [] ys e = sym e
no_more (x ∷ xs) ys e = absurd (cc)

-- where the first text ends, the others go on
abbrev GoesOn : ℕ → List Text → List ℕ → Type 0
GoesOn place texts r = (front k : List ℕ) → r ≡ front ++ k → k ≢ [] → InsideText (suc place) texts front

within_first : (place : ℕ) (text : Text) (texts : List Text) (f r front k j : List ℕ) → FieldSpelling hessian place text f → GoesOn place texts r → k ≢ [] → f ≡ front ++ j → k ≡ j ++ r → InsideText place (text ∷ texts) front
within_first place text texts f r front k [] is later some x y = one_whole place text texts f front [] is (sym (x ∙ append-nil front) ∙ sym (append-nil f)) (later [] k (sym y) some)
within_first place text texts f r front k (c ∷ cs) is later some x y = in_first place text texts f front (c ∷ cs) is x (λ z. cc)

by_fronts : (place : ℕ) (text : Text) (texts : List Text) (f r front k : List ℕ) → FieldSpelling hessian place text f → GoesOn place texts r → k ≢ [] → Fronts f r front k → InsideText place (text ∷ texts) front
by_fronts place text texts f r front k is later some (first_shorter j x y) = one_whole place text texts f front j is x (later j k y some)
by_fronts place text texts f r front k is later some (second_shorter j x y) = within_first place text texts f r front k j is later some x y

inside : {place : ℕ} {texts : List Text} {bytes : List ℕ} (front k : List ℕ) → FieldsSpelling hessian place texts bytes → bytes ≡ front ++ k → k ≢ [] → InsideText place texts front
inside front k (no_fields place) e some = absurd (some (no_more front k e))
inside front k (one_field place text texts f r is more) e some = by_fronts place text texts f r front k is (λ front' k' e' some'. inside front' k' more e' some') some (fronts f r front k e)

in_texts : (header : Header) (texts : List Text) (front : List ℕ) → header.serial ≡ HESSIAN → length texts ≡ FIELDS → InsideText 0 texts front → RequestRefusal hessian faults node_limit header front (Hessian (Short (length front)))
in_texts header texts front serial five i =
    short i.whole (length i.bytes) i.part (record { serial = serial; front = i.bytes; fields = i.spelled; place = refl; joined = i.joined }) (let k = i.fewer in omega (arith, k, five))
    (subst (λ n. EndsInside (IsField hessian n) i.part) (let k : 0 + length i.whole ≡ length i.whole = omega arith in k) i.ends)

in_values : (header : Header) (r : Request) (body front k more : List ℕ) → AreBytes body → (q : RequestOf hessian node_limit header body r) → front ≡ q.begins.front ++ k → q.values ≡ k ++ more → more ≢ [] → RequestRefusal hessian faults node_limit header front (Hessian (Short (length front)))
in_values header r body front k more small q e f some =
    let low : AreBytes (k ++ more) = subst AreBytes f (bytes_rest q.begins.front q.values (subst AreBytes q.begins.joined small)) in
    let cut : Refusal hessian faults node_limit (suc q.count) k (Short (length k)) = subst (λ n. Refusal hessian faults node_limit n k (Short (length k))) (many_roots q.graph q.count r q.are) (front_is_short k more q.graph low some (subst (λ xs. Denotes hessian node_limit xs q.graph) f q.denotes)) in
    let begun : BeginsWith hessian header front ((r.dubbo ∷ r.path ∷ r.version ∷ r.method ∷ []) ++ r.desc ∷ []) (length q.begins.front) k = record { serial = q.begins.serial; front = q.begins.front; fields = q.begins.fields; place = refl; joined = e } in
    let place : length q.begins.front + length k ≡ length front = sym (length-append q.begins.front k) ∙ ap length (sym e) in
    subst (λ n. RequestRefusal hessian faults node_limit header front (Hessian (Short n))) place
    (values (r.dubbo ∷ r.path ∷ r.version ∷ r.method ∷ []) r.desc (length q.begins.front) q.count k (Short (length k)) begun refl q.counted cut)

pub front_of_request : (header : Header) (front more : List ℕ) (r : Request) → more ≢ [] → RequestOf hessian node_limit header (front ++ more) r → RequestRefusal hessian faults node_limit header front (Hessian (Short (length front)))
front_of_request header front more r some q = by_parts (fronts q.begins.front q.values front more (sym q.begins.joined))
  where
    small : AreBytes (front ++ more)
    small = request_bytes header (front ++ more) r q

    cut_texts : (k : List ℕ) → q.begins.front ≡ front ++ k → more ≡ k ++ q.values → RequestRefusal hessian faults node_limit header front (Hessian (Short (length front)))
    cut_texts [] x y = in_values header r (front ++ more) front [] more small q (sym (x ∙ append-nil front) ∙ sym (append-nil q.begins.front)) (sym y) some
    cut_texts (c ∷ cs) x y = in_texts header (fields_of r) front q.begins.serial refl (inside front (c ∷ cs) q.begins.fields x (λ z. cc))

    by_parts : Fronts q.begins.front q.values front more → RequestRefusal hessian faults node_limit header front (Hessian (Short (length front)))
    by_parts (first_shorter k x y) = in_values header r (front ++ more) front k more small q x y some
    by_parts (second_shorter k x y) = cut_texts k x y
