-- A header and a body are one request at most, and then they have no refusal.
use Rattle.std.proofs.Common.{◌≡◌, ℕ, suc, ◌<◌, List, [], ◌∷◌, ◌++◌, length, refl, sym, ap, ◌∙◌, subst, arith, append_assoc, length-append}
use Rattle.hessian_graph.specs.Shape.{Text, Shape, shape_of}
use Rattle.hessian_graph.specs.Canon.{in_order, IsCanon}
use Rattle.hessian_graph.specs.Spells.{Denotes}
use Rattle.hessian_graph.proofs.Visits.{one_visit}
use Rattle.hessian_text.specs.Spelling.{AreBytes}
use Rattle.hessian_reader.specs.Faults.{faults}
use Rattle.hessian_reader.specs.Leaves.{hessian, node_limit}
use Rattle.hessian_reader.proofs.OneWay.{one_graph, bytes_rest}
use Rattle.hessian_reader.proofs.RefusalLaws.{denoted_not_refused}
use Rattle.dubbo_header.specs.declared.header.Header.{Header}
use Rattle.dubbo_bodies.specs.declared.message.Request.{Request}
use Rattle.dubbo_bodies.specs.Attachments.{AttachmentsOf}
use Rattle.dubbo_bodies.specs.Descriptor.{HasArgs}
use Rattle.dubbo_bodies.specs.Fields.{DESCRIPTOR, FieldSpelling, BeginsWith, fields_of}
use Rattle.dubbo_bodies.specs.Refusals.{BodyCause, EndsInside, IsField, NoneBegins, LacksAttachments, RequestRefusal}
use Rattle.dubbo_bodies.specs.Refusals.RequestRefusal.{serial, not_text, in_text, short, descriptor, values, attachments}
use Rattle.dubbo_bodies.specs.RequestBody.{with_roots, ValuesOf, RequestOf}
use Rattle.dubbo_bodies.specs.RequestReading.{SaysTheSame}
use Rattle.dubbo_bodies.proofs.FieldsOnce.{NextField, AllSame, field_once, form_of, some_text, next_field, all_same}
use Rattle.dubbo_bodies.proofs.FieldsOnce.FieldForm.{a_text, a_null}
use Rattle.dubbo_bodies.proofs.FieldsOnce.{FieldForm}
use Rattle.dubbo_bodies.proofs.AttachmentsOnce.{same_last, one_list, one_count, no_desc_fault}
use Rattle.dubbo_bodies.proofs.TextsRefused.{field_not_refused}

-- ---- what a body begins with

rest_small : {texts : List Text} {at : ℕ} {rest : List ℕ} (header : Header) (body : List ℕ) (b : BeginsWith hessian header body texts at rest) → AreBytes body → AreBytes rest
rest_small {rest = rest} header body b small = bytes_rest b.front rest (subst AreBytes b.joined small)

-- as many texts
pub same_texts : {xs ys : List Text} {m n : ℕ} {rest rest' : List ℕ} (header : Header) (body : List ℕ) → BeginsWith hessian header body xs m rest → BeginsWith hessian header body ys n rest' → length xs ≡ length ys → AllSame xs ys rest rest'
same_texts {rest = rest} {rest' = rest'} header body a b e = all_same rest rest' a.fields b.fields (sym a.joined ∙ b.joined) e

-- fewer
pub one_next : {xs ys : List Text} {m n : ℕ} {rest rest' : List ℕ} (header : Header) (body : List ℕ) → BeginsWith hessian header body xs m rest → BeginsWith hessian header body ys n rest' → length xs < length ys → NextField (length xs) rest
one_next {rest = rest} {rest' = rest'} header body a b h = next_field rest rest' a.fields b.fields (sym a.joined ∙ b.joined) h

-- all texts of a request, and what comes behind them
record SameValues (r : Request) (rest : List ℕ) (desc : Text) (bytes : List ℕ) : Type 0 where
  desc_is : desc ≡ r.desc
  bytes_are : rest ≡ bytes

whole_texts : {at : ℕ} {rest : List ℕ} (header : Header) (body : List ℕ) (r : Request) (texts : List Text) (desc : Text) → BeginsWith hessian header body (texts ++ desc ∷ []) at rest → length texts ≡ DESCRIPTOR → (q : RequestOf hessian node_limit header body r) → SameValues r rest desc q.values
whole_texts header body r texts desc b e q =
    let long : length (texts ++ desc ∷ []) ≡ length (fields_of r) = (let k = length-append texts (desc ∷ []) in omega (arith, k, e)) in
    let s = same_texts header body b q.begins long in
    let l = same_last (r.dubbo ∷ r.path ∷ r.version ∷ r.method ∷ []) texts r.desc desc s.texts (sym e) in
    record { desc_is = sym l.last; bytes_are = s.rest_is }

-- ---- no refusal

pub no_first : {place code : ℕ} {rest : List ℕ} → NoneBegins (IsField hessian place) code → NextField place (code ∷ rest) → ⊥
no_first {place} {code} {rest} none next = by_front next.front next.bytes next.spelled
  where
    empty : (f : FieldForm place next.text []) → ⊥
    empty (a_text s) = some_text next.text s
    empty (a_null p t e) = absurd (cc)

    by_front : (front : List ℕ) → code ∷ rest ≡ front ++ next.more → FieldSpelling hessian place next.text front → ⊥
    by_front [] e s = empty (form_of s)
    by_front (c ∷ cs) e s = let first : c ≡ code = cc in none cs (next.text, subst (λ x. FieldSpelling hessian place next.text (x ∷ cs)) first s)

pub not_inside : {place : ℕ} {rest : List ℕ} → EndsInside (IsField hessian place) rest → NextField place rest → ⊥
not_inside {place} {rest} inside next =
    let whole : FieldSpelling hessian place inside.whole.0 (next.front ++ (next.more ++ inside.more)) = subst (FieldSpelling hessian place inside.whole.0) (ap (λ xs. xs ++ inside.more) next.bytes ∙ append_assoc next.front next.more inside.more) inside.whole.1 in
    let once = field_once {more = next.more ++ inside.more} next.spelled whole in
    inside.lacks (nothing next.more inside.more once.0)
  where
    nothing : (xs ys : List ℕ) → xs ++ ys ≡ [] → ys ≡ []
    nothing [] ys e = e
    nothing (x ∷ xs) ys e = absurd (cc)

-- the values of a request, by another reading of its texts
values_again : {at : ℕ} {rest : List ℕ} (header : Header) (body : List ℕ) (r : Request) (texts : List Text) (desc : Text) (count : ℕ) → BeginsWith hessian header body (texts ++ desc ∷ []) at rest → length texts ≡ DESCRIPTOR → HasArgs desc count → (q : RequestOf hessian node_limit header body r) → Denotes hessian node_limit rest q.graph × (count ≡ q.count)
values_again header body r texts desc count b e counted q =
    let s = whole_texts header body r texts desc b e q in
    (subst (λ xs. Denotes hessian node_limit xs q.graph) (sym s.bytes_are) q.denotes, one_count r.desc count q.count (subst (λ d. HasArgs d count) s.desc_is counted) q.counted)

pub many_roots : (g : Shape) (count : ℕ) (r : Request) → ValuesOf g count r → length g.roots ≡ suc count
many_roots g count r v = let k = length-append v.args (v.last ∷ []) in let e = ap length v.roots in let n = v.each in omega (arith, k, e, n)

some_attachments : (g : Shape) (count : ℕ) (r : Request) → ValuesOf g count r → LacksAttachments g count → ⊥
some_attachments g count r v lacks =
    let s = same_last lacks.args v.args lacks.last v.last (sym lacks.roots ∙ v.roots) (lacks.each ∙ sym v.each) in
    lacks.none r.attachments (subst (λ x. AttachmentsOf g x r.attachments) (sym s.last) v.attachments)

pub as_many : (g : Shape) (count : ℕ) → LacksAttachments g count → length g.roots ≡ suc count
as_many g count l = let k = length-append l.args (l.last ∷ []) in let e = ap length l.roots in let n = l.each in omega (arith, k, e, n)

pub none_refused : (header : Header) (body : List ℕ) (r : Request) (cause : BodyCause) → AreBytes body → RequestOf hessian node_limit header body r → RequestRefusal hessian faults node_limit header body cause → ⊥
none_refused header body r cause small q (serial other) = other q.begins.serial
none_refused header body r cause small q (not_text texts at code rest b few none) = no_first none (one_next header body b q.begins few)
none_refused header body r cause small q (in_text texts at rest why b few refused) =
    let next = one_next header body b q.begins few in
    field_not_refused next.text next.front next.more next.bytes (form_of next.spelled) refused
none_refused header body r cause small q (short texts at rest b few inside) = not_inside inside (one_next header body b q.begins few)
none_refused header body r cause small q (descriptor texts desc at rest fault b e told) =
    let s = whole_texts header body r texts desc b e q in
    no_desc_fault desc q.count fault (subst (λ d. HasArgs d q.count) (sym s.desc_is) q.counted) told
none_refused header body r cause small q (values texts desc at count rest why b e counted refused) =
    let (denotes, same) = values_again header body r texts desc count b e counted q in
    denoted_not_refused (suc count) rest q.graph why denotes (many_roots q.graph q.count r q.are ∙ ap suc (sym same)) refused
none_refused header body r cause small q (attachments texts desc at count rest g b e counted denotes lacks) =
    let (again, same) = values_again header body r texts desc count b e counted q in
    let roots : length g.roots ≡ length q.graph.roots = as_many g count lacks ∙ ap suc same ∙ sym (many_roots q.graph q.count r q.are) in
    let one : g ≡ q.graph = one_graph rest g q.graph (rest_small header body b small) denotes again roots in
    some_attachments q.graph q.count r q.are (subst (LacksAttachments q.graph) same (subst (λ x. LacksAttachments x count) one lacks))

-- ---- one request

one_canon : (g : Shape) (a b : Shape) → IsCanon g a → IsCanon g b → a ≡ b
one_canon g a b p q = p.2 ∙ ap (in_order g) (one_visit p.1 q.1) ∙ sym q.2

record SameOutcome (r s : Request) : Type 0 where
  args : shape_of r.args ≡ shape_of s.args
  attachments : r.attachments ≡ s.attachments

one_outcome : (g : Shape) (count : ℕ) (r s : Request) → ValuesOf g count r → ValuesOf g count s → SameOutcome r s
one_outcome g count r s v w =
    let l = same_last v.args w.args v.last w.last (sym v.roots ∙ w.roots) (v.each ∙ sym w.each) in
    record {
      args = one_canon (with_roots w.args g) (shape_of r.args) (shape_of s.args) (subst (λ xs. IsCanon (with_roots xs g) (shape_of r.args)) l.front v.canonical) w.canonical;
      attachments = one_list (subst (λ x. AttachmentsOf g x r.attachments) l.last v.attachments) w.attachments;
    }

fifth : (r s : Request) → fields_of s ≡ fields_of r → s.desc ≡ r.desc
fifth r s e = (same_last (s.dubbo ∷ s.path ∷ s.version ∷ s.method ∷ []) (r.dubbo ∷ r.path ∷ r.version ∷ r.method ∷ []) s.desc r.desc e refl).last

pub one_request : (header : Header) (body : List ℕ) (r s : Request) → AreBytes body → RequestOf hessian node_limit header body r → RequestOf hessian node_limit header body s → SaysTheSame r s
one_request header body r s small p q =
    let same = same_texts header body p.begins q.begins refl in
    let count : p.count ≡ q.count = one_count r.desc p.count q.count p.counted (subst (λ d. HasArgs d q.count) (fifth r s same.texts) q.counted) in
    let denotes : Denotes hessian node_limit p.values q.graph = subst (λ xs. Denotes hessian node_limit xs q.graph) (sym same.rest_is) q.denotes in
    let roots : length p.graph.roots ≡ length q.graph.roots = many_roots p.graph p.count r p.are ∙ ap suc count ∙ sym (many_roots q.graph q.count s q.are) in
    let graph : p.graph ≡ q.graph = one_graph p.values p.graph q.graph (rest_small header body p.begins small) p.denotes denotes roots in
    let o = one_outcome q.graph q.count r s (subst (λ n. ValuesOf q.graph n r) count (subst (λ g. ValuesOf g p.count r) graph p.are)) q.are in
    record { texts = sym same.texts; args = o.args; attachments = o.attachments }
