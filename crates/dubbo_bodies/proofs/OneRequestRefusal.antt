-- A header and a body are refused as a request for one cause at most.
use Rattle.std.proofs.Common.{◌≡◌, ◌≢◌, ℕ, suc, ◌+◌, ◌<◌, ◌≤◌, List, [], ◌∷◌, ◌++◌, length, refl, sym, ap, ◌∙◌, subst, arith, length-append, inl, inr}
use Rattle.std.specs.Prelude.{Result, Err}
use Rattle.std.proofs.lemmas.Bool.{cases_lt}
use Rattle.hessian_graph.specs.Shape.{Text, Shape}
use Rattle.hessian_graph.specs.Refusal.{Cause, Short, Refusal}
use Rattle.hessian_graph.specs.Spells.{Denotes}
use Rattle.hessian_reader.specs.Faults.{faults}
use Rattle.hessian_reader.specs.Leaves.{hessian, node_limit}
use Rattle.hessian_reader.proofs.OneCause.{one_refusal}
use Rattle.hessian_reader.proofs.RefusalLaws.{denoted_not_refused}
use Rattle.dubbo_header.specs.declared.header.Header.{Header}
use Rattle.dubbo_bodies.specs.declared.fault.DescFault.{DescFault}
use Rattle.dubbo_bodies.specs.Descriptor.{HasArgs, Tells}
use Rattle.dubbo_bodies.specs.Fields.{HESSIAN, FIELDS, DESCRIPTOR, BeginsWith}
use Rattle.dubbo_bodies.specs.Refusals.{BodyCause, BadSerial, Hessian, NotText, Descriptor, BadAttachments, behind, TextRefused, EndsInside, IsField, NoneBegins, LacksAttachments, RequestRefusal}
use Rattle.dubbo_bodies.specs.Refusals.RequestRefusal.{serial, not_text, in_text, short, descriptor, values, attachments}
use Rattle.dubbo_bodies.proofs.Running.{AreBytes}
use Rattle.dubbo_bodies.proofs.Counting.{one_answer}
use Rattle.dubbo_bodies.proofs.FieldsOnce.{NextField}
use Rattle.dubbo_bodies.proofs.AttachmentsOnce.{same_last, one_count, no_desc_fault}
use Rattle.dubbo_bodies.proofs.OneReading.{same_texts, one_next, no_first, not_inside, as_many}
use Rattle.dubbo_bodies.proofs.FieldRefusals.{one_cause, no_code_inside, no_code_short, not_refused, refused_not_short, last_bytes}

-- ---- in the place of a text

-- the cause of what stands in the place of a text: of its first code, of a byte inside, or of the end
data AtField (body : List ℕ) (place at : ℕ) (rest : List ℕ) : BodyCause → Type 0 where
  first : (code : ℕ) (more : List ℕ) → rest ≡ code ∷ more → NoneBegins (IsField hessian place) code → AtField body place at rest (NotText place)
  inside : (cause : Cause) → TextRefused faults rest cause → AtField body place at rest (Hessian (behind at cause))
  end : EndsInside (IsField hessian place) rest → AtField body place at rest (Hessian (Short (length body)))

-- no text stands there
no_next : {body rest : List ℕ} {place at : ℕ} {cause : BodyCause} → AtField body place at rest cause → NextField place rest → ⊥
no_next {place = place} (first code more e none) next = no_first none (subst (NextField place) e next)
no_next (inside cause r) next = not_refused r next
no_next (end ends) next = not_inside ends next

first_not_inside : {place : ℕ} {rest : List ℕ} {cause : Cause} (code : ℕ) (more : List ℕ) → rest ≡ code ∷ more → NoneBegins (IsField hessian place) code → TextRefused faults rest cause → ⊥
first_not_inside {cause = cause} code more e none r = no_code_inside none (subst (λ xs. TextRefused faults xs cause) e r)

first_not_end : {place : ℕ} {rest : List ℕ} (code : ℕ) (more : List ℕ) → rest ≡ code ∷ more → NoneBegins (IsField hessian place) code → EndsInside (IsField hessian place) rest → ⊥
first_not_end {place} code more e none ends = no_code_short none (subst (EndsInside (IsField hessian place)) e ends)

one_at_field : {body rest : List ℕ} {place at : ℕ} {one other : BodyCause} → AtField body place at rest one → AtField body place at rest other → one ≡ other
one_at_field (first code more e none) (first code' more' e' none') = refl
one_at_field (first code more e none) (inside cause r) = absurd (first_not_inside code more e none r)
one_at_field (first code more e none) (end ends) = absurd (first_not_end code more e none ends)
one_at_field (inside cause r) (first code more e none) = absurd (first_not_inside code more e none r)
one_at_field {at = at} (inside cause r) (inside cause' r') = ap (λ c. Hessian (behind at c)) (one_cause r r')
one_at_field (inside cause r) (end ends) = absurd (refused_not_short r ends)
one_at_field (end ends) (first code more e none) = absurd (first_not_end code more e none ends)
one_at_field (end ends) (inside cause r) = absurd (refused_not_short r ends)
one_at_field (end ends) (end ends') = refl

-- ---- behind the texts

-- the cause of what stands behind the five texts: of the descriptor, of the values, or of what the last of them is
data BehindTexts (desc : Text) (at : ℕ) (rest : List ℕ) : BodyCause → Type 0 where
  told : (fault : DescFault) → Tells desc (Err fault) → BehindTexts desc at rest (Descriptor fault)
  graph : (count : ℕ) (cause : Cause) → HasArgs desc count → Refusal hessian faults node_limit (suc count) rest cause → BehindTexts desc at rest (Hessian (behind at cause))
  lacks : (count : ℕ) (g : Shape) → HasArgs desc count → Denotes hessian node_limit rest g → LacksAttachments g count → BehindTexts desc at rest BadAttachments

one_fault : (desc : Text) (one other : DescFault) → AreBytes desc → Tells desc (Err one) → Tells desc (Err other) → one ≡ other
one_fault desc one other low a b = let e : ◌≡◌ {A = Result ℕ DescFault} (Err one) (Err other) = one_answer desc (Err one) (Err other) low a b in cc

-- values that denote a graph aren't refused
graph_or_refusal : (desc : Text) (rest : List ℕ) (n m : ℕ) (cause : Cause) (g : Shape) → HasArgs desc n → HasArgs desc m → Refusal hessian faults node_limit (suc n) rest cause → Denotes hessian node_limit rest g → LacksAttachments g m → ⊥
graph_or_refusal desc rest n m cause g a b r d l = denoted_not_refused (suc n) rest g cause d (as_many g m l ∙ ap suc (one_count desc m n b a)) r

one_behind_texts : {at : ℕ} {rest : List ℕ} {one other : BodyCause} (desc : Text) → AreBytes desc → BehindTexts desc at rest one → BehindTexts desc at rest other → one ≡ other
one_behind_texts desc low (told fault a) (told fault' b) = ap (λ f. Descriptor f) (one_fault desc fault fault' low a b)
one_behind_texts desc low (told fault a) (graph count cause b r) = absurd (no_desc_fault desc count fault b a)
one_behind_texts desc low (told fault a) (lacks count g b d l) = absurd (no_desc_fault desc count fault b a)
one_behind_texts desc low (graph count cause a r) (told fault b) = absurd (no_desc_fault desc count fault a b)
one_behind_texts {at} {rest} desc low (graph count cause a r) (graph count' cause' b r') =
    let as_many_roots = subst (λ n. Refusal hessian faults node_limit (suc n) rest cause') (one_count desc count' count b a) r' in
    ap (λ c. Hessian (behind at c)) (one_refusal (suc count) rest cause cause' r as_many_roots)
one_behind_texts {rest = rest} desc low (graph count cause a r) (lacks count' g b d l) = absurd (graph_or_refusal desc rest count count' cause g a b r d l)
one_behind_texts desc low (lacks count g a d l) (told fault b) = absurd (no_desc_fault desc count fault a b)
one_behind_texts {rest = rest} desc low (lacks count g a d l) (graph count' cause b r) = absurd (graph_or_refusal desc rest count' count cause g b a r d l)
one_behind_texts desc low (lacks count g a d l) (lacks count' g' b d' l') = refl

-- ---- the whole body

-- where a body is refused: by its header, in the place of a text, or behind the texts
data Refused (header : Header) (body : List ℕ) : BodyCause → Type 0 where
  by_header : header.serial ≢ HESSIAN → Refused header body (BadSerial header.serial)
  at_field : (texts : List Text) (at : ℕ) (rest : List ℕ) (cause : BodyCause) → BeginsWith hessian header body texts at rest → length texts < FIELDS → AtField body (length texts) at rest cause → Refused header body cause
  behind_texts : (texts : List Text) (desc : Text) (at : ℕ) (rest : List ℕ) (cause : BodyCause) → BeginsWith hessian header body (texts ++ desc ∷ []) at rest → length texts ≡ DESCRIPTOR → BehindTexts desc at rest cause → Refused header body cause

refused_of : {header : Header} {body : List ℕ} {cause : BodyCause} → RequestRefusal hessian faults node_limit header body cause → Refused header body cause
refused_of (serial other) = by_header other
refused_of (not_text texts at code rest b few none) = at_field texts at (code ∷ rest) (NotText (length texts)) b few (first code rest refl none)
refused_of (in_text texts at rest why b few r) = at_field texts at rest (Hessian (behind at why)) b few (inside why r)
refused_of {body = body} (short texts at rest b few ends) = at_field texts at rest (Hessian (Short (length body))) b few (end ends)
refused_of (descriptor texts desc at rest fault b e a) = behind_texts texts desc at rest (Descriptor fault) b e (told fault a)
refused_of (values texts desc at count rest why b e a r) = behind_texts texts desc at rest (Hessian (behind at why)) b e (graph count why a r)
refused_of (attachments texts desc at count rest g b e a d l) = behind_texts texts desc at rest BadAttachments b e (lacks count g a d l)

-- the same bytes behind two fronts of a body begin at one place
one_place : {xs ys : List Text} {m n : ℕ} {rest rest' : List ℕ} (header : Header) (body : List ℕ) → BeginsWith hessian header body xs m rest → BeginsWith hessian header body ys n rest' → rest ≡ rest' → n ≡ m
one_place {rest = rest} {rest' = rest'} header body a b e =
    let k : length a.front + length rest ≡ length b.front + length rest' = sym (length-append a.front rest) ∙ ap length (sym a.joined ∙ b.joined) ∙ length-append b.front rest' in
    let l : length rest ≡ length rest' = ap length e in
    let p = a.place in
    let q = b.place in
    omega (arith, k, l, p, q)

-- as many texts, and then one cause
same_field : {one other : BodyCause} (header : Header) (body : List ℕ) (xs ys : List Text) (m n : ℕ) (rest rest' : List ℕ) → BeginsWith hessian header body xs m rest → BeginsWith hessian header body ys n rest' → length xs ≡ length ys → AtField body (length xs) m rest one → AtField body (length ys) n rest' other → one ≡ other
same_field {other = other} header body xs ys m n rest rest' a b e p q =
    let rest_is = (same_texts header body a b e).rest_is in
    let at_place = subst (λ k. AtField body k n rest' other) (sym e) q in
    let at_start = subst (λ k. AtField body (length xs) k rest' other) (one_place header body a b rest_is) at_place in
    one_at_field p (subst (λ r. AtField body (length xs) m r other) (sym rest_is) at_start)

-- all five texts, and then one cause
same_behind : {one other : BodyCause} (header : Header) (body : List ℕ) (xs ys : List Text) (desc desc' : Text) (m n : ℕ) (rest rest' : List ℕ) → BeginsWith hessian header body (xs ++ desc ∷ []) m rest → BeginsWith hessian header body (ys ++ desc' ∷ []) n rest' → length xs ≡ length ys → BehindTexts desc m rest one → BehindTexts desc' n rest' other → one ≡ other
same_behind {other = other} header body xs ys desc desc' m n rest rest' a b e p q =
    let long : length (xs ++ desc ∷ []) ≡ length (ys ++ desc' ∷ []) = (let k = length-append xs (desc ∷ []) in let l = length-append ys (desc' ∷ []) in omega (arith, k, l, e)) in
    let s = same_texts header body a b long in
    let desc_is = (same_last ys xs desc' desc s.texts (sym e)).last in
    let of_desc = subst (λ d. BehindTexts d n rest' other) desc_is q in
    let at_start = subst (λ k. BehindTexts desc k rest' other) (one_place header body a b s.rest_is) of_desc in
    one_behind_texts desc (last_bytes xs desc refl a.fields) p (subst (λ r. BehindTexts desc m r other) (sym s.rest_is) at_start)

-- behind all five texts there is one more than in front of a text
field_or_behind : {cause : BodyCause} (header : Header) (body : List ℕ) (xs ys : List Text) (desc : Text) (m n : ℕ) (rest rest' : List ℕ) → BeginsWith hessian header body xs m rest → length xs < FIELDS → AtField body (length xs) m rest cause → BeginsWith hessian header body (ys ++ desc ∷ []) n rest' → length ys ≡ DESCRIPTOR → ⊥
field_or_behind header body xs ys desc m n rest rest' a few p b e = no_next p (one_next header body a b (let k = length-append ys (desc ∷ []) in omega (arith, k, e, few)))

two_fields : {one other : BodyCause} (header : Header) (body : List ℕ) (xs ys : List Text) (m n : ℕ) (rest rest' : List ℕ) → BeginsWith hessian header body xs m rest → BeginsWith hessian header body ys n rest' → AtField body (length xs) m rest one → AtField body (length ys) n rest' other → one ≡ other
two_fields {one} {other} header body xs ys m n rest rest' a b p q = elim (cases_lt (length xs) (length ys)) [
  | inl h ↦ absurd (no_next p (one_next header body a b h))
  | inr h ↦ not_fewer h
]
  where
    not_fewer : length ys ≤ length xs → one ≡ other
    not_fewer h = elim (cases_lt (length ys) (length xs)) [
      | inl l ↦ absurd (no_next q (one_next header body b a l))
      | inr l ↦ same_field header body xs ys m n rest rest' a b (omega (arith, h, l)) p q
    ]

one_refused : {header : Header} {body : List ℕ} {one other : BodyCause} → Refused header body one → Refused header body other → one ≡ other
one_refused (by_header n) (by_header m) = refl
one_refused (by_header n) (at_field texts at rest cause b few r) = absurd (n b.serial)
one_refused (by_header n) (behind_texts texts desc at rest cause b e r) = absurd (n b.serial)
one_refused (at_field texts at rest cause b few r) (by_header n) = absurd (n b.serial)
one_refused {header} {body} (at_field xs m rest cause a few p) (at_field ys n rest' cause' b few' q) = two_fields header body xs ys m n rest rest' a b p q
one_refused {header} {body} (at_field xs m rest cause a few p) (behind_texts ys desc n rest' cause' b e q) = absurd (field_or_behind header body xs ys desc m n rest rest' a few p b e)
one_refused (behind_texts texts desc at rest cause b e r) (by_header n) = absurd (n b.serial)
one_refused {header} {body} (behind_texts ys desc n rest' cause b e q) (at_field xs m rest cause' a few p) = absurd (field_or_behind header body xs ys desc m n rest rest' a few p b e)
one_refused {header} {body} (behind_texts xs desc m rest cause a e p) (behind_texts ys desc' n rest' cause' b f q) = same_behind header body xs ys desc desc' m n rest rest' a b (e ∙ sym f) p q

-- a header and a body are refused as a request for one cause at most
pub one_cause_of_request : (header : Header) (body : List ℕ) (one other : BodyCause) → RequestRefusal hessian faults node_limit header body one → RequestRefusal hessian faults node_limit header body other → one ≡ other
one_cause_of_request header body one other p q = one_refused (refused_of p) (refused_of q)
