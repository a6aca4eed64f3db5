-- A header and a body are refused as a reply for one cause at most.
use Rattle.std.proofs.Common.{◌≡◌, ◌≢◌, ℕ, suc, ◌+◌, List, [], ◌∷◌, ◌++◌, length, refl, sym, ap, ◌∙◌, subst, arith, append_assoc, length-append}
use Rattle.std.specs.Prelude.{ℤ}
use Rattle.hessian_graph.specs.Shape.{Text, Shape}
use Rattle.hessian_graph.specs.Reading.{IntSpelling}
use Rattle.hessian_graph.specs.Refusal.{Cause, Short, BadCode, Trailing, BeginsNoInt, Refusal}
use Rattle.hessian_graph.specs.Spells.{Denotes}
use Rattle.hessian_scalars.specs.declared.scalar.Scalar.TheVariants as scalars
use Rattle.hessian_scalars.specs.ScalarSpelling.{ScalarSpelling}
use Rattle.hessian_scalars.proofs.Laws.{goes_on}
use Rattle.hessian_reader.specs.Faults.{faults}
use Rattle.hessian_reader.specs.Leaves.{hessian, node_limit}
use Rattle.hessian_reader.proofs.OneCause.{one_refusal}
use Rattle.hessian_reader.proofs.OneWay.{fronts}
use Rattle.hessian_reader.proofs.RefusalLaws.{denoted_not_refused}
use Rattle.dubbo_header.specs.declared.header.Header.{Header}
use Rattle.dubbo_bodies.specs.Fields.{HESSIAN, VERSION, OptionalText}
use Rattle.dubbo_bodies.specs.Fields.OptionalText.{text as o_text, null as o_null}
use Rattle.dubbo_bodies.specs.Fields.FieldSpelling.{version as f_version}
use Rattle.dubbo_bodies.specs.ReplyBody.{OK_STATUS, HasRoots, HasBeside, BeginsWithKind}
use Rattle.dubbo_bodies.specs.ReplyBody.HasRoots.{exception as roots_exception, exception_beside as roots_exception_beside, null as roots_null, null_beside as roots_null_beside, value as roots_value, value_beside as roots_value_beside}
use Rattle.dubbo_bodies.specs.ReplyBody.HasBeside.{exception as beside_exception, null as beside_null, value as beside_value}
use Rattle.dubbo_bodies.specs.Refusals.{BodyCause, BadSerial, Hessian, BadKind, BadAttachments, behind, TextRefused, EndsInside, IsField, IsOptionalText, IsInt, NoneBegins, LacksAttachments, ReplyRefusal}
use Rattle.dubbo_bodies.specs.Refusals.ReplyRefusal.{attachments as refusal_attachments, in_text as refusal_in_text, kind as refusal_kind, no_int as refusal_no_int, no_text as refusal_no_text, serial as refusal_serial, short_kind as refusal_short_kind, short_text as refusal_short_text, trailing as refusal_trailing, values as refusal_values}
use Rattle.dubbo_bodies.proofs.FieldsOnce.{FieldForm, NextField, form_of, same_field}
use Rattle.dubbo_bodies.proofs.FieldsOnce.FieldForm.{a_text, a_null}
use Rattle.dubbo_bodies.proofs.OneKind.{same_kind}
use Rattle.dubbo_bodies.proofs.OneReply.{int_first, right_empty}
use Rattle.dubbo_bodies.proofs.OneReading.{no_first, not_inside, as_many}
use Rattle.dubbo_bodies.proofs.FieldRefusals.{one_cause, no_code_inside, no_code_short, not_refused, refused_not_short}

same_code : (body rest rest' : List ℕ) (code code' : ℕ) → body ≡ code ∷ rest → body ≡ code' ∷ rest' → code ≡ code'
same_code body rest rest' code code' e f = let k : code ∷ rest ≡ code' ∷ rest' = sym e ∙ f in cc

-- ---- in the place of the kind

-- the cause of what stands in the place of the kind: of its first code, or of the end
data AtKind (body : List ℕ) : BodyCause → Type 0 where
  first : (code : ℕ) (rest : List ℕ) → body ≡ code ∷ rest → BeginsNoInt hessian code → AtKind body (Hessian (BadCode 0 code))
  end : EndsInside (IsInt hessian) body → AtKind body (Hessian (Short (length body)))

-- no int stands there
no_kind : {cause : BodyCause} (body : List ℕ) (z : ℤ) (front rest : List ℕ) → IntSpelling hessian z front → body ≡ front ++ rest → AtKind body cause → ⊥
no_kind body z front rest is e (first code more f none) = int_first z front rest body more code is e f none
no_kind body z front rest is e (end ends) =
    let (w, whole) = ends.whole in
    let all : body ++ ends.more ≡ front ++ (rest ++ ends.more) = ap (λ bs. bs ++ ends.more) e ∙ append_assoc front rest ends.more in
    let none : rest ++ ends.more ≡ [] = goes_on (scalars.Int z) (scalars.Int w) front (rest ++ ends.more) is (subst (ScalarSpelling (scalars.Int w)) all whole) in
    ends.lacks (right_empty rest ends.more none)

int_not_end : (body : List ℕ) (code : ℕ) (rest : List ℕ) → body ≡ code ∷ rest → BeginsNoInt hessian code → EndsInside (IsInt hessian) body → ⊥
int_not_end body code rest e none ends = none ends.whole.0 (rest ++ ends.more) (subst (λ bs. IntSpelling hessian ends.whole.0 (bs ++ ends.more)) e ends.whole.1)

one_at_kind : {one other : BodyCause} (body : List ℕ) → AtKind body one → AtKind body other → one ≡ other
one_at_kind body (first code rest e none) (first code' rest' e' none') = ap (λ c. Hessian (BadCode 0 c)) (same_code body rest rest' code code' e e')
one_at_kind body (first code rest e none) (end ends) = absurd (int_not_end body code rest e none ends)
one_at_kind body (end ends) (first code rest e none) = absurd (int_not_end body code rest e none ends)
one_at_kind body (end ends) (end ends') = refl

-- ---- behind the kind

-- the cause of what stands behind the kind: of its number, of the values, or of what the last of them is
data BehindKind (z : ℤ) (at : ℕ) (rest : List ℕ) : BodyCause → Type 0 where
  number : ((roots : ℕ) → HasRoots z roots → ⊥) → BehindKind z at rest (BadKind z)
  graph : (roots : ℕ) (cause : Cause) → HasRoots z roots → Refusal hessian faults node_limit roots rest cause → BehindKind z at rest (Hessian (behind at cause))
  lacks : (before : ℕ) (g : Shape) → HasBeside z before → Denotes hessian node_limit rest g → LacksAttachments g before → BehindKind z at rest BadAttachments

one_roots : {z w : ℤ} {n m : ℕ} → z ≡ w → HasRoots z n → HasRoots w m → n ≡ m
one_roots e roots_exception roots_exception = refl
one_roots e roots_value roots_value = refl
one_roots e roots_null roots_null = refl
one_roots e roots_exception_beside roots_exception_beside = refl
one_roots e roots_value_beside roots_value_beside = refl
one_roots e roots_null_beside roots_null_beside = refl
one_roots e p q = absurd cc

-- the attachments are one value more
roots_beside : {z : ℤ} {before : ℕ} → HasBeside z before → HasRoots z (suc before)
roots_beside beside_exception = roots_exception_beside
roots_beside beside_value = roots_value_beside
roots_beside beside_null = roots_null_beside

-- values that denote a graph aren't refused
graph_or_refusal : (z : ℤ) (rest : List ℕ) (roots before : ℕ) (cause : Cause) (g : Shape) → HasRoots z roots → HasBeside z before → Refusal hessian faults node_limit roots rest cause → Denotes hessian node_limit rest g → LacksAttachments g before → ⊥
graph_or_refusal z rest roots before cause g a b r d l = denoted_not_refused roots rest g cause d (as_many g before l ∙ one_roots refl (roots_beside b) a) r

one_behind_kind : {at : ℕ} {rest : List ℕ} {one other : BodyCause} (z : ℤ) → BehindKind z at rest one → BehindKind z at rest other → one ≡ other
one_behind_kind z (number none) (number none') = refl
one_behind_kind z (number none) (graph roots cause a r) = absurd (none roots a)
one_behind_kind z (number none) (lacks before g b d l) = absurd (none (suc before) (roots_beside b))
one_behind_kind z (graph roots cause a r) (number none) = absurd (none roots a)
one_behind_kind {at} {rest} z (graph roots cause a r) (graph roots' cause' b r') =
    let as_many_roots = subst (λ n. Refusal hessian faults node_limit n rest cause') (one_roots refl b a) r' in
    ap (λ c. Hessian (behind at c)) (one_refusal roots rest cause cause' r as_many_roots)
one_behind_kind {rest = rest} z (graph roots cause a r) (lacks before g b d l) = absurd (graph_or_refusal z rest roots before cause g a b r d l)
one_behind_kind z (lacks before g b d l) (number none) = absurd (none (suc before) (roots_beside b))
one_behind_kind {rest = rest} z (lacks before g b d l) (graph roots cause a r) = absurd (graph_or_refusal z rest roots before cause g a b r d l)
one_behind_kind z (lacks before g b d l) (lacks before' g' b' d' l') = refl

-- ---- the text of another status

-- the cause of what stands in the text's place: of its first code, of a byte inside, of the end, or of what stands behind it
data AtStatus (body : List ℕ) : BodyCause → Type 0 where
  first : (code : ℕ) (rest : List ℕ) → body ≡ code ∷ rest → NoneBegins (IsOptionalText hessian) code → AtStatus body (Hessian (BadCode 0 code))
  inside : (cause : Cause) → TextRefused faults body cause → AtStatus body (Hessian cause)
  end : EndsInside (IsOptionalText hessian) body → AtStatus body (Hessian (Short (length body)))
  later : (front rest : List ℕ) (code : ℕ) → IsOptionalText hessian front → body ≡ front ++ code ∷ rest → AtStatus body (Hessian (Trailing (length front)))

-- an optional text is what may stand in the place of a service's version
optional_form : {place : ℕ} {text : Text} {bytes : List ℕ} → FieldForm place text bytes → OptionalText hessian text bytes
optional_form {text = text} {bytes = bytes} (a_text s) = o_text text bytes s
optional_form {bytes = bytes} (a_null p t e) = subst (λ x. OptionalText hessian x bytes) (sym t) (subst (OptionalText hessian []) (sym e) o_null)

none_there : {code : ℕ} → NoneBegins (IsOptionalText hessian) code → NoneBegins (IsField hessian VERSION) code
none_there none more is = none more (is.0, optional_form (form_of is.1))

ends_there : {body : List ℕ} → EndsInside (IsOptionalText hessian) body → EndsInside (IsField hessian VERSION) body
ends_there {body} ends = record { more = ends.more; lacks = ends.lacks; whole = (ends.whole.0, f_version ends.whole.0 (body ++ ends.more) ends.whole.1) }

next_there : {body : List ℕ} (front rest : List ℕ) (code : ℕ) → IsOptionalText hessian front → body ≡ front ++ code ∷ rest → NextField VERSION body
next_there front rest code is e = record { text = is.0; front = front; more = code ∷ rest; spelled = f_version is.0 front is.1; bytes = e }

first_not_inside : (body : List ℕ) (code : ℕ) (rest : List ℕ) (cause : Cause) → body ≡ code ∷ rest → NoneBegins (IsOptionalText hessian) code → TextRefused faults body cause → ⊥
first_not_inside body code rest cause e none r = no_code_inside (none_there none) (subst (λ bs. TextRefused faults bs cause) e r)

first_not_end : (body : List ℕ) (code : ℕ) (rest : List ℕ) → body ≡ code ∷ rest → NoneBegins (IsOptionalText hessian) code → EndsInside (IsOptionalText hessian) body → ⊥
first_not_end body code rest e none ends = no_code_short (none_there none) (subst (EndsInside (IsField hessian VERSION)) e (ends_there ends))

first_not_text : (body : List ℕ) (code : ℕ) (rest : List ℕ) → body ≡ code ∷ rest → NoneBegins (IsOptionalText hessian) code → NextField VERSION body → ⊥
first_not_text body code rest e none next = no_first (none_there none) (subst (NextField VERSION) e next)

one_front : (body front rest front' rest' : List ℕ) → IsOptionalText hessian front → IsOptionalText hessian front' → body ≡ front ++ rest → body ≡ front' ++ rest' → front' ≡ front
one_front body front rest front' rest' a b e f = (same_field (f_version a.0 front a.1) (f_version b.0 front' b.1) (fronts front rest front' rest' (sym e ∙ f))).front_is

one_at_status : {one other : BodyCause} (body : List ℕ) → AtStatus body one → AtStatus body other → one ≡ other
one_at_status body (first code rest e none) (first code' rest' e' none') = ap (λ c. Hessian (BadCode 0 c)) (same_code body rest rest' code code' e e')
one_at_status body (first code rest e none) (inside cause r) = absurd (first_not_inside body code rest cause e none r)
one_at_status body (first code rest e none) (end ends) = absurd (first_not_end body code rest e none ends)
one_at_status body (first code rest e none) (later front more c is f) = absurd (first_not_text body code rest e none (next_there front more c is f))
one_at_status body (inside cause r) (first code rest e none) = absurd (first_not_inside body code rest cause e none r)
one_at_status body (inside cause r) (inside cause' r') = ap (λ c. Hessian c) (one_cause r r')
one_at_status body (inside cause r) (end ends) = absurd (refused_not_short r (ends_there ends))
one_at_status body (inside cause r) (later front more c is f) = absurd (not_refused r (next_there front more c is f))
one_at_status body (end ends) (first code rest e none) = absurd (first_not_end body code rest e none ends)
one_at_status body (end ends) (inside cause r) = absurd (refused_not_short r (ends_there ends))
one_at_status body (end ends) (end ends') = refl
one_at_status body (end ends) (later front more c is f) = absurd (not_inside (ends_there ends) (next_there front more c is f))
one_at_status body (later front more c is f) (first code rest e none) = absurd (first_not_text body code rest e none (next_there front more c is f))
one_at_status body (later front more c is f) (inside cause r) = absurd (not_refused r (next_there front more c is f))
one_at_status body (later front more c is f) (end ends) = absurd (not_inside (ends_there ends) (next_there front more c is f))
one_at_status body (later front more c is f) (later front' more' c' is' f') = ap (λ bs. Hessian (Trailing (length bs))) (sym (one_front body front (c ∷ more) front' (c' ∷ more') is is' f f'))

-- ---- the whole body

-- where a body is refused: by its header, in the place of the kind, behind the kind, or in the text of another status
data Refused (header : Header) (body : List ℕ) : BodyCause → Type 0 where
  by_header : header.serial ≢ HESSIAN → Refused header body (BadSerial header.serial)
  at_kind : (cause : BodyCause) → header.serial ≡ HESSIAN → header.status ≡ OK_STATUS → AtKind body cause → Refused header body cause
  behind_kind : (z : ℤ) (at : ℕ) (rest : List ℕ) (cause : BodyCause) → BeginsWithKind hessian header body z at rest → BehindKind z at rest cause → Refused header body cause
  at_status : (cause : BodyCause) → header.serial ≡ HESSIAN → header.status ≢ OK_STATUS → AtStatus body cause → Refused header body cause

refused_of : {header : Header} {body : List ℕ} {cause : BodyCause} → ReplyRefusal hessian faults node_limit header body cause → Refused header body cause
refused_of (refusal_serial other) = by_header other
refused_of (refusal_no_int code rest s st e none) = at_kind (Hessian (BadCode 0 code)) s st (first code rest e none)
refused_of {body = body} (refusal_short_kind s st ends) = at_kind (Hessian (Short (length body))) s st (end ends)
refused_of (refusal_kind z at rest b none) = behind_kind z at rest (BadKind z) b (number none)
refused_of (refusal_values z at roots rest cause b a r) = behind_kind z at rest (Hessian (behind at cause)) b (graph roots cause a r)
refused_of (refusal_attachments z at before rest g b a d l) = behind_kind z at rest BadAttachments b (lacks before g a d l)
refused_of (refusal_no_text code rest s other e none) = at_status (Hessian (BadCode 0 code)) s other (first code rest e none)
refused_of (refusal_in_text cause s other r) = at_status (Hessian cause) s other (inside cause r)
refused_of {body = body} (refusal_short_text s other ends) = at_status (Hessian (Short (length body))) s other (end ends)
refused_of (refusal_trailing front rest code s other is e) = at_status (Hessian (Trailing (length front))) s other (later front rest code is e)

-- the same bytes behind two kinds begin at one place
one_place : (header : Header) (body : List ℕ) (z w : ℤ) (m n : ℕ) (rest rest' : List ℕ) → BeginsWithKind hessian header body z m rest → BeginsWithKind hessian header body w n rest' → rest ≡ rest' → n ≡ m
one_place header body z w m n rest rest' a b e =
    let k : length a.front + length rest ≡ length b.front + length rest' = sym (length-append a.front rest) ∙ ap length (sym a.joined ∙ b.joined) ∙ length-append b.front rest' in
    let l : length rest ≡ length rest' = ap length e in
    let p = a.place in
    let q = b.place in
    omega (arith, k, l, p, q)

-- one kind, and then one cause
same_behind : {one other : BodyCause} (header : Header) (body : List ℕ) (z w : ℤ) (m n : ℕ) (rest rest' : List ℕ) → BeginsWithKind hessian header body z m rest → BeginsWithKind hessian header body w n rest' → BehindKind z m rest one → BehindKind w n rest' other → one ≡ other
same_behind {other = other} header body z w m n rest rest' a b p q =
    let s = same_kind header body z w m n rest rest' a b in
    let of_kind = subst (λ k. BehindKind k n rest' other) (sym s.number) q in
    let at_start = subst (λ k. BehindKind z k rest' other) (one_place header body z w m n rest rest' a b s.same_rest) of_kind in
    one_behind_kind z p (subst (λ r. BehindKind z m r other) (sym s.same_rest) at_start)

one_refused : {header : Header} {body : List ℕ} {one other : BodyCause} → Refused header body one → Refused header body other → one ≡ other
one_refused (by_header n) (by_header m) = refl
one_refused (by_header n) (at_kind cause s st q) = absurd (n s)
one_refused (by_header n) (behind_kind z at rest cause b q) = absurd (n b.serial)
one_refused (by_header n) (at_status cause s other q) = absurd (n s)
one_refused (at_kind cause s st p) (by_header n) = absurd (n s)
one_refused {body = body} (at_kind cause s st p) (at_kind cause' s' st' q) = one_at_kind body p q
one_refused {body = body} (at_kind cause s st p) (behind_kind z at rest cause' b q) = absurd (no_kind body z b.front rest b.is_kind b.joined p)
one_refused (at_kind cause s st p) (at_status cause' s' other q) = absurd (other st)
one_refused (behind_kind z at rest cause b p) (by_header n) = absurd (n b.serial)
one_refused {body = body} (behind_kind z at rest cause b p) (at_kind cause' s st q) = absurd (no_kind body z b.front rest b.is_kind b.joined q)
one_refused {header} {body} (behind_kind z m rest cause a p) (behind_kind w n rest' cause' b q) = same_behind header body z w m n rest rest' a b p q
one_refused (behind_kind z at rest cause b p) (at_status cause' s other q) = absurd (other b.status)
one_refused (at_status cause s other p) (by_header n) = absurd (n s)
one_refused (at_status cause s other p) (at_kind cause' s' st q) = absurd (other st)
one_refused (at_status cause s other p) (behind_kind z at rest cause' b q) = absurd (other b.status)
one_refused {body = body} (at_status cause s other p) (at_status cause' s' other' q) = one_at_status body p q

-- a header and a body are refused as a reply for one cause at most
pub one_cause_of_reply : (header : Header) (body : List ℕ) (one other : BodyCause) → ReplyRefusal hessian faults node_limit header body one → ReplyRefusal hessian faults node_limit header body other → one ≡ other
one_cause_of_reply header body one other p q = one_refused (refused_of p) (refused_of q)
