-- A header and a body are one reply at most, and no reply is refused.
use Rattle.std.proofs.Common.{◌≡◌, ℕ, List, [], ◌∷◌, ◌++◌, length, ap, sym, ◌∙◌, subst, arith, append_assoc}
use Rattle.std.specs.Prelude.{ℤ}
use Rattle.std.proofs.lemmas.List.{append-nil}
use Rattle.hessian_graph.specs.declared.value.Value.{Value as GraphValue}
use Rattle.hessian_graph.specs.Shape.{Shape, shape_of}
use Rattle.hessian_graph.specs.Canon.{IsCanon, in_order}
use Rattle.hessian_graph.specs.Reading.{IntSpelling}
use Rattle.hessian_graph.specs.Refusal.{BeginsNoInt}
use Rattle.hessian_graph.proofs.Visits.{one_visit}
use Rattle.hessian_scalars.specs.declared.scalar.Scalar.TheVariants as scalars
use Rattle.hessian_scalars.specs.ScalarSpelling.{ScalarSpelling}
use Rattle.hessian_scalars.proofs.Laws.{goes_on}
use Rattle.hessian_scalars.proofs.Fronts.{has_code}
use Rattle.hessian_text.specs.Spelling.{AreBytes}
use Rattle.hessian_reader.specs.Leaves.{hessian, node_limit, IsDenoted}
use Rattle.hessian_reader.specs.Faults.{faults}
use Rattle.hessian_reader.proofs.OneWay.{one_graph, bytes_front, bytes_rest}
use Rattle.hessian_reader.proofs.Further.{as_many_roots}
use Rattle.hessian_reader.proofs.RefusalLaws.{denoted_not_refused}
use Rattle.dubbo_header.specs.declared.header.Header.{Header}
use Rattle.dubbo_bodies.specs.declared.message.Reply.{Reply}
use Rattle.dubbo_bodies.specs.declared.message.Reply.TheVariants.{Status}
use Rattle.dubbo_bodies.specs.Attachments.{AttachmentsOf, NoAttachments}
use Rattle.dubbo_bodies.specs.Fields.{OptionalText}
use Rattle.dubbo_bodies.specs.RequestBody.{with_roots}
use Rattle.dubbo_bodies.specs.ReplyBody.{HasRoots, HasBeside, AreSome, Outcome, BeginsWithKind, ReplyOf}
use Rattle.dubbo_bodies.specs.ReplyBody.HasRoots.{exception as roots_exception, exception_beside as roots_exception_beside, null as roots_null, null_beside as roots_null_beside, value as roots_value, value_beside as roots_value_beside}
use Rattle.dubbo_bodies.specs.ReplyBody.HasBeside.{exception as beside_exception, null as beside_null, value as beside_value}
use Rattle.dubbo_bodies.specs.ReplyBody.Outcome.{exception, value, null, exception_beside, value_beside, null_beside}
use Rattle.dubbo_bodies.specs.ReplyBody.ReplyOf.{outcome, status}
use Rattle.dubbo_bodies.specs.RefusedReply.{IsSameReply}
use Rattle.dubbo_bodies.specs.RefusedReply.IsSameReply.{exception as same_exception, status as same_status, value as same_value}
use Rattle.dubbo_bodies.specs.Refusals.{BodyCause, ReplyRefusal, LacksAttachments}
use Rattle.dubbo_bodies.specs.Refusals.ReplyRefusal.{attachments as refusal_attachments, in_text as refusal_in_text, kind as refusal_kind, no_int as refusal_no_int, no_text as refusal_no_text, serial as refusal_serial, short_kind as refusal_short_kind, short_text as refusal_short_text, trailing as refusal_trailing, values as refusal_values}
use Rattle.dubbo_bodies.proofs.OneKind.{same_kind}
use Rattle.dubbo_bodies.proofs.StatusTexts.{one_text, no_text_refused}

-- ---- one outcome

one_form : (g a b : Shape) → IsCanon g a → IsCanon g b → a ≡ b
one_form g a b (order, visit, is) (order', visit', is') = is ∙ ap (in_order g) (one_visit visit visit') ∙ sym is'

-- the first of two roots is what both say
first_of_two : (root last root' last' : GraphValue) → root ∷ last ∷ [] ≡ root' ∷ last' ∷ [] → root ≡ root'
first_of_two root last root' last' e = cc

one_first : (g : Shape) (root last root' last' : GraphValue) (a b : Shape) → g.roots ≡ root ∷ last ∷ [] → g.roots ≡ root' ∷ last' ∷ [] → IsCanon (with_roots (root ∷ []) g) a → IsCanon (with_roots (root' ∷ []) g) b → a ≡ b
one_first g root last root' last' a b e f c d =
    one_form (with_roots (root ∷ []) g) a b c (subst (λ r. IsCanon (with_roots (r ∷ []) g) b) (sym (first_of_two root last root' last' (sym e ∙ f))) d)

one_outcome_by : (g : Shape) (z w : ℤ) (a b : Reply) → z ≡ w → Outcome g z a → Outcome g w b → IsSameReply a b
one_outcome_by g z w a b e (exception root h r c) (exception root' h' r' c') = same_exception h h' (one_form g (shape_of h) (shape_of h') c c')
one_outcome_by g z w a b e (value root h r c) (value root' h' r' c') = same_value h h' (one_form g (shape_of h) (shape_of h') c c')
one_outcome_by g z w a b e (null h r n) (null h' r' n') = same_value h h' (n ∙ sym n')
one_outcome_by g z w a b e (exception_beside root last h r s c) (exception_beside root' last' h' r' s' c') = same_exception h h' (one_first g root last root' last' (shape_of h) (shape_of h') r r' c c')
one_outcome_by g z w a b e (value_beside root last h r s c) (value_beside root' last' h' r' s' c') = same_value h h' (one_first g root last root' last' (shape_of h) (shape_of h') r r' c c')
one_outcome_by g z w a b e (null_beside last h r s n) (null_beside last' h' r' s' n') = same_value h h' (n ∙ sym n')
one_outcome_by g z w a b e o p = absurd cc

one_outcome : (g h : Shape) (z w : ℤ) (a b : Reply) → z ≡ w → g ≡ h → Outcome g z a → Outcome h w b → IsSameReply a b
one_outcome g h z w a b e f o p = one_outcome_by g z w a b e o (subst (λ x. Outcome x w b) (sym f) p)

-- ---- one reply

rest_bytes : (header : Header) (body : List ℕ) (z : ℤ) (at : ℕ) (rest : List ℕ) → AreBytes body → BeginsWithKind hessian header body z at rest → AreBytes rest
rest_bytes header body z at rest small b = bytes_rest b.front rest (subst AreBytes b.joined small)

denoted_once : (bytes : List ℕ) (g h : Shape) → AreBytes bytes → IsDenoted bytes g → IsDenoted bytes h → g ≡ h
denoted_once bytes g h small d e = one_graph bytes g h small d e (as_many_roots bytes g h small d e)

pub one_reply : (header : Header) (body : List ℕ) (a b : Reply) → AreBytes body → ReplyOf hessian node_limit header body a → ReplyOf hessian node_limit header body b → IsSameReply a b
one_reply header body a b small (outcome z at rest g a' begins d o) (outcome w at' rest' h b' begins' d' p) =
    let q = same_kind header body z w at at' rest rest' begins begins' in
    one_outcome g h z w a b q.number (denoted_once rest g h (rest_bytes header body z at rest small begins) d (subst (λ bs. IsDenoted bs h) (sym q.same_rest) d')) o p
one_reply header body a b small (outcome z at rest g a' begins d o) (status text serial other t) = absurd (other begins.status)
one_reply header body a b small (status text serial other t) (outcome w at' rest' h b' begins' d' p) = absurd (other begins'.status)
one_reply header body a b small (status text serial other t) (status text' serial' other' t') =
    let q = one_text text text' body [] small t (subst (OptionalText hessian text') (sym (append-nil body)) t') in
    subst (λ x. IsSameReply (Status header.status text) (Status header.status x)) (sym q.1) (same_status header.status text)

-- ---- no reply is refused

outcome_roots : (g : Shape) (z w : ℤ) (reply : Reply) (n : ℕ) → z ≡ w → Outcome g z reply → HasRoots w n → length g.roots ≡ n
outcome_roots g z w reply n e (exception root h r c) roots_exception = ap length r
outcome_roots g z w reply n e (value root h r c) roots_value = ap length r
outcome_roots g z w reply n e (null h r c) roots_null = ap length r
outcome_roots g z w reply n e (exception_beside root last h r s c) roots_exception_beside = ap length r
outcome_roots g z w reply n e (value_beside root last h r s c) roots_value_beside = ap length r
outcome_roots g z w reply n e (null_beside last h r s c) roots_null_beside = ap length r
outcome_roots g z w reply n e o p = absurd cc

-- every outcome has a kind
has_kind : (g : Shape) (z : ℤ) (reply : Reply) → Outcome g z reply → (n : ℕ) × HasRoots z n
has_kind g z reply (exception root h r c) = (1, roots_exception)
has_kind g z reply (value root h r c) = (1, roots_value)
has_kind g z reply (null h r c) = (0, roots_null)
has_kind g z reply (exception_beside root last h r s c) = (2, roots_exception_beside)
has_kind g z reply (value_beside root last h r s c) = (2, roots_value_beside)
has_kind g z reply (null_beside last h r s c) = (1, roots_null_beside)

last_of_two : (root last : GraphValue) (args : List GraphValue) (v : GraphValue) → root ∷ last ∷ [] ≡ args ++ v ∷ [] → last ≡ v
last_of_two root last [] v e = absurd (let l = ap length e in omega (arith, l))
last_of_two root last (x ∷ []) v e = cc
last_of_two root last (x ∷ y ∷ []) v e = absurd (let l = ap length e in omega (arith, l))
last_of_two root last (x ∷ y ∷ z ∷ args) v e = absurd (let l = ap length e in omega (arith, l))

last_of_one : (last : GraphValue) (args : List GraphValue) (v : GraphValue) → last ∷ [] ≡ args ++ v ∷ [] → last ≡ v
last_of_one last [] v e = cc
last_of_one last (x ∷ []) v e = absurd cc
last_of_one last (x ∷ y ∷ args) v e = absurd cc

nothing_lacks : (g : Shape) (last v : GraphValue) → last ≡ v → AreSome g last → NoAttachments g v → ⊥
nothing_lacks g last v e (attachments, is) none = none attachments (subst (λ x. AttachmentsOf g x attachments) e is)

no_lack : (g : Shape) (z w : ℤ) (reply : Reply) (before : ℕ) → z ≡ w → HasBeside w before → Outcome g z reply → LacksAttachments g before → ⊥
no_lack g z w reply before e beside_exception (exception_beside root last h r s c) lack = nothing_lacks g last lack.last (last_of_two root last lack.args lack.last (sym r ∙ lack.roots)) s lack.none
no_lack g z w reply before e beside_value (value_beside root last h r s c) lack = nothing_lacks g last lack.last (last_of_two root last lack.args lack.last (sym r ∙ lack.roots)) s lack.none
no_lack g z w reply before e beside_null (null_beside last h r s c) lack = nothing_lacks g last lack.last (last_of_one last lack.args lack.last (sym r ∙ lack.roots)) s lack.none
no_lack g z w reply before e p o lack = absurd cc

pub right_empty : (xs ys : List ℕ) → xs ++ ys ≡ [] → ys ≡ []
right_empty [] ys e = e
right_empty (x ∷ xs) ys e = absurd cc

pub int_first : (z : ℤ) (front rest body more : List ℕ) (code : ℕ) → IntSpelling hessian z front → body ≡ front ++ rest → body ≡ code ∷ more → BeginsNoInt hessian code → ⊥
int_first z [] rest body more code s e f none = let h = has_code (scalars.Int z) [] s in absurd (omega (arith, h))
int_first z (c ∷ front) rest body more code s e f none = let same : c ≡ code = cc in none z front (subst (λ b. IntSpelling hessian z (b ∷ front)) same s)

no_reply_refused_by : (header : Header) (body : List ℕ) (reply : Reply) (cause : BodyCause) → AreBytes body → ReplyOf hessian node_limit header body reply → ReplyRefusal hessian faults node_limit header body cause → ⊥
no_reply_refused_by header body reply cause small (outcome z at rest g reply' b d o) (refusal_serial ne) = ne b.serial
no_reply_refused_by header body reply cause small (outcome z at rest g reply' b d o) (refusal_no_int code more s st e none) = int_first z b.front rest body more code b.is_kind b.joined e none
no_reply_refused_by header body reply cause small (outcome z at rest g reply' b d o) (refusal_short_kind s st ends) =
    let (w, whole) = ends.whole in
    let all : body ++ ends.more ≡ b.front ++ (rest ++ ends.more) = ap (λ bs. bs ++ ends.more) b.joined ∙ append_assoc b.front rest ends.more in
    let none : rest ++ ends.more ≡ [] = goes_on (scalars.Int z) (scalars.Int w) b.front (rest ++ ends.more) b.is_kind (subst (ScalarSpelling (scalars.Int w)) all whole) in
    ends.lacks (right_empty rest ends.more none)
no_reply_refused_by header body reply cause small (outcome z at rest g reply' b d o) (refusal_kind w at' rest' b' none) =
    let q = same_kind header body z w at at' rest rest' b b' in
    let (n, has) = has_kind g z reply o in
    none n (subst (λ k. HasRoots k n) q.number has)
no_reply_refused_by header body reply cause small (outcome z at rest g reply' b d o) (refusal_values w at' n rest' why b' has r) =
    let q = same_kind header body z w at at' rest rest' b b' in
    denoted_not_refused n rest' g why (subst (λ bs. IsDenoted bs g) q.same_rest d) (outcome_roots g z w reply n q.number o has) r
no_reply_refused_by header body reply cause small (outcome z at rest g reply' b d o) (refusal_attachments w at' before rest' h b' has d' lack) =
    let q = same_kind header body z w at at' rest rest' b b' in
    let one : g ≡ h = denoted_once rest g h (rest_bytes header body z at rest small b) d (subst (λ bs. IsDenoted bs h) (sym q.same_rest) d') in
    no_lack g z w reply before q.number has o (subst (λ x. LacksAttachments x before) (sym one) lack)
no_reply_refused_by header body reply cause small (outcome z at rest g reply' b d o) (refusal_no_text code more s other e none) = other b.status
no_reply_refused_by header body reply cause small (outcome z at rest g reply' b d o) (refusal_in_text why s other r) = other b.status
no_reply_refused_by header body reply cause small (outcome z at rest g reply' b d o) (refusal_short_text s other ends) = other b.status
no_reply_refused_by header body reply cause small (outcome z at rest g reply' b d o) (refusal_trailing front more code s other is e) = other b.status
no_reply_refused_by header body reply cause small (status text serial other t) (refusal_serial ne) = ne serial
no_reply_refused_by header body reply cause small (status text serial other t) (refusal_no_int code more s st e none) = other st
no_reply_refused_by header body reply cause small (status text serial other t) (refusal_short_kind s st ends) = other st
no_reply_refused_by header body reply cause small (status text serial other t) (refusal_kind w at' rest' b' none) = other b'.status
no_reply_refused_by header body reply cause small (status text serial other t) (refusal_values w at' n rest' why b' has r) = other b'.status
no_reply_refused_by header body reply cause small (status text serial other t) (refusal_attachments w at' before rest' h b' has d' lack) = other b'.status
no_reply_refused_by header body reply cause small (status text serial other t) (refusal_no_text code more s ne e none) = none more (text, subst (OptionalText hessian text) e t)
no_reply_refused_by header body reply cause small (status text serial other t) (refusal_in_text why s ne r) = no_text_refused text body why small t r
no_reply_refused_by header body reply cause small (status text serial other t) (refusal_short_text s ne ends) =
    let (text', whole) = ends.whole in
    ends.lacks (one_text text text' body ends.more small t whole).0
no_reply_refused_by header body reply cause small (status text serial other t) (refusal_trailing front more code s ne is e) =
    let none : code ∷ more ≡ [] = (one_text is.0 text front (code ∷ more) (bytes_front front (code ∷ more) (subst AreBytes e small)) is.1 (subst (OptionalText hessian text) e t)).0 in
    cc

pub no_reply_refused : (header : Header) (body : List ℕ) (reply : Reply) (cause : BodyCause) → AreBytes body → ReplyOf hessian node_limit header body reply → ReplyRefusal hessian faults node_limit header body cause → ⊥
no_reply_refused header body reply cause small o r = no_reply_refused_by header body reply cause small o r
