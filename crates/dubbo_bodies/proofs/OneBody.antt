-- A request and a reply have one written body each, and what an answer says of it.
use Rattle.std.proofs.Common.{◌≡◌, ℕ, ◌<◌, ◌≤◌, List, ◌++◌, length, refl, sym, ◌∙◌, ap, subst, arith}
use Rattle.std.specs.Prelude.{◌↔◌, Result, Ok, Err, IfOk, IfErr}
use Rattle.hessian_graph.specs.Shape.{Text, shape_of}
use Rattle.hessian_graph.specs.Reading.{Leaves, OneSpelling}
use Rattle.hessian_graph.specs.Spells.{TextsSpelling}
use Rattle.hessian_graph.specs.Spells.TextsSpelling.{none as no_texts, one as one_text}
use Rattle.hessian_graph.proofs.OneForm.{one_written}
use Rattle.dubbo_bodies.specs.declared.fault.WriteBodyFault.{WriteBodyFault}
use Rattle.dubbo_bodies.specs.declared.fault.WriteBodyFault.TheVariants.{TooLong}
use Rattle.dubbo_bodies.specs.declared.message.Request.{Request}
use Rattle.dubbo_bodies.specs.declared.message.Reply.{Reply}
use Rattle.dubbo_bodies.specs.WrittenBody.{LIMIT, IsTooLong, WrittenRequest, WrittenReply}
use Rattle.dubbo_bodies.specs.WrittenBody.WrittenReply.{exception, value, null, status}

joined : (a b c d : List ℕ) → a ≡ b → c ≡ d → a ++ c ≡ b ++ d
joined a b c d p q = ap (λ xs. xs ++ c) p ∙ ap (λ xs. b ++ xs) q

same_texts : {w : Leaves} {texts : List Text} {a b : List ℕ} → OneSpelling w → TextsSpelling w texts a → TextsSpelling w texts b → a ≡ b
same_texts one no_texts no_texts = refl
same_texts one (one_text text texts front rest is more) (one_text text' texts' front' rest' is' more') = joined front front' rest rest' (one.text text front front' is is') (same_texts one more more')

pub one_request : {l : Leaves} (w : Leaves) (r : Request) (a b : List ℕ) → OneSpelling w → WrittenRequest l w r a → WrittenRequest l w r b → a ≡ b
one_request w r a b one p q =
    p.joined ∙ joined p.front q.front p.values q.values (same_texts one p.texts q.texts) (one_written w _ p.values q.values one p.written q.written) ∙ sym q.joined

pub one_reply : {l w : Leaves} {r : Reply} {a b : List ℕ} → OneSpelling w → WrittenReply l w r a → WrittenReply l w r b → a ≡ b
one_reply {w = w} one (exception g kind vs is written) (exception h kind' vs' is' written') = joined kind kind' vs vs' (one.scalar _ kind kind' is is') (one_written w (shape_of g) vs vs' one written written')
one_reply {w = w} one (value g kind vs some is written) (value h kind' vs' some' is' written') = joined kind kind' vs vs' (one.scalar _ kind kind' is is') (one_written w (shape_of g) vs vs' one written written')
one_reply one (value g kind vs some is written) (null h kind' none is') = absurd (some none)
one_reply one (null g kind none is) (value h kind' vs' some' is' written') = absurd (some' none)
one_reply one (null g kind none is) (null h kind' none' is') = one.scalar _ kind kind' is is'
one_reply one (status code text bytes is) (status code' text' bytes' is') = one.text text bytes bytes' is is'

-- the number that is answered is the length of the one body, where that is too long
abbrev pub IsOnly : (List ℕ → Type 0) → Type 0
IsOnly Is = (a b : List ℕ) → Is a → Is b → a ≡ b

same_fault : (n m : ℕ) → ◌≡◌ {A = WriteBodyFault} (TooLong n) (TooLong m) → n ≡ m
same_fault n m e = cc

pub long_exactly : {V : Type 0} (Is : List ℕ → Type 0) (body : List ℕ) (result : Result V WriteBodyFault) → IsOnly Is → Is body → IfOk result (λ same. length body ≤ LIMIT) → IfErr result (λ fault. fault ≡ TooLong (length body)) → IfErr result (λ fault. LIMIT < length body) → (count : ℕ) → (result ≡ Err (TooLong count)) ↔ IsTooLong Is count
long_exactly {V} Is body (Ok v) one is short refused long count = (
  λ e. let k : ◌≡◌ {A = Result V WriteBodyFault} (Ok v) (Err (TooLong count)) = e in cc,
  λ t. let same : length t.body ≡ length body = ap length (one t.body body t.is is) in absurd (omega (arith, short, t.above, t.counted, same)),
)
long_exactly {V} Is body (Err f) one is short refused long count = (
  λ e. let k : ◌≡◌ {A = WriteBodyFault} f (TooLong count) = cc in
      let counted : count ≡ length body = same_fault count (length body) (sym k ∙ refused) in
      record { body = body; is = is; counted = counted; above = subst (λ n. LIMIT < n) (sym counted) long },
  λ t. ap (λ x. Err x) (refused ∙ ap (λ n. TooLong n) (ap length (one body t.body is t.is) ∙ sym t.counted)),
)
