use Rattle.std.proofs.Common.{◌≡◌, ◌+◌, pos, ℕ, length, None, sym, ap, subst, ◌∙◌, of_z, w32, arith}
use Rattle.std.proofs.lemmas.Int.{to_z-of_z}
use Rattle.dubbo_header.specs.declared.header.Header.{Header}
use Rattle.hessian_scalars.specs.declared.scalar.Scalar.TheVariants as scalars
use Rattle.hessian_scalars.specs.Read.{IsSpelledAt}
use Rattle.dubbo_play.specs.FirstFrames.{reply_header}
use Rattle.dubbo_play.proofs.Frames.{reply_parts, some_is, first_is, found_same, second_is}
use Rattle.dubbo_play.proofs.first_replies.read_reply.Goals as goal

pub returns-in_err-header-clause-reply : goal.returns-in_err-header-clause-reply
returns-in_err-header-clause-reply c = λ id value end s.
    let p = reply_parts c.args.bytes.now c.args.at id value end c.requires s in
    let is = c.header_at.ensures.header (reply_header id (length p.body)) _ p.header p.apart.header_ahead in
    let none : c.header_at.result ≡ None = c.in_err-header.was {u = tt} in
    cc

pub returns-in_err-kind-clause-reply : goal.returns-in_err-kind-clause-reply
returns-in_err-kind-clause-reply c = λ id value end s.
    let p = reply_parts c.args.bytes.now c.args.at id value end c.requires s in
    let is = c.int_at.ensures.int (pos 1) (c.args.at + 16 + 1) p.kind_at in
    let none : c.int_at.result ≡ None = c.in_err-kind.was {u = tt} in
    cc

pub returns-in_err-value-clause-reply : goal.returns-in_err-value-clause-reply
returns-in_err-value-clause-reply c = λ id value end s.
    let p = reply_parts c.args.bytes.now c.args.at id value end c.requires s in
    let place : c.in_ok-kind.place ≡ c.args.at + 16 + 1 =
    second_is _ _ (sym (c.in_ok-kind.was {u = tt}) ∙ c.int_at.ensures.int (pos 1) (c.args.at + 16 + 1) p.kind_at) in
    let is = c.int_at-2.ensures.int value p.int_end (subst (λ (x : ℕ). IsSpelledAt c.args.bytes.now x (scalars.Int value) p.int_end) (sym place) p.value_at) in
    let none : c.int_at-2.result ≡ None = c.in_err-value.was {u = tt} in
    cc

pub returns-then-not-is_reply-clause-reply : goal.returns-then-not-is_reply-clause-reply
returns-then-not-is_reply-clause-reply c = λ id value end s.
    let p = reply_parts c.args.bytes.now c.args.at id value end c.requires s in
    let same : c.in_ok-header.header ≡ reply_header id (length p.body) =
    some_is _ _ (sym (c.in_ok-header.was {u = tt}) ∙ c.header_at.ensures.header (reply_header id (length p.body)) _ p.header p.apart.header_ahead) in
    let yes = c.is_reply.ensures id (length p.body) same in
    let no = c.if-not-is_reply.true in
    cc

pub returns-then-kind-ne-VALUE-clause-reply : goal.returns-then-kind-ne-VALUE-clause-reply
returns-then-kind-ne-VALUE-clause-reply c = λ id value end s.
    let p = reply_parts c.args.bytes.now c.args.at id value end c.requires s in
    let kind : c.in_ok-kind.kind ≡ pos 1 =
    first_is _ _ (sym (c.in_ok-kind.was {u = tt}) ∙ c.int_at.ensures.int (pos 1) (c.args.at + 16 + 1) p.kind_at) in
    absurd (c.if-kind-ne-VALUE.true (ap (of_z w32) kind))

pub returns-clause-reply : goal.returns-clause-reply
returns-clause-reply c = λ id value end s.
    let p = reply_parts c.args.bytes.now c.args.at id value end c.requires s in
    let same : c.in_ok-header.header ≡ reply_header id (length p.body) =
    some_is _ _ (sym (c.in_ok-header.was {u = tt}) ∙ c.header_at.ensures.header (reply_header id (length p.body)) _ p.header p.apart.header_ahead) in
    let place : c.in_ok-kind.place ≡ c.args.at + 16 + 1 =
    second_is _ _ (sym (c.in_ok-kind.was {u = tt}) ∙ c.int_at.ensures.int (pos 1) (c.args.at + 16 + 1) p.kind_at) in
    let int : c.in_ok-value.value ≡ value =
    first_is _ _ (sym (c.in_ok-value.was {u = tt}) ∙ c.int_at-2.ensures.int value p.int_end (subst (λ (x : ℕ). IsSpelledAt c.args.bytes.now x (scalars.Int value) p.int_end) (sym place) p.value_at)) in
    let called : c.in_ok-header.header.id ≡ id = ap (λ (h : Header). h.id) same in
    let long : c.in_ok-header.header.length ≡ length p.body = ap (λ (h : Header). h.length) same in
    let ends : c.args.at + 16 + c.in_ok-header.header.length ≡ end = omega (arith, p.apart.ends) in
    c.found_at.ensures.whole (omega (arith, p.apart.within)) ∙ found_same _ _ _ _ _ _ called (to_z-of_z w32 c.in_ok-value.value (c.in_ok-value.ensures {u = tt}).fits ∙ int) ends
