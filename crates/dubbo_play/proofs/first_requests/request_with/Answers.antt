use Rattle.std.proofs.Common.{◌≡◌, ◌+◌, None, sym, ap, ◌∙◌, w32, arith}
use Rattle.std.proofs.lemmas.Int.{to_z-of_z}
use Rattle.dubbo_header.specs.declared.header.Header.{Header}
use Rattle.dubbo_play.proofs.Frames.{first_is, found_same}
use Rattle.dubbo_play.proofs.first_requests.request_with.Goals as goal

pub returns-in_err-argument-clause-request : goal.returns-in_err-argument-clause-request
returns-in_err-argument-clause-request c = λ id argument_end end argument f s.
    let is = c.int_at.ensures.int argument argument_end s in
    let none : c.int_at.result ≡ None = c.in_err-argument.was {u = tt} in
    cc

pub returns-then-not-is_request-clause-request : goal.returns-then-not-is_request-clause-request
returns-then-not-is_request-clause-request c = λ id argument_end end argument f s.
    let yes = c.is_request.ensures id f.body f.header_is in
    let no = c.if-not-is_request.true in
    cc

pub returns-clause-request : goal.returns-clause-request
returns-clause-request c = λ id argument_end end argument f s.
    let int : c.in_ok-argument.argument ≡ argument = first_is _ _ (sym (c.in_ok-argument.was {u = tt}) ∙ c.int_at.ensures.int argument argument_end s) in
    let called : c.args.header.now.id ≡ id = ap (λ (h : Header). h.id) f.header_is in
    let long : c.args.header.now.length ≡ f.body = ap (λ (h : Header). h.length) f.header_is in
    let ends : c.args.at + 16 + c.args.header.now.length ≡ end = omega (arith, f.ends) in
    c.found_at.ensures.whole (omega (arith, f.within))
    ∙ found_same _ _ _ _ _ _ called (to_z-of_z w32 c.in_ok-argument.argument (c.in_ok-argument.ensures {u = tt}).fits ∙ int) ends
