use Rattle.std.proofs.Common.{◌≡◌, ◌+◌, ℕ, length, refl, sym, subst, ◌∙◌}
use Rattle.hessian_scalars.specs.declared.scalar.Scalar.TheVariants as scalars
use Rattle.hessian_scalars.specs.Read.{IsSpelledAt}
use Rattle.dubbo_play.specs.FirstFrames.{names, request_header}
use Rattle.dubbo_play.proofs.Frames.{request_parts, some_is}
use Rattle.dubbo_play.proofs.first_requests.read_request.Goals as goal

pub returns-in_default-clause-request : goal.returns-in_default-clause-request
returns-in_default-clause-request c = λ id value end s.
    let p = request_parts c.args.bytes.now c.args.at id value end c.requires s in
    let is = c.header_at.ensures.header (request_header id (length p.body)) _ p.header p.apart.header_ahead in
    let no = c.in_default.is in
    cc

pub returns-in-None-clause-request : goal.returns-in-None-clause-request
returns-in-None-clause-request c = λ id value end s.
    let p = request_parts c.args.bytes.now c.args.at id value end c.requires s in
    let is = (c.in_ok-place.ensures {u = tt}).texts (names p.path p.method) p.front p.after refl p.named p.names_ahead in
    let no = c.in-None.is in
    cc

pub returns-in-Some-2-clause-request : goal.returns-in-Some-2-clause-request
returns-in-Some-2-clause-request c = λ id value end s.
    let p = request_parts c.args.bytes.now c.args.at id value end c.requires s in
    let same : c.in-Some.header ≡ request_header id (length p.body) =
    some_is _ _ (sym c.in-Some.is ∙ c.header_at.ensures.header (request_header id (length p.body)) _ p.header p.apart.header_ahead) in
    let place : c.in-Some-2.place ≡ c.args.at + 16 + length p.front =
    some_is _ _ (sym c.in-Some-2.is ∙ (c.in_ok-place.ensures {u = tt}).texts (names p.path p.method) p.front p.after refl p.named p.names_ahead) in
    c.request_with.ensures.request id p.int_end end value
    (record { body = length p.body; header_is = same; within = p.apart.within; ends = p.apart.ends })
    (subst (λ (x : ℕ). IsSpelledAt c.args.bytes.now x (scalars.Int value) p.int_end) (sym place) p.argument_at)
