use Rattle.std.proofs.Common.{◌≡◌, ap, ◌∙◌, subst}
use Rattle.dubbo_bodies.specs.FedBody.{FedBody}
use Rattle.dubbo_bodies.proofs.RequestBytes.{Completes, completes}
use Rattle.dubbo_bodies.proofs.request_reader.RequestReader.finish.Goals as goal

pub returns-clause-complete : goal.returns-clause-complete
returns-clause-complete c = λ header r e q.
    let started : c.self.inside.header ≡ c.args.self.started = ap (λ (b : FedBody). b.started) c.self.view_is in
    let fed : c.self.inside.fed.bytes ≡ c.args.self.fed = ap (λ (b : FedBody). b.fed) c.self.view_is in
    let stands = c.self.invariant.stands header (started ∙ e) in
    let all = completes header c.self.inside.fed.bytes c.finish.result (c.finish.ensures.ok header c.self.inside.fed.bytes c.self.invariant.counted stands) (c.finish.ensures.why header c.self.inside.fed.bytes c.self.invariant.counted stands) in
    subst (λ xs. Completes header xs c.finish.result) fed all r q
