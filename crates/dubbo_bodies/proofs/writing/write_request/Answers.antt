use Rattle.hessian_writer.specs.Leaves.{hessian, hessian_forms}
use Rattle.hessian_writer.proofs.LeafLaws.{one_form}
use Rattle.dubbo_bodies.specs.WrittenBody.{WrittenRequest}
use Rattle.dubbo_bodies.proofs.OneBody.{one_request, long_exactly}
use Rattle.dubbo_bodies.proofs.writing.write_request.Goals as goal

pub returns-clause-long : goal.returns-clause-long
returns-clause-long c = λ count some.
    long_exactly (WrittenRequest hessian hessian_forms c.args.request.now) c.in_ok-body.body.items c.within_limit.result (λ a b p q. one_request hessian_forms c.args.request.now a b one_form p q) c.in_ok-body.ensures c.within_limit.ensures.short c.within_limit.ensures.refused c.within_limit.ensures.long count
