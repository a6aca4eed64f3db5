use Rattle.hessian_writer.specs.Leaves.{hessian, hessian_forms}
use Rattle.hessian_writer.proofs.LeafLaws.{one_form}
use Rattle.dubbo_bodies.specs.WrittenBody.{WrittenReply}
use Rattle.dubbo_bodies.proofs.OneBody.{one_reply, long_exactly}
use Rattle.dubbo_bodies.proofs.writing.write_reply.Goals as goal

pub returns-clause-long : goal.returns-clause-long
returns-clause-long c = λ count some.
    long_exactly (WrittenReply hessian hessian_forms c.args.reply.now) c.in_ok-body.body.items c.within_limit.result (λ a b p q. one_reply one_form p q) c.in_ok-body.ensures c.within_limit.ensures.short c.within_limit.ensures.refused c.within_limit.ensures.long count
