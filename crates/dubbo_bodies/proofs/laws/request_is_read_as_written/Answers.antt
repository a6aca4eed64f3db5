use Rattle.std.proofs.Common.{subst}
use Rattle.hessian_graph.specs.Reading.{Leaves}
use Rattle.dubbo_bodies.specs.RequestBody.{RequestOf}
use Rattle.dubbo_bodies.proofs.OneHessian.{one_hessian}
use Rattle.dubbo_bodies.proofs.ReadBack.{request_read}
use Rattle.dubbo_bodies.proofs.laws.request_is_read_as_written.Goals as goal

pub returns : goal.returns
returns c = λ bound header body serial counted written canon few.
    subst (λ (l : Leaves). RequestOf l bound header body c.args.canonical.now) one_hessian
    (request_read bound header c.args.request.now c.args.canonical.now body c.look_at.ensures c.look_at-2.ensures serial counted written canon few)
