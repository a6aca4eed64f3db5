use Rattle.hessian_text.proofs.Advancing.{rest_is}
use Rattle.dubbo_bodies.proofs.PieceSteps.{going_on}
use Rattle.dubbo_bodies.proofs.request_reader.progress.Progress.fed.Goals as goal

pub loop-taken-preserved : goal.loop-taken-preserved
loop-taken-preserved c =
    going_on c.args.self c.loop-taken.progress c.step-next.result.0 c.args.at c.loop-taken.taken c.step-next.result.1 c.args.piece.now _ (rest_is c.loop-taken.taken c.args.piece.now) c.step-next.ensures.within c.step-next.ensures.sound c.step-next.ensures.stands c.loop-taken.invariant
