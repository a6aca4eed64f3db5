use Rattle.std.proofs.Common.{length, take, subst}
use Rattle.dubbo_bodies.specs.RequestStages.{Stands}
use Rattle.dubbo_bodies.proofs.PieceSteps.{stays_more}
use Rattle.dubbo_bodies.proofs.request_reader.progress.Progress.step.Goals as goal

pub returns-in-Refused-clause-stands : goal.returns-in-Refused-clause-stands
returns-in-Refused-clause-stands c = λ header fed here s. stays_more c.in-Refused.fault header fed (take (length c.args.piece.now) c.args.piece.now) (subst (λ p. Stands p header fed) c.in-Refused.is s)
