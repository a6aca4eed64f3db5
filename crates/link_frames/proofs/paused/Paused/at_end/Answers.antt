use Rattle.std.proofs.Common.{length, refl, ap, arith}
use Rattle.link_frames.specs.Paused.{count_at}
use Rattle.link_frames.proofs.StepLemmas.{not_empty}
use Rattle.link_frames.proofs.paused.Paused.at_end.Goals as goal

pub returns-in-Begun : goal.returns-in-Begun
returns-in-Begun c held holds =
    (refl, not_empty c.args.self.now held holds (omega (arith, ap (λ p. count_at p (length c.args.self.now.window)) c.in-Begun.is)))
