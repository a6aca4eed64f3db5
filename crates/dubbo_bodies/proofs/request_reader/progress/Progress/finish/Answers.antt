use Rattle.std.proofs.Common.{subst}
use Rattle.dubbo_bodies.specs.RequestStages.{IsFieldPart, InFields, IsSound, Stands}
use Rattle.dubbo_bodies.proofs.FieldArms.{fields_short}
use Rattle.dubbo_bodies.proofs.PieceSteps.{stays_now}
use Rattle.dubbo_bodies.proofs.request_reader.progress.Progress.finish.Goals as goal

pub returns-in-Fields-clause-why : goal.returns-in-Fields-clause-why
returns-in-Fields-clause-why c = λ header fed here s some.
    let p = c.in-Fields.field-0 in
    let sound : IsFieldPart p c.args.at = subst (λ q. IsSound q c.args.at) c.in-Fields.is c.requires.sound in
    let i : InFields p header fed = subst (λ q. Stands q header fed) c.in-Fields.is s in
    fields_short p header fed c.args.at here sound.few sound.going i

pub returns-clause-why : goal.returns-clause-why
returns-clause-why c = λ header fed here s. stays_now c.in-Refused.fault header fed (subst (λ q. Stands q header fed) c.in-Refused.is s)
