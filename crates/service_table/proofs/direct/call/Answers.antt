use Rattle.std.proofs.Common.{sym, subst}
use Rattle.std.specs.Prelude.{MatchOption}
use Rattle.service_table.specs.Direct.{IsDirect, IsSendable, NOT_FOUND, not_found}
use Rattle.service_table.specs.Direct.Direct.{unknown}
use Rattle.service_table.specs.Endings.{Stated}
use Rattle.service_table.specs.Endings.IsCanonEnding.{stated}
use Rattle.service_table.specs.Rows.{NoneServes, ServesAs}
use Rattle.service_table.proofs.Outcomes.{direct_of, then_ok}
use Rattle.service_table.proofs.Statuses.{not_found_sendable}
use Rattle.service_table.proofs.direct.call.Goals as goal

pub returns-in-Some-clause-direct : goal.returns-in-Some-clause-direct
returns-in-Some-clause-direct c =
    let serves : ServesAs c.args.services.now c.args.request.now c.in-Some.kind =
    subst (λ o. MatchOption o (NoneServes c.args.services.now c.args.request.now) (ServesAs c.args.services.now c.args.request.now)) c.in-Some.is c.in_ok-kind.ensures in
    then_ok c.answered.result (λ reply ends. direct_of c.args.services.now c.args.request.now c.in-Some.kind reply serves ends) c.answered.ensures.ends

pub returns-in-None-clause-direct : goal.returns-in-None-clause-direct
returns-in-None-clause-direct c =
    let none : NoneServes c.args.services.now c.args.request.now =
    subst (λ o. MatchOption o (NoneServes c.args.services.now c.args.request.now) (ServesAs c.args.services.now c.args.request.now)) c.in-None.is c.in_ok-kind.ensures in
    then_ok c.not_found.result (λ reply e. subst (IsDirect c.args.services.now c.args.request.now) (sym e) (record { ending = Stated NOT_FOUND not_found; canonical = stated NOT_FOUND not_found; is = unknown none })) c.not_found.ensures

pub returns-in-None-clause-sendable : goal.returns-in-None-clause-sendable
returns-in-None-clause-sendable c = then_ok c.not_found.result (λ reply e. subst IsSendable (sym e) not_found_sendable) c.not_found.ensures
