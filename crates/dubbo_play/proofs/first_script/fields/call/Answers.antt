use Rattle.std.proofs.Common.{sym, ◌∙◌, codes}
use Rattle.std.specs.Fmt.{signed_decimal}
use Rattle.std.proofs.lemmas.List.{append_cancel_left}
use Rattle.dubbo_play.proofs.Targets.{target_once}
use Rattle.dubbo_play.proofs.first_script.fields.call.Goals as goal

pub returns-in_err-after : goal.returns-in_err-after
returns-in_err-after c = rw c.from_residual.ensures (λ call is same. c.in_err-after.ensures _ same)

pub returns-in_err-argument : goal.returns-in_err-argument
returns-in_err-argument c = rw c.from_residual-in_err-argument.ensures (λ call is same.
    let front = append_cancel_left (codes "call failover - - - ") _ _ (sym c.in_ok-after.ensures ∙ same) in
    let all = target_once c.in_ok-path.path.now c.in_ok-path.method.now c.in_ok-path.rest.now
    call.path call.method (signed_decimal call.argument)
    c.in_ok-path.ensures.0 is.path c.in_ok-path.ensures.1 is.method (sym c.in_ok-path.ensures.2 ∙ front) in
    c.in_err-argument.ensures call.argument is.argument all.2)
