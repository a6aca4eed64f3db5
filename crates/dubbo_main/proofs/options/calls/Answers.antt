use Rattle.std.proofs.Common.{◌≡◌, arith, sym, ◌∙◌}
use Rattle.std.proofs.lemmas.Fmt.{decimal_injective}
use Rattle.dubbo_main.proofs.options.calls.Goals as goal

pub returns-else-calls-le4096 : goal.returns-else-calls-le4096
returns-else-calls-le4096 c = λ n few same.
    let e : c.in_ok-calls.calls ≡ n = decimal_injective c.in_ok-calls.calls n (omega (arith, c.in_ok-calls.ensures.0)) (omega (arith, few)) (sym c.in_ok-calls.ensures.1 ∙ same) in
    omega (arith, e, few, c.if-calls-le4096.false)
