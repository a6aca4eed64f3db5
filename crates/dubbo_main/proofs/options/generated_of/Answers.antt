use Rattle.std.proofs.Common.{ℕ, ◌≤◌, subst}
use Rattle.std.specs.Prelude.{codes, map, string_bytes}
use Rattle.dubbo_main.specs.Words.{IsFirstOption, HaveGenerated}
use Rattle.dubbo_main.specs.Words.HaveGenerated.{calls_first}
use Rattle.dubbo_main.specs.declared.words.Show.{Show}
use Rattle.dubbo_main.proofs.Led.{generated_or_none, show_refused}
use Rattle.dubbo_main.proofs.options.generated_of.Goals as goal

pub returns-in_err-shown-in-Some : goal.returns-in_err-shown-in-Some
returns-in_err-shown-in-Some c = rw c.from_residual-in_err-shown-in-Some.ensures (show_refused _ _ _ c.in-Some.ensures c.in_err-shown-in-Some.ensures)

pub returns-in_ok-shown-in-Some : goal.returns-in_ok-shown-in-Some
returns-in_ok-shown-in-Some c =
    let options = map string_bytes c.args.options.now in
    let rest = map string_bytes c.in-Some.rest.now in (
      c.in_ok-calls-in-Some.ensures.0,
      calls_first rest
          (subst (λ value. IsFirstOption (codes "calls") value options rest) c.in_ok-calls-in-Some.ensures.1 c.in-Some.ensures) c.in_ok-shown-in-Some.ensures,
    )

pub returns-in-None : goal.returns-in-None
returns-in-None c =
    let options = map string_bytes c.args.options.now in
    generated_or_none {A = ℕ × Show} options c.shown_before.result (λ found. (found.0 ≤ 4096) × HaveGenerated options found.0 found.1)
    c.in-None.ensures c.shown_before.ensures
