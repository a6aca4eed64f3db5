use Rattle.std.proofs.Common.{subst}
use Rattle.std.specs.Prelude.{decimal, codes, map, string_bytes}
use Rattle.dubbo_main.specs.Words.{show_word, IsFirstOption, IsOption}
use Rattle.dubbo_main.specs.Words.HaveGenerated.{show_first}
use Rattle.dubbo_main.proofs.Led.{no_calls_behind}
use Rattle.dubbo_main.proofs.options.shown_before.Goals as goal

pub returns-in_err-word : goal.returns-in_err-word
returns-in_err-word c = rw c.from_residual.ensures (λ calls show rest few first. absurd (c.in_err-word.ensures (show_word show) rest first))

pub returns-in_err-only_option : goal.returns-in_err-only_option
returns-in_err-only_option c = rw c.from_residual-in_err-only_option.ensures
    (no_calls_behind _ _ _ c.in_ok-word.ensures (λ calls few. c.in_err-only_option.ensures (decimal calls)))

pub returns : goal.returns
returns c =
    let options = map string_bytes c.args.options.now in
    let rest = map string_bytes c.in_ok-word.rest.now in (
      c.in_ok-calls.ensures.0,
      show_first rest
          (subst (λ word. IsFirstOption (codes "show") word options rest) c.in_ok-show.ensures c.in_ok-word.ensures)
          (subst (λ value. IsOption (codes "calls") value rest) c.in_ok-calls.ensures.1 c.in_ok-only_option.ensures),
    )
