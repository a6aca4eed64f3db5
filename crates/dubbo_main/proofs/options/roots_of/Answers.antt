use Rattle.std.specs.Prelude.{decimal}
use Rattle.dubbo_main.proofs.options.roots_of.Goals as goal

pub returns-in_err-only_option : goal.returns-in_err-only_option
returns-in_err-only_option c = rw c.from_residual.ensures (λ roots few. c.in_err-only_option.ensures (decimal roots))
