use Rattle.dubbo_main.proofs.options.only_option.Goals as goal

pub returns-in_err-value : goal.returns-in_err-value
returns-in_err-value c = rw c.from_residual.ensures (λ value is. c.in_err-value.ensures value _ is)
