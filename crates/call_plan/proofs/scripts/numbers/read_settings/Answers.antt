use Rattle.call_plan.proofs.scripts.numbers.read_settings.Goals as goal

pub returns-in_err-timeout : goal.returns-in_err-timeout
returns-in_err-timeout c = rw c.from_residual-in_err-timeout.ensures (λ m t r f word says. c.in_err-timeout.ensures t says.says_timeout)

pub returns-in_err-retries : goal.returns-in_err-retries
returns-in_err-retries c = rw c.from_residual-in_err-retries.ensures (λ m t r f word says. c.in_err-retries.ensures r says.says_retries)

pub returns-in_err-forks : goal.returns-in_err-forks
returns-in_err-forks c = rw c.from_residual-in_err-forks.ensures (λ m t r f word says. c.in_err-forks.ensures f says.says_forks)
