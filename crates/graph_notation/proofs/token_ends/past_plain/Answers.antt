use Rattle.std.proofs.Common.{◌≡◌, ◌+◌, drop, sym, subst}
use Rattle.graph_notation.specs.Lexing.{closing}
use Rattle.graph_notation.proofs.PlainRuns.{quote_run}
use Rattle.graph_notation.proofs.token_ends.past_plain.Goals as goal

pub returns-else-escape-clause-same : goal.returns-else-escape-clause-same
returns-else-escape-clause-same c =
    subst (λ e. c.args.at + closing e (drop c.args.at c.args.text.now) ≡ c.plain_end.result + closing e (drop c.plain_end.result c.args.text.now)) (sym c.if-escape.false)
    (quote_run c.args.text.now c.args.at c.plain_end.result c.plain_end.ensures.low c.plain_end.ensures.within c.plain_end.ensures.plain)
