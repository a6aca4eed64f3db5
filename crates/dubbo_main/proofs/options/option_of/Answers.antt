use Rattle.std.proofs.Common.{◌≢◌, ◌==◌, [], length, ap, ◌∙◌}
use Rattle.std.proofs.lemmas.Bool.{false≢true}
use Rattle.dubbo_main.proofs.Led.{other_name, no_value}
use Rattle.dubbo_main.proofs.options.option_of.Goals as goal

pub returns-in_err-behind : goal.returns-in_err-behind
returns-in_err-behind c = rw c.from_residual-in_err-behind.ensures (other_name _ _ _ _ c.in_ok-after.ensures c.in_err-behind.ensures)

pub returns-in_err-after-2 : goal.returns-in_err-after-2
returns-in_err-after-2 c = rw c.from_residual-in_err-after-2.ensures
    (let some : c.in_ok-behind.behind.now ≢ [] = (λ none. false≢true (c.if-is_empty.ensures ∙ ap (λ behind. length behind == 0) none)) in
    no_value _ _ _ _ _ c.in_ok-after.ensures c.in_ok-behind.ensures some c.in_err-after-2.ensures)
