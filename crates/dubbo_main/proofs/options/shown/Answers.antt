use Rattle.std.proofs.Common.{inl, inr, ◌==◌, length, ap, ◌∙◌}
use Rattle.std.proofs.lemmas.Bool.{false≢true}
use Rattle.dubbo_main.specs.Words.{show_word}
use Rattle.dubbo_main.proofs.Led.{map_none}
use Rattle.dubbo_main.proofs.options.shown.Goals as goal

pub returns-in_err-only_option : goal.returns-in_err-only_option
returns-in_err-only_option c = rw c.from_residual.ensures (λ show is. elim is [
  | inl none ↦ absurd (false≢true (c.if-is_empty.ensures ∙ ap (λ words. length words == 0) (map_none c.args.options.now none.0)))
  | inr option ↦ c.in_err-only_option.ensures (show_word show) option
])
