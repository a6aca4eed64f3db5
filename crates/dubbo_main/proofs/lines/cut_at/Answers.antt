use Rattle.std.proofs.Common.{sym, ◌∙◌, ◌+◌}
use Rattle.std.proofs.lemmas.List.{take_rest}
use Rattle.dubbo_play.proofs.Cuts.{position_none, position_some}
use Rattle.dubbo_main.proofs.lines.cut_at.Goals as goal

pub returns-in_err-place : goal.returns-in_err-place
returns-in_err-place c = rw c.from_residual.ensures
    (position_none c.args.mark c.args.bytes.now (sym c.place_of.ensures ∙ c.in_err-place.was))

pub returns : goal.returns
returns c = rw (take_rest c.args.bytes.now (c.in_ok-place.place + 1))
    (position_some c.args.mark c.in_ok-place.place c.args.bytes.now (sym c.place_of.ensures ∙ c.in_ok-place.was))
