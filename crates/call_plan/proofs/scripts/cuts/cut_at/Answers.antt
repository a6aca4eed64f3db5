use Rattle.std.proofs.Common.{sym, ◌∙◌, ◌+◌}
use Rattle.std.proofs.lemmas.List.{take_rest}
use Rattle.call_plan.proofs.Cutting.{place_none, place_some}
use Rattle.call_plan.proofs.scripts.cuts.cut_at.Goals as goal

pub returns-in_err-place : goal.returns-in_err-place
returns-in_err-place c = rw c.from_residual.ensures
    (place_none c.args.mark c.args.bytes.now (sym c.place_of.ensures ∙ c.in_err-place.was))

pub returns : goal.returns
returns c = rw (take_rest c.args.bytes.now (c.in_ok-place.place + 1))
    (place_some c.args.mark c.in_ok-place.place c.args.bytes.now (sym c.place_of.ensures ∙ c.in_ok-place.was))
