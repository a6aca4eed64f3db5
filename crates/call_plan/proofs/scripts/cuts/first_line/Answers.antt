use Rattle.std.proofs.Common.{[], ◌∷◌, sym, ap, ◌∙◌, length, arith}
use Rattle.std.proofs.lemmas.List.{take_all, drop_all}
use Rattle.call_plan.proofs.LineCuts.{lines_cut, lines_last}
use Rattle.call_plan.specs.ScriptLines.{lines_of}
use Rattle.call_plan.proofs.scripts.cuts.first_line.Goals as goal

pub returns-in-Some-clause-cut : goal.returns-in-Some-clause-cut
returns-in-Some-clause-cut c = ap lines_of c.in-Some.ensures.1
    ∙ lines_cut c.in-Some.cut.0.now c.in-Some.cut.1.now c.in-Some.ensures.0

pub returns-in-None-clause-cut : goal.returns-in-None-clause-cut
returns-in-None-clause-cut c =
    let front = c.split_at.ensures.front ∙ take_all (length c.args.bytes.now) c.args.bytes.now (omega arith) in
    let back = c.split_at.ensures.back ∙ drop_all (length c.args.bytes.now) c.args.bytes.now (omega arith) in
    lines_last c.args.bytes.now c.in-None.ensures c.requires
    ∙ ap (λ line. line ∷ []) (sym front)
    ∙ ap (λ rest. c.split_at.result.0.now ∷ lines_of rest) (sym back)
