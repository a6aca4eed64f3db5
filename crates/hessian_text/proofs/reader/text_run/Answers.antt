use Rattle.std.proofs.Common.{arith, subst, sym, take}
use Rattle.std.proofs.lemmas.List.{length-take-le}
use Rattle.hessian_text.specs.declared.stage.Kind.TheVariants.{Text}
use Rattle.hessian_text.specs.Items.{Contents}
use Rattle.hessian_text.proofs.ItemRuns.{utf8_front}
use Rattle.hessian_text.proofs.TextUnits.{units_most}
use Rattle.hessian_text.proofs.reader.text_run.Goals as goal

pub returns-clause-fits : goal.returns-clause-fits
returns-clause-fits c =
    let front = take c.utf8_front-len.result c.args.piece.now in
    let most = units_most front c.utf8_front-len.ensures.text in
    let size = length-take-le c.utf8_front-len.result c.args.piece.now (omega arith) in
    omega (arith, most, size, c.unit_count.ensures, c.utf8_front-len.ensures.within)

pub returns-clause-run : goal.returns-clause-run
returns-clause-run c =
    let front = take c.utf8_front-len.result c.args.piece.now in
    subst (λ n. Contents Text front n front) (sym c.unit_count.ensures) (utf8_front front c.utf8_front-len.ensures.text)
