use Rattle.std.specs.Prelude.{IsSome, None}
use Rattle.std.proofs.lemmas.Grind.{common_steps}
use Rattle.hessian_graph.proofs.Uses.{rises_stay}
use Rattle.std.proofs.Common.{arith, get_or, length, ◌<◌, ◌∙◌, sym, []}
use Rattle.std.proofs.lemmas.List.{get_or_default}
use Rattle.hessian_graph.proofs.TableSteps.{known_more}
use Rattle.hessian_graph.proofs.names.TypeTable.learn.Goals as goal

pub returns-in_ok-place-clause-fits : goal.returns-in_ok-place-clause-fits
returns-in_ok-place-clause-fits c = (
  c.in_ok-place.ensures.fits,
  known_more [] c.args.self.now.known.items c.args.old.now c.args.self.now.words.texts.items c.number.new.self.texts.items c.index-old-number.result c.args.number c.in_ok-place.place c.requires.within (sym (c.index-old-number.is ∙ get_or_default c.args.old.now c.args.number c.index-old-number.result [] c.requires.within)) c.in_ok-place.ensures.number c.requires.fits.1,
)

pub returns-else-is_none-clause-next : goal.returns-else-is_none-clause-next
returns-else-is_none-clause-next c =
    let long = c.requires.fits.1.long in
    let within : c.args.number < length c.args.self.now.known.items = let h = c.requires.within in omega (arith, long, h) in
    let s : IsSome (get_or c.args.self.now.known.items c.args.number None) = grind (arith, common_steps, within) in
    rises_stay [] c.args.self.now.known.items c.args.old.now c.args.self.now.words.texts.items c.args.number c.requires.fits.1 s
