use Rattle.std.specs.Prelude.{IsSome, None}
use Rattle.std.proofs.lemmas.Grind.{common_steps}
use Rattle.hessian_graph.proofs.Uses.{rises_stay}
use Rattle.std.proofs.Common.{arith, get_or, length, ◌<◌, ◌∙◌, sym, ap, subst, List, ℕ}
use Rattle.std.specs.Prelude.{Option}
use Rattle.std.proofs.lemmas.List.{get_or_default}
use Rattle.hessian_graph.specs.Shape.{no_class}
use Rattle.hessian_graph.specs.Tables.{IsKnown}
use Rattle.hessian_graph.proofs.TableSteps.{known_more}
use Rattle.hessian_graph.proofs.names.ClassTable.learn.Goals as goal

pub returns-in_ok-place-clause-fits : goal.returns-in_ok-place-clause-fits
returns-in_ok-place-clause-fits c = (
  c.in_ok-place.ensures.fits.0,
  c.in_ok-place.ensures.fits.1,
  known_more no_class c.number.new.self.known.items c.args.old.now c.args.self.now.rows.items c.number.new.self.rows.items c.index-old-number.result c.args.number c.in_ok-place.place c.requires.within (sym (c.index-old-number.is ∙ get_or_default c.args.old.now c.args.number c.index-old-number.result no_class c.requires.within)) c.in_ok-place.ensures.number
      (subst (λ (kn : List (Option ℕ)). IsKnown no_class kn c.args.old.now c.args.self.now.rows.items) (sym (ap (λ v. v.items) c.number.ensures.known)) c.requires.fits.2),
)

pub returns-else-is_none-clause-next : goal.returns-else-is_none-clause-next
returns-else-is_none-clause-next c =
    let long = c.requires.fits.2.long in
    let within : c.args.number < length c.args.self.now.known.items = let h = c.requires.within in omega (arith, long, h) in
    let s : IsSome (get_or c.args.self.now.known.items c.args.number None) = grind (arith, common_steps, within) in
    rises_stay no_class c.args.self.now.known.items c.args.old.now c.args.self.now.rows.items c.args.number c.requires.fits.2 s
