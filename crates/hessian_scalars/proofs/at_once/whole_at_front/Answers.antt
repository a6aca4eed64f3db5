use Rattle.std.proofs.Common.{sym, ◌∙◌, arith}
use Rattle.hessian_scalars.proofs.Fronts.{found}
use Rattle.hessian_scalars.proofs.AtOnce.{whole_front}
use Rattle.hessian_scalars.proofs.at_once.whole_at_front.Goals as goal

pub returns-in-Whole-clause-spells : goal.returns-in-Whole-clause-spells
returns-in-Whole-clause-spells c = whole_front _ _ _ (λ i. omega (arith, c.type_inv.piece i)) (sym c.peek.ensures.exact ∙ c.in-Whole.is)

pub returns-in_default : goal.returns-in_default
returns-in_default c = record {
  within = tt;
  spells = tt;
  none = λ v used l s. c.in_default.not-Whole v used (c.peek.ensures.exact ∙ found _ v used l s);
}
