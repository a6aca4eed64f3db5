use Rattle.std.proofs.Common.{◌≡◌, length, arith, ◌∙◌, ap, ◌++◌, ◌∷◌, []}
use Rattle.std.specs.Prelude.{None}
use Rattle.hessian_graph.proofs.Walking.{one_more_none}
use Rattle.hessian_graph.proofs.TableSteps.{none_known}
use Rattle.hessian_graph.proofs.names.TypeTable.new.Goals as goal

pub loop-text-preserved : goal.loop-text-preserved
loop-text-preserved c = c.in_ok-push.ensures.items ∙ ap (λ x. x ++ None ∷ []) c.loop-text.invariant ∙ one_more_none c.loop-text._text-index

pub returns-clause-fits : goal.returns-clause-fits
returns-clause-fits c =
    let e : c.loop-text._text-index ≡ length c.args.old.now = omega arith in
    (c.new-words.ensures.fits, rw c.loop-text.invariant (none_known [] c.args.old.now c.new-words.result.texts.items c.loop-text._text-index e))
