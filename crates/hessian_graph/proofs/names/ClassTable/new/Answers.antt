use Rattle.std.proofs.Common.{◌≡◌, length, arith, ◌∙◌, ap, ◌++◌, ◌∷◌, [], List, ℕ, refl, subst, sym}
use Rattle.std.specs.Prelude.{None}
use Rattle.hessian_graph.specs.Shape.{no_class}
use Rattle.hessian_graph.specs.declared.node.Class.{Class}
use Rattle.hessian_graph.specs.declared.names.ClassTable.{ClassTable}
use Rattle.hessian_graph.specs.Tables.{find_key, IsClassIndex, IsKnown}
use Rattle.hessian_graph.proofs.ClassSteps.{no_classes}
use Rattle.hessian_graph.proofs.Walking.{one_more_none}
use Rattle.hessian_graph.proofs.TableSteps.{none_known}
use Rattle.hessian_graph.proofs.names.ClassTable.new.Goals as goal

pub loop-class-preserved : goal.loop-class-preserved
loop-class-preserved c = c.in_ok-push.ensures.items ∙ ap (λ x. x ++ None ∷ []) c.loop-class.invariant ∙ one_more_none c.loop-class._class-index

pub returns-clause-fits : goal.returns-clause-fits
returns-clause-fits c =
    let e : c.loop-class._class-index ≡ length c.args.old.now = omega arith in
    let t : ClassTable = record { words = c.new-words.result; places = c.new-places.result; rows = c.new-rows.result; known = c.loop-class.known } in
    let none : (ns : List ℕ) → find_key t ns ≡ None = λ ns. rw c.new-places.ensures.empty refl in (
      c.new-words.ensures.fits,
      subst (λ (rs : List Class). IsClassIndex (find_key t) c.new-words.result.texts.items rs) (sym c.new-rows.ensures.items) (no_classes (find_key t) c.new-words.result.texts.items none),
      subst (λ (rs : List Class). IsKnown no_class c.loop-class.known.items c.args.old.now rs) (sym c.new-rows.ensures.items) (rw c.loop-class.invariant (none_known no_class c.args.old.now [] c.loop-class._class-index e)),
    )
