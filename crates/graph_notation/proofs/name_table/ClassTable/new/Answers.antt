use Rattle.std.proofs.Common.{◌≡◌, ℕ, List, refl, subst, sym}
use Rattle.std.specs.Prelude.{None}
use Rattle.hessian_graph.specs.declared.node.Class.{Class}
use Rattle.hessian_graph.specs.Tables.{IsClassIndex}
use Rattle.hessian_graph.proofs.ClassSteps.{no_classes}
use Rattle.graph_notation.specs.declared.name_table.ClassTable.{ClassTable}
use Rattle.graph_notation.specs.Naming.{find_key}
use Rattle.graph_notation.proofs.name_table.ClassTable.new.Goals as goal

pub returns-clause-fits : goal.returns-clause-fits
returns-clause-fits c =
    let t : ClassTable = record { words = c.new-words.result; places = c.new-places.result; rows = c.new-rows.result; last = 0 } in
    let none : (ns : List ℕ) → find_key t ns ≡ None = λ ns. rw c.new-places.ensures.empty refl in (
      c.new-words.ensures.fits,
      subst (λ (rs : List Class). IsClassIndex (find_key t) c.new-words.result.texts.items rs) (sym c.new-rows.ensures.items) (no_classes (find_key t) c.new-words.result.texts.items none),
    )
