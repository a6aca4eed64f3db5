use Rattle.std.proofs.Common.{◌≡◌, ◌∙◌, sym, ap, subst, List, ◌∷◌, ◌++◌, [], ℕ, take, ◌+◌}
use Rattle.std.proofs.lemmas.List.{take_more}
use Rattle.hessian_graph.proofs.ClassSteps.{spell_more, extends_both, extends_by_number}
use Rattle.graph_notation.proofs.name_table.TextTable.key.Goals as goal

pub loop-field-preserved : goal.loop-field-preserved
loop-field-preserved c =
    let next : take (c.loop-field.field-index + 1) c.args.class.now.fields ≡ take c.loop-field.field-index c.args.class.now.fields ++ c.field-item.result ∷ [] =
    subst (λ (fs : List (List ℕ)). take (c.loop-field.field-index + 1) fs ≡ take c.loop-field.field-index fs ++ c.field-item.result ∷ []) c.as_slice-field-items.ensures
    (take_more c.as_slice-field-items.result.now c.loop-field.field-index c.field-item.result c.loop-field-test.true ∙ ap (λ (x : List ℕ). take c.loop-field.field-index c.as_slice-field-items.result.now ++ x ∷ []) (sym c.field-item.is)) in record {
      fits = c.in_ok-number-2.ensures.fits;
      key = rw (c.in_ok-push-2.ensures.items, next) (spell_more c.loop-field.self.texts.items c.number-in-loop-field.new.self.texts.items c.loop-field.key.items (c.args.class.now.name ∷ take c.loop-field.field-index c.args.class.now.fields) c.field-item.result c.in_ok-number-2.number c.loop-field.invariant.key c.in_ok-number-2.ensures.number);
      grown = extends_both c.args.self.now.texts.items c.loop-field.self.texts.items c.number-in-loop-field.new.self.texts.items c.loop-field.invariant.grown (extends_by_number c.loop-field.self.texts.items c.number-in-loop-field.new.self.texts.items c.field-item.result c.in_ok-number-2.number c.in_ok-number-2.ensures.number);
    }
