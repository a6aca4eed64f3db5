use Rattle.std.proofs.Common.{◌≡◌, ◌++◌, List, ℕ, sym, subst, ap, ◌∙◌}
use Rattle.hessian_graph.specs.Spells.{TextsSpelling}
use Rattle.hessian_graph.specs.Spells.TextsSpelling.{one}
use Rattle.hessian_graph.specs.Tables.{words_of}
use Rattle.hessian_text.specs.Written.{AppendsText}
use Rattle.hessian_writer.specs.Leaves.{hessian_forms}
use Rattle.hessian_writer.specs.Appending.{AppendsTexts}
use Rattle.hessian_writer.proofs.names.class_key.Goals as goal

pub returns : goal.returns
returns c =
    let name : AppendsText c.new-key.result.items c.args.class.now.name c.write_text.new.out.items = subst (λ (t : List ℕ). AppendsText c.new-key.result.items t c.write_text.new.out.items) c.as_str.ensures c.in_ok-write_text.ensures.ok in
    let fields : AppendsTexts c.args.class.now.fields c.write_text.new.out.items c.write_texts.new.out.items = subst (λ (ts : List (List ℕ)). AppendsTexts ts c.write_text.new.out.items c.write_texts.new.out.items) c.as_slice.ensures c.in_ok-write_texts.ensures in
    let empty : c.write_text.new.out.items ≡ name.written = name.appended ∙ ap (λ x. x ++ name.written) c.new-key.ensures.items in
    subst (TextsSpelling hessian_forms (words_of c.args.class.now)) (sym (fields.joined ∙ ap (λ x. x ++ fields.bytes) empty))
    (one c.args.class.now.name c.args.class.now.fields name.written fields.bytes name.spells fields.is)
