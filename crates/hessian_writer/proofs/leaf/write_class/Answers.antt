use Rattle.std.proofs.Common.{◌<◌, ◌^◌, subst, List, ℕ, w32, length, ap, ◌∙◌}
use Rattle.std.specs.Prelude.{pos}
use Rattle.std.proofs.lemmas.Int.{to_z_pos}
use Rattle.hessian_text.specs.Written.{AppendsText}
use Rattle.hessian_writer.specs.Appending.{AppendsTexts}
use Rattle.hessian_writer.proofs.Appended.{appends_class}
use Rattle.hessian_writer.proofs.leaf.write_class.Goals as goal

pub returns : goal.returns
returns c =
    let few : length c.as_slice-fields.result.now < 2 ^ 31 = rw c.as_slice-fields.ensures c.requires in
    appends_class c.args.class.now _ c.args.out.now.items c.write_text.new.out.items c.write_int.new.out.items c.write_texts.new.out.items
    (to_z_pos w32 (length c.as_slice-fields.result.now) few ∙ ap (λ (xs : List (List ℕ)). pos (length xs)) c.as_slice-fields.ensures)
    (subst (λ (t : List ℕ). AppendsText c.args.out.now.items t c.write_text.new.out.items) c.as_str.ensures c.in_ok-write_text.ensures.ok)
    c.in_ok-write_int.ensures.ok
    (subst (λ (ts : List (List ℕ)). AppendsTexts ts c.write_int.new.out.items c.write_texts.new.out.items) c.as_slice-fields.ensures c.in_ok-write_texts.ensures)
