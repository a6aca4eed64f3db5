use Rattle.std.proofs.Common.{◌≡◌, ◌++◌, ◌∙◌, ap, List, ℕ}
use Rattle.hessian_writer.proofs.ClassKeys.{next_type_key, type_firsts}
use Rattle.hessian_writer.proofs.names.first_types.Goals as goal

pub loop-text-preserved : goal.loop-text-preserved
loop-text-preserved c =
    let key : c.extend_from_slice.new.self.items ≡ c.text-item.result = c.in_ok-extend_from_slice.ensures.items ∙ ap (λ (x : List ℕ). x ++ c.as_bytes.result.now) c.new-key.ensures.items ∙ c.as_bytes.ensures.value ∙ c.as_str.ensures in
    next_type_key c.args.types.now c.loop-text.text-index c.loop-text.keys c.add.new.self c.text-item.result c.extend_from_slice.new.self.items c.loop-text.invariant c.loop-text-test.true c.text-item.is key c.in_ok-add.ensures

pub returns : goal.returns
returns c = type_firsts c.args.types.now c.loop-text.text-index c.loop-text.keys c.loop-text.invariant c.loop-text-test.false
