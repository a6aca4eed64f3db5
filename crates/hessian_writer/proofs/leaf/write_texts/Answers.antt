use Rattle.std.proofs.Common.{subst, List, ℕ}
use Rattle.hessian_text.specs.Written.{AppendsText}
use Rattle.hessian_writer.proofs.Appended.{no_texts_yet, texts_more, all_texts}
use Rattle.hessian_writer.proofs.leaf.write_texts.Goals as goal

pub loop-text-init : goal.loop-text-init
loop-text-init c = no_texts_yet c.args.out.now.items

pub loop-text-preserved : goal.loop-text-preserved
loop-text-preserved c =
    texts_more c.args.texts.now c.loop-text.text-index c.text-item.result c.args.out.now.items c.loop-text.out.items c.write_text.new.out.items c.loop-text-test.true c.text-item.is c.loop-text.invariant
    (subst (λ (t : List ℕ). AppendsText c.loop-text.out.items t c.write_text.new.out.items) c.as_str.ensures c.in_ok-write_text.ensures.ok)

pub returns : goal.returns
returns c = all_texts c.args.texts.now c.loop-text.text-index c.args.out.now.items c.loop-text.out.items c.loop-text-test.false c.loop-text.invariant
