use Rattle.std.proofs.Common.{subst, List, ℕ}
use Rattle.hessian_text.specs.Written.{AppendsText}
use Rattle.hessian_writer.proofs.Appended.{no_texts_yet}
use Rattle.dubbo_bodies.proofs.Written.{pairs_more, all_pairs}
use Rattle.dubbo_bodies.proofs.pieces.write_pairs.Goals as goal

pub loop-attachment-init : goal.loop-attachment-init
loop-attachment-init c = no_texts_yet c.args.out.now.items

pub loop-attachment-preserved : goal.loop-attachment-preserved
loop-attachment-preserved c =
    pairs_more c.args.attachments.now c.loop-attachment.attachment-index c.attachment-item.result c.args.out.now.items c.loop-attachment.out.items c.write_text.new.out.items c.write_text-in-loop-attachment.new.out.items c.loop-attachment-test.true c.attachment-item.is c.loop-attachment.invariant
    (subst (λ (t : List ℕ). AppendsText c.loop-attachment.out.items t c.write_text.new.out.items) c.as_str.ensures c.in_ok-write_text.ensures.ok)
    (subst (λ (t : List ℕ). AppendsText c.write_text.new.out.items t c.write_text-in-loop-attachment.new.out.items) c.as_str-in-loop-attachment.ensures c.in_ok-write_text-2.ensures.ok)

pub returns : goal.returns
returns c = all_pairs c.args.attachments.now c.loop-attachment.attachment-index c.args.out.now.items c.loop-attachment.out.items c.loop-attachment-test.false c.loop-attachment.invariant
