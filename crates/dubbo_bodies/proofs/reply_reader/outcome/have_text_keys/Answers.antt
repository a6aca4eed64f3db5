use Rattle.dubbo_bodies.proofs.ReplyOutcome.{keys_at, keys_stop, keys_end}
use Rattle.dubbo_bodies.proofs.reply_reader.outcome.have_text_keys.Goals as goal

pub returns-in_default : goal.returns-in_default
returns-in_default c = keys_stop c.args.pairs.now c.loop-pair.pair-index c.pair-item.result c.loop-pair-test.true c.pair-item.is c.in_default.not-Text c.loop-pair.invariant

pub loop-pair-preserved : goal.loop-pair-preserved
loop-pair-preserved c = keys_at c.args.pairs.now c.loop-pair.pair-index c.pair-item.result c.in-Text.field-0 c.loop-pair-test.true c.pair-item.is c.in-Text.is c.loop-pair.invariant

pub returns : goal.returns
returns c = keys_end c.args.pairs.now c.loop-pair.pair-index c.loop-pair-test.false c.loop-pair.invariant
