use Rattle.std.proofs.Common.{arith}
use Rattle.dubbo_play.proofs.Places.{texts_go, texts_stop}
use Rattle.dubbo_play.proofs.first_texts.+skip_texts.Goals as goal

pub returns-in-Some-clause-texts : goal.returns-in-Some-clause-texts
returns-in-Some-clause-texts t c =
    texts_go c.args.bytes.now c.args.at c.args.count c.in-Some.place c.in_ok-place.field-0 c.skip_texts.result (omega arith) (c.in_ok-place.ensures {u = tt}).text c.in-Some.is c.skip_texts.ensures.texts

pub returns-in-None-clause-texts : goal.returns-in-None-clause-texts
returns-in-None-clause-texts t c =
    texts_stop c.args.bytes.now c.args.at c.args.count c.in_ok-place.field-0 (omega arith) (c.in_ok-place.ensures {u = tt}).text c.in-None.is
