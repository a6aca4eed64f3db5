use Rattle.graph_notation.proofs.Readings.{text_answer, bad_content}
use Rattle.graph_notation.proofs.words.text_of.Goals as goal

pub returns-in-Some-2 : goal.returns-in-Some-2
returns-in-Some-2 c =
    let h = rw c.in-Some-2.is at (c.in_ok-bytes-in-Some.ensures {u = tt}) in
    text_answer c.args.token.now c.in-Some.inner.now c.in-Some-2.bytes.items c.text.result c.in-Some.ensures h c.text.ensures

pub returns-in-None-2 : goal.returns-in-None-2
returns-in-None-2 c =
    let h = rw c.in-None-2.is at (c.in_ok-bytes-in-Some.ensures {u = tt}) in
    bad_content c.args.token.now c.in-Some.inner.now c.in-Some.ensures h
