use Rattle.graph_notation.proofs.Readings.{binary_some, binary_none}
use Rattle.graph_notation.proofs.words.binary_of.Goals as goal

pub returns-in-Some-2 : goal.returns-in-Some-2
returns-in-Some-2 c =
    let h = rw c.in-Some-2.is at (c.in_ok-bytes-in-Some.ensures {u = tt}) in
    rw c.from.ensures (binary_some c.args.token.now c.in-Some.digits.now c.in-Some-2.bytes.items c.in-Some.ensures h)

pub returns-in-None-2 : goal.returns-in-None-2
returns-in-None-2 c =
    let h = rw c.in-None-2.is at (c.in_ok-bytes-in-Some.ensures {u = tt}) in
    binary_none c.args.token.now c.in-Some.digits.now c.in-Some.ensures h
