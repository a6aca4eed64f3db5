use Rattle.std.proofs.Common.{◌∙◌, arith}
use Rattle.hessian_text.specs.Spelling.{AreBytes}
use Rattle.hessian_reader.proofs.Feeding.{never_later, read_on}
use Rattle.hessian_reader.proofs.Refusals.{stopped_later}
use Rattle.hessian_reader.proofs.course.Course.feed.Goals as goal

pub returns-in-Some-clause-refused : goal.returns-in-Some-clause-refused
returns-in-Some-clause-refused c = λ roots fed read some.
    let small' : AreBytes c.args.piece.now = record { small = λ i h. omega (arith, c.type_inv.piece i) } in
    never_later roots fed c.args.piece.now small' (read.refused c.in-Some.fault c.in-Some.is some)

pub returns-in-Ok-clause-tells : goal.returns-in-Ok-clause-tells
returns-in-Ok-clause-tells c = λ roots fed read.
    let small' : AreBytes c.args.piece.now = record { small = λ i h. omega (arith, c.type_inv.piece i) } in
    let none = c.in_default.is in
    let q = c.in-Ok.ensures.tells roots fed read.counted read.bytes (read.follows none) in
    (q.0, read_on c.advance-told.new.self roots fed c.args.piece.now read.bytes small' (c.in-Ok.ensures.same.0 ∙ read.counted) (c.in-Ok.ensures.same.1 ∙ none) q.1)

pub returns-in-Err-clause-refused : goal.returns-in-Err-clause-refused
returns-in-Err-clause-refused c = λ roots fed read some.
    c.in-Err.ensures.refused roots fed read.counted read.bytes (read.follows c.in_default.is) some

pub returns-in-Some-clause-why : goal.returns-in-Some-clause-why
returns-in-Some-clause-why c = λ roots fed read some.
    stopped_later roots fed c.args.piece.now c.in-Some.fault (read.stopped c.in-Some.fault c.in-Some.is some)

pub returns-in-Err-clause-why : goal.returns-in-Err-clause-why
returns-in-Err-clause-why c = λ roots fed read some.
    c.in-Err.ensures.why roots fed read.counted read.bytes (read.follows c.in_default.is) some
