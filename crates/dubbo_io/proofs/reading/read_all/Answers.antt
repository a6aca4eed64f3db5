use Rattle.std.proofs.Common.{◌≡◌, ◌+◌, ◌++◌, length, take, refl, arith}
use Rattle.std.proofs.lemmas.Grind.{common_steps}
use Rattle.dubbo_io.proofs.Going.{GoesOn-join}
use Rattle.dubbo_io.proofs.reading.read_all.Goals as goal
use Rattle.dubbo_io.proofs.reading.read_all.Goals.{then-room-lt-PIECE, else-room-lt-PIECE}

pub returns-then-n-room-clause-refused : goal.returns-then-n-room-clause-refused
returns-then-n-room-clause-refused g c =
    let had = c.loop-want.bytes.items in
    let came = take c.in-Bytes.n c.read.new.into in
    let joined = GoesOn-join _ _ _ had came c.loop-want.invariant.0 c.in-Bytes.ensures.reads.goes_on in
    let one_more : length (had ++ came) ≡ c.args.limit + 1 =
    elim c.if-room-lt-PIECE.branch [ then-room-lt-PIECE w ↦ grind (arith, common_steps) | else-room-lt-PIECE w ↦ grind (arith, common_steps) ] in
    (refl, (had ++ came, joined, one_more))

pub returns-then-n-room-clause-goes_on : goal.returns-then-n-room-clause-goes_on
returns-then-n-room-clause-goes_on g c =
    let refused = returns-then-n-room-clause-refused g c in
    (refused.1.0, refused.1.1, omega (arith, refused.1.2))

pub returns-then-is_err-clause-refused : goal.returns-then-is_err-clause-refused
returns-then-is_err-clause-refused g c =
    let had = c.loop-want.bytes.items in
    let came = take c.in-Bytes.n c.read.new.into in
    let joined = GoesOn-join _ _ _ had came c.loop-want.invariant.0 c.in-Bytes.ensures.reads.goes_on in
    (had ++ came, joined, grind (arith, common_steps))

pub returns-then-is_err-clause-goes_on : goal.returns-then-is_err-clause-goes_on
returns-then-is_err-clause-goes_on g c =
    let refused = returns-then-is_err-clause-refused g c in
    (refused.0, refused.1, omega (arith, refused.2))
