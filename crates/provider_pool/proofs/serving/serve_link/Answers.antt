use Rattle.std.proofs.Common.{refl, arith}
use Rattle.provider_pool.proofs.SoFar.{served_none, served_more, served_all, counts_few, goes_further, new_between}
use Rattle.provider_pool.proofs.serving.serve_link.Goals as goal

pub frames-init : goal.frames-init
frames-init g c =
    let paused = c.args.reader.now.paused in
    let new = new_between paused c.requires.new in
    (served_none _ paused _ c.args.services.now _ new.0 new.1 c.requires.new.place refl refl, c.requires.open)

pub take_turn-requires-clause-requests : goal.take_turn-requires-clause-requests
take_turn-requires-clause-requests g c =
    let few = counts_few _ _ c.frames.reader.paused _ _ c.args.services.now c.frames.served c.frames.invariant.0 in
    let place = c.frames.reader.fits.count in
    let count = (g.met.S.Source.sound c.frames.reader.source).count in
    omega (arith, few.0, place, count)

pub take_turn-requires-clause-answers : goal.take_turn-requires-clause-answers
take_turn-requires-clause-answers g c =
    let few = counts_few _ _ c.frames.reader.paused _ _ c.args.services.now c.frames.served c.frames.invariant.0 in
    let place = c.frames.reader.fits.count in
    let count = (g.met.S.Source.sound c.frames.reader.source).count in
    omega (arith, few.1, place, count)

pub returns-in-Ends : goal.returns-in-Ends
returns-in-Ends g c = served_all _ _ _ c.frames.reader.paused _ _ _ c.args.services.now c.frames.served _ c.frames.invariant.0 c.in-Ends.ensures

pub frames-smaller : goal.frames-smaller
frames-smaller g c =
    let further = goes_further _ _ c.frames.reader.paused c.take_turn.new.reader.paused _ _ c.args.services.now c.frames.served c.take_turn.new.served c.in_default.ensures in
    let place = c.take_turn.new.reader.fits.count in
    let count = (g.met.S.Source.sound c.take_turn.new.reader.source).count in
    omega (arith, further, place, count)

pub frames-preserved : goal.frames-preserved
frames-preserved g c = (
  served_more _ _ _ c.frames.reader.paused c.take_turn.new.reader.paused _ _ _ c.args.services.now c.frames.served c.take_turn.new.served c.frames.invariant.0 c.in_default.ensures,
  c.in_default.ensures.sends.open_to_all c.frames.invariant.1,
)
