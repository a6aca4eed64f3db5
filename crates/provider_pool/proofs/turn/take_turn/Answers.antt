use Rattle.std.proofs.Common.{sym, subst}
use Rattle.provider_pool.specs.declared.turn.Turn.{Turn}
use Rattle.provider_pool.specs.Turns.{Turns}
use Rattle.provider_pool.specs.Writes.{frame_of}
use Rattle.provider_pool.proofs.Turned.{turned, over}
use Rattle.provider_pool.proofs.turn.take_turn.Goals as goal

pub returns-in-Frame : goal.returns-in-Frame
returns-in-Frame g c =
    let source = g.S.Source.state c.args.reader.now.source in
    let source' = g.S.Source.state c.read_frame.new.reader.source in
    let paused = c.args.reader.now.paused in
    let paused' = c.read_frame.new.reader.paused in
    let sink = g.K.Sink.state c.args.sink.now in
    let sink' = g.K.Sink.state c.answer-outcome.new.sink in
    let services = c.args.services.now in
    subst (λ (t : Turn). Turns source source' paused paused' sink sink' services c.args.served.now c.counted.new.served t) (sym c.counted.ensures.turn) (turned source source' paused paused' sink sink' services c.args.served.now c.counted.new.served (frame_of c.in-Frame.header c.read_frame.new.body.fed) c.answer-outcome.result c.in-Frame.ensures.1 c.answer-outcome.ensures.answers c.counted.ensures.requests c.counted.ensures.answers)

pub returns-in-Over : goal.returns-in-Over
returns-in-Over g c = over _ _ c.args.reader.now.paused _ c.args.services.now c.args.served.now c.in-Over.fault c.in-Over.ensures
