use Rattle.provider_pool.proofs.ReadLemmas.{holds_window, reads_frame, reads_end, reads_loss, reads_damage, reads_cut}
use Rattle.provider_pool.proofs.reading.read_frame.Goals as goal

pub returns-in-Frame : goal.returns-in-Frame
returns-in-Frame g c =
    let paused = c.args.reader.now.paused in
    reads_frame _ _ paused _ _ _ c.in-Frame.header (c.in-Frame.ensures.steps paused.window (holds_window paused (g.B.BodySink.fed c.args.body.now) c.requires))

pub returns-in-End : goal.returns-in-End
returns-in-End g c =
    let paused = c.args.reader.now.paused in
    reads_end _ _ paused _ _ _ (c.in-End.ensures.steps paused.window (holds_window paused (g.B.BodySink.fed c.args.body.now) c.requires))

pub returns-in-Lost : goal.returns-in-Lost
returns-in-Lost g c =
    let paused = c.args.reader.now.paused in
    reads_loss _ _ paused _ _ _ c.in-Lost.faults (c.in-Lost.ensures.steps paused.window (holds_window paused (g.B.BodySink.fed c.args.body.now) c.requires))

pub returns-in-Broken : goal.returns-in-Broken
returns-in-Broken g c =
    let paused = c.args.reader.now.paused in
    reads_damage _ _ paused _ _ _ c.in-Broken.at c.in-Broken.head (c.in-Broken.ensures.steps paused.window (holds_window paused (g.B.BodySink.fed c.args.body.now) c.requires))

pub returns-in-CutShort : goal.returns-in-CutShort
returns-in-CutShort g c =
    let paused = c.args.reader.now.paused in
    reads_cut _ _ paused _ _ _ c.in-CutShort.at (c.in-CutShort.ensures.steps paused.window (holds_window paused (g.B.BodySink.fed c.args.body.now) c.requires))
