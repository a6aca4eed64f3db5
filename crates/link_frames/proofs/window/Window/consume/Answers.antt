use Rattle.std.proofs.Common.{◌∙◌, ap, drop}
use Rattle.link_frames.proofs.WindowLemmas.{slice_range-consume}
use Rattle.link_frames.proofs.window.Window.consume.Goals as goal

pub returns : goal.returns
returns c =
    let w = c.self.inside in
    slice_range-consume w.bytes.items w.start w.end c.args.n ∙ ap (drop c.args.n) c.self.view_is
