use Rattle.std.proofs.Common.{[]}
use Rattle.link_frames.proofs.FedLemmas.{not_begun}
use Rattle.link_frames.proofs.StepLemmas.{fresh_fits}
use Rattle.link_frames.proofs.reader.FrameReader.new.Goals as goal

pub invariant_of-result : goal.invariant_of-result
invariant_of-result g c =
    record { fits = fresh_fits (g.S.Source.state c.args.source) c.in-Ok.paused c.in-Ok.ensures.begins c.in-Ok.ensures.place }

pub returns-in-Ok-clause-any : goal.returns-in-Ok-clause-any
returns-in-Ok-clause-any g c started fed = not_begun c.in-Ok.paused [] started fed c.in-Ok.ensures.between
