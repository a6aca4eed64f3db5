use Rattle.std.proofs.Common.{◌+◌, ap, ◌∙◌, arith}
use Rattle.link_frames.specs.declared.paused.Part.TheVariants as part
use Rattle.link_frames.proofs.FedLemmas.{Feeds, more_fed, whole_fed}
use Rattle.link_frames.proofs.paused.Paused.go_on_with.Goals as goal

pub returns-then-left-gt0 : goal.returns-then-left-gt0
returns-then-left-gt0 g c =
    let feeds : Feeds c.args.begun c.pass-n.new.self c.args.self.now.window (g.B.BodySink.fed c.args.body.now) (g.B.BodySink.fed c.feed.new.self) c.pass-n.result = record {
      count = rw c.as_slice.ensures at c.pass-n.ensures.count;
      header = c.pass-n.ensures.header;
      left = c.pass-n.ensures.left;
      none = c.requires.kept;
      still = c.pass-n.ensures.kept;
      size = c.requires.fed;
      grows = rw c.as_slice-2.ensures at c.feed.ensures.fed;
    } in
    more_fed _ _ _ _ _ _ feeds c.args.self.now.place c.set.new.self (ap (λ p. p.window) c.set.ensures ∙ c.consume.ensures) _ (c.feed.ensures.started ∙ c.requires.started) (omega arith) (ap (λ p. p.part) c.set.ensures) (ap (λ p. p.place) c.set.ensures)

pub returns : goal.returns
returns g c =
    let feeds : Feeds c.args.begun c.pass-n.new.self c.args.self.now.window (g.B.BodySink.fed c.args.body.now) (g.B.BodySink.fed c.feed.new.self) c.pass-n.result = record {
      count = rw c.as_slice.ensures at c.pass-n.ensures.count;
      header = c.pass-n.ensures.header;
      left = c.pass-n.ensures.left;
      none = c.requires.kept;
      still = c.pass-n.ensures.kept;
      size = c.requires.fed;
      grows = rw c.as_slice-2.ensures at c.feed.ensures.fed;
    } in
    let moved = ap (λ p. p.place) c.set-2.ensures ∙ ap (λ n. c.args.self.now.place + (16 + n)) (c.from.ensures ∙ ap (λ h. h.length) c.header-header.ensures) in
    whole_fed _ _ _ _ _ _ feeds c.args.self.now.place c.set-2.new.self (ap (λ p. p.window) c.set-2.ensures ∙ c.consume.ensures) _ (c.feed.ensures.started ∙ c.requires.started) c.header-header.result.now c.header-header.ensures (omega arith) (ap (λ p. p.part) c.set-2.ensures ∙ ap part.Head c.new.ensures) moved
