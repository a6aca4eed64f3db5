use Rattle.std.proofs.Common.{◌+◌, ap, ◌∙◌, arith}
use Rattle.link_frames.specs.declared.paused.Part.TheVariants as part
use Rattle.link_frames.proofs.PausedLemmas.{TakesUp, more_body, whole_body}
use Rattle.link_frames.proofs.paused.Paused.go_on.Goals as goal

pub returns-then-left-gt0 : goal.returns-then-left-gt0
returns-then-left-gt0 c =
    let takes : TakesUp c.args.begun c.take_from-n.new.self c.args.self.now.window c.take_from-n.result = record {
      count = rw c.as_slice.ensures at c.take_from-n.ensures.count;
      header = c.take_from-n.ensures.header;
      left = c.take_from-n.ensures.left;
      took = rw c.as_slice.ensures at c.take_from-n.ensures.took;
    } in
    more_body _ _ _ _ takes c.args.self.now.place c.set.new.self (ap (λ p. p.window) c.set.ensures ∙ c.consume.ensures) (omega arith) (ap (λ p. p.part) c.set.ensures) (ap (λ p. p.place) c.set.ensures)

pub returns : goal.returns
returns c =
    let takes : TakesUp c.args.begun c.take_from-n.new.self c.args.self.now.window c.take_from-n.result = record {
      count = rw c.as_slice.ensures at c.take_from-n.ensures.count;
      header = c.take_from-n.ensures.header;
      left = c.take_from-n.ensures.left;
      took = rw c.as_slice.ensures at c.take_from-n.ensures.took;
    } in
    let moved = ap (λ p. p.place) c.set-2.ensures ∙ ap (λ n. c.args.self.now.place + (16 + n)) (c.from.ensures ∙ ap (λ h. h.length) c.header.ensures) in
    whole_body _ _ _ _ takes c.args.self.now.place c.set-2.new.self (ap (λ p. p.window) c.set-2.ensures ∙ c.consume.ensures) (omega arith) (ap (λ p. p.part) c.set-2.ensures ∙ ap part.Head c.new.ensures) moved c.finish.result c.finish.ensures
