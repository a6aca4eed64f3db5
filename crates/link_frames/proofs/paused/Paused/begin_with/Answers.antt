use Rattle.std.proofs.Common.{◌≡◌, ◌++◌, length, refl, ap, sym, subst, ◌∙◌, Some, arith}
use Rattle.dubbo_header.specs.Header.{SpellsNone}
use Rattle.link_frames.specs.NextWith.{AdvancesFed}
use Rattle.link_frames.specs.declared.next.Ending.TheVariants as ending
use Rattle.link_frames.proofs.PausedLemmas.{broken_head}
use Rattle.link_frames.proofs.FedLemmas.{more_head_fed, ended_fed}
use Rattle.link_frames.proofs.paused.Paused.begin_with.Goals as goal

pub lent-requires : goal.lent-requires
lent-requires g c = ((c.in-Ok.ensures.ok c.in-Ok.header).0 refl).1

pub returns-then-len-lt16 : goal.returns-then-len-lt16
returns-then-len-lt16 g c =
    let count = rw c.as_slice.ensures at c.take_from-n.ensures.count in
    let filled = rw c.as_slice.ensures at c.take_from-n.ensures.bytes in
    more_head_fed c.args.head c.args.self.now.window _ _ c.args.self.now.place c.set.new.self _ _ count filled (omega arith) (ap (λ p. p.part) c.set.ensures) (ap (λ p. p.window) c.set.ensures ∙ c.consume.ensures) (ap (λ p. p.place) c.set.ensures)

pub returns-in-Err : goal.returns-in-Err
returns-in-Err g c =
    let filled = c.whole.ensures ∙ rw c.as_slice.ensures at c.take_from-n.ensures.bytes in
    let sixteen : length c.whole.result.now ≡ 16 = omega (arith, ap length c.whole.ensures) in
    let none : SpellsNone c.whole.result.now = λ header spells. let e = (c.in-Err.ensures.ok header).1 spells in absurd cc in
    let held = c.args.head ++ c.args.self.now.window in
    let place = c.args.self.now.place in
    let breaks = broken_head c.args.head c.args.self.now.window _ _ _ place c.set-in-Err.new.self filled c.consume.ensures sixteen none (ap (λ p. p.part) c.set-in-Err.ensures) (ap (λ p. p.place) c.set-in-Err.ensures) in
    let started = g.B.BodySink.started c.args.body.now in
    let fed = g.B.BodySink.fed c.args.body.now in
    let answer = ended_fed place held c.set-in-Err.new.self started fed (ending.Broken place c.whole.result.now) (ap (λ p. p.part) c.set-in-Err.ensures) breaks in
    subst (λ answer. AdvancesFed place held c.set-in-Err.new.self started fed (Some answer)) (sym c.next_with.ensures) answer
