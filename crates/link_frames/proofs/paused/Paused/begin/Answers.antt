use Rattle.std.proofs.Common.{◌≡◌, ◌++◌, [], length, refl, ap, sym, subst, ◌∙◌, Some, arith}
use Rattle.dubbo_header.specs.Header.{SpellsNone}
use Rattle.link_frames.specs.Paused.{Advances}
use Rattle.link_frames.proofs.PausedLemmas.{begins_at, more_head, broken_head}
use Rattle.link_frames.proofs.paused.Paused.begin.Goals as goal

pub new-begun-requires : goal.new-begun-requires
new-begun-requires c = ((c.in-Ok.ensures.ok c.in-Ok.header).0 refl).1

pub returns-then-len-lt16 : goal.returns-then-len-lt16
returns-then-len-lt16 c =
    let count = rw c.as_slice.ensures at c.take_from-n.ensures.count in
    let filled = rw c.as_slice.ensures at c.take_from-n.ensures.bytes in
    more_head c.args.head c.args.self.now.window _ _ c.args.self.now.place c.set.new.self count filled (omega arith) (ap (λ p. p.part) c.set.ensures) (ap (λ p. p.window) c.set.ensures ∙ c.consume.ensures) (ap (λ p. p.place) c.set.ensures)

pub returns-in-Ok : goal.returns-in-Ok
returns-in-Ok c =
    let filled = c.whole.ensures ∙ rw c.as_slice.ensures at c.take_from-n.ensures.bytes in
    let spells = (c.in-Ok.ensures.ok c.in-Ok.header).0 refl in
    let same = begins_at c.args.head c.args.self.now.window _ _ _ _ _ filled c.consume.ensures spells.0 c.new-begun.ensures.header in
    subst (λ held. Advances c.args.self.now.place held c.go_on.new.self c.go_on.result) (sym same) (c.go_on.ensures [] c.new-begun.ensures.none)

pub returns-in-Err : goal.returns-in-Err
returns-in-Err c =
    let filled = c.whole.ensures ∙ rw c.as_slice.ensures at c.take_from-n.ensures.bytes in
    let sixteen : length c.whole.result.now ≡ 16 = omega (arith, ap length c.whole.ensures) in
    let none : SpellsNone c.whole.result.now = λ header spells. let e = (c.in-Err.ensures.ok header).1 spells in absurd cc in
    let breaks = broken_head c.args.head c.args.self.now.window _ _ _ c.args.self.now.place c.end_with.new.self filled c.consume.ensures sixteen none (ap (λ p. p.part) c.end_with.ensures.ended) (ap (λ p. p.place) c.end_with.ensures.ended) in
    subst (λ answer. Advances c.args.self.now.place (c.args.head ++ c.args.self.now.window) c.end_with.new.self (Some answer)) (sym c.end_with.ensures.answer) breaks
