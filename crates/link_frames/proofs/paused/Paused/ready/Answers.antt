use Rattle.std.proofs.Common.{length, refl, ap, ◌∙◌, length-drop, arith}
use Rattle.dubbo_header.specs.Header.{SpellsNone}
use Rattle.link_frames.proofs.ReadyLemmas.{ready_begun, waits_begun, ready_broken, ready_whole, waits_body}
use Rattle.link_frames.proofs.paused.Paused.ready.Goals as goal

pub returns-then-left-n : goal.returns-then-left-n
returns-then-left-n c =
    let paused = c.args.self.now in
    let count = rw (c.copied-front.ensures, c.as_slice-left.ensures) at c.take_from-n.ensures.count in
    let filled = c.whole.ensures ∙ rw (c.copied-front.ensures, c.as_slice-left.ensures) at c.take_from-n.ensures.bytes in
    let spells = (c.in-Ok.ensures.ok c.in-Ok.header).0 refl in
    let waits = waits_body paused c.in-Head.head c.in-Head.is c.take_from-n.result c.whole.result.now count filled c.in-Ok.header spells (omega (arith, ap length c.as_slice-left.ensures, length-drop c.take_from-n.result paused.window)) in
    (λ e. absurd (let x = e in cc), λ r. absurd (waits r))

pub returns-else-left-n : goal.returns-else-left-n
returns-else-left-n c =
    let paused = c.args.self.now in
    let count = rw (c.copied-front.ensures, c.as_slice-left.ensures) at c.take_from-n.ensures.count in
    let filled = c.whole.ensures ∙ rw (c.copied-front.ensures, c.as_slice-left.ensures) at c.take_from-n.ensures.bytes in
    let spells = (c.in-Ok.ensures.ok c.in-Ok.header).0 refl in
    let ready = ready_whole paused c.in-Head.head c.in-Head.is c.take_from-n.result c.whole.result.now count filled c.in-Ok.header spells (omega (arith, ap length c.as_slice-left.ensures, length-drop c.take_from-n.result paused.window)) in
    (λ _. ready, λ _. refl)

pub returns-in-Err : goal.returns-in-Err
returns-in-Err c =
    let paused = c.args.self.now in
    let count = rw (c.copied-front.ensures, c.as_slice-left.ensures) at c.take_from-n.ensures.count in
    let filled = c.whole.ensures ∙ rw (c.copied-front.ensures, c.as_slice-left.ensures) at c.take_from-n.ensures.bytes in
    let none : SpellsNone c.whole.result.now = λ header spells. let e = (c.in-Err.ensures.ok header).1 spells in absurd cc in
    let ready = ready_broken paused c.in-Head.head c.in-Head.is c.take_from-n.result c.whole.result.now count filled (omega (arith, ap length c.whole.ensures)) none in
    (λ _. ready, λ _. refl)

pub returns-then-left : goal.returns-then-left
returns-then-left c =
    (λ e. absurd (let x = e in cc), λ r. absurd (waits_begun c.args.self.now c.in-Begun.begun c.in-Begun.is (omega (arith, ap length c.as_slice-left.ensures)) r))

pub returns-else-left : goal.returns-else-left
returns-else-left c =
    (λ _. ready_begun c.args.self.now c.in-Begun.begun c.in-Begun.is (omega (arith, ap length c.as_slice-left.ensures)), λ _. refl)
