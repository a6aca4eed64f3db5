use Rattle.std.proofs.Common.{refl, subst, sym, take}
use Rattle.dubbo_header.specs.Header.{Spells, SpellsNone}
use Rattle.link_frames.proofs.FramesLemmas.{short_none}
use Rattle.link_frames.proofs.ReadyLemmas.{broken_rest}
use Rattle.dubbo_main.proofs.Rests.{first_with_body}
use Rattle.dubbo_main.proofs.commands.frames.finding.first_frame.Goals as goal

pub returns-in_err-head : goal.returns-in_err-head
returns-in_err-head c = rw c.from_residual.ensures (short_none c.args.bytes.now c.in_err-head.ensures.cases)

pub returns-in-Ok : goal.returns-in-Ok
returns-in-Ok c =
    let parts = c.in_ok-head.ensures.cases in
    first_with_body c.args.bytes.now c.in_ok-head.head.now c.in_ok-head.behind.now c.in-Ok.header c.with_body.result parts.0 parts.1 parts.2
    ((c.in-Ok.ensures.ok c.in-Ok.header).0 refl) c.with_body.ensures

pub returns-in-Err : goal.returns-in-Err
returns-in-Err c =
    let none : SpellsNone (take 16 c.args.bytes.now) = λ header spells.
    let no = (c.in-Err.ensures.ok header).1 (subst (λ h. Spells h header) (sym c.in_ok-head.ensures.cases.0) spells) in absurd cc in
    (broken_rest c.args.bytes.now none).none
