use Rattle.std.proofs.Common.{◌≡◌, length, ◌∙◌, arith}
use Rattle.std.proofs.lemmas.Bool.Decides.{nat_tests}
use Rattle.dubbo_main.specs.RingLines.{damaged_line}
use Rattle.dubbo_main.proofs.Ringing.{taken_more, taken_damaged, taken_all}
use Rattle.dubbo_main.proofs.commands.ring.answer_ring.Goals as goal

pub returns-in-Some : goal.returns-in-Some
returns-in-Some c =
    let came = rw c.in-Some.is at c.in_ok-damage.ensures in
    let line : c.as_bytes.result.now ≡ damaged_line c.loop-rest.number c.in-Some.damage = c.as_bytes.ensures.value ∙ c.deref.ensures.0 ∙ c.damaged.ensures in
    taken_damaged c.args.input.now c.loop-rest.rest.now c.first_line.result.0.now c.first_line.result.1.now c.loop-rest.number c.loop-rest.ring
    c.loop-rest.text.items came.0 _ _ c.in-Some.damage c.first_line.ensures.cut came.2.0 came.2.1 came.1
    (rw line at c.in_ok-extend_from_slice.ensures.items) c.loop-rest.invariant

pub loop-rest-preserved : goal.loop-rest-preserved
loop-rest-preserved c =
    let came = rw c.in_default.is at c.in_ok-damage.ensures in
    taken_more c.args.input.now c.loop-rest.rest.now c.first_line.result.0.now c.first_line.result.1.now c.loop-rest.number c.loop-rest.ring _
    c.loop-rest.text.items came.0 _ c.first_line.ensures.cut (omega (arith, c.first_line.ensures.shorter)) came.2 came.1 c.loop-rest.invariant

pub returns : goal.returns
returns c =
    let end : length c.loop-rest.rest.now ≡ 0 = grind (arith, nat_tests) in
    taken_all c.args.input.now c.loop-rest.rest.now c.loop-rest.number c.loop-rest.ring c.loop-rest.text.items end c.loop-rest.invariant
