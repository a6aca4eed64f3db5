use Rattle.std.proofs.Common.{◌≡◌, ◌≢◌, ◌+◌, ◌-◌, [], length, ap, arith}
use Rattle.std.proofs.lemmas.Bool.Decides.{nat_tests}
use Rattle.dubbo_main.proofs.Framings.{answers_damaged, answers_whole, behind_shorter, shown_all, shown_more}
use Rattle.dubbo_main.proofs.commands.frames.answer_frames.Goals as goal

pub loop-found-smaller : goal.loop-found-smaller
loop-found-smaller c = behind_shorter c.loop-found.rest.now c.in-Some.found.behind.now c.in-Some.found.header c.in-Some.found.body.now c.in-Some.ensures

pub loop-found-preserved : goal.loop-found-preserved
loop-found-preserved c =
    let at = length c.args.input.now - length c.loop-found.rest.now in
    let here : at + length c.loop-found.rest.now ≡ length c.args.input.now = omega (arith, c.loop-found.invariant.fits) in
    let came = c.in_ok-write_line.ensures in
    shown_more c.args.input.now c.loop-found.rest.now c.in-Some.found.behind.now c.loop-found.text.items came.0 _ at
    c.in-Some.found.header c.in-Some.found.body.now here c.in-Some.ensures came.1 came.2 c.loop-found.invariant

pub returns-then-is_empty : goal.returns-then-is_empty
returns-then-is_empty c =
    let left = c.loop-found.rest.now in
    let at = length c.args.input.now - length left in
    let here : at + length left ≡ length c.args.input.now = omega (arith, c.loop-found.invariant.fits) in
    let empty : length left ≡ 0 = grind (arith, nat_tests) in
    answers_whole c.args.input.now left c.loop-found.text.items empty
    (shown_all c.args.input.now left c.loop-found.text.items at here c.in_default.ensures c.loop-found.invariant)

pub returns : goal.returns
returns c =
    let left = c.loop-found.rest.now in
    let at = length c.args.input.now - length left in
    let here : at + length left ≡ length c.args.input.now = omega (arith, c.loop-found.invariant.fits) in
    let some : left ≢ [] = λ none. let zero : length left ≡ 0 = ap length none in grind (arith, nat_tests) in
    answers_damaged c.args.input.now left c.loop-found.text.items _ at c.fault_of.result some here c.fault_of.ensures
    c.in_ok-write_rest.ensures (shown_all c.args.input.now left c.loop-found.text.items at here c.in_default.ensures c.loop-found.invariant)
