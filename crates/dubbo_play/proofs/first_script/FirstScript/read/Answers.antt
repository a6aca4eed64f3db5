use Rattle.std.proofs.Common.{◌≡◌, length, arith}
use Rattle.std.proofs.lemmas.Bool.Decides.{nat_tests}
use Rattle.dubbo_play.specs.FirstScript.{lines_of}
use Rattle.dubbo_play.proofs.Scripts.{begun, all_read, all_fit}
use Rattle.dubbo_play.proofs.first_script.FirstScript.read.Goals as goal

pub loop-rest-init : goal.loop-rest-init
loop-rest-init c = rw (c.new-calls.ensures.items, c.new-services.ensures) (begun c.args.bytes.now)

pub invariant_of-result : goal.invariant_of-result
invariant_of-result c =
    let end : length c.loop-rest.rest.now ≡ 0 = grind (arith, nat_tests) in
    all_fit (lines_of c.args.bytes.now) c.loop-rest.calls.items
    (all_read c.args.bytes.now c.loop-rest.rest.now c.loop-rest.number c.loop-rest.calls.items c.loop-rest.services end c.loop-rest.invariant)
