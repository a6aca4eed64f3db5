use Rattle.std.proofs.Common.{◌≤◌, ◌+◌, arith, length}
use Rattle.std.proofs.lemmas.Grind.{common_steps}
use Rattle.dubbo_io.proofs.Buffers.{take_on}
use Rattle.dubbo_io.proofs.Sending.{Sends-join}
use Rattle.dubbo_io.proofs.writing.write_all.Goals as goal

pub loop-gone-preserved : goal.loop-gone-preserved
loop-gone-preserved g c =
    let wrote = c.in-Bytes.ensures.writes in
    let joined = Sends-join _ _ _ _ _ c.loop-gone.invariant.0 wrote.sends in
    let fits : c.loop-gone.gone + c.in-Bytes.n ≤ length c.args.bytes.now = grind (arith, common_steps) in
    (rw take_on at joined, fits)
