use Rattle.std.proofs.Common.{◌-◌, arith, length, drop, take}
use Rattle.std.proofs.lemmas.Result.{on_ok_weaker}
use Rattle.hessian_text.proofs.Advancing.{rest_is}
use Rattle.hessian_text.proofs.Writings.{plain_chunk, plain_end}
use Rattle.hessian_text.proofs.writing.append_plain.Goals as goal

pub loop-at-preserved : goal.loop-at-preserved
loop-at-preserved c = plain_chunk c.args.kind c.args.out.now.items c.args.bytes.now c.loop-at.at c.loop-at.out.items c.append_inner.new.out.items c.loop-at.invariant c.loop-at-test.true c.in_ok-append_inner.ensures.ok

pub returns-clause-ok : goal.returns-clause-ok
returns-clause-ok c =
    let bytes = c.args.bytes.now in
    on_ok_weaker c.append_last.result (plain_end c.args.kind c.args.out.now.items bytes (take (length bytes - c.loop-at.at) (drop c.loop-at.at bytes)) c.loop-at.at c.loop-at.out.items c.append_last.new.out.items c.loop-at.invariant (omega (arith, c.loop-at-test.false)) (rest_is c.loop-at.at bytes)) c.append_last.ensures.ok
