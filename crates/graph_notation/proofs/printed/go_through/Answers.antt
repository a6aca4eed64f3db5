use Rattle.std.proofs.Common.{◌++◌, ◌-◌, ◌+◌, take, drop, arith}
use Rattle.graph_notation.proofs.Appends.{begins_on}
use Rattle.graph_notation.proofs.Runs.{byte_on}
use Rattle.graph_notation.proofs.printed.go_through.Goals as goal

pub loop-at-preserved : goal.loop-at-preserved
loop-at-preserved c =
    let h = c.in_ok-from.ensures {u = tt} in
    record {
      low = h.low;
      written = λ before w. byte_on c.args.text.now before (c.go_past.new.out.items ++ take (c.loop-at.at + 1 - c.in_ok-from.from) (drop c.in_ok-from.from c.args.text.now)) (c.loop-at.out.items ++ take (c.loop-at.at - c.loop-at.from) (drop c.loop-at.from c.args.text.now)) c.loop-at.at (omega arith) (c.loop-at.invariant.written before w) h.written;
      begins = begins_on c.args.out.now.items c.loop-at.out.items c.go_past.new.out.items c.loop-at.invariant.begins h.begins;
    }
