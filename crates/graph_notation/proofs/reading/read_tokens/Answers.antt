use Rattle.std.proofs.Common.{arith, drop, ◌∙◌}
use Rattle.graph_notation.specs.Limit.{node_limit}
use Rattle.graph_notation.specs.View.{state_of}
use Rattle.graph_notation.proofs.Advance.{at_start, further}
use Rattle.graph_notation.proofs.reading.read_tokens.Goals as goal

pub loop-at-init : goal.loop-at-init
loop-at-init c = record { within = omega arith; so_far = rw c.new-reader.ensures.state (at_start node_limit c.args.text.now); fine = c.new-reader.ensures.fine; limit = c.new-reader.ensures.limit }

pub loop-at-preserved : goal.loop-at-preserved
loop-at-preserved c =
    let h = (c.in_ok-at.ensures {u = tt}).read in
    record {
      within = h.1;
      so_far = further node_limit c.args.text.now (drop c.loop-at.at c.args.text.now) (drop c.in_ok-at.at c.args.text.now) (state_of c.loop-at.reader) (state_of c.read_token.new.reader) c.loop-at.invariant.so_far h.2;
      fine = (c.in_ok-at.ensures {u = tt}).fine;
      limit = c.read_token.ensures.limit ∙ c.loop-at.invariant.limit;
    }
