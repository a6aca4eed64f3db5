use Rattle.graph_notation.proofs.PlainRuns.{content_run}
use Rattle.graph_notation.proofs.contents.unquote.Goals as goal

pub loop-at-preserved-then-at-end : goal.loop-at-preserved-then-at-end
loop-at-preserved-then-at-end c = record {
  within = c.run_end-end.ensures.within;
  small = c.loop-at.invariant.small;
  so_far = content_run c.args.inner.now c.loop-at.at c.run_end-end.result c.loop-at.mode c.loop-at.out.items c.extend_from_slice.new.self.items c.run_end-end.ensures.low c.run_end-end.ensures.within (c.run_end-end.ensures.plain c.if-at-end.true) c.in_ok-extend_from_slice.ensures.items c.loop-at.invariant.so_far;
}
