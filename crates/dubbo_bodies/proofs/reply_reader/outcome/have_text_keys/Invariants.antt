use Rattle.std.specs.Prelude.{drop}
use Rattle.hessian_graph.specs.Shape.{alternately}
use Rattle.dubbo_bodies.proofs.ReplyOutcome.{SameKeys}
use Rattle.dubbo_bodies.proofs.reply_reader.outcome.have_text_keys.Given as goal

abbrev pub invariant-loop-pair : goal.invariant-loop-pair
invariant-loop-pair l = SameKeys (alternately l.pairs) (alternately (drop l.pair-index l.pairs))
