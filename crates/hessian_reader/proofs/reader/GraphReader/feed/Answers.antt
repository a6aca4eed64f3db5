use Rattle.hessian_reader.proofs.Known.{known_on}
use Rattle.hessian_reader.proofs.reader.GraphReader.feed.Goals as goal

pub invariant_of-self : goal.invariant_of-self
invariant_of-self c = record {
  known = known_on c.args.self.now.course c.feed.new.self c.args.piece.now c.feed.result c.feed.ensures.tells c.feed.ensures.keeps c.feed.ensures.stays c.args.self.now.known;
}
