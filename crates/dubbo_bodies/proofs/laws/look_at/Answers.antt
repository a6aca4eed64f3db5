use Rattle.hessian_graph.proofs.Closed.{closed_of}
use Rattle.dubbo_bodies.proofs.laws.look_at.Goals as goal

pub returns : goal.returns
returns c = closed_of c.args.graph.now c.parts-parts.ensures.sound c.parts-parts.ensures.few
