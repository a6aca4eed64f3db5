use Rattle.std.proofs.Common.{ap, ◌∙◌, ◌∷◌, []}
use Rattle.std.specs.Prelude.{reverse}
use Rattle.std.proofs.lemmas.List.{reverse-append}
use Rattle.hessian_graph.specs.Shape.{shape_of}
use Rattle.hessian_graph.specs.Work.{job_of}
use Rattle.hessian_graph.proofs.Walking.{drained}
use Rattle.hessian_graph.proofs.walk.Walk.drain.Goals as goal

pub loop-top-preserved : goal.loop-top-preserved
loop-top-preserved c = record {
  fine = c.in_ok-go_on.ensures.fine;
  leads = λ last out l. c.loop-top.invariant.leads last out (drained (shape_of c.args.parts.now) (job_of c.loop-top.self) (job_of c.go_on.new.self) c.in-Some.top (reverse c.pop.new.self.items) c.loop-top.self.stack.items (reverse c.pop.new.self.items) last out (ap reverse c.in-Some.ensures.items ∙ reverse-append c.pop.new.self.items (c.in-Some.top ∷ [])) c.in_ok-go_on.ensures.job l);
}
