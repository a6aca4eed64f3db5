use Rattle.std.proofs.Common.{sym, ap, refl, subst, List, ◌∷◌}
use Rattle.std.specs.Prelude.{reverse}
use Rattle.hessian_graph.specs.declared.walk.Step.{Step}
use Rattle.hessian_graph.specs.Shape.{shape_of}
use Rattle.hessian_graph.specs.Canon.{Visit, place_of}
use Rattle.hessian_graph.specs.Canon.Visit.{plain}
use Rattle.hessian_graph.specs.Work.{Job, job_of, todo}
use Rattle.hessian_graph.proofs.Walking.{Leads, opened_leads}
use Rattle.hessian_graph.proofs.walk.Walk.root.Goals as goal

pub returns-in_ok-drain-in-Some-clause-leads : goal.returns-in_ok-drain-in-Some-clause-leads
returns-in_ok-drain-in-Some-clause-leads c = λ last out v.
    subst (λ (st : List Step). Visit (shape_of c.args.parts.now) c.args.self.now.order.items (c.args.root.now ∷ todo (shape_of c.args.parts.now) st last) out) (ap reverse c.requires.empty)
    (opened_leads (shape_of c.args.parts.now) c.args.root.now c.in-Some.node (place_of c.in-Some.node c.args.self.now.order.items) (job_of c.args.self.now) last out (sym c.in-Some.ensures) refl
    (subst (λ (x : Job). Leads (shape_of c.args.parts.now) x last out) c.in_ok-meet-in-Some.ensures.job (c.in_ok-drain-in-Some.ensures.leads last out v)))

pub returns-in-None-clause-leads : goal.returns-in-None-clause-leads
returns-in-None-clause-leads c = λ last out v. plain c.args.self.now.order.items out c.args.root.now last (sym c.in-None.ensures) v
