use Rattle.std.proofs.Common.{[], sym, subst, take, refl}
use Rattle.hessian_reader.specs.States.{Count, begins_node}
use Rattle.hessian_reader.specs.Steps.{Leads}
use Rattle.hessian_reader.specs.Steps.Leads.{here}
use Rattle.hessian_reader.specs.Views.{state_of}
use Rattle.hessian_reader.proofs.Runs.{if_ok, gives_lead}
use Rattle.hessian_reader.proofs.work.Work.begin_with_values.Goals as goal

pub returns-in_ok-begin_here-clause-leads : goal.returns-in_ok-begin_here-clause-leads
returns-in_ok-begin_here-clause-leads c =
    let s = state_of c.args.self.now in
    let t = state_of c.begin_here.new.self in
    subst (λ k. Leads (begins_node (Count k) c.args.sort s) [] t) (sym c.if-count-eq0.true)
    (subst (λ u. Leads (begins_node (Count 0) c.args.sort s) [] u) (sym c.in_ok-begin_here.ensures.begun) here)

pub returns-else-count-eq0-clause-leads : goal.returns-else-count-eq0-clause-leads
returns-else-count-eq0-clause-leads c =
    let w = c.args.self.now in
    if_ok c.begin_with_values.result (λ used gives. gives_lead (begins_node (Count c.args.count) c.args.sort (state_of w)) (state_of (record w { store = c.begin_with_values.new.self })) (take used c.args.piece.now) refl c.requires.here refl gives) c.begin_with_values.ensures.gives
