use Rattle.std.proofs.Common.{arith}
use Rattle.hessian_reader.specs.Steps.Leads.{here}
use Rattle.hessian_reader.specs.Views.{state_of}
use Rattle.hessian_reader.proofs.Runs.{node_leads}
use Rattle.hessian_reader.proofs.work.Work.node_at_once.Goals as goal

pub returns-then-len-ge-NODE_LIMIT-clause-leads : goal.returns-then-len-ge-NODE_LIMIT-clause-leads
returns-then-len-ge-NODE_LIMIT-clause-leads c = here

pub returns-in_ok-begin_here-in-Some-clause-leads : goal.returns-in_ok-begin_here-in-Some-clause-leads
returns-in_ok-begin_here-in-Some-clause-leads c =
    let s = state_of c.args.self.now in
    let low = c.if-len-ge-NODE_LIMIT.false in
    let count = c.len.ensures in
    node_leads s c.args.piece.now c.requires.here c.requires.lacking c.requires.some c.args.head c.in-Some.lacks c.in-Some.sort (state_of c.begin_here.new.self) c.requires.code (c.in-Some.ensures s) (omega (arith, low, count)) c.in_ok-begin_here-in-Some.ensures.begun

pub returns-in-None-clause-leads : goal.returns-in-None-clause-leads
returns-in-None-clause-leads c = here
