use Rattle.dubbo_play.proofs.Members.{fresh_if, inserted, inserts}
use Rattle.dubbo_play.proofs.first_script.services.Services.add.Goals as goal

pub returns-clause-fresh : goal.returns-clause-fresh
returns-clause-fresh c = rw (← c.self.view_is)
    (fresh_if (λ line. line.items) c.args.line.items c.self.inside.lines.keys c.in_ok-fresh.fresh c.in_ok-fresh.ensures.added)

pub returns-clause-lines : goal.returns-clause-lines
returns-clause-lines c = rw (← c.self.view_is, c.in_ok-fresh.ensures.keys) (λ other. (
  inserted (λ line. line.items) c.args.line c.self.inside.lines.keys other,
  inserts (λ line. line.items) c.args.line c.self.inside.lines.keys other,
))
