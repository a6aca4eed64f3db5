use Rattle.std.proofs.Common.{sym, ◌∙◌}
use Rattle.dubbo_play.proofs.Members.{found, finds}
use Rattle.dubbo_play.proofs.first_script.services.Services.has.Goals as goal

pub returns : goal.returns
returns c = rw (← c.self.view_is) (
  (λ test. found (λ line. line.items) c.args.line.now c.self.inside.lines.keys (sym c.contains.ensures ∙ test)),
  (λ there. c.contains.ensures ∙ finds (λ line. line.items) c.args.line.now c.self.inside.lines.keys there),
)
