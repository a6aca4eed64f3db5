use Rattle.std.proofs.Common.{sym, subst}
use Rattle.link_frames.specs.Paused.{Advances}
use Rattle.link_frames.proofs.PausedLemmas.{holds_begun}
use Rattle.link_frames.proofs.paused.Paused.advance.Goals as goal

pub returns-in-Begun-clause-advances : goal.returns-in-Begun-clause-advances
returns-in-Begun-clause-advances c held holds =
    let has = holds_begun c.args.self.now _ held (sym c.in-Begun.ensures.value) holds in
    subst (λ bytes. Advances c.args.self.now.place bytes c.go_on.new.self c.go_on.result) (sym has.split) (c.go_on.ensures has.body has.took)
