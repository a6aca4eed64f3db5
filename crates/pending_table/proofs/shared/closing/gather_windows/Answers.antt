use Rattle.std.proofs.Common.{◌∙◌, length}
use Rattle.pending_table.proofs.SharedGathers.{windows_more, last_there, others_there}
use Rattle.pending_table.proofs.shared.closing.gather_windows.Goals as goal

pub loop-next-preserved : goal.loop-next-preserved
loop-next-preserved g c =
    let was = c.loop-next.invariant in
    let old = c.loop-next.seats.items in
    let new = c.pop.new.self.items in
    let next = c.in-Some.next in
    let less = c.in-Some.ensures.items in (
      c.join.ensures.table ∙ was.2 (length new) next (last_there old new next less),
      windows_more c.args.seats.items old new c.args.whole.me c.loop-next.whole.me c.join.new.first.me next was.1 less c.join.ensures.all,
      (λ i seat at. was.2 i seat (others_there old new next less i seat at)),
    )
