use Rattle.std.proofs.Common.{◌∙◌, length}
use Rattle.pending_table.proofs.SharedGathers.{desks_more, last_there, others_there}
use Rattle.pending_table.proofs.shared.closing.gather_desks.Goals as goal

pub join-requires-clause-own : goal.join-requires-clause-own
join-requires-clause-own g c =
    let was = c.loop-next.invariant in
    let old = c.loop-next.seats.items in
    let new = c.pop-in-loop-next.new.self.items in
    let next = c.in-Some-pop.next in
    (was.2 (length new) next (last_there old new next c.in-Some-pop.ensures.items), was.0, c.requires.table)

pub loop-next-preserved : goal.loop-next-preserved
loop-next-preserved g c =
    let was = c.loop-next.invariant in
    let old = c.loop-next.seats.items in
    let new = c.pop-in-loop-next.new.self.items in
    let next = c.in-Some-pop.next in
    let less = c.in-Some-pop.ensures.items in (
      c.join.ensures.table ∙ was.2 (length new) next (last_there old new next less),
      desks_more c.args.seats.items old new c.loop-next.whole.me c.join.new.first.me c.loop-next.count c.from-count-in-Some-pop.result next was.1 less c.join.ensures.all c.from-count-in-Some-pop.ensures,
      (λ i seat at. was.2 i seat (others_there old new next less i seat at)),
    )
