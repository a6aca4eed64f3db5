use Rattle.std.proofs.Common.{rules, ap, ◌∙◌, ◌≤◌, ◌+◌, length, [], ◌∷◌, length-append, vec_capacity}
use Rattle.pending_table.proofs.Slots.{unused_more}
use Rattle.pending_table.proofs.plain.unused_slots.Goals as goal

pub loop-preserved : goal.loop-preserved
loop-preserved g c =
    let i = c.loop.invariant in
    let push = c.push_reserved.ensures in
    let room : c.args.count ≤ vec_capacity c.push_reserved.new.self = search rules in (
      ap length push.items ∙ (length-append c.loop.slots.items (c.new.result ∷ []) ∙ ap (λ n. n + 1) i.0),
      room,
      unused_more c.loop.slots.items c.push_reserved.new.self.items c.new.result push.items c.new.ensures.log c.new.ensures.held i.2,
    )
