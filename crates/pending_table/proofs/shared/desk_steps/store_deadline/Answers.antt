use Rattle.std.proofs.Common.{ℕ, ◌+◌, ◌<◌, ap, sym, arith}
use Rattle.pending_table.proofs.SharedAllows.{deadline_at}
use Rattle.pending_table.proofs.shared.desk_steps.store_deadline.Goals as goal

pub store-requires : goal.store-requires
store-requires g c =
    let table = c.requires.seated in
    let within = c.requires.inside in
    let inside : c.args.slots + c.args.slot < c.args.words.now.table_id.words = let words = table.1 in let same = within.0 in let low = within.1 in omega arith in (
      table.0,
      inside,
      deadline_at g.R.Meaning.fits c.args.words.now.key.key.value c.args.words.now.key.slots _ _ c.args.seat.now.me c.args.slot c.requires.desk (c.args.slots + c.args.slot) c.args.deadline (ap (λ (k : ℕ). k + c.args.slot) (sym within.0)) c.requires.free,
    )
