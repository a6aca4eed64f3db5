use Rattle.std.proofs.Common.{ℕ, ◌+◌, ◌*◌, ◌<◌, ap, sym, arith}
use Rattle.pending_table.proofs.SharedAllows.{due_at}
use Rattle.pending_table.proofs.shared.window_steps.load_deadline.Goals as goal

pub load-requires : goal.load-requires
load-requires g c =
    let table = c.requires.seated in
    let within = c.requires.inside in
    let low : c.args.slot < c.args.words.now.key.slots = let same = within.0 in let less = within.1 in omega arith in
    let inside : c.args.slots + c.args.slot < c.args.words.now.table_id.words = let words = table.1 in let same = within.0 in let less = within.1 in omega arith in
    let seen = c.requires.seen in
    (table.0, inside, due_at g.R.Meaning.fits c.args.words.now.key.key.value c.args.words.now.key.slots _ _ c.args.seat.now.me c.requires.window c.args.slot (4 * (c.args.id + 1) + 1) (c.args.slots + c.args.slot) seen.0 low (omega arith) (ap (λ (k : ℕ). k + c.args.slot) (sym within.0)) seen.1)
