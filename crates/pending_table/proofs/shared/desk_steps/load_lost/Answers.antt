use Rattle.std.proofs.Common.{ℕ, ◌*◌, ◌<◌, ap, sym, arith}
use Rattle.pending_table.proofs.SharedAllows.{lost_at}
use Rattle.pending_table.proofs.shared.desk_steps.load_lost.Goals as goal

pub load-requires : goal.load-requires
load-requires g c =
    let table = c.requires.seated in
    let inside : 2 * c.args.slots < c.args.words.now.table_id.words = let words = table.1 in let same = c.requires.slots in omega arith in
    (table.0, inside, lost_at g.R.Meaning.fits c.args.words.now.key.key.value c.args.words.now.key.slots _ _ c.args.seat.now.me _ c.requires.desk (2 * c.args.slots) (ap (λ (k : ℕ). 2 * k) (sym c.requires.slots)))
