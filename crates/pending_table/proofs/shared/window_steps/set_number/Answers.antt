use Rattle.std.proofs.Common.{ℕ, ◌*◌, ◌<◌, ap, sym, arith}
use Rattle.pending_table.proofs.SharedAllows.{set_at}
use Rattle.pending_table.proofs.shared.window_steps.set_number.Goals as goal

pub compare_exchange-requires : goal.compare_exchange-requires
compare_exchange-requires g c =
    let table = c.requires.seated in
    let inside : 2 * c.args.slots < c.args.words.now.table_id.words = let words = table.1 in let same = c.requires.slots in omega arith in
    (table.0, inside, set_at g.R.Meaning.fits c.args.words.now.key.key.value c.args.words.now.key.slots _ _ c.args.seat.now.me c.requires.window (2 * c.args.slots) c.args.number (ap (λ (k : ℕ). 2 * k) (sym c.requires.slots)) c.requires.number)
