use Rattle.std.proofs.Common.{◌<◌, arith}
use Rattle.pending_table.proofs.SharedAllows.{done_at}
use Rattle.pending_table.proofs.shared.window_steps.store_done.Goals as goal

pub store-requires : goal.store-requires
store-requires g c =
    let table = c.requires.seated in
    let inside : c.args.slot < c.args.words.now.table_id.words = let words = table.1 in let low = c.requires.inside.0 in omega arith in
    let put = c.requires.put in
    (table.0, inside, done_at g.R.Meaning.fits c.args.words.now.key.key.value c.args.words.now.key.slots _ _ c.args.seat.now.me c.requires.window c.args.slot c.args.id c.to_word-done.result put.0 _ c.requires.inside.0 c.requires.inside.2 c.to_word-done.ensures put.1 put.2)
