use Rattle.std.proofs.Common.{◌<◌, arith}
use Rattle.pending_table.proofs.SharedAllows.{offered_said}
use Rattle.pending_table.proofs.shared.window_steps.claim_offered.Goals as goal

pub compare_exchange_with-requires : goal.compare_exchange_with-requires
compare_exchange_with-requires g c =
    let table = c.requires.seated in
    let inside : c.args.slot < c.args.words.now.table_id.words = let words = table.1 in let low = c.requires.inside.0 in omega arith in
    let fits = c.requires.fits in
    (table.0, inside, offered_said g.R.Meaning.fits c.args.words.now.key.key.value c.args.words.now.key.slots _ _ c.args.seat.now.me c.requires.window c.args.slot c.args.id c.to_word-waiting.result c.to_word-claimed.result fits.0 c.args.given.now c.requires.inside.0 c.to_word-waiting.ensures c.to_word-claimed.ensures c.requires.idle fits.1 fits.2)
