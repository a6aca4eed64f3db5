use Rattle.std.proofs.Common.{◌<◌, arith}
use Rattle.pending_table.proofs.SharedAllows.{waiting_at}
use Rattle.pending_table.proofs.shared.desk_steps.store_waiting.Goals as goal

pub store-requires : goal.store-requires
store-requires g c =
    let table = c.requires.seated in
    let inside : c.args.slot < c.args.words.now.table_id.words = let words = table.1 in let low = c.requires.inside in omega arith in
    (table.0, inside, waiting_at g.R.Meaning.fits c.args.words.now.key.key.value c.args.words.now.key.slots _ _ c.args.seat.now.me c.args.slot c.requires.desk c.args.id c.to_word-waiting.result c.to_word-waiting.ensures c.requires.free c.requires.above c.requires.small c.requires.place)
