use Rattle.std.proofs.Common.{◌≡◌, ◌*◌, ◌<◌, arith}
use Rattle.pending_table.specs.SharedPlays.{the_desk}
use Rattle.pending_table.proofs.SharedAllows.{free_at, some_of}
use Rattle.pending_table.proofs.shared.desk_steps.store_free.Goals as goal

pub store-requires : goal.store-requires
store-requires g c =
    let table = c.requires.seated in
    let inside : c.args.slot < c.args.words.now.table_id.words = let words = table.1 in let low = c.requires.inside in omega arith in
    let free : c.to_word-free.result ≡ 4 * (the_desk c.args.seat.now.me.0).log.last = let word = c.to_word-free.ensures in let last = c.requires.last.0 in omega arith in
    let given = some_of _ c.requires.taken in
    (table.0, inside, free_at g.R.Meaning.fits c.args.words.now.key.key.value c.args.words.now.key.slots _ _ c.args.seat.now.me c.args.slot c.requires.desk c.to_word-free.result given.0 _ free given.1 c.requires.emptied)
