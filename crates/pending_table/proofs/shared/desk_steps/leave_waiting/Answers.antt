use Rattle.std.proofs.Common.{◌≡◌, ◌+◌, ◌*◌, ◌<◌, arith}
use Rattle.pending_table.specs.SharedPlays.{the_desk}
use Rattle.pending_table.proofs.SharedAllows.{left_at}
use Rattle.pending_table.proofs.shared.desk_steps.leave_waiting.Goals as goal

pub compare_exchange-requires : goal.compare_exchange-requires
compare_exchange-requires g c =
    let table = c.requires.seated in
    let inside : c.args.slot < c.args.words.now.table_id.words = let words = table.1 in let low = c.requires.inside in omega arith in
    let waiting : c.to_word-waiting.result ≡ 4 * (the_desk c.args.seat.now.me.0).log.last + 1 = let word = c.to_word-waiting.ensures in let last = c.requires.last.0 in omega arith in
    let free : c.to_word-free.result ≡ 4 * (the_desk c.args.seat.now.me.0).log.last = let word = c.to_word-free.ensures in let last = c.requires.last.0 in omega arith in (
      table.0,
      inside,
      left_at g.R.Meaning.fits c.args.words.now.key.key.value c.args.words.now.key.slots _ _ c.args.seat.now.me c.args.slot c.requires.desk c.to_word-waiting.result c.to_word-free.result waiting free c.requires.«open».0 c.requires.«open».1,
    )
