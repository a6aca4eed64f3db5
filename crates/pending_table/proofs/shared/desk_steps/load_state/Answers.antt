use Rattle.std.proofs.Common.{◌<◌, arith}
use Rattle.pending_table.proofs.SharedAllows.{state_at}
use Rattle.pending_table.proofs.shared.desk_steps.load_state.Goals as goal

pub load-requires : goal.load-requires
load-requires g c =
    let table = c.requires.seated in
    let inside : c.args.slot < c.args.words.now.table_id.words = let words = table.1 in let low = c.requires.inside in omega arith in
    (table.0, inside, state_at g.R.Meaning.fits c.args.words.now.key.key.value c.args.words.now.key.slots _ _ c.args.seat.now.me c.args.slot c.requires.desk c.requires.«open».0 c.requires.«open».1)
