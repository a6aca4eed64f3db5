use Rattle.std.proofs.Common.{◌<◌, ◌∙◌, [], arith}
use Rattle.pending_table.proofs.SharedCutting.{cuts_next_window, windows_left, window_cut}
use Rattle.pending_table.proofs.shared.cutting.cut_window.Goals as goal

pub split_seat-requires : goal.split_seat-requires
split_seat-requires g c =
    let table = c.requires.seated in
    let some : 0 < c.args.words.now.table_id.words = let words = table.1 in omega arith in
    (table.0, some, cuts_next_window g.R.Meaning.fits c.args.words.now.key.key.value c.args.words.now.key.slots c.args.number c.requires.inside c.args.whole.now.me.0 c.requires.view _)

pub returns-clause-rest : goal.returns-clause-rest
returns-clause-rest g c =
    let left = windows_left g.R.Meaning.fits c.args.words.now.key.key.value c.args.words.now.key.slots c.args.number c.requires.inside c.args.whole.now.me.0 c.requires.view in
    c.split_seat.ensures.2 ∙ (λ i. (left i, c.args.whole.now.me.1))

pub returns-clause-window : goal.returns-clause-window
returns-clause-window g c =
    let cut = window_cut g.R.Meaning.fits c.args.words.now.key.key.value c.args.words.now.key.slots c.args.number c.requires.inside c.args.whole.now.me.0 c.requires.view in
    c.split_seat.ensures.4 ∙ (λ i. (cut i, []))
