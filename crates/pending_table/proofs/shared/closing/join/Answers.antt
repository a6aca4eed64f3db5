use Rattle.pending_table.proofs.SharedCuts.{joins}
use Rattle.pending_table.proofs.shared.closing.join.Goals as goal

pub join_seat-requires : goal.join_seat-requires
join_seat-requires g c =
    let own = c.requires.own in
    (own.0, own.1, c.requires.bare, own.2, joins g.R.Meaning.fits c.args.words.now.key.key.value c.args.words.now.key.slots _ c.args.first.now.me.0 _ c.args.others.me.0)
