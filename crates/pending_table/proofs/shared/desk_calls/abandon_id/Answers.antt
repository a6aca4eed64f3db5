use Rattle.std.proofs.Common.{◌+◌, ◌*◌, ◌∙◌, sym, arith}
use Rattle.pending_table.specs.SharedPlays.{the_desk}
use Rattle.pending_table.proofs.SharedAnswers.{left_free, left_claimed, left_waiting, left_met}
use Rattle.pending_table.proofs.SharedCalls.{went_freed, went_loaded}
use Rattle.pending_table.proofs.shared.desk_calls.abandon_id.Goals as goal

pub returns-then-found-waiting-clause-answer : goal.returns-then-found-waiting-clause-answer
returns-then-found-waiting-clause-answer g c =
    let me = c.args.seat.now.me in
    let found = c.leave_waiting-found in
    let told = left_waiting g.R.Meaning.fits c.args.words.now.key.key.value c.args.words.now.table_id.slots c.args.slot (c.args.id + 1) (4 * (c.args.id + 1) + 0) me found.new.seat.me found.result c.requires.last.0 found.ensures.told (c.if-found-waiting.true ∙ c.to_word-waiting.ensures) in
    let after = went_freed c.args.words.now.key.key.value c.args.slot me found.new.seat.me c.requires.desk found.result _ told in
    left_free (the_desk me.0).log (c.args.id + 1) c.requires.last.0 (omega arith) found.result _ (c.if-found-waiting.true ∙ c.to_word-waiting.ensures) after.log

pub returns-clause-answer : goal.returns-clause-answer
returns-clause-answer g c =
    let me = c.args.seat.now.me in
    let found = c.leave_waiting-found in
    let told = left_met g.R.Meaning.fits c.args.words.now.key.key.value c.args.words.now.table_id.slots c.args.slot (c.args.id + 1) (4 * (c.args.id + 1) + 0) me found.new.seat.me found.result c.requires.last.0 found.ensures.told (λ e. c.if-found-waiting.false (e ∙ sym c.to_word-waiting.ensures)) in
    let after = went_loaded c.args.words.now.key.key.value c.args.slot me found.new.seat.me c.requires.desk found.result told.1 in
    left_claimed (the_desk me.0).log (c.args.id + 1) c.requires.last.0 (omega arith) found.result _ told.0 after.log
