use Rattle.std.proofs.Common.{◌+◌, ◌*◌, ◌∙◌, sym, arith}
use Rattle.pending_table.specs.DeskLogs.{state_read, lost_read}
use Rattle.pending_table.specs.SharedPlays.{the_desk}
use Rattle.pending_table.proofs.SharedAnswers.{ready, pending_claimed, pending_waiting, ready_later, claimed_later, lost_later, looked_done, looked_claimed, looked_waiting, lost_done, lost_claimed, lost_waiting, took_it, emptied_it}
use Rattle.pending_table.proofs.SharedCalls.{went_loaded, went_asked, went_lost, read_twice}
use Rattle.pending_table.proofs.shared.desk_calls.look_at.Goals as goal

pub returns-then-found-done-clause-answer : goal.returns-then-found-done-clause-answer
returns-then-found-done-clause-answer g c =
    let me = c.args.seat.now.me in
    let found = c.load_state-found in
    let told = looked_done g.R.Meaning.fits c.args.words.now.key.key.value c.args.words.now.table_id.slots c.args.slot (c.args.id + 1) me found.new.seat.me found.result c.requires.last.0 found.ensures.told (c.if-found-done.true ∙ c.to_word-done.ensures) in
    let took = took_it g.R.Meaning.fits c.args.words.now.key.key.value c.args.slot c.args.words.now.table_id.slots 0 0 found.result me found.new.seat.me c.requires.desk told in
    let end = emptied_it g.R.Meaning.fits c.args.words.now.key.key.value c.args.slot found.result me found.new.seat.me c.take_value.new.seat.me c.take_value.result took c.take_value.ensures.given c.take_value.ensures.me in
    ready g.R.Meaning.fits c.args.words.now.key.key.value (the_desk me.0).log (c.args.id + 1) c.requires.last.0 (omega arith) (the_desk me.0).log.reads found.result c.take_value.result _ (omega arith) (c.if-found-done.true ∙ c.to_word-done.ensures) end.suits end.log

pub returns-then-found-claimed-clause-answer : goal.returns-then-found-claimed-clause-answer
returns-then-found-claimed-clause-answer g c =
    let me = c.args.seat.now.me in
    let found = c.load_state-found in
    let told = looked_claimed g.R.Meaning.fits c.args.words.now.key.key.value c.args.words.now.table_id.slots c.args.slot (c.args.id + 1) me found.new.seat.me found.result c.requires.last.0 found.ensures.told (λ e. c.if-found-done.false (e ∙ sym c.to_word-done.ensures)) in
    let first = went_loaded c.args.words.now.key.key.value c.args.slot me found.new.seat.me c.requires.desk found.result told in
    pending_claimed g.R.Meaning.fits c.args.words.now.key.key.value (the_desk me.0).log (c.args.id + 1) c.requires.last.0 (omega arith) (the_desk me.0).log.reads found.result _ (omega arith) (c.if-found-claimed.true ∙ c.to_word-claimed.ensures) first.log

pub returns-then-number-eq0-clause-answer : goal.returns-then-number-eq0-clause-answer
returns-then-number-eq0-clause-answer g c =
    let me = c.args.seat.now.me in
    let found = c.load_state-found in
    let told = looked_claimed g.R.Meaning.fits c.args.words.now.key.key.value c.args.words.now.table_id.slots c.args.slot (c.args.id + 1) me found.new.seat.me found.result c.requires.last.0 found.ensures.told (λ e. c.if-found-done.false (e ∙ sym c.to_word-done.ensures)) in
    let first = went_loaded c.args.words.now.key.key.value c.args.slot me found.new.seat.me c.requires.desk found.result told in
    let number = c.load_lost-number in
    let second = went_asked c.args.words.now.key.key.value c.args.slot found.new.seat.me number.new.seat.me first.desk number.result number.ensures.told in
    let before = read_twice c.args.words.now.key.key.value c.args.slot me found.new.seat.me number.new.seat.me c.requires.desk found.result number.result first second.part in
    let waits = looked_waiting g.R.Meaning.fits c.args.words.now.key.key.value c.args.words.now.table_id.slots c.args.slot (c.args.id + 1) me found.new.seat.me found.result c.requires.last.0 found.ensures.told (λ e. c.if-found-done.false (e ∙ sym c.to_word-done.ensures)) (λ e. c.if-found-claimed.false (e ∙ sym c.to_word-claimed.ensures)) in
    pending_waiting g.R.Meaning.fits c.args.words.now.key.key.value (the_desk me.0).log (c.args.id + 1) c.requires.last.0 (omega arith) found.result number.result _ waits c.if-number-eq0.true before

pub returns-then-met-done-clause-answer : goal.returns-then-met-done-clause-answer
returns-then-met-done-clause-answer g c =
    let me = c.args.seat.now.me in
    let found = c.load_state-found in
    let told = looked_claimed g.R.Meaning.fits c.args.words.now.key.key.value c.args.words.now.table_id.slots c.args.slot (c.args.id + 1) me found.new.seat.me found.result c.requires.last.0 found.ensures.told (λ e. c.if-found-done.false (e ∙ sym c.to_word-done.ensures)) in
    let first = went_loaded c.args.words.now.key.key.value c.args.slot me found.new.seat.me c.requires.desk found.result told in
    let number = c.load_lost-number in
    let second = went_asked c.args.words.now.key.key.value c.args.slot found.new.seat.me number.new.seat.me first.desk number.result number.ensures.told in
    let before = read_twice c.args.words.now.key.key.value c.args.slot me found.new.seat.me number.new.seat.me c.requires.desk found.result number.result first second.part in
    let met = c.lose_waiting-met in
    let last_is = second.last ∙ (first.last ∙ c.requires.last.0) in
    let reads = lost_read number.result (state_read found.result (the_desk me.0).log.reads) in
    let again = lost_done g.R.Meaning.fits c.args.words.now.key.key.value c.args.words.now.table_id.slots c.args.slot (c.args.id + 1) (4 * (c.args.id + 1) + 0) number.new.seat.me met.new.seat.me met.result last_is met.ensures.told (c.if-met-done.true ∙ c.to_word-done.ensures) in
    let took = took_it g.R.Meaning.fits c.args.words.now.key.key.value c.args.slot c.args.words.now.table_id.slots (4 * (c.args.id + 1) + 1) (4 * (c.args.id + 1) + 0) met.result number.new.seat.me met.new.seat.me second.desk again in
    let taken = c.take_value-then-met-done in
    let end = emptied_it g.R.Meaning.fits c.args.words.now.key.key.value c.args.slot met.result number.new.seat.me met.new.seat.me taken.new.seat.me taken.result took taken.ensures.given taken.ensures.me in
    ready_later g.R.Meaning.fits c.args.words.now.key.key.value (the_desk me.0).log (c.args.id + 1) c.requires.last.0 (omega arith) reads met.result taken.result _ _ before (omega arith) (c.if-met-done.true ∙ c.to_word-done.ensures) end.suits end.log

pub returns-then-met-claimed-clause-answer : goal.returns-then-met-claimed-clause-answer
returns-then-met-claimed-clause-answer g c =
    let me = c.args.seat.now.me in
    let found = c.load_state-found in
    let told = looked_claimed g.R.Meaning.fits c.args.words.now.key.key.value c.args.words.now.table_id.slots c.args.slot (c.args.id + 1) me found.new.seat.me found.result c.requires.last.0 found.ensures.told (λ e. c.if-found-done.false (e ∙ sym c.to_word-done.ensures)) in
    let first = went_loaded c.args.words.now.key.key.value c.args.slot me found.new.seat.me c.requires.desk found.result told in
    let number = c.load_lost-number in
    let second = went_asked c.args.words.now.key.key.value c.args.slot found.new.seat.me number.new.seat.me first.desk number.result number.ensures.told in
    let before = read_twice c.args.words.now.key.key.value c.args.slot me found.new.seat.me number.new.seat.me c.requires.desk found.result number.result first second.part in
    let met = c.lose_waiting-met in
    let last_is = second.last ∙ (first.last ∙ c.requires.last.0) in
    let reads = lost_read number.result (state_read found.result (the_desk me.0).log.reads) in
    let again = lost_claimed g.R.Meaning.fits c.args.words.now.key.key.value c.args.words.now.table_id.slots c.args.slot (c.args.id + 1) (4 * (c.args.id + 1) + 0) number.new.seat.me met.new.seat.me met.result last_is met.ensures.told (c.if-met-claimed.true ∙ c.to_word-claimed.ensures) in
    let end = went_loaded c.args.words.now.key.key.value c.args.slot number.new.seat.me met.new.seat.me second.desk met.result again in
    claimed_later g.R.Meaning.fits c.args.words.now.key.key.value (the_desk me.0).log (c.args.id + 1) c.requires.last.0 (omega arith) reads met.result _ _ before (omega arith) (c.if-met-claimed.true ∙ c.to_word-claimed.ensures) end.log

pub returns-clause-answer : goal.returns-clause-answer
returns-clause-answer g c =
    let me = c.args.seat.now.me in
    let found = c.load_state-found in
    let told = looked_claimed g.R.Meaning.fits c.args.words.now.key.key.value c.args.words.now.table_id.slots c.args.slot (c.args.id + 1) me found.new.seat.me found.result c.requires.last.0 found.ensures.told (λ e. c.if-found-done.false (e ∙ sym c.to_word-done.ensures)) in
    let first = went_loaded c.args.words.now.key.key.value c.args.slot me found.new.seat.me c.requires.desk found.result told in
    let number = c.load_lost-number in
    let second = went_asked c.args.words.now.key.key.value c.args.slot found.new.seat.me number.new.seat.me first.desk number.result number.ensures.told in
    let before = read_twice c.args.words.now.key.key.value c.args.slot me found.new.seat.me number.new.seat.me c.requires.desk found.result number.result first second.part in
    let met = c.lose_waiting-met in
    let last_is = second.last ∙ (first.last ∙ c.requires.last.0) in
    let reads = lost_read number.result (state_read found.result (the_desk me.0).log.reads) in
    let again = lost_waiting g.R.Meaning.fits c.args.words.now.key.key.value c.args.words.now.table_id.slots c.args.slot (c.args.id + 1) (4 * (c.args.id + 1) + 0) number.new.seat.me met.new.seat.me met.result last_is met.ensures.told (λ e. c.if-met-done.false (e ∙ sym c.to_word-done.ensures)) (λ e. c.if-met-claimed.false (e ∙ sym c.to_word-claimed.ensures)) in
    let end = went_lost c.args.words.now.key.key.value c.args.slot number.new.seat.me met.new.seat.me second.desk met.result again.1 in
    lost_later g.R.Meaning.fits c.args.words.now.key.key.value (the_desk me.0).log (c.args.id + 1) c.requires.last.0 (omega arith) found.result met.result number.result _ _ before again.0 c.if-number-eq0.false end.log
