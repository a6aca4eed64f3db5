use Rattle.std.proofs.Common.{◌≤◌, ◌+◌, ◌*◌, ◌∙◌, sym, ap, arith}
use Rattle.pending_table.proofs.SharedScans.{shows_id, dated_slot, still_due, due_last, missed_due, claimed_slot}
use Rattle.pending_table.proofs.shared.window_calls.scan_slot.Goals as goal

pub returns-then-now-deadline-clause-scanned : goal.returns-then-now-deadline-clause-scanned
returns-then-now-deadline-clause-scanned g c =
    let me = c.args.seat.now.me in
    let word = c.load_next-word in
    let id = c.in-Waiting.id in
    let shows = shows_id id word.result c.in-Waiting.ensures in
    let deadline = c.load_deadline-deadline in
    let dated = dated_slot c.args.words.now.key.key.value c.args.now c.args.slot word.result id deadline.result shows me word.new.seat.me deadline.new.seat.me c.requires.window c.args.words.now.table_id.slots (c.args.slots + c.args.slot) word.ensures.told deadline.ensures.told in
    still_due c.args.words.now.key.key.value c.args.now c.args.slot word.result id deadline.result shows me word.new.seat.me deadline.new.seat.me c.requires.window dated c.if-now-deadline.true

pub claim_due-found-requires-clause-due : goal.claim_due-found-requires-clause-due
claim_due-found-requires-clause-due g c =
    let me = c.args.seat.now.me in
    let word = c.load_next-word in
    let id = c.in-Waiting.id in
    let shows = shows_id id word.result c.in-Waiting.ensures in
    let deadline = c.load_deadline-deadline in
    let dated = dated_slot c.args.words.now.key.key.value c.args.now c.args.slot word.result id deadline.result shows me word.new.seat.me deadline.new.seat.me c.requires.window c.args.words.now.table_id.slots (c.args.slots + c.args.slot) word.ensures.told deadline.ensures.told in
    let come : deadline.result ≤ c.args.now = let no = c.if-now-deadline.false in omega arith in
    due_last c.args.words.now.key.key.value c.args.now c.args.slot word.result id deadline.result shows me word.new.seat.me deadline.new.seat.me c.requires.window dated come

pub returns-then-found-word-clause-scanned : goal.returns-then-found-word-clause-scanned
returns-then-found-word-clause-scanned g c =
    let me = c.args.seat.now.me in
    let word = c.load_next-word in
    let id = c.in-Waiting.id in
    let shows = shows_id id word.result c.in-Waiting.ensures in
    let deadline = c.load_deadline-deadline in
    let found = c.claim_due-found in
    let dated = dated_slot c.args.words.now.key.key.value c.args.now c.args.slot word.result id deadline.result shows me word.new.seat.me deadline.new.seat.me c.requires.window c.args.words.now.table_id.slots (c.args.slots + c.args.slot) word.ensures.told deadline.ensures.told in
    let come : deadline.result ≤ c.args.now = let no = c.if-now-deadline.false in omega arith in
    let is = c.if-found-word.true ∙ sym c.in-Waiting.ensures in
    claimed_slot c.args.words.now.key.key.value c.args.now c.args.slot word.result id deadline.result shows me word.new.seat.me deadline.new.seat.me c.requires.window
    found.new.seat.me c.exchange-was.new.seat.me c.store_done.new.seat.me c.args.words.now.table_id.slots c.args.slot (4 * (id + 1) + 3) found.result dated come is found.ensures.told
    (ap (λ m. m.0) c.exchange-was.ensures.3) c.store_done.ensures.told

pub returns-clause-scanned : goal.returns-clause-scanned
returns-clause-scanned g c =
    let me = c.args.seat.now.me in
    let word = c.load_next-word in
    let id = c.in-Waiting.id in
    let shows = shows_id id word.result c.in-Waiting.ensures in
    let deadline = c.load_deadline-deadline in
    let found = c.claim_due-found in
    let dated = dated_slot c.args.words.now.key.key.value c.args.now c.args.slot word.result id deadline.result shows me word.new.seat.me deadline.new.seat.me c.requires.window c.args.words.now.table_id.slots (c.args.slots + c.args.slot) word.ensures.told deadline.ensures.told in
    let come : deadline.result ≤ c.args.now = let no = c.if-now-deadline.false in omega arith in
    let other = c.if-found-word.false in
    missed_due c.args.words.now.key.key.value c.args.now c.args.slot word.result id deadline.result shows me word.new.seat.me deadline.new.seat.me c.requires.window
    found.new.seat.me c.args.words.now.table_id.slots found.result dated come (λ e. other (e ∙ c.in-Waiting.ensures)) found.ensures.told
