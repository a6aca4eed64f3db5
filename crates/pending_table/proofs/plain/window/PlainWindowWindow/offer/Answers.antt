use Rattle.std.proofs.Common.{rules, ap, refl, ◌≡◌, ◌∙◌, ◌/◌, ◌%◌, [], ◌∷◌, ◌<◌, length, slice_get}
use Rattle.pending_table.specs.PlainSlots.{shown}
use Rattle.pending_table.specs.WindowLogs.{claim}
use Rattle.pending_table.specs.Words.{slot_of}
use Rattle.pending_table.proofs.Deciding.{offered_decides}
use Rattle.pending_table.proofs.Sitting.{get_last, grows_by, grows_same, kept_by, sits_offered}
use Rattle.pending_table.proofs.Slots.{dropped_at, keeps_desks, resolved_at}
use Rattle.pending_table.specs.declared.word.SlotState.TheVariants as state
use Rattle.pending_table.proofs.plain.window.PlainWindowWindow.offer.Goals as goal

pub invariant_of-table-clause-sits : goal.invariant_of-table-clause-sits
invariant_of-table-clause-sits g c =
    let table = c.args.self.now.table.now in
    let slot = c.index_mut-at.result.now in
    let i = c.args.id / 16 % c.len-count.result in
    let inside : i < length table.slots.items = search rules in
    kept_by g.R.Fits.fits table.key.value table.window.value c.extended.result.value
    (grows_same table.window.value c.extended.result.value (ap (λ w. w.claims) c.extended.ensures) (ap (λ w. w.set) c.extended.ensures)) table.slots.items i slot slot
    inside c.index_mut-at.ensures.value (λ sits. sits) table.sits

pub returns-then-ne-clause-slots : goal.returns-then-ne-clause-slots
returns-then-ne-clause-slots g c =
    let table = c.args.self.now.table.now in
    let i = c.args.id / 16 % c.len-count.result in
    let inside : i < length table.slots.items = search rules in
    let place : i ≡ slot_of (length table.slots.items) c.args.id = search rules in
    dropped_at table.slots.items i c.args.id c.word-seen.result c.index_mut-at.result.now place inside c.index_mut-at.ensures.value c.word-seen.ensures

pub invariant_of-table-2-clause-sits : goal.invariant_of-table-2-clause-sits
invariant_of-table-2-clause-sits g c =
    let table = c.args.self.now.table.now in
    let slot = c.index_mut-at.result.now in
    let i = c.args.id / 16 % c.len-count.result in
    let inside : i < length table.slots.items = search rules in
    let old = table.window.value in
    let new = c.extended-2.result.value in
    let claims = ap (λ w. w.claims) c.extended-2.ensures in
    kept_by g.R.Fits.fits table.key.value old new (grows_by old new (claim c.args.id c.args.given ∷ []) claims (ap (λ w. w.set) c.extended-2.ensures)) table.slots.items i slot c.claim.new.self
    inside c.index_mut-at.ensures.value
    (sits_offered g.R.Fits.fits table.key.value new slot c.claim.new.self c.args.id c.args.given c.claim.ensures.held (ap (λ l. l.value) c.claim.ensures.log) c.requires.fits
    (0, new, refl, (length old.claims, ap (λ l. slice_get l (length old.claims)) claims ∙ get_last old.claims (claim c.args.id c.args.given)))) table.sits

pub returns-clause-slots : goal.returns-clause-slots
returns-clause-slots g c =
    let table = c.args.self.now.table.now in
    let slot = c.index_mut-at.result.now in
    let i = c.args.id / 16 % c.len-count.result in
    let inside : i < length table.slots.items = search rules in
    let place : i ≡ slot_of (length table.slots.items) c.args.id = search rules in
    let waits : shown slot.held ≡ state.Waiting c.args.id = search rules in
    resolved_at table.slots.items i c.args.id c.args.given slot c.claim.new.self place inside c.index_mut-at.ensures.value waits c.claim.ensures.held (ap (λ l. l.value) c.claim.ensures.log)

pub returns-then-ne-clause-desks : goal.returns-then-ne-clause-desks
returns-then-ne-clause-desks g c =
    let table = c.args.self.now.table.now in
    let slot = c.index_mut-at.result.now in
    let i = c.args.id / 16 % c.len-count.result in
    let inside : i < length table.slots.items = search rules in
    keeps_desks table.slots.items i slot slot inside c.index_mut-at.ensures.value refl

pub returns-clause-desks : goal.returns-clause-desks
returns-clause-desks g c =
    let table = c.args.self.now.table.now in
    let slot = c.index_mut-at.result.now in
    let i = c.args.id / 16 % c.len-count.result in
    let inside : i < length table.slots.items = search rules in
    keeps_desks table.slots.items i slot c.claim.new.self inside c.index_mut-at.ensures.value (ap (λ l. l.value) c.claim.ensures.log)

pub returns-then-ne-clause-decides : goal.returns-then-ne-clause-decides
returns-then-ne-clause-decides g c =
    let table = c.args.self.now.table.now in
    offered_decides c.args.id table.lost c.args.given _ table.slots.items _ table.window.value c.extended.result.value (returns-then-ne-clause-slots g c)

pub returns-clause-decides : goal.returns-clause-decides
returns-clause-decides g c =
    let table = c.args.self.now.table.now in
    offered_decides c.args.id table.lost c.args.given _ table.slots.items _ table.window.value c.extended-2.result.value (returns-clause-slots g c)
