use Rattle.std.proofs.Common.{rules, ap, sym, refl, ◌∙◌, true}
use Rattle.pending_table.specs.PlainSlots.{held_after_abandon, left}
use Rattle.pending_table.proofs.Answering.{leave_at, open_here}
use Rattle.pending_table.proofs.Sitting.{grows_same, kept_by, sits_left}
use Rattle.pending_table.proofs.Slots.{keeps_others, held_here, open_inside, puts}
use Rattle.pending_table.proofs.plain.desk.PlainDeskDesk.abandon.Goals as goal

pub index_mut-requires : goal.index_mut-requires
index_mut-requires g c = let inside = open_inside c.args.self.now.table.now.slots.items c.args.self.now.slot c.requires.«open» in search (rules, inside)

pub abandon-requires : goal.abandon-requires
abandon-requires g c =
    let table = c.args.self.now.table.now in
    record { «open» = open_here table.slots.items c.args.self.now.slot c.index_mut.result.now true (open_inside table.slots.items c.args.self.now.slot c.requires.«open») c.index_mut.ensures.value c.requires.«open» }

pub invariant_of-table-clause-sits : goal.invariant_of-table-clause-sits
invariant_of-table-clause-sits g c =
    let table = c.args.self.now.table.now in
    let slot = c.index_mut.result.now in
    kept_by g.R.Fits.fits table.key.value table.window.value table.window.value (grows_same _ _ refl refl) table.slots.items c.args.self.now.slot slot c.abandon.new.self
    (open_inside table.slots.items c.args.self.now.slot c.requires.«open») c.index_mut.ensures.value
    (sits_left g.R.Fits.fits table.key.value table.window.value slot c.abandon.new.self c.abandon.ensures.held c.abandon.ensures.log) table.sits

pub returns-clause-answer : goal.returns-clause-answer
returns-clause-answer g c =
    let table = c.args.self.now.table.now in
    leave_at table.slots.items c.args.self.now.slot c.index_mut.result.now c.abandon.new.self c.abandon.result (open_inside table.slots.items c.args.self.now.slot c.requires.«open») c.index_mut.ensures.value c.requires.«open»
    c.abandon.ensures.answer c.abandon.ensures.log

pub returns-clause-told : goal.returns-clause-told
returns-clause-told g c =
    let table = c.args.self.now.table.now in
    c.abandon.ensures.answer ∙ ap left (sym (held_here table.slots.items c.args.self.now.slot c.index_mut.result.now (open_inside table.slots.items c.args.self.now.slot c.requires.«open») c.index_mut.ensures.value))

pub returns-clause-slots : goal.returns-clause-slots
returns-clause-slots g c =
    let table = c.args.self.now.table.now in
    let inside = open_inside table.slots.items c.args.self.now.slot c.requires.«open» in
    puts table.slots.items c.args.self.now.slot c.abandon.new.self _ inside
    (c.abandon.ensures.held ∙ ap held_after_abandon (sym (held_here table.slots.items c.args.self.now.slot c.index_mut.result.now inside c.index_mut.ensures.value)))

pub returns-clause-others : goal.returns-clause-others
returns-clause-others g c = keeps_others _ _ _ c.args.self.now.table.now.lost _ c.args.self.now.table.now.window.value (returns-clause-slots g c)
