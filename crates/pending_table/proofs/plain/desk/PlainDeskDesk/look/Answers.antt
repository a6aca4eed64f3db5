use Rattle.std.proofs.Common.{rules, ap, sym, refl, ◌∙◌, true}
use Rattle.pending_table.specs.PlainSlots.{held_after_look}
use Rattle.pending_table.proofs.Answering.{look_at, look_told, open_here}
use Rattle.pending_table.proofs.Sitting.{grows_same, kept_by, sits_looked, suit_here}
use Rattle.pending_table.proofs.Slots.{keeps_others, held_here, open_inside, puts}
use Rattle.pending_table.proofs.plain.desk.PlainDeskDesk.look.Goals as goal

pub index_mut-requires : goal.index_mut-requires
index_mut-requires g c = let inside = open_inside c.args.self.now.table.now.slots.items c.args.self.now.slot c.requires.«open» in search (rules, inside)

pub look-requires : goal.look-requires
look-requires g c =
    let table = c.args.self.now.table.now in
    record { «open» = open_here table.slots.items c.args.self.now.slot c.index_mut.result.now true (open_inside table.slots.items c.args.self.now.slot c.requires.«open») c.index_mut.ensures.value c.requires.«open» }

pub invariant_of-table-clause-sits : goal.invariant_of-table-clause-sits
invariant_of-table-clause-sits g c =
    let table = c.args.self.now.table.now in
    let slot = c.index_mut.result.now in
    kept_by g.R.Fits.fits table.key.value table.window.value table.window.value (grows_same _ _ refl refl) table.slots.items c.args.self.now.slot slot c.look.new.self
    (open_inside table.slots.items c.args.self.now.slot c.requires.«open») c.index_mut.ensures.value
    (sits_looked g.R.Fits.fits table.key.value table.window.value slot c.look.new.self table.lost table.set_is c.look.ensures.held c.look.ensures.log) table.sits

pub returns-clause-answer : goal.returns-clause-answer
returns-clause-answer g c =
    let table = c.args.self.now.table.now in
    let slot = c.index_mut.result.now in
    let inside = open_inside table.slots.items c.args.self.now.slot c.requires.«open» in
    look_at g.R.Fits.fits table.key.value table.slots.items c.args.self.now.slot table.lost slot c.look.new.self c.look.result inside c.index_mut.ensures.value c.requires.«open»
    (suit_here g.R.Fits.fits table.key.value g.R.Fits.sole table.window.value table.slots.items c.args.self.now.slot slot inside c.index_mut.ensures.value table.sits)
    c.look.ensures.answer c.look.ensures.log

pub returns-clause-told : goal.returns-clause-told
returns-clause-told g c =
    let table = c.args.self.now.table.now in
    look_told table.slots.items c.args.self.now.slot table.lost c.index_mut.result.now c.look.result (open_inside table.slots.items c.args.self.now.slot c.requires.«open») c.index_mut.ensures.value c.look.ensures.answer

pub returns-clause-slots : goal.returns-clause-slots
returns-clause-slots g c =
    let table = c.args.self.now.table.now in
    let inside = open_inside table.slots.items c.args.self.now.slot c.requires.«open» in
    puts table.slots.items c.args.self.now.slot c.look.new.self _ inside
    (c.look.ensures.held ∙ ap (λ h. held_after_look h table.lost) (sym (held_here table.slots.items c.args.self.now.slot c.index_mut.result.now inside c.index_mut.ensures.value)))

pub returns-clause-others : goal.returns-clause-others
returns-clause-others g c = keeps_others _ _ _ c.args.self.now.table.now.lost _ c.args.self.now.table.now.window.value (returns-clause-slots g c)
