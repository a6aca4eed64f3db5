use Rattle.std.proofs.Common.{ap, sym, refl, ◌∙◌, false}
use Rattle.pending_table.specs.DeskLogs.{opened_log}
use Rattle.pending_table.proofs.Answering.{open_here}
use Rattle.pending_table.proofs.Sitting.{grows_same, kept_by, sits_opened}
use Rattle.pending_table.proofs.Slots.{keeps_others, log_here, log_set, placed, puts}
use Rattle.pending_table.proofs.plain.desk.PlainDeskDesk.open.Goals as goal

pub open-requires-clause-free : goal.open-requires-clause-free
open-requires-clause-free g c =
    let table = c.args.self.now.table.now in
    open_here table.slots.items c.args.self.now.slot c.index_mut.result.now false (placed _ _ _ table.some c.requires.place) c.index_mut.ensures.value c.requires.free

pub invariant_of-table-clause-sits : goal.invariant_of-table-clause-sits
invariant_of-table-clause-sits g c =
    let table = c.args.self.now.table.now in
    let slot = c.index_mut.result.now in
    kept_by g.R.Fits.fits table.key.value table.window.value table.window.value (grows_same _ _ refl refl) table.slots.items c.args.self.now.slot slot c.open.new.self
    (placed _ _ _ table.some c.requires.place) c.index_mut.ensures.value
    (sits_opened g.R.Fits.fits table.key.value table.window.value slot c.open.new.self c.args.id c.open.ensures.held (ap (λ d. d.ended) c.open.ensures.log)) table.sits

pub returns-clause-opened : goal.returns-clause-opened
returns-clause-opened g c =
    let table = c.args.self.now.table.now in
    let inside = placed _ _ _ table.some c.requires.place in
    log_set table.slots.items c.args.self.now.slot c.open.new.self inside
    ∙ (c.open.ensures.log ∙ ap (opened_log c.args.id c.args.deadline) (sym (log_here table.slots.items c.args.self.now.slot c.index_mut.result.now inside c.index_mut.ensures.value)))

pub returns-clause-slots : goal.returns-clause-slots
returns-clause-slots g c =
    let table = c.args.self.now.table.now in
    puts table.slots.items c.args.self.now.slot c.open.new.self _ (placed _ _ _ table.some c.requires.place) c.open.ensures.held

pub returns-clause-others : goal.returns-clause-others
returns-clause-others g c = keeps_others _ _ _ c.args.self.now.table.now.lost _ c.args.self.now.table.now.window.value (returns-clause-slots g c)
