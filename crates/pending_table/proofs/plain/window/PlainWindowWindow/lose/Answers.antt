use Rattle.std.proofs.Common.{ap, ◌∙◌}
use Rattle.pending_table.proofs.Deciding.{lost_decides}
use Rattle.pending_table.proofs.Sitting.{grows_same, grows_set, kept_on}
use Rattle.pending_table.proofs.plain.window.PlainWindowWindow.lose.Goals as goal

pub invariant_of-table-clause-sits : goal.invariant_of-table-clause-sits
invariant_of-table-clause-sits g c =
    let table = c.args.self.now.table.now in
    kept_on g.R.Fits.fits table.key.value table.window.value c.extended.result.value
    (grows_same table.window.value c.extended.result.value (ap (λ w. w.claims) c.extended.ensures) (ap (λ w. w.set) c.extended.ensures)) table.slots.items table.sits

pub invariant_of-table-2-clause-sits : goal.invariant_of-table-2-clause-sits
invariant_of-table-2-clause-sits g c =
    let table = c.args.self.now.table.now in
    kept_on g.R.Fits.fits table.key.value table.window.value c.extended-2.result.value
    (grows_set table.window.value c.extended-2.result.value (ap (λ w. w.claims) c.extended-2.ensures) (table.set_is ∙ c.if-table-ne0.false)) table.slots.items table.sits

pub returns-then-table-ne0-clause-decides : goal.returns-then-table-ne0-clause-decides
returns-then-table-ne0-clause-decides g c =
    let table = c.args.self.now.table.now in
    lost_decides table.lost table.lost table.slots.items table.window.value c.extended.result.value c.if-table-ne0.true

pub returns-clause-decides : goal.returns-clause-decides
returns-clause-decides g c =
    let table = c.args.self.now.table.now in
    lost_decides table.lost c.args.number table.slots.items table.window.value c.extended-2.result.value c.requires.number
