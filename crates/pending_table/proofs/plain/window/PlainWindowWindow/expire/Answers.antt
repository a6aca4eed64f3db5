use Rattle.std.proofs.Common.{◌≡◌, rules, ap, subst, sym, ◌∙◌, length, length-set, ◌<◌, ◌≤◌}
use Rattle.pending_table.specs.Beside.{Decides}
use Rattle.pending_table.specs.PlainTables.{all_beside, log_at}
use Rattle.pending_table.specs.WindowAnswers.{IsChecked}
use Rattle.pending_table.proofs.Deciding.{scanned_decides}
use Rattle.pending_table.proofs.Scanning.{checked_more, expired_more, one_longer, scan_kept, scanned_all, scanned_more, sight_checked}
use Rattle.pending_table.proofs.Sitting.{grows_same, kept_on}
use Rattle.pending_table.proofs.plain.window.PlainWindowWindow.expire.Goals as goal

pub invariant_of-table-clause-sits : goal.invariant_of-table-clause-sits
invariant_of-table-clause-sits g c =
    let table = c.args.self.now.table.now in
    kept_on g.R.Fits.fits table.key.value table.window.value c.extended.result.value
    (grows_same table.window.value c.extended.result.value (ap (λ w. w.claims) c.extended.ensures) (ap (λ w. w.set) c.extended.ensures)) table.slots.items table.sits

pub invariant_of-table-in-loop-slot-clause-sits : goal.invariant_of-table-in-loop-slot-clause-sits
invariant_of-table-in-loop-slot-clause-sits g c =
    let table = c.loop-slot.table in
    let inside : c.loop-slot.slot < length table.slots.items = search rules in
    let scan = c.expire-sight in
    scan_kept g.R.Fits.fits table.key.value c.args.now c.loop-slot.slot table.window.value c.extended-in-loop-slot.result.value table.slots.items c.index_mut.result.now scan.new.self scan.result
    inside c.index_mut.ensures.value scan.ensures.sight c.extended-in-loop-slot.ensures scan.ensures.held (ap (λ l. l.value) scan.ensures.log) table.sits

pub loop-slot-preserved : goal.loop-slot-preserved
loop-slot-preserved g c =
    let table = c.loop-slot.table in
    let i = c.loop-slot.invariant in
    let slot = c.index_mut.result.now in
    let inside : c.loop-slot.slot < length table.slots.items = search rules in
    let scan = c.expire-sight in
    let seen = c.extended-in-loop-slot.ensures in
    let sights = ap (λ w. w.sights) seen in
    let checked = subst (λ x. IsChecked c.args.now c.loop-slot.slot x) (sym scan.ensures.sight) (sight_checked c.args.now c.loop-slot.slot slot.log.value.deadline slot.held) in (
      i.0,
      i.1,
      length-set table.slots.items c.loop-slot.slot scan.new.self ∙ i.2,
      i.3,
      expired_more c.args.now c.extended.result.value table.window.value c.extended-in-loop-slot.result.value scan.result i.4 seen,
      ap length sights ∙ one_longer table.window.value.sights scan.result c.loop-slot.slot i.5,
      checked_more c.args.now c.loop-slot.slot table.window.value.sights c.extended-in-loop-slot.result.value.sights scan.result sights i.5 i.6 checked,
      scanned_more c.args.now c.loop-slot.slot c.args.self.now.table.now.slots.items table.slots.items slot scan.new.self inside c.index_mut.ensures.value (ap (λ l. l.value) scan.ensures.log) scan.ensures.held i.7,
    )

pub returns-clause-slots : goal.returns-clause-slots
returns-clause-slots g c =
    let all : length c.args.self.now.table.now.slots.items ≤ c.loop-slot.slot = search rules in
    scanned_all c.args.now c.loop-slot.slot c.args.self.now.table.now.slots.items c.loop-slot.table.slots.items all c.loop-slot.invariant.7

pub returns-clause-decides : goal.returns-clause-decides
returns-clause-decides g c =
    let table = c.args.self.now.table.now in
    let same : c.loop-slot.table.lost ≡ table.lost = c.loop-slot.invariant.1 in
    subst (λ n. Decides (λ number. (log_at table.slots.items number).deadline ≤ c.args.now) (all_beside table.slots.items table.lost table.window.value)
    (all_beside c.loop-slot.table.slots.items n c.loop-slot.table.window.value)) (sym same)
    (scanned_decides c.args.now table.lost table.slots.items c.loop-slot.table.slots.items table.window.value c.loop-slot.table.window.value (returns-clause-slots g c))
