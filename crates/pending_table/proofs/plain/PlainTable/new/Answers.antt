use Rattle.pending_table.proofs.Sitting.{unused_sit}
use Rattle.pending_table.proofs.plain.PlainTable.new.Goals as goal

pub invariant_of-result-clause-sits : goal.invariant_of-result-clause-sits
invariant_of-result-clause-sits g c = ∣ unused_sit g.R.Fits.fits c.of.result.value c.begin.result.value c.in_ok-slots.slots.items c.in_ok-slots.ensures.unused ∣₁
