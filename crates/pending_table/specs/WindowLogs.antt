-- The record of a window, and how calls change it.
use Rattle.std.specs.Prelude.{ℕ, List, [], ◌∷◌, ◌++◌}
use Rattle.pending_table.specs.declared.answers.Taken.{Taken}
use Rattle.pending_table.specs.declared.answers.Taken.TheVariants.{Timeout}
use Rattle.pending_table.specs.declared.logs.Claim.{Claim}
use Rattle.pending_table.specs.declared.logs.Sight.{Sight}
use Rattle.pending_table.specs.declared.logs.Sight.TheVariants.{Word, Due, Claimed, Missed}
use Rattle.pending_table.specs.declared.logs.WindowLog.{WindowLog}

module _ {R : Type 0} where
  abbrev pub claim : ℕ → Taken R → Claim R
  claim id given = record { id = id; given = given }

  -- the record of a window that has done nothing
  abbrev pub blank_window : WindowLog R
  blank_window = record { claims = []; set = 0; lost = 0; sights = [] }

  -- slots were seen, and that is all
  abbrev pub saw_log : List Sight → WindowLog R → WindowLog R
  saw_log sights log = record log { sights = sights }

  -- an id was claimed
  abbrev pub claimed_log : ℕ → Taken R → List Sight → WindowLog R → WindowLog R
  claimed_log id given sights log = record log { claims = log.claims ++ claim id given ∷ []; sights = sights }

  -- what a scan at this moment claims of the slots that it saw
  abbrev pub timeouts : ℕ → List Sight → List (Claim R)
  timeouts now [] = []
  timeouts now (Word slot word ∷ sights) = timeouts now sights
  timeouts now (Due slot id deadline ∷ sights) = timeouts now sights
  timeouts now (Claimed slot id deadline ∷ sights) = claim id (Timeout deadline now) ∷ timeouts now sights
  timeouts now (Missed slot id deadline word ∷ sights) = timeouts now sights

  -- slots were seen, and the ids that a scan at this moment found due were claimed
  abbrev pub expired_log : ℕ → List Sight → WindowLog R → WindowLog R
  expired_log now sights log = record log { claims = log.claims ++ timeouts now sights; sights = sights }

  -- a number was set as lost
  abbrev pub set_log : ℕ → WindowLog R → WindowLog R
  set_log number log = record log { set = number }

  -- another number was there already
  abbrev pub kept_log : ℕ → WindowLog R → WindowLog R
  kept_log number log = record log { lost = number }
