use Rattle.std.proofs.Common.{subst}
use Rattle.std.specs.Prelude.{All}
use Rattle.call_plan.specs.Size.{IsSmall}
use Rattle.call_plan.proofs.Scripting.{calls_few}
use Rattle.call_plan.proofs.Sizing.{all_fit}
use Rattle.call_plan.proofs.scripts.Script.read.Goals as goal

pub invariant_of-result : goal.invariant_of-result
invariant_of-result c =
    let draft = (c.in_ok-draft.ensures {u = tt}).ok in
    let small = rw c.in-None.is at (c.in_ok-line.ensures {u = tt}) in
    record {
      few = calls_few _ c.in_ok-draft.draft.services c.in_ok-draft.draft.calls.items draft.good;
      each = all_fit c.in_ok-draft.draft.calls.items draft.ready (subst (All IsSmall) c.deref.ensures.value small);
    }
