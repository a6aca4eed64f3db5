-- Direct transcripts, one line more.
use Rattle.std.proofs.Common.{ℕ, suc, ◌+◌, List, [], ◌∷◌, ◌++◌, length, sym, subst, append_assoc, arith}
use Rattle.std.proofs.lemmas.List.{append-nil}
use Rattle.service_table.specs.declared.row.Row.{Row}
use Rattle.call_plan.specs.declared.calls.Call.{Call}
use Rattle.call_plan.specs.DirectTranscript.{IsDirectLine, DirectLines}
use Rattle.call_plan.specs.DirectTranscript.DirectLines.{none, more}

pub one_more_line : (rows : List Row) (k : ℕ) (calls : List Call) (text : List ℕ) (call : Call) (line : List ℕ)
    → DirectLines rows k calls text → IsDirectLine rows (k + length calls) call line → DirectLines rows k (calls ++ call ∷ []) (text ++ line)
one_more_line rows _ _ _ call line (none k) last =
    let here : IsDirectLine rows k call line = subst (λ n. IsDirectLine rows n call line) (omega arith) last in
    subst (DirectLines rows k (call ∷ [])) (append-nil line) (more k call [] line [] here (none (suc k)))
one_more_line rows _ _ _ call line (more k first calls front rest here there) last =
    let next : IsDirectLine rows (suc k + length calls) call line = subst (λ n. IsDirectLine rows n call line) (omega arith) last in
    subst (DirectLines rows k (first ∷ (calls ++ call ∷ []))) (sym (append_assoc front rest line))
    (more k first (calls ++ call ∷ []) front (rest ++ line) here (one_more_line rows (suc k) calls rest call line there next))
