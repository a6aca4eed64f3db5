-- Totals of calls, one call after another.
use Rattle.std.proofs.Common.{◌≡◌, ℕ, suc, ◌<◌, ◌+◌, ◌++◌, List, [], ◌∷◌, length, get_or, take, sym, ap, subst, ◌∙◌, arith}
use Rattle.std.proofs.Math.Seq.{take-suc}
use Rattle.hessian_graph.specs.Shape.{Shape}
use Rattle.hessian_graph.specs.Canon.{IsCanon, in_order}
use Rattle.hessian_graph.proofs.Visits.{one_visit}
use Rattle.dubbo_bodies.specs.declared.message.Reply.{Reply}
use Rattle.service_table.specs.declared.row.Row.{Row}
use Rattle.service_table.specs.Endings.{Ending, IsCanonEnding, ending_of}
use Rattle.service_table.specs.Direct.{IsDirect}
use Rattle.call_plan.specs.declared.calls.Call.{Call}
use Rattle.dubbo_main.specs.Generating.{AreTotals, with_ending}
use Rattle.dubbo_main.specs.Generating.AreTotals.{more}
use Rattle.dubbo_main.specs.declared.commands.generate.totals.Totals.{Totals}

-- a graph has one canonical form
pub one_form : (g a b : Shape) → IsCanon g a → IsCanon g b → a ≡ b
one_form g a b p q = p.2 ∙ ap (in_order g) (one_visit p.1 q.1) ∙ sym q.2

next_calls : (calls : List Call) (i : ℕ) (asked : Call) → i < length calls → asked ≡ get_or calls i asked → take i calls ++ asked ∷ [] ≡ take (i + 1) calls
next_calls calls i asked below is =
    let next : suc i ≡ i + 1 = omega arith in
    ap (λ call. take i calls ++ call ∷ []) is ∙ sym (take-suc calls i asked below) ∙ ap (λ n. take n calls) next

-- the totals with the reply of a call more
pub next_totals : (rows : List Row) (calls : List Call) (i : ℕ) (asked : Call) (before after : Totals) (reply : Reply) → i < length calls → asked ≡ get_or calls i asked
    → AreTotals rows (take i calls) before → IsDirect rows asked.request reply
    → ((ending : Ending) → IsCanonEnding (ending_of reply) ending → after ≡ with_ending ending before) → AreTotals rows (take (i + 1) calls) after
next_totals rows calls i asked before after reply below is are direct counted =
    subst (λ cs. AreTotals rows cs after) (next_calls calls i asked below is)
    (subst (λ t. AreTotals rows (take i calls ++ asked ∷ []) t) (sym (counted direct.ending direct.canonical))
    (more (take i calls) before asked direct.ending are direct.is))
