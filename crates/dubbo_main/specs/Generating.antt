-- What the command `gen` writes.
use Rattle.std.specs.Prelude.{◌≡◌, ℕ, ◌+◌, ◌*◌, ◌^◌, ◌≤◌, ◌++◌, List, [], ◌∷◌, length, codes, decimal}
use Rattle.service_table.specs.declared.row.Row.{Row}
use Rattle.service_table.specs.Endings.{Ending, Given, Thrown, Stated}
use Rattle.service_table.specs.Direct.{Direct}
use Rattle.call_plan.specs.ScriptReading.{Plan, IsScript}
use Rattle.call_plan.specs.declared.calls.Call.{Call}
use Rattle.dubbo_main.specs.GeneratedScript.{generated_script}
use Rattle.dubbo_main.specs.declared.words.Show.{Show}
use Rattle.dubbo_main.specs.declared.words.Show.TheVariants.{Summary, Script}
use Rattle.dubbo_main.specs.declared.commands.generate.totals.Totals.{Totals}

-- the totals before any call
abbrev pub no_totals : Totals
no_totals = record { nodes = 0; values = 0; exceptions = 0; statuses = 0 }

-- the totals with a call more that ended so: the nodes are those of the canonical forms of values and exceptions
abbrev pub with_ending : Ending → Totals → Totals
with_ending (Given g) t = record { nodes = t.nodes + length g.nodes; values = t.values + 1; exceptions = t.exceptions; statuses = t.statuses }
with_ending (Thrown g) t = record { nodes = t.nodes + length g.nodes; values = t.values; exceptions = t.exceptions + 1; statuses = t.statuses }
with_ending (Stated code text) t = record { nodes = t.nodes; values = t.values; exceptions = t.exceptions; statuses = t.statuses + 1 }

-- the totals of calls that are made directly, one after another
pub data AreTotals (rows : List Row) : List Call → Totals → Type 0 where
  none : AreTotals rows [] no_totals
  more : (calls : List Call) (before : Totals) (call : Call) (ending : Ending) → AreTotals rows calls before → Direct rows call.request ending
      → AreTotals rows (calls ++ call ∷ []) (with_ending ending before)

-- the totals are those of so many calls at most, whose graphs have fewer than 2^32 nodes each
pub record AreOfFew (count : ℕ) (t : Totals) : Type 0 where
  pub nodes : t.nodes ≤ count * 2 ^ 32
  pub values : t.values ≤ count
  pub exceptions : t.exceptions ≤ count
  pub statuses : t.statuses ≤ count

-- the line of the summary
abbrev pub summary_line : ℕ → Totals → List ℕ
summary_line calls t = codes "calls " ++ decimal calls ++ codes " nodes " ++ decimal t.nodes ++ codes " ok " ++ decimal t.values
    ++ codes " threw " ++ decimal t.exceptions ++ codes " status " ++ decimal t.statuses ++ codes "\n"

-- the summary of the direct calls of the script that is made
pub record IsSummary (calls : ℕ) (text : List ℕ) : Type 0 where
  pub plan : Plan
  pub script : IsScript (generated_script calls) plan
  pub totals : Totals
  pub are : AreTotals plan.services plan.calls totals
  pub written : text ≡ summary_line calls totals

-- what `gen` writes
abbrev pub IsGenerated : ℕ → Show → List ℕ → Type 0
IsGenerated calls Summary text = IsSummary calls text
IsGenerated calls Script text = text ≡ generated_script calls
