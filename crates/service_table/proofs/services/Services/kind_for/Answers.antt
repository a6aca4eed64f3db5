use Rattle.std.proofs.Common.{◌≡◌, List, subst, sym, ◌∙◌}
use Rattle.std.specs.Prelude.{MatchOption}
use Rattle.std.specs.Map.{lookup}
use Rattle.service_table.specs.declared.row.Row.{Row}
use Rattle.service_table.specs.Rows.{NoneServes, ServesAs}
use Rattle.service_table.specs.Table.{rows_of}
use Rattle.service_table.proofs.Equality.{same_name, tells, own}
use Rattle.service_table.proofs.Names.{found}
use Rattle.service_table.proofs.services.Services.kind_for.Goals as goal

pub returns : goal.returns
returns c =
    let is : c.copied.result ≡ lookup (same_name c.in_ok-name.name) c.self.inside.rows.entries = c.copied.ensures ∙ c.get.ensures.value in
    let there = found same_name tells own c.in_ok-name.name c.args.request.now c.self.inside.rows.entries c.in_ok-name.ensures in
    subst (λ (rows : List Row). MatchOption c.copied.result (NoneServes rows c.args.request.now) (ServesAs rows c.args.request.now)) c.self.view_is
    (subst (λ o. MatchOption o (NoneServes (rows_of c.self.inside.rows.entries) c.args.request.now) (ServesAs (rows_of c.self.inside.rows.entries) c.args.request.now)) (sym is) there)
