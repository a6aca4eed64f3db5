use Rattle.std.proofs.Common.{subst}
use Rattle.service_table.specs.Rows.{AreApart}
use Rattle.service_table.proofs.Equality.{same_name, tells, own}
use Rattle.service_table.proofs.Names.{apart}
use Rattle.service_table.proofs.services.Services.look.Goals as goal

pub returns : goal.returns
returns c = subst AreApart c.self.view_is (apart same_name tells own c.self.inside.rows.entries c.len-count.ensures.unique)
