use Rattle.std.proofs.Common.{sym, ap, ◌∙◌, length}
use Rattle.hessian_reader.proofs.Kept.{begun_count}
use Rattle.hessian_reader.proofs.table.NodeTable.len.Goals as goal

pub returns : goal.returns
returns c = c.len.ensures ∙ c.self.inside.nodes.ok.0 ∙ sym (begun_count c.self.inside.maps.items 0 c.self.inside.nodes.items) ∙ ap length c.self.view_is
