use Rattle.std.proofs.Common.{subst, sym}
use Rattle.hessian_writer.specs.Progress.{CanWrite}
use Rattle.hessian_writer.proofs.Writers.{can_write}
use Rattle.hessian_writer.proofs.writing.write_graph_behind.Goals as goal

pub write_parts-requires : goal.write_parts-requires
write_parts-requires c = subst CanWrite (sym c.parts.ensures.parts) (can_write c.args.graph.now c.parts.ensures.sound c.parts.ensures.few c.requires)
