use Rattle.hessian_graph.specs.declared.parts.Parts.{Parts}
use Rattle.hessian_graph.specs.Moving.{AllThere}
use Rattle.hessian_graph.proofs.Rebuilding.{there_of}
use Rattle.std.proofs.Common.{subst, sym}
use Rattle.hessian_writer.proofs.writable.is_writable.Goals as goal

pub are_writable-requires : goal.are_writable-requires
are_writable-requires c = subst (λ (p : Parts). AllThere p.types p.classes p.nodes) (sym c.parts.ensures.parts) (there_of c.args.graph.now c.parts.ensures.sound)
