use Rattle.std.proofs.Common.{arith}
use Rattle.hessian_writer.proofs.Appended.{appends_contents}
use Rattle.hessian_writer.proofs.leaf.write_contents.Goals as goal

pub returns : goal.returns
returns c = appends_contents c.args.contents.now c.args.out.now.items c.write_binary.new.out.items (record { small = λ i h. omega (arith, c.type_inv.contents i) }) c.in_ok-write_binary.ensures.ok
