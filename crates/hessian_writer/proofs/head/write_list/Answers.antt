use Rattle.std.proofs.Common.{w32}
use Rattle.std.proofs.lemmas.Int.{to_z_pos}
use Rattle.hessian_writer.proofs.Heading.{short_list_head, long_list_head}
use Rattle.hessian_writer.proofs.head.write_list.Goals as goal

pub returns-then-count-le-SHORT_LENGTH : goal.returns-then-count-le-SHORT_LENGTH
returns-then-count-le-SHORT_LENGTH c = λ t. short_list_head c.args.count t c.args.out.now.items c.push.new.self.items c.if-count-le-SHORT_LENGTH.true c.in_ok-push.ensures.items

pub returns : goal.returns
returns c = λ t. long_list_head c.args.count _ t c.args.out.now.items c.push-2.new.self.items c.write_int.new.out.items c.if-count-le-SHORT_LENGTH.false (to_z_pos w32 c.args.count c.requires) c.in_ok-push-2.ensures.items c.in_ok-write_int.ensures.ok
