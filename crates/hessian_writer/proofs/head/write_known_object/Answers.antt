use Rattle.std.proofs.Common.{w32}
use Rattle.std.proofs.lemmas.Int.{to_z_pos}
use Rattle.hessian_writer.proofs.Heading.{short_object_head, long_object_head}
use Rattle.hessian_writer.proofs.head.write_known_object.Goals as goal

pub returns-then-place-le-SHORT_CLASS : goal.returns-then-place-le-SHORT_CLASS
returns-then-place-le-SHORT_CLASS c = λ t class is. short_object_head class c.args.place t c.args.out.now.items c.push.new.self.items is c.if-place-le-SHORT_CLASS.true c.in_ok-push.ensures.items

pub returns : goal.returns
returns c = λ t class is. long_object_head class c.args.place _ t c.args.out.now.items c.push-2.new.self.items c.write_int.new.out.items is c.if-place-le-SHORT_CLASS.false (to_z_pos w32 c.args.place c.requires) c.in_ok-push-2.ensures.items c.in_ok-write_int.ensures.ok
