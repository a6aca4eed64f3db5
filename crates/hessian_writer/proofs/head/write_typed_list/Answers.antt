use Rattle.std.proofs.Common.{w32, get_or, []}
use Rattle.std.proofs.lemmas.Int.{to_z_pos}
use Rattle.hessian_writer.specs.Sharing.{listed}
use Rattle.hessian_writer.proofs.Heading.{short_typed_head, long_typed_head}
use Rattle.hessian_writer.proofs.head.write_typed_list.Goals as goal

pub returns-then-count-le-SHORT_LENGTH-clause-written : goal.returns-then-count-le-SHORT_LENGTH-clause-written
returns-then-count-le-SHORT_LENGTH-clause-written c = λ t same.
    short_typed_head (get_or c.args.types.now c.args.number []) c.args.count t (record t { types = listed [] c.args.types.now c.write_type.new.names.used.order }) c.args.out.now.items c.push.new.self.items c.write_type.new.out.items c.if-count-le-SHORT_LENGTH.true c.in_ok-push.ensures.items (c.in_ok-write_type.ensures.written t same)

pub returns-clause-written : goal.returns-clause-written
returns-clause-written c = λ t same.
    long_typed_head (get_or c.args.types.now c.args.number []) c.args.count _ t (record t { types = listed [] c.args.types.now c.write_type-2.new.names.used.order }) c.args.out.now.items c.push-2.new.self.items c.write_type-2.new.out.items c.write_int.new.out.items c.if-count-le-SHORT_LENGTH.false (to_z_pos w32 c.args.count c.requires.short) c.in_ok-push-2.ensures.items (c.in_ok-write_type-2.ensures.written t same) c.in_ok-write_int.ensures.ok
