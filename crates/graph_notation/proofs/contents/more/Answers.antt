use Rattle.std.proofs.Common.{◌<◌, arith}
use Rattle.graph_notation.proofs.Digits.{room}
use Rattle.graph_notation.proofs.contents.more.Goals as goal

pub overflow_mul-result : goal.overflow_mul-result
overflow_mul-result c = let b : c.args.value < 1048576 = room c.args.count c.args.value c.if-count-lt6.true c.requires.small.1 in omega arith

pub overflow_add-result-then-count-lt6 : goal.overflow_add-result-then-count-lt6
overflow_add-result-then-count-lt6 c = let b : c.args.value < 1048576 = room c.args.count c.args.value c.if-count-lt6.true c.requires.small.1 in omega arith
