use Rattle.hessian_scalars.proofs.Whole.{taken_length}
use Rattle.hessian_scalars.proofs.front.peek.Goals as goal

pub decode-requires : goal.decode-requires
decode-requires c = taken_length _ _ _ _ c.classify.ensures c.in-Spelling.is c.if-bytes-len.false
