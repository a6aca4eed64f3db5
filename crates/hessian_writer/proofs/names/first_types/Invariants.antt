use Rattle.std.proofs.Common.{take}
use Rattle.hessian_writer.specs.Sharing.{KeysFit}
use Rattle.hessian_writer.proofs.names.first_types.Given as goal

-- the types so far are the keys
abbrev pub invariant-loop-text : goal.invariant-loop-text
invariant-loop-text l = KeysFit (take l.text-index l.types) l.keys
