use Rattle.std.proofs.Common.{◌≡◌, take}
use Rattle.std.specs.List.{sum_by}
use Rattle.hessian_text.specs.Units.{byte_units}
use Rattle.hessian_text.proofs.units.block_units.Given as goal

abbrev pub invariant-loop-byte : goal.invariant-loop-byte
invariant-loop-byte l = l.units ≡ sum_by byte_units (take l.byte-index l.block)
