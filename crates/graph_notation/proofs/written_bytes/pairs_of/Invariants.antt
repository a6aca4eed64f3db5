use Rattle.std.proofs.Common.{◌≡◌, ◌*◌, length, take}
use Rattle.std.specs.List.{flat_map}
use Rattle.graph_notation.specs.Elements.{hex_pair}
use Rattle.graph_notation.proofs.written_bytes.pairs_of.Given as goal

abbrev pub invariant-loop-at : goal.invariant-loop-at
invariant-loop-at l = record { long : length l.pairs ≡ 128; pairs : take (2 * l.at) l.pairs ≡ flat_map hex_pair (take l.at l.block) }
