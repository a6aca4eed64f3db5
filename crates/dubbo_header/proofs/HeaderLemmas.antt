-- A header has sixteen bytes, and bytes begin with no two of them.
use Rattle.std.proofs.Common.{◌≡◌, ℕ, List, ◌++◌, length, refl, arith}
use Rattle.std.proofs.lemmas.Grind.{common_steps}
use Rattle.dubbo_header.specs.declared.header.Header.{Header}
use Rattle.dubbo_header.specs.Header.{IsHeader, header_bytes}

pub length-header_bytes : (h : Header) → length (header_bytes h) ≡ 16
unfolding header_bytes
length-header_bytes h = refl

pub same_header : (h other : Header) (rest more : List ℕ) → IsHeader h → IsHeader other → header_bytes h ++ rest ≡ header_bytes other ++ more → h ≡ other
unfolding header_bytes
same_header h other rest more p q e = grind (arith, common_steps)
