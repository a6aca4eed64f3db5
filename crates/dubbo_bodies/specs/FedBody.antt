-- A reader of bodies, as contracts see it.
use Rattle.std.specs.Prelude.{ℕ, List, Option}
use Rattle.dubbo_header.specs.declared.header.Header.{Header}

-- the header that it was started with, if any, and the bytes that were fed since
pub record FedBody : Type 0 where
  pub started : Option Header
  pub fed : List ℕ
