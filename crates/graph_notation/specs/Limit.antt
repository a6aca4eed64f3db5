-- How large a notation may be.
use Rattle.std.specs.Prelude.{ℕ}

-- a notation has no more nodes
abbrev pub node_limit : ℕ
node_limit = 1000000
