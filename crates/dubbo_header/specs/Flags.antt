-- The third byte of a header, by the layout of the Dubbo protocol.
use Rattle.std.specs.Prelude.{ℕ, ◌+◌, Bool, true, false}

-- what a mark adds to the byte
abbrev pub weight : Bool → ℕ → ℕ
weight true mark = mark
weight false mark = 0

-- x80 for a request, x40 where a reply is wanted, x20 for an event, and the serialization's number
abbrev pub flag_byte : Bool → Bool → Bool → ℕ → ℕ
flag_byte request two_way event serial = weight request 0x80 + weight two_way 0x40 + weight event 0x20 + serial
