use Rattle.std.specs.Ordering.{nat_cmp}
use Rattle.std.specs.Cmp.Lexicographic.{slice_cmp}
use Rattle.std.specs.String.{string_bytes}
use Rattle.hash_ring.proofs.Ordered.{names_with_strings, sorted_mapped}
use Rattle.hash_ring.proofs.held.put_all.Goals as goal

pub returns-clause-name : goal.returns-clause-name
returns-clause-name c = names_with_strings c.args.name.now c.args.names.now.keys c.insert.new.self.keys c.in_ok-from_str.field-0 c.in_ok-insert.ensures.keys c.in_ok-from_str.ensures.ok

pub returns-clause-ordered : goal.returns-clause-ordered
returns-clause-ordered c = sorted_mapped (slice_cmp nat_cmp) string_bytes c.insert.new.self.keys c.in_ok-insert.ensures.ordered
