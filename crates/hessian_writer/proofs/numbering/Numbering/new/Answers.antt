use Rattle.std.proofs.Common.{◌≡◌, rules}
use Rattle.std.specs.Prelude.{None, replicate}
use Rattle.hessian_writer.proofs.Numbers.{no_numbers}
use Rattle.hessian_writer.proofs.numbering.Numbering.new.Goals as goal

pub invariant_of-result : goal.invariant_of-result
invariant_of-result c =
    let numbers : c.resize.new.self.items ≡ replicate c.args.total None = search rules in
    rw (numbers, c.new.ensures.items) (no_numbers c.args.total)
