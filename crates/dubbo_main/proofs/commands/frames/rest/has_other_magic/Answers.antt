use Rattle.std.proofs.Common.{◌≡◌, length, arith}
use Rattle.std.proofs.lemmas.Bool.{false≢true}
use Rattle.dubbo_main.proofs.Rests.{none_other, one_other, two_other}
use Rattle.dubbo_main.proofs.commands.frames.rest.has_other_magic.Goals as goal

pub returns-in-empty : goal.returns-in-empty
returns-in-empty c = (λ no. absurd (false≢true no), λ other. absurd (none_other c.args.rest.now (omega arith) other))

pub returns-in-len1 : goal.returns-in-len1
returns-in-len1 c =
    let one : length c.args.rest.now ≡ 1 = omega (arith, c.in-len1.len_at_least, c.in-len1.len_below) in
    let both = one_other c.args.rest.now one in
    (λ yes. both.0 (c.is_other.ensures.0 yes), λ other. c.is_other.ensures.1 (both.1 other))

pub returns-in-len2-up : goal.returns-in-len2-up
returns-in-len2-up c =
    let both = two_other c.args.rest.now c.in-len2-up.len_at_least in
    (λ yes. both.0 (c.are_other.ensures.0 yes), λ other. c.are_other.ensures.1 (both.1 other))
