use Rattle.std.proofs.Common.{arith}
use Rattle.std.proofs.lemmas.Int.{ints}
use Rattle.hessian_scalars.proofs.ShortestLongs.{long_in_code_appended, long_and_byte_appended, long_and_two_appended, long_as_int_appended, long_whole_appended}
use Rattle.hessian_scalars.proofs.write.write_long.Goals as goal

pub returns-in_ok-extend_from_slice-in-minus8-to-15-clause-ok :
    goal.returns-in_ok-extend_from_slice-in-minus8-to-15-clause-ok
returns-in_ok-extend_from_slice-in-minus8-to-15-clause-ok c = long_in_code_appended _ _ c.args.value _ (omega (arith, ints), omega (arith, ints)) (omega (arith, ints)) c.in_ok-extend_from_slice-in-minus8-to-15.ensures.items

pub returns-in_ok-extend_from_slice-in-minus2048-to-2047-clause-ok :
    goal.returns-in_ok-extend_from_slice-in-minus2048-to-2047-clause-ok
returns-in_ok-extend_from_slice-in-minus2048-to-2047-clause-ok c = long_and_byte_appended _ _ _ c.args.value _ (grind (arith, ints), grind (arith, ints)) (grind (arith, ints)) (grind (arith, ints)) c.to_be_bytes.ensures c.in_ok-extend_from_slice-in-minus2048-to-2047.ensures.items

pub returns-in_ok-extend_from_slice-in-minus262144-to-262143-clause-ok :
    goal.returns-in_ok-extend_from_slice-in-minus262144-to-262143-clause-ok
returns-in_ok-extend_from_slice-in-minus262144-to-262143-clause-ok c = long_and_two_appended _ _ _ c.args.value _ (grind (arith, ints), grind (arith, ints)) (grind (arith, ints)) (grind (arith, ints)) c.to_be_bytes-in-minus262144-to-262143.ensures c.in_ok-extend_from_slice-in-minus262144-to-262143.ensures.items

pub returns-in_ok-extend_from_slice-in-minus2147483648-to-2147483647-clause-ok :
    goal.returns-in_ok-extend_from_slice-in-minus2147483648-to-2147483647-clause-ok
returns-in_ok-extend_from_slice-in-minus2147483648-to-2147483647-clause-ok c = long_as_int_appended _ _ _ c.args.value _ (grind (arith, ints)) (grind (arith, ints)) (grind (arith, ints)) c.to_be_bytes-in-minus2147483648-to-2147483647.ensures c.in_ok-extend_from_slice-in-minus2147483648-to-2147483647.ensures.items

pub returns-in_ok-extend_from_slice-in_default-clause-ok :
    goal.returns-in_ok-extend_from_slice-in_default-clause-ok
returns-in_ok-extend_from_slice-in_default-clause-ok c = long_whole_appended _ _ _ c.args.value _ c.ranges.value (λ h. grind (arith, ints)) (grind (arith, ints)) c.to_be_bytes-in_default.ensures c.in_ok-extend_from_slice-in_default.ensures.items
