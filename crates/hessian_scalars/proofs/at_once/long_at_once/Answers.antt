use Rattle.std.proofs.Common.{arith}
use Rattle.std.proofs.lemmas.Int.{ints}
use Rattle.hessian_scalars.proofs.AtOnce.{long_in_code_front, long_and_byte_front, long_and_two_front, long_as_int_front}
use Rattle.hessian_scalars.proofs.at_once.long_at_once.Goals as goal

pub returns-in-89-clause-spells : goal.returns-in-89-clause-spells
returns-in-89-clause-spells c = long_as_int_front c.args.piece.now _ (grind arith) (λ i. omega (arith, c.type_inv.piece i)) (grind arith) (grind (arith, ints))

pub returns-in-56-to-63-clause-spells : goal.returns-in-56-to-63-clause-spells
returns-in-56-to-63-clause-spells c = long_and_two_front c.args.piece.now _ (grind arith) (λ i. omega (arith, c.type_inv.piece i)) (record { above = grind arith; below = grind arith }) (grind (arith, ints))

pub returns-in-240-to-255-clause-spells : goal.returns-in-240-to-255-clause-spells
returns-in-240-to-255-clause-spells c = long_and_byte_front c.args.piece.now _ (grind arith) (λ i. omega (arith, c.type_inv.piece i)) (record { above = grind arith; below = grind arith }) (grind (arith, ints))

pub returns-in-216-to-239-clause-spells : goal.returns-in-216-to-239-clause-spells
returns-in-216-to-239-clause-spells c = long_in_code_front c.args.piece.now _ (grind arith) (record { above = grind arith; below = grind arith }) (grind (arith, ints))
