use Rattle.std.proofs.Common.{arith}
use Rattle.std.proofs.lemmas.Int.{ints}
use Rattle.hessian_scalars.proofs.AtOnce.{int_in_code_front, int_and_byte_front, int_and_two_front, int_whole_front}
use Rattle.hessian_scalars.proofs.at_once.scalar_at_once.Goals as goal

pub returns-in-73-clause-spells : goal.returns-in-73-clause-spells
returns-in-73-clause-spells c = int_whole_front c.args.piece.now _ (grind arith) (λ i. omega (arith, c.type_inv.piece i)) (grind arith) (grind (arith, ints))

pub returns-in-208-to-215-clause-spells : goal.returns-in-208-to-215-clause-spells
returns-in-208-to-215-clause-spells c = int_and_two_front c.args.piece.now _ (grind arith) (λ i. omega (arith, c.type_inv.piece i)) (record { above = grind arith; below = grind arith }) (grind (arith, ints))

pub returns-in-192-to-207-clause-spells : goal.returns-in-192-to-207-clause-spells
returns-in-192-to-207-clause-spells c = int_and_byte_front c.args.piece.now _ (grind arith) (λ i. omega (arith, c.type_inv.piece i)) (record { above = grind arith; below = grind arith }) (grind (arith, ints))

pub returns-in-128-to-191-clause-spells : goal.returns-in-128-to-191-clause-spells
returns-in-128-to-191-clause-spells c = int_in_code_front c.args.piece.now _ (grind arith) (record { above = grind arith; below = grind arith }) (grind (arith, ints))
