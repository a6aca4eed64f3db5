-- An int that bytes spell has 32 bits.
use Rattle.std.proofs.Common.{ℕ, List, sym, subst, arith, w32}
use Rattle.std.specs.Prelude.{ℤ, pos, negsuc, ◌≤ℤ◌, FitsSigned}
use Rattle.std.proofs.lemmas.Int.{ints}
use Rattle.hessian_scalars.specs.declared.scalar.Scalar.TheVariants as scalars
use Rattle.hessian_scalars.specs.ScalarSpelling.{ScalarSpelling}
use Rattle.hessian_scalars.specs.ScalarSpelling.ScalarSpelling.{int_in_code, int_and_byte, int_and_two, int_whole}
use Rattle.hessian_scalars.proofs.ShortestLongs.{int_of_fits}

within : (z : ℤ) → negsuc 262143 ≤ℤ z → z ≤ℤ pos 262143 → FitsSigned w32 z
within z low high = grind (arith, ints)

pub int_fits : (z : ℤ) (bytes : List ℕ) → ScalarSpelling (scalars.Int z) bytes → FitsSigned w32 z
int_fits z bytes (int_in_code code z' i e) = within z (omega (arith, ints)) (omega (arith, ints))
int_fits z bytes (int_and_byte code b0 z' i l e) = within z (omega (arith, ints)) (omega (arith, ints))
int_fits z bytes (int_and_two code b1 b0 z' i l k e) = within z (omega (arith, ints)) (omega (arith, ints))
int_fits z bytes (int_whole b3 b2 b1 b0 z' f e) = subst (FitsSigned w32) (sym e) (int_of_fits b3 b2 b1 b0 f)
