-- The place of a fault, and the same fault further behind.
use Rattle.std.specs.Prelude.{ℕ, ◌+◌}
use Rattle.hessian_graph.specs.Refusal.{Cause, Short, Double, BadCode, BadText, BadRef, BadType, BadClass, BadLength, TooManyNodes, Trailing}
use Rattle.hessian_reader.specs.declared.fault.HessianFault.{HessianFault}
use Rattle.hessian_reader.specs.declared.fault.HessianFault.TheVariants as told

abbrev pub place_of : Cause → ℕ
place_of (Short at) = at
place_of (Double at code) = at
place_of (BadCode at code) = at
place_of (BadText at) = at
place_of (BadRef at number) = at
place_of (BadType at number) = at
place_of (BadClass at number) = at
place_of (BadLength at number) = at
place_of (TooManyNodes at) = at
place_of (Trailing at) = at

abbrev pub place_in : HessianFault → ℕ
place_in (told.Short at) = at
place_in (told.Double at code) = at
place_in (told.BadCode at code) = at
place_in (told.BadText at) = at
place_in (told.BadRef at number) = at
place_in (told.BadType at number) = at
place_in (told.BadClass at number) = at
place_in (told.BadLength at number) = at
place_in (told.TooManyNodes at) = at
place_in (told.Trailing at) = at
place_in told.OutOfMemory = 0

-- the fault, its place counted from so many bytes further ahead
abbrev pub fault_later : ℕ → HessianFault → HessianFault
fault_later n (told.Short at) = told.Short (n + at)
fault_later n (told.Double at code) = told.Double (n + at) code
fault_later n (told.BadCode at code) = told.BadCode (n + at) code
fault_later n (told.BadText at) = told.BadText (n + at)
fault_later n (told.BadRef at number) = told.BadRef (n + at) number
fault_later n (told.BadType at number) = told.BadType (n + at) number
fault_later n (told.BadClass at number) = told.BadClass (n + at) number
fault_later n (told.BadLength at number) = told.BadLength (n + at) number
fault_later n (told.TooManyNodes at) = told.TooManyNodes (n + at)
fault_later n (told.Trailing at) = told.Trailing (n + at)
fault_later n told.OutOfMemory = told.OutOfMemory
