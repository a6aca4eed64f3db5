-- A scalar of which some bytes came, and what more bytes make of it.
use Rattle.std.specs.Prelude.{ℕ, ◌+◌, ◌-◌, List, [], ◌++◌, length, Result, Ok, Err}
use Rattle.hessian_scalars.specs.declared.scalar.Scalar.{Scalar}
use Rattle.hessian_scalars.specs.declared.front.Front.{Front}
use Rattle.hessian_scalars.specs.declared.front.Front.TheVariants as fronts
use Rattle.hessian_scalars.specs.declared.fault.ScalarFault.{ScalarFault}
use Rattle.hessian_scalars.specs.declared.fault.ScalarFault.TheVariants as faults
use Rattle.hessian_scalars.specs.ScalarSpelling.{ScalarSpelling}
use Rattle.hessian_scalars.specs.Codes.{front_of}

-- what came, followed by these bytes, spells v
abbrev pub Completes : List ℕ → Scalar → List ℕ → Type 0
Completes came v bytes = ScalarSpelling v (came ++ bytes)

-- what stands at the front, its end counted from behind so many bytes
abbrev pub counted_behind : ℕ → Front → Front
counted_behind came (fronts.Whole v len) = fronts.Whole v (len - came)
counted_behind came fronts.Part = fronts.Part
counted_behind came (fronts.Double c) = fronts.Double c
counted_behind came (fronts.Other c) = fronts.Other c

-- what a piece makes of what came
unfoldable pub fed : (came piece : List ℕ) → Front
fed came piece = counted_behind (length came) (front_of (came ++ piece))

-- what is kept where the front is this, of all that came
abbrev pub kept_of : Front → List ℕ → List ℕ
kept_of (fronts.Whole v len) all = []
kept_of fronts.Part all = all
kept_of (fronts.Double c) all = []
kept_of (fronts.Other c) all = []

-- what has come behind a piece
unfoldable pub kept : (came piece : List ℕ) → List ℕ
kept came piece = kept_of (front_of (came ++ piece)) (came ++ piece)

-- the answer for what stands behind a place, in bytes of which there are so many
abbrev pub placed : (at total : ℕ) → Front → Result (Scalar × ℕ) ScalarFault
placed at total (fronts.Whole v len) = Ok (v, at + len)
placed at total fronts.Part = Err (faults.Short total)
placed at total (fronts.Double c) = Err (faults.Double at c)
placed at total (fronts.Other c) = Err (faults.Other at c)
