-- What is refused inside a leaf, and the cause of each objection.
use Rattle.std.specs.Prelude.{ℕ}
use Rattle.hessian_graph.specs.Refusal.{LeafFaults, Cause, Short, BadCode, BadRef, BadType, BadClass, BadLength, TooManyNodes}
use Rattle.hessian_scalars.specs.ScalarSpelling.{IsDoubleCode}
use Rattle.hessian_text.specs.declared.stage.Kind.TheVariants as kinds
use Rattle.hessian_text.specs.Refusal.{IsBadCode, IsBadText}
use Rattle.hessian_reader.specs.declared.stop.Objection.{Objection}
use Rattle.hessian_reader.specs.declared.stop.Objection.TheVariants as objections

-- the codes of doubles, and the refusals of texts and binaries that begin with the bytes
abbrev pub faults : LeafFaults
faults = record {
  double = IsDoubleCode;
  text_code = λ bytes p code. IsBadCode kinds.Text bytes 0 p code;
  text_character = λ bytes p. IsBadText bytes 0 p;
  binary_code = λ bytes p code. IsBadCode kinds.Binary bytes 0 p code;
}

-- why an element that begins at a place is refused
abbrev pub cause_of : Objection → ℕ → Cause
cause_of objections.NoEnd at = BadCode at 0x5a
cause_of (objections.NoNode z) at = BadRef at z
cause_of (objections.NoType z) at = BadType at z
cause_of (objections.NoClass z) at = BadClass at z
cause_of (objections.NoLength z) at = BadLength at z
cause_of objections.TooMany at = TooManyNodes at
cause_of objections.Misplaced at = Short at
