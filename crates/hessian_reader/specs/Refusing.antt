-- Which fault tells a cause, and which byte of an element is refused.
use Rattle.std.specs.Prelude.{◌≡◌, ℕ, ◌<◌, List, [], ◌++◌, length, take, slice_index, ◌⊎◌}
use Rattle.hessian_graph.specs.Refusal.{Cause, Short, Double, BadCode, BadText, BadRef, BadType, BadClass, BadLength, TooManyNodes, Trailing, BeginsNoInt, BeginsNoText, BeginsNoValue, Stopped, Refusal}
use Rattle.hessian_scalars.specs.ScalarSpelling.{IsDoubleCode}
use Rattle.hessian_text.specs.Reader.{Reading, RefusesCode, RefusesItem}
use Rattle.hessian_reader.specs.declared.element.Want.{Want}
use Rattle.hessian_reader.specs.declared.element.Want.TheVariants as wants
use Rattle.hessian_reader.specs.declared.fault.HessianFault.{HessianFault}
use Rattle.hessian_reader.specs.declared.fault.HessianFault.TheVariants as told
use Rattle.hessian_reader.specs.declared.lexer.Lexed.{Lexed}
use Rattle.hessian_reader.specs.declared.lexer.Lexed.TheVariants as lexed
use Rattle.hessian_reader.specs.Leaves.{hessian, node_limit}
use Rattle.hessian_reader.specs.Faults.{faults}
use Rattle.hessian_reader.specs.Lexing.{BeginsChunks}

-- the fault that tells a cause
abbrev pub fault_of : Cause → HessianFault
fault_of (Short at) = told.Short at
fault_of (Double at code) = told.Double at code
fault_of (BadCode at code) = told.BadCode at code
fault_of (BadText at) = told.BadText at
fault_of (BadRef at number) = told.BadRef at number
fault_of (BadType at number) = told.BadType at number
fault_of (BadClass at number) = told.BadClass at number
fault_of (BadLength at number) = told.BadLength at number
fault_of (TooManyNodes at) = told.TooManyNodes at
fault_of (Trailing at) = told.Trailing at

-- the fault tells where the bytes stop, however they go on, and why
abbrev pub IsStoppedBy : ℕ → List ℕ → HessianFault → Type 0
IsStoppedBy roots bytes fault = (cause : Cause) × (fault ≡ fault_of cause) × Stopped hessian faults node_limit roots bytes cause

-- the fault tells why the bytes denote no graph with so many roots
abbrev pub IsRefusedBy : ℕ → List ℕ → HessianFault → Type 0
IsRefusedBy roots bytes fault = (cause : Cause) × (fault ≡ fault_of cause) × Refusal hessian faults node_limit roots bytes cause

-- no element begins here with this byte, which is no double's code
abbrev pub RefusesFirst : Want → ℕ → Type 0
RefusesFirst wants.AnyValue code = BeginsNoValue hessian faults code
RefusesFirst wants.AnInt code = BeginsNoInt hessian code
RefusesFirst wants.AType code = BeginsNoText hessian code × BeginsNoInt hessian code
RefusesFirst wants.AText code = BeginsNoText hessian code

-- these bytes led behind a chunk that isn't the last, and no chunk begins with this byte
pub record RefusesInner (w : Want) (front : List ℕ) (code : ℕ) : Type 0 where
  pub reading : Reading
  pub begun : BeginsChunks w reading front
  pub refuses : RefusesCode reading.kind reading.stage code

-- these bytes led to a character or into one, of which so many bytes came, and this byte doesn't go on with it
pub record RefusesCharacter (w : Want) (front : List ℕ) (byte came : ℕ) : Type 0 where
  pub reading : Reading
  pub begun : BeginsChunks w reading front
  pub refuses : RefusesItem reading.kind reading.stage byte came

-- the byte of a piece that is refused, in an element of which these bytes came before
abbrev pub RefusesByte : Want → List ℕ → List ℕ → Lexed → Type 0
RefusesByte w came piece lexed.More = Unit {0}
RefusesByte w came piece (lexed.Whole x used) = Unit {0}
RefusesByte w came piece (lexed.Double code) = (w ≡ wants.AnyValue) × (came ≡ []) × (0 < length piece) × (code ≡ slice_index piece 0) × IsDoubleCode code
RefusesByte w came piece (lexed.NoCode place code) =
    (place < length piece) × (code ≡ slice_index piece place)
    × (((came ≡ []) × (place ≡ 0) × RefusesFirst w code) ⊎ RefusesInner w (came ++ take place piece) code)
RefusesByte w came piece (lexed.NoText place begun) =
    (place < length piece) × RefusesCharacter w (came ++ take place piece) (slice_index piece place) begun
