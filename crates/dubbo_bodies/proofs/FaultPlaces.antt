-- The places of faults, and faults behind other bytes.
use Rattle.std.proofs.Common.{◌≡◌, ◌≢◌, ℕ, ◌+◌, ◌≤◌, List, [], ◌∷◌, ◌++◌, length, refl, sym, ap, ◌∙◌, arith, length-append, inl, inr}
use Rattle.std.specs.Prelude.{ℤ}
use Rattle.hessian_graph.specs.Loose.{Slot}
use Rattle.hessian_graph.specs.Reading.{Tables}
use Rattle.hessian_graph.specs.Refusal.{Cause, Refused, RefusedInt, Stopped, Refusal}
use Rattle.hessian_graph.specs.Refusal.Cause.{Short, Double, BadCode, BadText, BadRef, BadType, BadClass, BadLength, TooManyNodes, Trailing}
use Rattle.hessian_graph.specs.Refusal.Refused.{double, no_value, no_end, too_many, no_such_class, no_int, int, no_text, no_type, text_code, text_character, binary_code, trailing}
use Rattle.hessian_graph.specs.Refusal.RefusedInt.{bad_length, bad_count, bad_reference, bad_type, bad_class}
use Rattle.hessian_reader.specs.declared.fault.HessianFault.{HessianFault}
use Rattle.hessian_reader.specs.declared.fault.HessianFault.TheVariants as told
use Rattle.hessian_reader.specs.Faults.{faults}
use Rattle.hessian_reader.specs.Leaves.{hessian, node_limit}
use Rattle.hessian_reader.specs.Refusing.{fault_of}
use Rattle.dubbo_bodies.specs.FaultsBehind.{place_of, place_in, fault_later}
use Rattle.dubbo_bodies.specs.Refusals.{behind}
use Rattle.dubbo_bodies.specs.declared.fault.RequestFault.{RequestFault}
use Rattle.dubbo_bodies.specs.declared.fault.RequestFault.TheVariants as faulty
use Rattle.dubbo_bodies.specs.RequestReading.{FaultOfValues}

-- ---- the same fault

pub same_later : (n : ℕ) (cause : Cause) → fault_later n (fault_of cause) ≡ fault_of (behind n cause)
same_later n (Short at) = refl
same_later n (Double at code) = refl
same_later n (BadCode at code) = refl
same_later n (BadText at) = refl
same_later n (BadRef at number) = refl
same_later n (BadType at number) = refl
same_later n (BadClass at number) = refl
same_later n (BadLength at number) = refl
same_later n (TooManyNodes at) = refl
same_later n (Trailing at) = refl

pub same_place : (cause : Cause) → place_in (fault_of cause) ≡ place_of cause
same_place (Short at) = refl
same_place (Double at code) = refl
same_place (BadCode at code) = refl
same_place (BadText at) = refl
same_place (BadRef at number) = refl
same_place (BadType at number) = refl
same_place (BadClass at number) = refl
same_place (BadLength at number) = refl
same_place (TooManyNodes at) = refl
same_place (Trailing at) = refl

pub no_memory : (cause : Cause) → fault_of cause ≢ told.OutOfMemory
no_memory (Short at) e = cc
no_memory (Double at code) e = cc
no_memory (BadCode at code) e = cc
no_memory (BadText at) e = cc
no_memory (BadRef at number) e = cc
no_memory (BadType at number) e = cc
no_memory (BadClass at number) e = cc
no_memory (BadLength at number) e = cc
no_memory (TooManyNodes at) e = cc
no_memory (Trailing at) e = cc

pub told_behind : (most from : ℕ) (fault result : HessianFault) → (from + place_in fault ≤ most → result ≡ fault_later from fault) → (cause : Cause) → fault ≡ fault_of cause → from + place_of cause ≤ most → result ≡ fault_of (behind from cause)
told_behind most from fault result h cause e room =
    let place : place_in fault ≡ place_of cause = ap place_in e ∙ same_place cause in
    h (omega (arith, place, room)) ∙ ap (fault_later from) e ∙ same_later from cause

pub memory_behind : (most from : ℕ) (fault result : HessianFault) → from ≤ most → (from + place_in fault ≤ most → result ≡ fault_later from fault) → fault ≡ told.OutOfMemory → result ≡ told.OutOfMemory
memory_behind most from fault result low h e =
    let place : place_in fault ≡ 0 = ap place_in e in
    h (omega (arith, place, low)) ∙ ap (fault_later from) e

-- ---- the fault of a request

-- what is moved and named anew is the cause further behind
pub named_behind : (most from : ℕ) (fault moved : HessianFault) (result : RequestFault) → FaultOfValues moved result → ((cause : Cause) → fault ≡ fault_of cause → from + place_of cause ≤ most → moved ≡ fault_of (behind from cause)) → (cause : Cause) → fault ≡ fault_of cause → from + place_of cause ≤ most → result ≡ faulty.Hessian (fault_of (behind from cause))
named_behind most from fault moved result f h cause e room =
    let is = h cause e room in
    f.1 (λ z. no_memory (behind from cause) (sym is ∙ z)) ∙ ap (λ x. faulty.Hessian x) is

-- what is no want of memory then was none before
pub memory_named : (fault moved : HessianFault) (result : RequestFault) → FaultOfValues moved result → (fault ≡ told.OutOfMemory → moved ≡ told.OutOfMemory) → result ≢ faulty.OutOfMemory → fault ≢ told.OutOfMemory
memory_named fault moved result f h some e = some (f.0 (h e))

-- ---- places lie within the bytes

int_place : {t : Tables} {at : ℕ} {z : ℤ} {s : Slot} {cause : Cause} → RefusedInt t at z s cause → place_of cause ≡ at
int_place (bad_length n) = refl
int_place (bad_count name n) = refl
int_place (bad_reference n) = refl
int_place (bad_type form n) = refl
int_place (bad_class n) = refl

element_place : {t : Tables} {at : ℕ} {ss : List Slot} {element : List ℕ} {cause : Cause} → Refused hessian faults node_limit t at ss element cause → place_of cause ≤ at + length element
element_place {at = at} (double s ss code w d) = let k : at ≤ at + length (code ∷ []) = omega arith in k
element_place {at = at} (no_value s ss code w d) = let k : at ≤ at + length (code ∷ []) = omega arith in k
element_place {at = at} (no_end ss) = let k : at ≤ at + length {A = ℕ} (0x5a ∷ []) = omega arith in k
element_place {at = at} (too_many s ss code w n m) = let k : at ≤ at + length (code ∷ []) = omega arith in k
element_place {at = at} (no_such_class s ss code w n m k) = let k : at ≤ at + length (code ∷ []) = omega arith in k
element_place {at = at} (no_int s ss code w n) = let k : at ≤ at + length (code ∷ []) = omega arith in k
element_place {at = at} (int s ss z element cause i r) = let k = int_place r in omega (arith, k)
element_place {at = at} (no_text s ss code w n) = let k : at ≤ at + length (code ∷ []) = omega arith in k
element_place {at = at} (no_type form ss code n m) = let k : at ≤ at + length (code ∷ []) = omega arith in k
element_place {at = at} (text_code s ss element p code m some is) = let k = is.within in omega (arith, k)
element_place {at = at} (text_character s ss element p m is) = let k = is.within in omega (arith, k)
element_place {at = at} (binary_code s ss element p code w some is) = let k = is.within in omega (arith, k)
element_place {at = at} (trailing code) = let k : at ≤ at + length (code ∷ []) = omega arith in k

pub stopped_place : (roots : ℕ) (bytes : List ℕ) (cause : Cause) → Stopped hessian faults node_limit roots bytes cause → place_of cause ≤ length bytes
stopped_place roots bytes cause q =
    let e : length bytes ≡ length ((q.before ++ q.element) ++ q.rest) = ap length q.joined in
    let a = length-append (q.before ++ q.element) q.rest in
    let b = length-append q.before q.element in
    let k = element_place q.refused in
    omega (arith, e, a, b, k)

pub refusal_place : (roots : ℕ) (bytes : List ℕ) (cause : Cause) → Refusal hessian faults node_limit roots bytes cause → place_of cause ≤ length bytes
refusal_place roots bytes cause (inl q) = stopped_place roots bytes cause q
refusal_place roots bytes cause (inr (cut, e)) = let k : place_of cause ≡ length bytes = ap place_of e in omega (arith, k)
