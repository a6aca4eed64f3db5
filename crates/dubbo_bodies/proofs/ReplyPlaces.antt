-- The place of a refusal lies in the bytes, and a fault of values tells their cause from further ahead.
use Rattle.std.proofs.Common.{◌≡◌, ℕ, ◌+◌, ◌≤◌, List, ◌++◌, length, refl, ap, arith, inl, inr}
use Rattle.std.specs.Prelude.{ℤ}
use Rattle.std.proofs.lemmas.List.{length-append}
use Rattle.hessian_graph.specs.Reading.{Tables}
use Rattle.hessian_graph.specs.Loose.{Slot}
use Rattle.hessian_graph.specs.Refusal.{Cause, Refused, RefusedInt, Refusal, Stopped}
use Rattle.hessian_graph.specs.Refusal.Refused.{binary_code as refused_binary_code, double as refused_double, int as refused_int, no_end as refused_no_end, no_int as refused_no_int, no_such_class as refused_no_such_class, no_text as refused_no_text, no_type as refused_no_type, no_value as refused_no_value, text_character as refused_text_character, text_code as refused_text_code, too_many as refused_too_many, trailing as refused_trailing}
use Rattle.hessian_graph.specs.Refusal.RefusedInt.{bad_class as ints_bad_class, bad_count as ints_bad_count, bad_length as ints_bad_length, bad_reference as ints_bad_reference, bad_type as ints_bad_type}
use Rattle.hessian_reader.specs.Leaves.{hessian, node_limit}
use Rattle.hessian_reader.specs.Faults.{faults}
use Rattle.dubbo_bodies.specs.FaultsBehind.{place_of}

int_place : (t : Tables) (at : ℕ) (z : ℤ) (s : Slot) (cause : Cause) → RefusedInt t at z s cause → place_of cause ≡ at
int_place t at z s cause (ints_bad_length n) = refl
int_place t at z s cause (ints_bad_count name n) = refl
int_place t at z s cause (ints_bad_reference n) = refl
int_place t at z s cause (ints_bad_type form n) = refl
int_place t at z s cause (ints_bad_class n) = refl

element_place : (t : Tables) (at : ℕ) (ss : List Slot) (element : List ℕ) (cause : Cause) → Refused hessian faults node_limit t at ss element cause → place_of cause ≤ at + length element
element_place t at ss element cause (refused_double s r code w d) = omega arith
element_place t at ss element cause (refused_no_value s r code w n) = omega arith
element_place t at ss element cause (refused_no_end r) = omega arith
element_place t at ss element cause (refused_too_many s r code w b l) = omega arith
element_place t at ss element cause (refused_no_such_class s r code w is l m) = omega arith
element_place t at ss element cause (refused_no_int s r code w n) = omega arith
element_place t at ss element cause (refused_int s r z el why is q) = let e = int_place t at z s cause q in omega (arith, e)
element_place t at ss element cause (refused_no_text s r code w n) = omega arith
element_place t at ss element cause (refused_no_type form r code n m) = omega arith
element_place t at ss element cause (refused_text_code s r el p code m some f) = let w = f.within in omega (arith, w)
element_place t at ss element cause (refused_text_character s r el p m f) = let w = f.within in omega (arith, w)
element_place t at ss element cause (refused_binary_code s r el p code w some f) = let l = f.within in omega (arith, l)
element_place t at ss element cause (refused_trailing code) = omega arith

stopped_place : (roots : ℕ) (bytes : List ℕ) (cause : Cause) → Stopped hessian faults node_limit roots bytes cause → place_of cause ≤ length bytes
stopped_place roots bytes cause q =
    let p = element_place q.tables (length q.before) q.slots q.element cause q.refused in
    let a : length bytes ≡ length ((q.before ++ q.element) ++ q.rest) = ap length q.joined in
    let b = length-append (q.before ++ q.element) q.rest in
    let c = length-append q.before q.element in
    omega (arith, p, a, b, c)

pub refusal_place : (roots : ℕ) (bytes : List ℕ) (cause : Cause) → Refusal hessian faults node_limit roots bytes cause → place_of cause ≤ length bytes
refusal_place roots bytes cause (inl q) = stopped_place roots bytes cause q
refusal_place roots bytes cause (inr (cut, is)) = let e : place_of cause ≡ length bytes = ap place_of is in omega (arith, e)
