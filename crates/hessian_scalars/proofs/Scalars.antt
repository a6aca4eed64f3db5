-- Each answer of the reader of scalars comes exactly where it may.
use Rattle.std.proofs.Common.{◌≡◌, ℕ, ◌+◌, ◌-◌, ◌≤◌, List, length, drop, Some, Result, Ok, Err, sym, ap, ◌∙◌, arith}
use Rattle.std.specs.Prelude.{◌↔◌, slice_get}
use Rattle.std.proofs.lemmas.List.{length-take, length-drop}
use Rattle.hessian_scalars.specs.declared.scalar.Scalar.{Scalar}
use Rattle.hessian_scalars.specs.declared.front.Front.{Front}
use Rattle.hessian_scalars.specs.declared.front.Front.TheVariants as fronts
use Rattle.hessian_scalars.specs.declared.fault.ScalarFault.{ScalarFault}
use Rattle.hessian_scalars.specs.declared.fault.ScalarFault.TheVariants as faults
use Rattle.hessian_scalars.specs.ScalarSpelling.{IsDoubleCode}
use Rattle.hessian_scalars.specs.Read.{IsSpelledAt, IsProperPrefix, BeginsNothing}
use Rattle.hessian_scalars.specs.Codes.{front_of}
use Rattle.hessian_scalars.specs.Feeding.{placed}
use Rattle.hessian_scalars.proofs.Whole.{IsBytes}
use Rattle.hessian_scalars.proofs.Fronts.{IsBytes-drop, has_code, found, part, Shows, shown}
use Rattle.hessian_scalars.proofs.Ints.{get-drop}
use Rattle.hessian_scalars.proofs.Fed.{first_double, first_other}

-- what is in an Ok; `cc` does not look into a pair
pair_is : (x y : Scalar × ℕ) → ◌≡◌ {A = Result (Scalar × ℕ) ScalarFault} (Ok x) (Ok y) → x ≡ y
pair_is x y e = cc

module _ (bytes : List ℕ) (at : ℕ) (starts : at ≤ length bytes) (are_bytes : IsBytes bytes) where
  abbrev answer : Result (Scalar × ℕ) ScalarFault
  answer = placed at (length bytes) (front_of (drop at bytes))

  rest_shown : Shows (drop at bytes) (front_of (drop at bytes))
  rest_shown = shown (drop at bytes) (IsBytes-drop at bytes are_bytes)

  ok_only : (v : Scalar) (end : ℕ) (f : Front) → Shows (drop at bytes) f → placed at (length bytes) f ≡ Ok (v, end) → IsSpelledAt bytes at v end
  ok_only v end (fronts.Whole w len) s e =
      let pair : ◌≡◌ {A = Scalar × ℕ} (w, at + len) (v, end) = pair_is (w, at + len) (v, end) e in
      let value : w ≡ v = ap (λ (x : Scalar × ℕ). x.0) pair in
      let place : at + len ≡ end = ap (λ (x : Scalar × ℕ). x.1) pair in
      let rest : len ≡ end - at = omega (arith, place) in
      record { within = omega (arith, place, s.0, length-drop at bytes); spells = rw (← value, ← rest) s.1 }
  ok_only v end fronts.Part s e = absurd cc
  ok_only v end (fronts.Double c) s e = absurd cc
  ok_only v end (fronts.Other c) s e = absurd cc

  pub ok_iff : (v : Scalar) (end : ℕ) → (answer ≡ Ok (v, end)) ↔ IsSpelledAt bytes at v end
  ok_iff v end = (
    λ e. ok_only v end (front_of (drop at bytes)) rest_shown e,
    λ s.
        let more = has_code v _ s.spells in
        let place : at + (end - at) ≡ end = omega (arith, more, length-take (end - at) (drop at bytes)) in
        let front = found (drop at bytes) v (end - at) (omega (arith, s.within, length-drop at bytes)) s.spells in
        ap (placed at (length bytes)) front ∙ ap (λ (k : ℕ). Ok (v, k)) place,
  )

  short_only : (place : ℕ) (f : Front) → Shows (drop at bytes) f → placed at (length bytes) f ≡ Err (faults.Short place) → (place ≡ length bytes) × IsProperPrefix (drop at bytes)
  short_only place (fronts.Whole w len) s e = absurd cc
  short_only place fronts.Part s e = (cc, s)
  short_only place (fronts.Double c) s e = absurd cc
  short_only place (fronts.Other c) s e = absurd cc

  pub short_iff : (place : ℕ) → (answer ≡ Err (faults.Short place)) ↔ ((place ≡ length bytes) × IsProperPrefix (drop at bytes))
  short_iff place = (
    λ e. short_only place (front_of (drop at bytes)) rest_shown e,
    λ p. ap (placed at (length bytes)) (part (drop at bytes) p.1) ∙ ap (λ (k : ℕ). Err (faults.Short k)) (sym p.0),
  )

  double_only : (place code : ℕ) (f : Front) → Shows (drop at bytes) f → placed at (length bytes) f ≡ Err (faults.Double place code) → (place ≡ at) × (slice_get bytes at ≡ Some code) × IsDoubleCode code
  double_only place code (fronts.Whole w len) s e = absurd cc
  double_only place code fronts.Part s e = absurd cc
  double_only place code (fronts.Double c) s e =
      let same : c ≡ code = cc (e) in
      (cc (e), sym (get-drop at bytes) ∙ s.0 ∙ ap (λ (k : ℕ). Some k) same, rw (← same) s.1)
  double_only place code (fronts.Other c) s e = absurd cc

  pub double_iff : (place code : ℕ) → (answer ≡ Err (faults.Double place code)) ↔ ((place ≡ at) × (slice_get bytes at ≡ Some code) × IsDoubleCode code)
  double_iff place code = (
    λ e. double_only place code (front_of (drop at bytes)) rest_shown e,
    λ p. ap (placed at (length bytes)) (first_double (drop at bytes) code (get-drop at bytes ∙ p.1) p.2) ∙ ap (λ (k : ℕ). Err (faults.Double k code)) (sym p.0),
  )

  other_only : (place code : ℕ) (f : Front) → Shows (drop at bytes) f → placed at (length bytes) f ≡ Err (faults.Other place code) → (place ≡ at) × (slice_get bytes at ≡ Some code) × BeginsNothing code
  other_only place code (fronts.Whole w len) s e = absurd cc
  other_only place code fronts.Part s e = absurd cc
  other_only place code (fronts.Double c) s e = absurd cc
  other_only place code (fronts.Other c) s e =
      let same : c ≡ code = cc (e) in
      (cc (e), sym (get-drop at bytes) ∙ s.0 ∙ ap (λ (k : ℕ). Some k) same, rw (← same) s.1)

  pub other_iff : (place code : ℕ) → (answer ≡ Err (faults.Other place code)) ↔ ((place ≡ at) × (slice_get bytes at ≡ Some code) × BeginsNothing code)
  other_iff place code = (
    λ e. other_only place code (front_of (drop at bytes)) rest_shown e,
    λ p. ap (placed at (length bytes)) (first_other (drop at bytes) code (IsBytes-drop at bytes are_bytes) (get-drop at bytes ∙ p.1) p.2) ∙ ap (λ (k : ℕ). Err (faults.Other k code)) (sym p.0),
  )
