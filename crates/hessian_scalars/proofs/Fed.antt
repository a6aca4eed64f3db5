-- Each answer of a reader that is fed comes exactly where it may.
use Rattle.std.proofs.Common.{◌≡◌, ℕ, zero, suc, ◌+◌, ◌-◌, ◌≤◌, List, [], ◌∷◌, ◌++◌, length, take, Some, refl, sym, ap, subst, ◌∙◌, arith}
use Rattle.std.specs.Prelude.{◌↔◌, slice_get}
use Rattle.std.proofs.lemmas.List.{length-append}
use Rattle.hessian_scalars.specs.declared.scalar.Scalar.{Scalar}
use Rattle.hessian_scalars.specs.declared.front.Front.{Front}
use Rattle.hessian_scalars.specs.declared.front.Front.TheVariants as fronts
use Rattle.hessian_scalars.specs.ScalarSpelling.{IsDoubleCode}
use Rattle.hessian_scalars.specs.Read.{IsProperPrefix, BeginsNothing}
use Rattle.hessian_scalars.specs.Codes.{front_of}
use Rattle.hessian_scalars.specs.Feeding.{Completes, counted_behind, fed, kept}
use Rattle.hessian_scalars.proofs.Whole.{IsBytes}
use Rattle.hessian_scalars.proofs.Fronts.{has_code, found, part, double, Shows, shown}
use Rattle.hessian_scalars.proofs.Bytes.{IsBytes-append, take-behind}
use Rattle.hessian_scalars.proofs.Feeding.{came_bytes, came_ends, not_double, not_other, fed_is, kept_is, fed-fresh}

-- ---- refusals of a first byte

pub first_double : (rest : List ℕ) (code : ℕ) → slice_get rest 0 ≡ Some code → IsDoubleCode code → front_of rest ≡ fronts.Double code
first_double [] code g d = absurd cc
first_double (b ∷ bs) code g d =
    let same : b ≡ code = cc in
    rw same (double code bs d)

other_shown : (rest : List ℕ) (f : Front) (code : ℕ) → Shows rest f → slice_get rest 0 ≡ Some code → BeginsNothing code → f ≡ fronts.Other code
other_shown [] f code s g n = absurd cc
other_shown (b ∷ bs) (fronts.Whole v zero) code s g n = absurd (omega (arith, has_code v [] s.1))
other_shown (b ∷ bs) (fronts.Whole v (suc k)) code s g n =
    let same : b ≡ code = cc in
    absurd (n.no_scalar v (take k bs) (rw (← same) s.1))
other_shown (b ∷ bs) fronts.Part code s g n =
    let same : b ≡ code = cc in
    absurd (n.no_scalar s.value (bs ++ s.more) (rw (← same) s.spells))
other_shown (b ∷ bs) (fronts.Double c) code s g n =
    let same : c ≡ code = cc (s.0, g) in
    absurd (n.no_double (rw (← same) s.1))
other_shown (b ∷ bs) (fronts.Other c) code s g n =
    let same : c ≡ code = cc (s.0, g) in
    ap fronts.Other same

pub first_other : (rest : List ℕ) (code : ℕ) → IsBytes rest → slice_get rest 0 ≡ Some code → BeginsNothing code → front_of rest ≡ fronts.Other code
first_other rest code fits g n = other_shown rest (front_of rest) code (shown rest fits) g n

-- ---- the clauses

module _ (came piece : List ℕ) (p : IsProperPrefix came) (fits : IsBytes piece) where
  all_shown : (f : Front) → front_of (came ++ piece) ≡ f → Shows (came ++ piece) f
  all_shown f e = subst (Shows (came ++ piece)) e (shown (came ++ piece) (IsBytes-append came piece (came_bytes came p) fits))

  whole_only : (v : Scalar) (used : ℕ) (f : Front) → front_of (came ++ piece) ≡ f → counted_behind (length came) f ≡ fronts.Whole v used → (used ≤ length piece) × Completes came v (take used piece)
  whole_only v used (fronts.Whole w len) e h =
      let s = all_shown (fronts.Whole w len) e in
      let longer = came_ends came piece w len p e in
      let value : w ≡ v = cc in
      let rest : len - length came ≡ used = cc in
      let split = take-behind len came piece longer in
      (omega (arith, s.0, rest, longer, length-append came piece), rw (← value, ← rest, ← split) s.1)
  whole_only v used fronts.Part e h = absurd cc
  whole_only v used (fronts.Double d) e h = absurd cc
  whole_only v used (fronts.Other d) e h = absurd cc

  whole_from : (v : Scalar) (used : ℕ) → used ≤ length piece → Completes came v (take used piece) → fed came piece ≡ fronts.Whole v used
  whole_from v used l s =
      let rest : length came + used - length came ≡ used = omega arith in
      let split : take (length came + used) (came ++ piece) ≡ came ++ take used piece = take-behind (length came + used) came piece (omega arith) ∙ ap (λ (k : ℕ). came ++ take k piece) rest in
      let front : front_of (came ++ piece) ≡ fronts.Whole v (length came + used) = found (came ++ piece) v (length came + used) (omega (arith, l, length-append came piece)) (rw split s) in
      fed_is came piece _ front ∙ ap (λ (k : ℕ). fronts.Whole v k) rest

  pub whole_iff : (v : Scalar) (used : ℕ) → (fed came piece ≡ fronts.Whole v used) ↔ ((used ≤ length piece) × Completes came v (take used piece))
  whole_iff v used = (λ h. whole_only v used (front_of (came ++ piece)) refl (sym (fed_is came piece _ refl) ∙ h), λ s. whole_from v used s.0 s.1)

  part_only : (f : Front) → front_of (came ++ piece) ≡ f → counted_behind (length came) f ≡ fronts.Part → f ≡ fronts.Part
  part_only (fronts.Whole w len) e h = absurd cc
  part_only fronts.Part e h = refl
  part_only (fronts.Double d) e h = absurd cc
  part_only (fronts.Other d) e h = absurd cc

  part_front : fed came piece ≡ fronts.Part → front_of (came ++ piece) ≡ fronts.Part
  part_front h = part_only (front_of (came ++ piece)) refl (sym (fed_is came piece _ refl) ∙ h)

  pub part_iff : (fed came piece ≡ fronts.Part) ↔ IsProperPrefix (came ++ piece)
  part_iff = (λ h. all_shown fronts.Part (part_front h), λ q. fed_is came piece _ (part (came ++ piece) q))

  double_only : (code : ℕ) (f : Front) → front_of (came ++ piece) ≡ f → counted_behind (length came) f ≡ fronts.Double code → f ≡ fronts.Double code
  double_only code (fronts.Whole w len) e h = absurd cc
  double_only code fronts.Part e h = absurd cc
  double_only code (fronts.Double d) e h = h
  double_only code (fronts.Other d) e h = absurd cc

  pub double_iff : (code : ℕ) → (fed came piece ≡ fronts.Double code) ↔ ((came ≡ []) × (slice_get piece 0 ≡ Some code) × IsDoubleCode code)
  double_iff code = (
    λ h.
        let e = double_only code (front_of (came ++ piece)) refl (sym (fed_is came piece _ refl) ∙ h) in
        let empty = not_double came piece code p e in
        let s = all_shown (fronts.Double code) e in
        let first : slice_get (came ++ piece) 0 ≡ Some code = s.0 in
        (empty, rw empty at first, s.1),
    λ q. rw q.0 (fed-fresh piece ∙ first_double piece code q.1 q.2),
  )

  other_only : (code : ℕ) (f : Front) → front_of (came ++ piece) ≡ f → counted_behind (length came) f ≡ fronts.Other code → f ≡ fronts.Other code
  other_only code (fronts.Whole w len) e h = absurd cc
  other_only code fronts.Part e h = absurd cc
  other_only code (fronts.Double d) e h = absurd cc
  other_only code (fronts.Other d) e h = h

  pub other_iff : (code : ℕ) → (fed came piece ≡ fronts.Other code) ↔ ((came ≡ []) × (slice_get piece 0 ≡ Some code) × BeginsNothing code)
  other_iff code = (
    λ h.
        let e = other_only code (front_of (came ++ piece)) refl (sym (fed_is came piece _ refl) ∙ h) in
        let empty = not_other came piece code p e in
        let s = all_shown (fronts.Other code) e in
        let first : slice_get (came ++ piece) 0 ≡ Some code = s.0 in
        (empty, rw empty at first, s.1),
    λ q. rw q.0 (fed-fresh piece ∙ first_other piece code fits q.1 q.2),
  )

  pub goes_on : fed came piece ≡ fronts.Part → kept came piece ≡ came ++ piece
  goes_on h = kept_is came piece _ (part_front h)

  anew_by : (f : Front) → front_of (came ++ piece) ≡ f → (fed came piece ≡ fronts.Part → ⊥) → kept came piece ≡ []
  anew_by (fronts.Whole w len) e h = kept_is came piece _ e
  anew_by fronts.Part e h = absurd (h (fed_is came piece _ e))
  anew_by (fronts.Double d) e h = kept_is came piece _ e
  anew_by (fronts.Other d) e h = kept_is came piece _ e

  pub anew : (fed came piece ≡ fronts.Part → ⊥) → kept came piece ≡ []
  anew h = anew_by (front_of (came ++ piece)) refl h
