-- For machines above that are built over a reader of scalars.
use Rattle.std.proofs.Common.{◌≡◌, ℕ, ◌≤◌, Bool, true, false, ltb, List, [], ◌∷◌, ◌++◌, length, take, Some, refl, sym, ap, ◌∙◌, arith}
use Rattle.std.specs.Prelude.{◌↔◌, slice_get}
use Rattle.std.proofs.lemmas.Bool.{le-ltb, ltb-false}
use Rattle.std.proofs.lemmas.List.{length-append, take-append-le, take_all}
use Rattle.hessian_scalars.specs.declared.scalar.Scalar.{Scalar}
use Rattle.hessian_scalars.specs.declared.code.Opening.{Opening}
use Rattle.hessian_scalars.specs.declared.code.Opening.TheVariants as openings
use Rattle.hessian_scalars.specs.declared.front.Front.{Front}
use Rattle.hessian_scalars.specs.declared.front.Front.TheVariants as fronts
use Rattle.hessian_scalars.specs.ScalarSpelling.{ScalarSpelling, IsDoubleCode}
use Rattle.hessian_scalars.specs.Read.{IsProperPrefix, BeginsNothing}
use Rattle.hessian_scalars.specs.Codes.{opening_of, value_of, front_by, front_of}
use Rattle.hessian_scalars.specs.Feeding.{Completes, fed}
use Rattle.hessian_scalars.proofs.Whole.{IsBytes}
use Rattle.hessian_scalars.proofs.Fronts.{front_behind, found, Shows, shown}
use Rattle.hessian_scalars.proofs.Fed.{whole_iff, part_iff, double_iff, other_iff}

-- ---- an answer stays, whatever follows

stays_by : (c : ℕ) (a b : List ℕ) (o : Opening) → (front_by o c (c ∷ a) ≡ fronts.Part → ⊥) → front_by o c (c ∷ (a ++ b)) ≡ front_by o c (c ∷ a)
stays_by c a b openings.Double h = refl
stays_by c a b openings.Nothing h = refl
stays_by c a b (openings.Spelling len) h = by_room (ltb (length (c ∷ a)) len) refl h
  where
    by_room : (x : Bool) → ltb (length (c ∷ a)) len ≡ x → (front_by (openings.Spelling len) c (c ∷ a) ≡ fronts.Part → ⊥) → front_by (openings.Spelling len) c (c ∷ (a ++ b)) ≡ front_by (openings.Spelling len) c (c ∷ a)
    by_room true e h = absurd (h (rw e refl))
    by_room false e h =
        let within : len ≤ length (c ∷ a) = ltb-false _ _ e in
        let more : ltb (length (c ∷ (a ++ b))) len ≡ false = le-ltb _ _ (omega (arith, within, length-append a b)) in
        let same : take len (c ∷ (a ++ b)) ≡ take len (c ∷ a) = take-append-le len (c ∷ a) b within in
        rw (more, e) (ap (λ (l : List ℕ). fronts.Whole (value_of l) len) same)

pub front_stays : (a b : List ℕ) → (front_of a ≡ fronts.Part → ⊥) → front_of (a ++ b) ≡ front_of a
unfolding front_of
front_stays [] b h = absurd (h refl)
front_stays (c ∷ a) b h = front_behind c (a ++ b) ∙ stays_by c a b (opening_of c) (λ e. h (front_behind c a ∙ e)) ∙ sym (front_behind c a)

-- ---- bytes spell a value exactly where it is their front, with nothing behind it

spelled_only : (v : Scalar) (s : List ℕ) (f : Front) → Shows s f → f ≡ fronts.Whole v (length s) → ScalarSpelling v s
spelled_only v s (fronts.Whole w len) h e =
    let value : w ≡ v = cc in
    let all : len ≡ length s = cc in
    let same : take len s ≡ s = take_all len s (omega (arith, all)) in
    let spelled : ScalarSpelling w (take len s) = h.1 in
    rw (← value) (rw same at spelled)
spelled_only v s fronts.Part h e = absurd cc
spelled_only v s (fronts.Double d) h e = absurd cc
spelled_only v s (fronts.Other d) h e = absurd cc

pub spelled_iff : (v : Scalar) (s : List ℕ) → IsBytes s → ScalarSpelling v s ↔ (front_of s ≡ fronts.Whole v (length s))
spelled_iff v s fits = (
  λ t. found s v (length s) (omega arith) (rw (take_all (length s) s (omega arith)) t),
  λ e. spelled_only v s (front_of s) (shown s fits) e,
)

-- ---- the clauses of `feed` leave one answer

pub record FeedsAs (came piece : List ℕ) (r : Front) : Type 0 where
  pub whole : (v : Scalar) (used : ℕ) → (r ≡ fronts.Whole v used) ↔ ((used ≤ length piece) × Completes came v (take used piece))
  pub part : (r ≡ fronts.Part) ↔ IsProperPrefix (came ++ piece)
  pub double : (code : ℕ) → (r ≡ fronts.Double code) ↔ ((came ≡ []) × (slice_get piece 0 ≡ Some code) × IsDoubleCode code)
  pub other : (code : ℕ) → (r ≡ fronts.Other code) ↔ ((came ≡ []) × (slice_get piece 0 ≡ Some code) × BeginsNothing code)

one_answer : (came piece : List ℕ) (r f : Front) → fed came piece ≡ f → FeedsAs came piece r → IsProperPrefix came → IsBytes piece → r ≡ f
one_answer came piece r (fronts.Whole v used) e h p fits = (h.whole v used).1 ((whole_iff came piece p fits v used).0 e)
one_answer came piece r fronts.Part e h p fits = h.part.1 ((part_iff came piece p fits).0 e)
one_answer came piece r (fronts.Double c) e h p fits = (h.double c).1 ((double_iff came piece p fits c).0 e)
one_answer came piece r (fronts.Other c) e h p fits = (h.other c).1 ((other_iff came piece p fits c).0 e)

pub fed_exact : (came piece : List ℕ) (r : Front) → FeedsAs came piece r → IsProperPrefix came → IsBytes piece → r ≡ fed came piece
fed_exact came piece r h p fits = one_answer came piece r (fed came piece) refl h p fits
