-- A piece that goes on with what came, by way of nine bytes in which the two are joined.
use Rattle.std.proofs.Common.{◌≡◌, ℕ, ◌+◌, ◌-◌, ◌≤◌, List, [], ◌++◌, length, take, min, sym, ap, subst, ◌∙◌, arith}
use Rattle.std.proofs.lemmas.List.{length-take}
use Rattle.hessian_scalars.specs.declared.scalar.Scalar.{Scalar}
use Rattle.hessian_scalars.specs.declared.front.Front.{Front}
use Rattle.hessian_scalars.specs.declared.front.Front.TheVariants as fronts
use Rattle.hessian_scalars.specs.Read.{IsProperPrefix}
use Rattle.hessian_scalars.specs.Codes.{front_of}
use Rattle.hessian_scalars.specs.Feeding.{fed, kept}
use Rattle.hessian_scalars.proofs.Whole.{IsBytes}
use Rattle.hessian_scalars.proofs.Feeding.{came_ends, seen, all_taken, part_came, fed_is, kept_is}

-- what is known where the joined bytes were looked at, of which so many came before
pub record Going (came piece bytes joined : List ℕ) (before taken : ℕ) (f : Front) : Type 0 where
  pub view : take before bytes ≡ came
  pub invariant : (before ≤ 9) × IsProperPrefix (take before bytes)
  pub nine : length bytes ≡ 9
  pub room : taken ≡ min (length piece) (9 - before)
  pub join : take (before + length (take taken piece)) joined ≡ take before bytes ++ take taken piece
  pub front : f ≡ front_of (take (before + taken) joined)
  pub fits : IsBytes piece

pub going : (came piece bytes joined : List ℕ) (before taken : ℕ) (f : Front) → take before bytes ≡ came → (before ≤ 9) × IsProperPrefix (take before bytes) → length bytes ≡ 9
    → taken ≡ min (length piece) (9 - before) → take (before + length (take taken piece)) joined ≡ take before bytes ++ take taken piece
    → f ≡ front_of (take (before + taken) joined) → IsBytes piece → Going came piece bytes joined before taken f
going came piece bytes joined before taken f v i m r j p fits = record { view = v; invariant = i; nine = m; room = r; join = j; front = p; fits = fits }

module _ (came piece bytes joined : List ℕ) (before taken : ℕ) (f : Front) (g : Going came piece bytes joined before taken f) where
  came_length : length came ≡ before
  came_length = ap length (sym g.view) ∙ omega (arith, length-take before bytes, g.nine, g.invariant.0)

  came_begun : IsProperPrefix came
  came_begun = subst IsProperPrefix g.view g.invariant.1

  joined_is : take (before + taken) joined ≡ came ++ take taken piece
  joined_is =
      let len : length (take taken piece) ≡ taken = omega (arith, length-take taken piece, g.room) in
      let j : take (before + taken) joined ≡ take before bytes ++ take taken piece = rw len at g.join in
      j ∙ ap (λ (l : List ℕ). l ++ take taken piece) g.view

  joined_front : front_of (came ++ take taken piece) ≡ f
  joined_front = ap front_of (sym joined_is) ∙ sym g.front

  whole_front : front_of (came ++ piece) ≡ f
  whole_front = sym (seen came piece taken (omega (arith, came_length, g.invariant.0)) (omega (arith, came_length, g.room))) ∙ joined_front

  -- a whole scalar ends in the piece
  pub going_end : (v : Scalar) (end : ℕ) → f ≡ fronts.Whole v end → before ≤ end
  going_end v end e = omega (arith, came_length, came_ends came piece v end came_begun (whole_front ∙ e))

  pub going_whole : (v : Scalar) (end : ℕ) → f ≡ fronts.Whole v end → fronts.Whole v (end - before) ≡ fed came piece
  going_whole v end e = sym (fed_is came piece _ (whole_front ∙ e) ∙ ap (λ (k : ℕ). fronts.Whole v (end - k)) came_length)

  pub going_whole_kept : (v : Scalar) (end : ℕ) → f ≡ fronts.Whole v end → [] ≡ kept came piece
  going_whole_kept v end e = sym (kept_is came piece _ (whole_front ∙ e))

  pub going_part : f ≡ fronts.Part → fronts.Part ≡ fed came piece
  going_part e = sym (fed_is came piece _ (whole_front ∙ e))

  joined_all : f ≡ fronts.Part → take (before + taken) joined ≡ came ++ piece
  joined_all e = joined_is ∙ ap (λ (l : List ℕ). came ++ l) (all_taken came piece taken (omega (arith, came_length, g.room)) (joined_front ∙ e))

  pub going_part_kept : f ≡ fronts.Part → take (before + taken) joined ≡ kept came piece
  going_part_kept e = joined_all e ∙ sym (kept_is came piece _ (whole_front ∙ e))

  pub going_part_begun : f ≡ fronts.Part → (before + taken ≤ 9) × IsProperPrefix (take (before + taken) joined)
  going_part_begun e = (omega (arith, g.room, g.invariant.0), subst IsProperPrefix (sym (joined_all e)) (part_came came piece came_begun g.fits (whole_front ∙ e)))

  pub going_double : (c : ℕ) → f ≡ fronts.Double c → fronts.Double c ≡ fed came piece
  going_double c e = sym (fed_is came piece _ (whole_front ∙ e))

  pub going_double_kept : (c : ℕ) → f ≡ fronts.Double c → [] ≡ kept came piece
  going_double_kept c e = sym (kept_is came piece _ (whole_front ∙ e))

  pub going_other : (c : ℕ) → f ≡ fronts.Other c → fronts.Other c ≡ fed came piece
  going_other c e = sym (fed_is came piece _ (whole_front ∙ e))

  pub going_other_kept : (c : ℕ) → f ≡ fronts.Other c → [] ≡ kept came piece
  going_other_kept c e = sym (kept_is came piece _ (whole_front ∙ e))
