-- One byte keeps a stage sound.
use Rattle.std.proofs.Common.{◌≡◌, ℕ, ◌+◌, ◌*◌, ◌-◌, ◌<◌, List, [], refl, sym, subst, arith, inl, inr}
use Rattle.std.specs.Prelude.{Some}
use Rattle.std.proofs.lemmas.Bool.{cases_lt}
use Rattle.hessian_text.specs.declared.stage.Kind.{Kind}
use Rattle.hessian_text.specs.declared.stage.Part.{Part}
use Rattle.hessian_text.specs.declared.stage.Part.TheVariants.{Inner, Final}
use Rattle.hessian_text.specs.declared.stage.Begun.{Begun}
use Rattle.hessian_text.specs.declared.stage.Stage.{Stage}
use Rattle.hessian_text.specs.declared.stage.Stage.TheVariants.{Code, High, Low, Inside, Ended}
use Rattle.hessian_text.specs.declared.step.Item.{Item}
use Rattle.hessian_text.specs.declared.step.Item.TheVariants.{Grows, Whole, Wrong}
use Rattle.hessian_text.specs.Sound.{SoundBegun, SoundStage}
use Rattle.hessian_text.specs.Steps.{letter_bytes, letter_units, behind, entered, after_code, item_step, taken, step}
use Rattle.hessian_text.proofs.Characters.{item_grown}
use Rattle.hessian_text.proofs.Stages.{CodeRow, code_row, arrived_is, moved_is, entered_some, entered_none}
use Rattle.hessian_text.proofs.Stages.CodeRow.{short, middle, long}

pub entered_sound : (kind : Kind) (part : Part) (n : ℕ) → n < 65536 → SoundStage kind (entered part n)
entered_sound kind part n h = elim (cases_lt 0 n) [
  | inl k ↦ rw (entered_some part n k) (k, h, tt)
  | inr k ↦ let e : n ≡ 0 = omega arith in rw (entered_none part n e) (behind_sound kind part)
]
  where
    behind_sound : (kind : Kind) (part : Part) → SoundStage kind (behind part)
    behind_sound kind Inner = tt
    behind_sound kind Final = tt

sound_at : (kind : Kind) (s t : Stage) → s ≡ t → SoundStage kind s → SoundStage kind t
sound_at kind s t e h = subst (λ x. SoundStage kind x) e h

row_sound : (kind : Kind) (c : ℕ) (t : Stage) → CodeRow kind c t → SoundStage kind t
row_sound kind c t (short n h head e) = sound_at kind (entered Final n) t (sym e) (entered_sound kind Final n h)
row_sound kind c t (middle high h head e) = sound_at kind (Low Final high) t (sym e) h
row_sound kind c t (long part head e) = sound_at kind (High part) t (sym e) tt

taken_sound : (kind : Kind) (part : Part) (left : ℕ) (begun : Begun) (b : ℕ) (t : Stage) (gained : List ℕ) (out : Item) → 0 < left → left < 65536 → SoundBegun kind left begun → item_step kind left begun b ≡ out → taken part left out ≡ Some (t, gained) → SoundStage kind t
taken_sound kind part left begun b t gained (Grows p) some few s is e = sound_at kind (Inside part left p) t (moved_is (Inside part left p) t [] gained e).0 (some, few, (item_grown kind left begun b p s is).sound)
taken_sound kind part left begun b t gained (Whole w) some few s is e = sound_at kind (entered part (left - letter_units w)) t (moved_is (entered part (left - letter_units w)) t (letter_bytes w) gained e).0 (entered_sound kind part (left - letter_units w) (omega arith))
taken_sound kind part left begun b t gained Wrong some few s is e = absurd (cc)

pub stage_sound : (kind : Kind) (s t : Stage) (b : ℕ) (gained : List ℕ) → SoundStage kind s → b < 256 → step kind s b ≡ Some (t, gained) → SoundStage kind t
stage_sound kind Code t b gained s small e = row_sound kind b t (code_row kind b t (arrived_is (after_code kind b) t gained e).0)
stage_sound kind (High part) t b gained s small e = sound_at kind (Low part b) t (moved_is (Low part b) t [] gained e).0 small
stage_sound kind (Low part high) t b gained s small e = sound_at kind (entered part (high * 256 + b)) t (moved_is (entered part (high * 256 + b)) t [] gained e).0 (entered_sound kind part (high * 256 + b) (omega arith))
stage_sound kind (Inside part left begun) t b gained s small e = taken_sound kind part left begun b t gained (item_step kind left begun b) s.0 s.1 s.2 refl e
stage_sound kind Ended t b gained s small e = absurd (cc)
