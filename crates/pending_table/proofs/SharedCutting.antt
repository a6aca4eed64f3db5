-- The seat of the next desk, or of the next window, may be cut off.
use Rattle.std.proofs.Common.{◌≡◌, ℕ, zero, suc, ◌+◌, ◌-◌, ◌<◌, Some, List, [], ◌∷◌, slice_get, ap, ◌∙◌, arith}
use Rattle.atomic_table.specs.Table.{Splits}
use Rattle.pending_table.specs.Cutting.{view_from, windows_from, blank_parts}
use Rattle.pending_table.specs.Seats.{one_desk, one_window}
use Rattle.pending_table.specs.SharedRule.{Kept}
use Rattle.pending_table.specs.SharedViews.{blank_desk, blank_desks, blank_part, without_desk, desk_alone, without_window, window_alone}
use Rattle.pending_table.proofs.SharedCuts.{cuts_desk, cuts_window}
use Rattle.pending_table.proofs.SharedFirst.{desk_is_blank}
use Rattle.pending_table.specs.declared.shared.parts.DeskPart.{DeskPart}
use Rattle.pending_table.proofs.SharedFrame.{one_element}
use Rattle.pending_table.proofs.SharedShows.{no_element}
use Rattle.pending_table.specs.declared.shared.parts.View.{View}
use Rattle.pending_table.specs.declared.shared.parts.WindowPart.{WindowPart}

module _ {R : Type 0} (slots slot : ℕ) (low : slot < slots) where
  next_desk : blank_desks {R = R} slot (slots - slot) ≡ blank_desk slot ∷ blank_desks (slot + 1) (slots - (slot + 1))
  next_desk = let count : slots - slot ≡ suc (slots - (slot + 1)) = omega arith in ap (blank_desks {R = R} slot) count

module _ {R K : Type 0} (fits : K → ℕ → R → Type 0) (key : K) (slots slot : ℕ) (low : slot < slots) (view : View R K) (is : view ≡ view_from key slots slot) where
  desks_are : view.desks ≡ blank_desk slot ∷ blank_desks (slot + 1) (slots - (slot + 1))
  desks_are = ap (λ (v : View R K). v.desks) is ∙ next_desk {R = R} slots slot low

  pub cuts_next : (me : ℕ) → Splits (Kept fits key slots) me view (without_desk view) (desk_alone view)
  cuts_next me = cuts_desk fits key slots me view (blank_desk slot) (blank_desks (slot + 1) (slots - (slot + 1))) desks_are
      (λ i c at same. let is_slot : slot + 1 + i ≡ c.slot = ap (λ (d : DeskPart R). d.slot) (desk_is_blank (slot + 1) (slots - (slot + 1)) i c at) in let one : c.slot ≡ slot = same in omega arith)

  pub left_over : without_desk view ≡ view_from key slots (slot + 1)
  left_over = ap without_desk is ∙ ap (λ (ds : List (DeskPart R)). without_desk (record { key = Some key; desks = ds; windows = (view_from {R = R} key slots slot).windows })) (next_desk {R = R} slots slot low)

  pub cut_off : desk_alone view ≡ one_desk (Some key) (blank_desk slot)
  cut_off = ap desk_alone is ∙ ap (λ (ds : List (DeskPart R)). desk_alone (record { key = Some key; desks = ds; windows = (view_from {R = R} key slots slot).windows })) (next_desk {R = R} slots slot low)

module _ {R K : Type 0} (key : K) (slots : ℕ) where
  -- no desk is left
  pub desks_gone : view_from {R = R} key slots slots ≡ windows_from key 0
  desks_gone = let none : slots - slots ≡ 0 = omega arith in ap (λ (count : ℕ). record { key = Some key; desks = blank_desks {R = R} slots count; windows = blank_parts {R = R} 0 3 }) none

module _ {R : Type 0} where
  part_is_blank : (from count i : ℕ) (w : WindowPart R) → slice_get (blank_parts from count) i ≡ Some w → blank_part (from + i) ≡ w
  part_is_blank from zero i w e = absurd (no_element w e)
  part_is_blank from (suc count) zero w e = ap blank_part (omega arith) ∙ one_element (blank_part from) w e
  part_is_blank from (suc count) (suc i) w e = ap blank_part (omega arith) ∙ part_is_blank (from + 1) count i w e

  next_window : (number : ℕ) → number < 3 → blank_parts {R = R} number (3 - number) ≡ blank_part number ∷ blank_parts (number + 1) (3 - (number + 1))
  next_window number low = let count : 3 - number ≡ suc (3 - (number + 1)) = omega arith in ap (blank_parts {R = R} number) count

module _ {R K : Type 0} (fits : K → ℕ → R → Type 0) (key : K) (slots number : ℕ) (low : number < 3) (view : View R K) (is : view ≡ windows_from key number) where
  windows_are : view.windows ≡ blank_part number ∷ blank_parts (number + 1) (3 - (number + 1))
  windows_are = ap (λ (v : View R K). v.windows) is ∙ next_window {R = R} number low

  pub cuts_next_window : (me : ℕ) → Splits (Kept fits key slots) me view (without_window view) (window_alone view)
  cuts_next_window me = cuts_window fits key slots me view (blank_part number) (blank_parts (number + 1) (3 - (number + 1))) windows_are
      (λ i c at same. let is_number : number + 1 + i ≡ c.number = ap (λ (w : WindowPart R). w.number) (part_is_blank (number + 1) (3 - (number + 1)) i c at) in let one : c.number ≡ number = same in omega arith)

  pub windows_left : without_window view ≡ windows_from key (number + 1)
  windows_left = ap without_window is ∙ ap (λ (ws : List (WindowPart R)). without_window (record { key = Some key; desks = []; windows = ws })) (next_window {R = R} number low)

  pub window_cut : window_alone view ≡ one_window (Some key) (blank_part number)
  window_cut = ap window_alone is ∙ ap (λ (ws : List (WindowPart R)). window_alone (record { key = Some key; desks = []; windows = ws })) (next_window {R = R} number low)
