-- A new table keeps the rule, and its first seat knows all of it.
use Rattle.std.proofs.Common.{◌≡◌, ℕ, zero, suc, ◌+◌, ◌*◌, ◌<◌, inl, Option, Some, None, true≢false, eqb, replicate, map, List, [], ◌∷◌, length, get_or, slice_get, sym, refl, ap, ◌∙◌, subst, arith}
use mathlib.Core.Option as maybe
use lib.ListN.{get_elem?}
use Rattle.atomic_table.specs.Table as kit
use Rattle.pending_table.specs.SharedRule.{Phase, free, shown_word, home_of, Sits, Works, ClaimsOnce, Ledger, Knows, Shows, Kept}
use Rattle.pending_table.specs.SharedViews.{blank_desk, blank_part, blank_desks, blank_windows, whole_view}
use Rattle.pending_table.proofs.SharedFrame.{one_element}
use Rattle.pending_table.proofs.SharedLoss.{nothing_set}
use Rattle.pending_table.proofs.SharedShows.{no_element, get_inside}
use Rattle.pending_table.specs.declared.answers.Taken.{Taken}
use Rattle.pending_table.specs.declared.shared.parts.DeskPart.{DeskPart}
use Rattle.pending_table.specs.declared.shared.parts.View.{View}
use Rattle.pending_table.specs.declared.shared.parts.WindowPart.{WindowPart}

pub desks_count : (R : Type 0) (from count : ℕ) → length (blank_desks {R = R} from count) ≡ count
desks_count R from zero = refl
desks_count R from (suc count) = let rest = desks_count R (from + 1) count in omega arith

module _ {R : Type 0} where
  pub desk_is_blank : (from count i : ℕ) (d : DeskPart R) → slice_get (blank_desks from count) i ≡ Some d → blank_desk (from + i) ≡ d
  desk_is_blank from zero i d e = absurd (no_element d e)
  desk_is_blank from (suc count) zero d e = ap blank_desk (omega arith) ∙ one_element (blank_desk from) d e
  desk_is_blank from (suc count) (suc i) d e = ap blank_desk (omega arith) ∙ desk_is_blank (from + 1) count i d e

  -- the desk of a slot is the blank one
  pub desk_is : (count slot : ℕ) (d : DeskPart R) → slice_get (blank_desks 0 count) slot ≡ Some d → blank_desk slot ≡ d
  desk_is count slot d e = let same : slot ≡ 0 + slot = omega arith in ap blank_desk same ∙ desk_is_blank 0 count slot d e

  all_free : ℕ → List (Phase R)
  all_free zero = []
  all_free (suc count) = free ∷ all_free count

  phase_is_free : (count i : ℕ) (p : Phase R) → slice_get (all_free count) i ≡ Some p → free ≡ p
  unfolding all_free
  phase_is_free zero i p e = absurd (no_element p e)
  phase_is_free (suc count) zero p e = one_element free p e
  phase_is_free (suc count) (suc i) p e = phase_is_free count i p e

  home_is_empty : (count i : ℕ) → i < count → get_elem? (map (λ (o : Option (Taken R)). maybe.some o) (replicate count None)) i ≡ maybe.some (maybe.some None)
  home_is_empty zero i low = absurd (omega arith)
  home_is_empty (suc count) zero low = refl
  home_is_empty (suc count) (suc i) low = home_is_empty count i (omega arith)

  pub window_is_blank : (number : ℕ) (w : WindowPart R) → slice_get blank_windows number ≡ Some w → blank_part number ≡ w
  window_is_blank zero w e = one_element (blank_part 0) w e
  window_is_blank (suc zero) w e = one_element (blank_part 1) w e
  window_is_blank (suc (suc zero)) w e = one_element (blank_part 2) w e
  window_is_blank (suc (suc (suc number))) w e = absurd (no_element w e)

free_count : (R : Type 0) (count : ℕ) → length (all_free {R = R} count) ≡ count
unfolding all_free
free_count R zero = refl
free_count R (suc count) = let rest = free_count R count in omega arith

module _ {R K : Type 0} (fits : K → ℕ → R → Type 0) (key : K) (slots : ℕ) where
  blank_sits : (windows : List (WindowPart R)) (slot : ℕ) → Sits fits key slots windows 0 slot (blank_desk slot) free
  blank_sits windows slot = record {
    number = refl;
    is_open = refl;
    took = refl;
    small = omega arith;
    begun = λ opens. absurd (true≢false (sym opens));
    counted = refl;
    own = λ j o at. absurd (no_element o at);
    rising = λ i j a b less at _. absurd (no_element a at);
    newest = λ opens. absurd (true≢false (sym opens));
    settled = λ j e at. absurd (no_element e at);
    turn = tt;
    asked = inl refl;
  }

  blank_works : (desks : List (DeskPart R)) (phases : List (Phase R)) (number : ℕ) → Works fits key slots desks phases 0 0 number (blank_part number)
  blank_works desks phases number = record {
    number_is = refl;
    fair = λ i c at. absurd (no_element c at);
    older = λ i c at. absurd (no_element c at);
    gives = λ id x is. absurd (no_element {A = ℕ × Taken R} (id, x) is);
    named = λ id x is. absurd (no_element {A = ℕ × Taken R} (id, x) is);
    sees = λ i s at. absurd (no_element s at);
    set_is = sym (nothing_set (eqb number 0));
    kept_is = inl refl;
  }

  blank_once : ClaimsOnce fits key slots (blank_windows {R = R})
  blank_once k l i j v w a b kv lw ia jb e = absurd (no_element a (ap (λ (u : WindowPart R). slice_get u.log.claims i) (window_is_blank k v kv) ∙ ia))

  first_ledger : 0 < slots → Ledger fits key slots (blank_desks 0 slots) blank_windows (all_free slots) 0 0
  first_ledger some = record {
    desk_count = desks_count R 0 slots;
    phase_count = free_count R slots;
    window_count = refl;
    some_slot = some;
    sits = λ slot d p at there. subst (λ (y : DeskPart R × Phase R). Sits fits key slots blank_windows 0 slot y.0 y.1) (λ i. (desk_is slots slot d at i, phase_is_free slots slot p there i)) (blank_sits blank_windows slot);
    works = λ number w at. subst (Works fits key slots (blank_desks 0 slots) (all_free slots) 0 0 number) (window_is_blank number w at) (blank_works (blank_desks 0 slots) (all_free slots) number);
    once = blank_once;
    setter_there = λ none. absurd (none refl);
  }

  first_shows : (words : List ℕ) → length words ≡ 2 * slots + 1 → ((i : ℕ) → get_or words i 0 ≡ 0) → Shows fits key slots words (map (λ (o : Option (Taken R)). maybe.some o) (replicate slots None)) (blank_desks 0 slots) (all_free slots) 0
  first_shows words count zeros = record {
    word_count = count;
    states = λ slot d p at there. zeros slot ∙ (λ i. shown_word (desk_is slots slot d at i).log.last (phase_is_free slots slot p there i));
    deadlines = λ slot d at. zeros (slots + slot) ∙ ap (λ (y : DeskPart R). y.log.deadline) (desk_is slots slot d at);
    lost_is = zeros (2 * slots);
    at_home = λ slot p there.
        let low : slot < slots = let inside = get_inside (all_free slots) slot p there in let long = free_count R slots in omega arith in
        home_is_empty slots slot low ∙ ap (λ (q : Phase R). maybe.some (home_of q)) (phase_is_free slots slot p there);
  }

  only_view : (v view : View R K) (port : ℕ) → get_elem? (v ∷ []) port ≡ maybe.some view → (port ≡ 0) × (v ≡ view)
  only_view v view zero e = (refl, maybe.some-injective v view e)
  only_view v view (suc port) e = absurd (maybe.some-ne-none view (sym e))

  first_knows : Knows fits key slots (λ _. 0) (λ _. 0) (blank_desks 0 slots) (blank_windows {R = R}) 0 (whole_view key slots)
  first_knows = record {
    keyed = λ k is. sym (one_element key k is);
    has_desk = λ place d at. (refl, subst (λ (y : DeskPart R). slice_get (blank_desks 0 slots) y.slot ≡ Some y) (desk_is slots place d at) (at ∙ ap (λ (y : DeskPart R). Some y) (sym (desk_is slots place d at))));
    has_window = λ place w at. (refl, ap (λ (y : WindowPart R). slice_get (blank_windows {R = R}) y.number) (sym (window_is_blank place w at)) ∙ at);
  }

  pub first_keeps : (words : List ℕ) → 0 < slots → length words ≡ 2 * slots + 1 → ((i : ℕ) → get_or words i 0 ≡ 0) → Kept fits key slots (kit.opening words (replicate slots None) (whole_view key slots))
  first_keeps words some count zeros = record {
    desk_at = λ _. 0;
    window_at = λ _. 0;
    desks = blank_desks 0 slots;
    windows = blank_windows;
    phases = all_free slots;
    lost = 0;
    setter = 0;
    ledger = first_ledger some;
    shows = first_shows words count zeros;
    known = λ port view found. let one = only_view (whole_view key slots) view port found in
        subst (λ (y : ℕ × View R K). Knows fits key slots (λ _. 0) (λ _. 0) (blank_desks 0 slots) blank_windows y.0 y.1) (λ i. (sym one.0 i, one.1 i)) first_knows;
  }
