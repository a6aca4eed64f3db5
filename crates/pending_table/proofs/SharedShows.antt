-- The words and the homes show the model still, after a step at the words of one slot.
use Rattle.std.proofs.Common.{◌≡◌, ◌≢◌, ℕ, zero, suc, ◌+◌, ◌*◌, ◌<◌, ⊎_elim, Option, Some, None, List, [], ◌∷◌, length, get_or, set, slice_get, sym, refl, ap, ◌∙◌, subst, arith, length-set, get_or-set_other, get_or-set_same}
use mathlib.Core.Option as maybe
use lib.ListN.{get_elem?}
use Rattle.atomic_table.proofs.Lists as kit
use Rattle.pending_table.specs.SharedRule.{Phase, shown_word, home_of, Shows}
use Rattle.pending_table.proofs.SharedFrame.{one_element, either_set, both_set}
use Rattle.pending_table.specs.declared.answers.Taken.{Taken}
use Rattle.pending_table.specs.declared.shared.parts.DeskPart.{DeskPart}

module _ {A : Type 0} where
  pub no_element : (a : A) → None ≡ Some a → ⊥
  no_element a e = subst (λ (o : Option A). elim o as (λ _. Type 0) [ None ↦ Unit {0} | Some b ↦ ⊥ ]) e tt

  pub get_inside : (l : List A) (i : ℕ) (a : A) → slice_get l i ≡ Some a → i < length l
  get_inside [] i a e = absurd (no_element a e)
  get_inside (x ∷ xs) zero a e = omega arith
  get_inside (x ∷ xs) (suc i) a e = let inside = get_inside xs i a e in omega arith

  pub get_there : (l : List A) (i : ℕ) → i < length l → (a : A) × (slice_get l i ≡ Some a)
  get_there [] i inside = absurd (omega arith)
  get_there (x ∷ xs) zero inside = (x, refl)
  get_there (x ∷ xs) (suc i) inside = get_there xs i (omega arith)

  pub set_same : (l : List A) (i : ℕ) (a : A) → slice_get l i ≡ Some a → set l i a ≡ l
  set_same [] i a e = refl
  set_same (x ∷ xs) zero a e = λ k. sym (one_element x a e) k ∷ xs
  set_same (x ∷ xs) (suc i) a e = λ k. x ∷ set_same xs i a e k

  pub home_inside : (l : List A) (i : ℕ) (a : A) → get_elem? l i ≡ maybe.some a → i < length l
  home_inside [] i a e = absurd (maybe.some-ne-none a (sym e))
  home_inside (x ∷ xs) zero a e = omega arith
  home_inside (x ∷ xs) (suc i) a e = let inside = home_inside xs i a e in omega arith

pub word_kept : (words : List ℕ) (i : ℕ) → set words i (get_or words i 0) ≡ words
word_kept [] i = refl
word_kept (x ∷ xs) zero = refl
word_kept (x ∷ xs) (suc i) = ap (λ (l : List ℕ). x ∷ l) (word_kept xs i)

module _ {R : Type 0} where
  -- each slot that is at home has what its phase says
  abbrev pub AreHomes : List (Phase R) → List (maybe.Option (Option (Taken R))) → Type 0
  AreHomes phases homes = (slot : ℕ) (phase : Phase R) → slice_get phases slot ≡ Some phase → get_elem? homes slot ≡ maybe.some (home_of phase)

  -- the slot's phase moves, and the slot stays where it is
  pub homes_stay : (homes : List (maybe.Option (Option (Taken R)))) (phases : List (Phase R)) (slot : ℕ) (p q : Phase R) → slice_get phases slot ≡ Some p → home_of q ≡ home_of p → AreHomes phases homes → AreHomes (set phases slot q) homes
  homes_stay homes phases slot p q at same are j r re = ⊎_elim
      (λ (x : (j ≡ slot) × (q ≡ r)). ap (get_elem? homes) x.0 ∙ (are slot p at ∙ ap (λ (h : maybe.Option (Option (Taken R))). maybe.some h) (sym same ∙ ap home_of x.1)))
      (λ (x : (j ≢ slot) × (slice_get phases j ≡ Some r)). are j r x.1) (either_set phases slot j q r re)

  -- the slot goes out, or comes home
  pub homes_move : (homes : List (maybe.Option (Option (Taken R)))) (phases : List (Phase R)) (slot : ℕ) (p q : Phase R) (home : maybe.Option (Option (Taken R))) → slice_get phases slot ≡ Some p → home ≡ home_of q → AreHomes phases homes → AreHomes (set phases slot q) (set homes slot home)
  homes_move homes phases slot p q home at is are j r re = ⊎_elim
      (λ (x : (j ≡ slot) × (q ≡ r)). ap (get_elem? (set homes slot home)) x.0 ∙ (kit.set_here homes slot home (home_inside homes slot (home_of p) (are slot p at)) ∙ ap (λ (h : maybe.Option (Option (Taken R))). maybe.some h) (is ∙ ap home_of x.1)))
      (λ (x : (j ≢ slot) × (slice_get phases j ≡ Some r)). kit.set_else homes slot j home x.0 ∙ are j r x.1) (either_set phases slot j q r re)

module _ {R K : Type 0} (fits : K → ℕ → R → Type 0) (key : K) (slots : ℕ) where
  -- what the words of a slot are after a step, where no others changed
  pub record IsWritten (slot : ℕ) (e : DeskPart R) (q : Phase R) (words news : List ℕ) : Type 0 where
    pub count : length news ≡ length words
    pub state : get_or news slot 0 ≡ shown_word e.log.last q
    pub deadline : get_or news (slots + slot) 0 ≡ e.log.deadline
    pub others : (j : ℕ) → j ≢ slot → j ≢ slots + slot → get_or news j 0 ≡ get_or words j 0

  pub shows_slot : (words news : List ℕ) (homes moved : List (maybe.Option (Option (Taken R)))) (desks : List (DeskPart R)) (phases : List (Phase R)) (lost slot : ℕ) (d e : DeskPart R) (q : Phase R)
      → Shows fits key slots words homes desks phases lost → length desks ≡ slots → slice_get desks slot ≡ Some d → IsWritten slot e q words news → AreHomes (set phases slot q) moved
      → Shows fits key slots news moved (set desks slot e) (set phases slot q) lost
  shows_slot words news homes moved desks phases lost slot d e q shows count at written are =
      let inside : slot < slots = let h = get_inside desks slot d at in omega arith in record {
        word_count = written.count ∙ shows.word_count;
        states = λ j f r fe re. both_set {F = get_or news j 0 ≡ shown_word f.log.last r} desks phases slot e q j f r fe re
            (λ here ef qr. ap (λ (k : ℕ). get_or news k 0) here ∙ (written.state ∙ (λ i. shown_word (ef i).log.last (qr i))))
            (λ other f' r'. let h = get_inside desks j f f' in written.others j other (λ z. omega arith) ∙ shows.states j f r f' r');
        deadlines = λ j f fe. ⊎_elim
            (λ (x : (j ≡ slot) × (e ≡ f)). ap (λ (k : ℕ). get_or news (slots + k) 0) x.0 ∙ (written.deadline ∙ ap (λ (y : DeskPart R). y.log.deadline) x.1))
            (λ (x : (j ≢ slot) × (slice_get desks j ≡ Some f)). let o = x.0 in written.others (slots + j) (λ z. omega arith) (λ z. o (omega arith)) ∙ shows.deadlines j f x.1) (either_set desks slot j e f fe);
        lost_is = written.others (2 * slots) (λ z. omega arith) (λ z. omega arith) ∙ shows.lost_is;
        at_home = are;
      }

  module _ (words : List ℕ) (homes : List (maybe.Option (Option (Taken R)))) (desks : List (DeskPart R)) (phases : List (Phase R)) (lost slot : ℕ) (d : DeskPart R) (p : Phase R) (shows : Shows fits key slots words homes desks phases lost) (count : length desks ≡ slots)
      (at : slice_get desks slot ≡ Some d) (there : slice_get phases slot ≡ Some p) where
    -- the state was written
    pub state_written : (e : DeskPart R) (q : Phase R) (word : ℕ) → word ≡ shown_word e.log.last q → e.log.deadline ≡ d.log.deadline → IsWritten slot e q words (set words slot word)
    state_written e q word is same =
        let inside : slot < slots = let h = get_inside desks slot d at in omega arith in
        let room : slot < length words = let h = shows.word_count in omega arith in record {
          count = length-set words slot word;
          state = get_or-set_same words slot word 0 room ∙ is;
          deadline = get_or-set_other words slot (slots + slot) word 0 (λ z. omega arith) ∙ (shows.deadlines slot d at ∙ sym same);
          others = λ j other _. get_or-set_other words slot j word 0 other;
        }

    -- the deadline was written
    pub deadline_written : (e : DeskPart R) (deadline : ℕ) → e.log.last ≡ d.log.last → e.log.deadline ≡ deadline → IsWritten slot e p words (set words (slots + slot) deadline)
    deadline_written e deadline same is =
        let inside : slot < slots = let h = get_inside desks slot d at in omega arith in
        let room : slots + slot < length words = let h = shows.word_count in omega arith in record {
          count = length-set words (slots + slot) deadline;
          state = get_or-set_other words (slots + slot) slot deadline 0 (λ z. omega arith) ∙ (shows.states slot d p at there ∙ ap (λ (k : ℕ). shown_word k p) (sym same));
          deadline = get_or-set_same words (slots + slot) deadline 0 room ∙ sym is;
          others = λ j _ other. get_or-set_other words (slots + slot) j deadline 0 other;
        }

    -- a word was written as it was
    pub nothing_written : (e : DeskPart R) (q : Phase R) (word : ℕ) → shown_word e.log.last q ≡ shown_word d.log.last p → e.log.deadline ≡ d.log.deadline → IsWritten slot e q words (set words word (get_or words word 0))
    nothing_written e q word shown same = subst (IsWritten slot e q words) (sym (word_kept words word)) (record {
      count = refl;
      state = shows.states slot d p at there ∙ sym shown;
      deadline = shows.deadlines slot d at ∙ sym same;
      others = λ j _ _. refl;
    })
