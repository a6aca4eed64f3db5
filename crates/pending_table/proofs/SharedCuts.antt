-- Seats are cut from the first one, and joined again.
use Rattle.std.proofs.Common.{◌≡◌, ◌≢◌, ℕ, zero, suc, ⊎_elim, Some, Bool, if◌then◌else◌, eqb, eq-eqb, ne_eqb, List, [], ◌∷◌, ◌++◌, length, set, slice_get, sym, refl, ap, ◌∙◌, subst}
use mathlib.Core.Option as maybe
use lib.ListN.{get_elem?}
use Rattle.atomic_table.specs.Table.{Splits, Joins}
use Rattle.atomic_table.proofs.Lists.{at_set}
use Rattle.pending_table.specs.SharedRule.{Knows, Kept}
use Rattle.pending_table.specs.SharedViews.{first_only, but_first, without_desk, desk_alone, without_window, window_alone, gathered, spent}
use Rattle.pending_table.proofs.SharedShows.{no_element}
use Rattle.pending_table.proofs.Sitting.{get_alone}
use Rattle.pending_table.specs.declared.shared.parts.DeskPart.{DeskPart}
use Rattle.pending_table.specs.declared.shared.parts.View.{View}
use Rattle.pending_table.specs.declared.shared.parts.WindowPart.{WindowPart}

in_either : {A F : Type 0} (xs ys : List A) (i : ℕ) (a : A) → slice_get (xs ++ ys) i ≡ Some a → ((j : ℕ) → slice_get xs j ≡ Some a → F) → ((j : ℕ) → slice_get ys j ≡ Some a → F) → F
in_either [] ys i a e left right = right i e
in_either (x ∷ xs) ys zero a e left right = left 0 e
in_either (x ∷ xs) ys (suc i) a e left right = in_either xs ys i a e (λ j h. left (suc j) h) right

view_more : {A F : Type 0} (xs : List A) (x : A) (i : ℕ) (a : A) → get_elem? (xs ++ x ∷ []) i ≡ maybe.some a → (get_elem? xs i ≡ maybe.some a → F) → (i ≡ length xs → x ≡ a → F) → F
view_more [] x zero a e old last = last refl (maybe.some-injective x a e)
view_more [] x (suc i) a e old last = absurd (maybe.some-ne-none a (sym e))
view_more (y ∷ ys) x zero a e old last = old e
view_more (y ∷ ys) x (suc i) a e old last = view_more ys x i a e old (λ here is. last (ap suc here) is)

-- the owners, where those of one port are now another's
handed : (ℕ → ℕ) → ℕ → ℕ → ℕ → ℕ
handed at from to k = if eqb (at k) from then to else at k

handed_here : (at : ℕ → ℕ) (from to k : ℕ) → at k ≡ from → handed at from to k ≡ to
unfolding handed
handed_here at from to k e = ap (λ (b : Bool). if b then to else at k) (eq-eqb (at k) from e)

handed_else : (at : ℕ → ℕ) (from to k port : ℕ) → at k ≡ port → port ≢ from → handed at from to k ≡ port
unfolding handed
handed_else at from to k port e other = ap (λ (b : Bool). if b then to else at k) (ne_eqb (at k) from (λ z. other (sym e ∙ z))) ∙ e

-- the owners, where one part has gone to another port
moved : (ℕ → ℕ) → ℕ → ℕ → ℕ → ℕ
moved at one port k = if eqb k one then port else at k

moved_here : (at : ℕ → ℕ) (one port : ℕ) → moved at one port one ≡ port
unfolding moved
moved_here at one port = ap (λ (b : Bool). if b then port else at one) (eq-eqb one one refl)

moved_else : (at : ℕ → ℕ) (one port k : ℕ) → k ≢ one → moved at one port k ≡ at k
unfolding moved
moved_else at one port k other = ap (λ (b : Bool). if b then port else at k) (ne_eqb k one other)

module _ {R K : Type 0} (fits : K → ℕ → R → Type 0) (key : K) (slots : ℕ) where
  -- a seat takes in the parts of another
  pub joins : (me : ℕ) (v : View R K) (other : ℕ) (w : View R K) → Joins (Kept fits key slots) me v other w (gathered v w) spent
  joins me v other w state rule at two there =
      let was : get_elem? state.views other ≡ maybe.some w = ⊎_elim (λ x. absurd (two x.0)) (λ x. x.1) (at_set state.views me other (gathered v w) w there) in
      let mine = rule.known me v at in
      let theirs = rule.known other w was in
      let desk_owner : ℕ → ℕ = handed rule.desk_at other me in
      let window_owner : ℕ → ℕ = handed rule.window_at other me in
      let P : ℕ → View R K → Type 0 = Knows fits key slots desk_owner window_owner rule.desks rule.windows in
      let not_other : me ≢ other = λ e. two (sym e) in
      record {
        desk_at = desk_owner;
        window_at = window_owner;
        desks = rule.desks;
        windows = rule.windows;
        phases = rule.phases;
        lost = rule.lost;
        setter = rule.setter;
        ledger = rule.ledger;
        shows = rule.shows;
        known = λ j u found. ⊎_elim
            (λ (x : (j ≡ other) × (spent ≡ u)). subst (λ (y : ℕ × View R K). P y.0 y.1) (λ i. (sym x.0 i, x.1 i)) (record { keyed = λ k e. absurd (no_element k e); has_desk = λ i c f. absurd (no_element c f); has_window = λ i c f. absurd (no_element c f) }))
            (λ (x : (j ≢ other) × (get_elem? (set state.views me (gathered v w)) j ≡ maybe.some u)). ⊎_elim
            (λ (y : (j ≡ me) × (gathered v w ≡ u)). subst (λ (z : ℕ × View R K). P z.0 z.1) (λ i. (sym y.0 i, y.1 i)) (record {
              keyed = mine.keyed;
              has_desk = λ i c f. in_either v.desks w.desks i c f
                  (λ k h. let q = mine.has_desk k c h in (handed_else rule.desk_at other me c.slot me q.0 not_other, q.1))
                  (λ k h. let q = theirs.has_desk k c h in (handed_here rule.desk_at other me c.slot q.0, q.1));
              has_window = λ i c f. in_either v.windows w.windows i c f
                  (λ k h. let q = mine.has_window k c h in (handed_else rule.window_at other me c.number me q.0 not_other, q.1))
                  (λ k h. let q = theirs.has_window k c h in (handed_here rule.window_at other me c.number q.0, q.1));
            }))
            (λ (y : (j ≢ me) × (get_elem? state.views j ≡ maybe.some u)). let k = rule.known j u y.1 in record {
              keyed = k.keyed;
              has_desk = λ i c f. let q = k.has_desk i c f in (handed_else rule.desk_at other me c.slot j q.0 x.0, q.1);
              has_window = λ i c f. let q = k.has_window i c f in (handed_else rule.window_at other me c.number j q.0 x.0, q.1);
            })
            (at_set state.views me j (gathered v w) u x.1))
            (at_set (set state.views me (gathered v w)) other j spent u found);
      }

  -- the seat of the first desk is cut off
  pub cuts_desk : (me : ℕ) (v : View R K) (d : DeskPart R) (ds : List (DeskPart R)) → v.desks ≡ d ∷ ds → ((i : ℕ) (c : DeskPart R) → slice_get ds i ≡ Some c → c.slot ≢ d.slot) → Splits (Kept fits key slots) me v (without_desk v) (desk_alone v)
  cuts_desk me v d ds is apart state rule at =
      let port : ℕ = length (set state.views me (without_desk v)) in
      let mine = rule.known me v at in
      let first_is : first_only v.desks ≡ d ∷ [] = ap (first_only {A = DeskPart R}) is in
      let others_are : but_first v.desks ≡ ds = ap (but_first {A = DeskPart R}) is in
      let here = mine.has_desk 0 d (ap (λ (l : List (DeskPart R)). slice_get l 0) is) in
      let owner : ℕ → ℕ = moved rule.desk_at d.slot port in
      let P : ℕ → View R K → Type 0 = Knows fits key slots owner rule.window_at rule.desks rule.windows in
      let old : (j : ℕ) (u : View R K) → get_elem? (set state.views me (without_desk v)) j ≡ maybe.some u → P j u = λ j u found. ⊎_elim
      (λ (x : (j ≡ me) × (without_desk v ≡ u)). subst (λ (y : ℕ × View R K). P y.0 y.1) (λ i. (sym x.0 i, x.1 i)) (record {
        keyed = mine.keyed;
        has_desk = λ i c f. let there : slice_get ds i ≡ Some c = ap (λ (l : List (DeskPart R)). slice_get l i) (sym others_are) ∙ f in
            let h = mine.has_desk (suc i) c (ap (λ (l : List (DeskPart R)). slice_get l (suc i)) is ∙ there) in (moved_else rule.desk_at d.slot port c.slot (apart i c there) ∙ h.0, h.1);
        has_window = mine.has_window;
      }))
      (λ (x : (j ≢ me) × (get_elem? state.views j ≡ maybe.some u)). let k = rule.known j u x.1 in record {
        keyed = k.keyed;
        has_desk = λ i c f. let h = k.has_desk i c f in (moved_else rule.desk_at d.slot port c.slot (λ same. x.0 (sym h.0 ∙ (ap rule.desk_at same ∙ here.0))) ∙ h.0, h.1);
        has_window = k.has_window;
      })
      (at_set state.views me j (without_desk v) u found) in record {
        desk_at = owner;
        window_at = rule.window_at;
        desks = rule.desks;
        windows = rule.windows;
        phases = rule.phases;
        lost = rule.lost;
        setter = rule.setter;
        ledger = rule.ledger;
        shows = rule.shows;
        known = λ j u found. view_more (set state.views me (without_desk v)) (desk_alone v) j u found (old j u)
            (λ last same. subst (λ (y : ℕ × View R K). P y.0 y.1) (λ i. (sym last i, same i)) (record {
              keyed = mine.keyed;
              has_desk = λ i c f. let one : d ≡ c = get_alone d c i (ap (λ (l : List (DeskPart R)). slice_get l i) (sym first_is) ∙ f) in
                  subst (λ (y : DeskPart R). (owner y.slot ≡ port) × (slice_get rule.desks y.slot ≡ Some y)) one (moved_here rule.desk_at d.slot port, here.1);
              has_window = λ i c f. absurd (no_element c f);
            }));
      }

  -- the seat of the first window is cut off
  pub cuts_window : (me : ℕ) (v : View R K) (w : WindowPart R) (ws : List (WindowPart R)) → v.windows ≡ w ∷ ws → ((i : ℕ) (c : WindowPart R) → slice_get ws i ≡ Some c → c.number ≢ w.number) → Splits (Kept fits key slots) me v (without_window v) (window_alone v)
  cuts_window me v w ws is apart state rule at =
      let port : ℕ = length (set state.views me (without_window v)) in
      let mine = rule.known me v at in
      let first_is : first_only v.windows ≡ w ∷ [] = ap (first_only {A = WindowPart R}) is in
      let others_are : but_first v.windows ≡ ws = ap (but_first {A = WindowPart R}) is in
      let here = mine.has_window 0 w (ap (λ (l : List (WindowPart R)). slice_get l 0) is) in
      let owner : ℕ → ℕ = moved rule.window_at w.number port in
      let P : ℕ → View R K → Type 0 = Knows fits key slots rule.desk_at owner rule.desks rule.windows in
      let old : (j : ℕ) (u : View R K) → get_elem? (set state.views me (without_window v)) j ≡ maybe.some u → P j u = λ j u found. ⊎_elim
      (λ (x : (j ≡ me) × (without_window v ≡ u)). subst (λ (y : ℕ × View R K). P y.0 y.1) (λ i. (sym x.0 i, x.1 i)) (record {
        keyed = mine.keyed;
        has_desk = mine.has_desk;
        has_window = λ i c f. let there : slice_get ws i ≡ Some c = ap (λ (l : List (WindowPart R)). slice_get l i) (sym others_are) ∙ f in
            let h = mine.has_window (suc i) c (ap (λ (l : List (WindowPart R)). slice_get l (suc i)) is ∙ there) in (moved_else rule.window_at w.number port c.number (apart i c there) ∙ h.0, h.1);
      }))
      (λ (x : (j ≢ me) × (get_elem? state.views j ≡ maybe.some u)). let k = rule.known j u x.1 in record {
        keyed = k.keyed;
        has_desk = k.has_desk;
        has_window = λ i c f. let h = k.has_window i c f in (moved_else rule.window_at w.number port c.number (λ same. x.0 (sym h.0 ∙ (ap rule.window_at same ∙ here.0))) ∙ h.0, h.1);
      })
      (at_set state.views me j (without_window v) u found) in record {
        desk_at = rule.desk_at;
        window_at = owner;
        desks = rule.desks;
        windows = rule.windows;
        phases = rule.phases;
        lost = rule.lost;
        setter = rule.setter;
        ledger = rule.ledger;
        shows = rule.shows;
        known = λ j u found. view_more (set state.views me (without_window v)) (window_alone v) j u found (old j u)
            (λ last same. subst (λ (y : ℕ × View R K). P y.0 y.1) (λ i. (sym last i, same i)) (record {
              keyed = mine.keyed;
              has_desk = λ i c f. absurd (no_element c f);
              has_window = λ i c f. let one : w ≡ c = get_alone w c i (ap (λ (l : List (WindowPart R)). slice_get l i) (sym first_is) ∙ f) in
                  subst (λ (y : WindowPart R). (owner y.number ≡ port) × (slice_get rule.windows y.number ≡ Some y)) one (moved_here rule.window_at w.number port, here.1);
            }));
      }
