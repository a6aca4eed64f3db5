-- A loose reading of bytes that were taken goes through the states that took them, and meets no refused int.
use Rattle.std.proofs.Common.{◌≡◌, ℕ, List, [], ◌∷◌, ◌++◌, length, refl, ap, sym, ◌∙◌, subst, append_assoc}
use Rattle.std.specs.Prelude.{Some, Ok, ℤ, pos, negsuc}
use Rattle.hessian_graph.specs.declared.value.Value.TheVariants as values
use Rattle.hessian_graph.specs.Reading.{Tables}
use Rattle.hessian_graph.specs.Loose.{LooseForm, Slot, AReference, AType as TypeSlot, ALength, AClass as ClassSlot, ACount, LooseRow}
use Rattle.hessian_graph.specs.Loose.{Leads as LooseLeads}
use Rattle.hessian_graph.specs.Loose.Leads.{here as l_here, on as l_on}
use Rattle.hessian_graph.specs.Refusal.{Cause, RefusedInt, IsBelow, IsNegative}
use Rattle.hessian_graph.specs.Refusal.RefusedInt.{bad_length, bad_count, bad_reference, bad_type, bad_class}
use Rattle.hessian_reader.specs.declared.element.Element.TheVariants as elements
use Rattle.hessian_reader.specs.declared.table.Sort.TheVariants as sorts
use Rattle.hessian_reader.specs.declared.stop.Objection.TheVariants.{NoNode, NoType, NoClass, NoLength}
use Rattle.hessian_reader.specs.Leaves.{hessian}
use Rattle.hessian_reader.specs.States.{State, Place, AtValue, AtDefined, AtReference, AtType, AtLength, AtClass, AtName, AtCount, AtField as FieldPlace, Count, begins_node, takes_value, begins_object, awaits_fields, want_at}
use Rattle.hessian_reader.specs.Steps.{behind_type as goes_behind, number_step, take_element, Leads}
use Rattle.hessian_reader.specs.Steps.Leads.{here, on}
use Rattle.hessian_reader.proofs.Slots.{open_slots, left_slots, loose_form, slots_at, slots_of, tables_of}
use Rattle.hessian_reader.proofs.Sound.{Sound}
use Rattle.hessian_reader.proofs.Keeping.{sound_take}
use Rattle.hessian_reader.proofs.Outcomes.{was_below, was_natural}
use Rattle.hessian_reader.proofs.Elements.{element_some}
use Rattle.hessian_reader.proofs.LeafBytes.{element_bytes}
use Rattle.hessian_reader.proofs.SlotSteps.{LooseStep, loose_step}
use Rattle.hessian_reader.proofs.LooseOnce.{want_of, Left, element_left, row_element, same_front}

-- ---- in step

pub record Reached (s u : State) (b m : List ℕ) (t : Tables) (ss : List Slot) : Type 0 where
  pub state : State
  pub sound : Sound state
  pub before : Leads s b state
  pub behind : Leads state m u
  pub tables : tables_of state ≡ t
  pub slots : slots_of state ≡ ss

first_slot : (s r : Slot) (ss rs : List Slot) → s ∷ ss ≡ r ∷ rs → s ≡ r
first_slot s r ss rs e = cc

other_slots : (s r : Slot) (ss rs : List Slot) → s ∷ ss ≡ r ∷ rs → ss ≡ rs
other_slots s r ss rs e = cc

nothing : (xs ys : List ℕ) → [] ≡ xs ++ ys → xs ≡ []
nothing [] ys e = refl
nothing (x ∷ xs) ys e = absurd cc

left_is : (a b : Left) → Some a ≡ Some b → a ≡ b
left_is a b e = cc

record InStep (element rest' el rest : List ℕ) (u : State) (ss' : List Slot) (t' : Tables) : Type 0 where
  bytes : element ≡ el
  behind : rest' ≡ rest
  slots : slots_of u ≡ ss'
  tables : tables_of u ≡ t'

in_step : (s u : State) (el rest element rest' : List ℕ) (t0 t' : Tables) (slot : Slot) (others ss' : List Slot) → LooseStep s u el → t0 ≡ tables_of s → slot ∷ others ≡ slots_of s → LooseRow hessian t0 slot element others ss' t' → element ++ rest' ≡ el ++ rest → InStep element rest' el rest u ss' t'
in_step s u el rest element rest' t0 t' slot others ss' step te se row joined =
    let p = row_element step.row in
    let e = se ∙ step.splits in
    let row1 : LooseRow hessian (tables_of s) slot element others ss' t' = subst (λ x. LooseRow hessian x slot element others ss' t') te row in
    let row2 : LooseRow hessian (tables_of s) step.slot element others ss' t' = subst (λ x. LooseRow hessian (tables_of s) x element others ss' t') (first_slot slot step.slot others step.others e) row1 in
    let row3 : LooseRow hessian (tables_of s) step.slot element step.others ss' t' = subst (λ x. LooseRow hessian (tables_of s) step.slot element x ss' t') (other_slots slot step.slot others step.others e) row2 in
    let q = row_element row3 in
    let same = same_front (want_of step.slot) element rest' el rest q.element p.element (element_bytes (want_of step.slot) element q.element q.is) joined q.is p.is in
    let left = left_is (record { slots = ss'; tables = t' }) (record { slots = slots_of u; tables = tables_of u }) (sym q.left ∙ ap (element_left (tables_of s) step.slot step.others) same.element ∙ p.left) in
    record {
      bytes = same.bytes;
      behind = same.behind;
      slots = sym (ap (λ (l : Left). l.slots) left);
      tables = sym (ap (λ (l : Left). l.tables) left);
    }

pub sync : {t0 t : Tables} {ss0 ss : List Slot} {b bytes : List ℕ} {s u : State} (m : List ℕ) → LooseLeads hessian t0 ss0 b t ss → t0 ≡ tables_of s → ss0 ≡ slots_of s → bytes ≡ b ++ m → Sound s → Leads s bytes u → Reached s u b m t ss
sync {s = s} {u = u} m l_here te se e sound l = record { state = s; sound = sound; before = here; behind = subst (λ x. Leads s x u) e l; tables = sym te; slots = sym se }
sync {t0 = t0} {s = s} m (l_on {t' = t'} {s = slot} {ss = others} {ss' = ss'} element rest b row joined leads) te se e sound here =
    let q = row_element row in
    absurd (element_some (want_of slot) element q.element q.is (nothing element (rest ++ m) (e ∙ ap (λ x. x ++ m) joined ∙ append_assoc element rest m)))
sync {t0 = t0} {ss = ss} {s = s} {u = u} m (l_on {t' = t'} {u = last} {s = slot} {ss = others} {ss' = ss'} element rest b row joined leads) te se e sound (on {t = t1} x el rest1 bytes d is took joined1 leads1) =
    let i = in_step s t1 el rest1 element (rest ++ m) t0 t' slot others ss' (loose_step s t1 (want_at s.place) x el sound d is took) te se row (sym (e ∙ ap (λ y. y ++ m) joined ∙ append_assoc element rest m) ∙ joined1) in
    let r = sync m leads (sym i.tables) (sym i.slots) (sym i.behind) (sound_take s t1 x sound d took) leads1 in
    record {
      state = r.state;
      sound = r.sound;
      before = on x el rest b d is took (joined ∙ ap (λ y. y ++ rest) i.bytes) r.before;
      behind = r.behind;
      tables = r.tables;
      slots = r.slots;
    }

-- ---- a refused int is not taken

no_reference : {t : Tables} {at : ℕ} {z : ℤ} {slot : Slot} {c : Cause} → RefusedInt t at z slot c → slot ≡ AReference → IsBelow z t.begun → ⊥
no_reference (bad_length n) e b = cc
no_reference (bad_count name n) e b = cc
no_reference (bad_reference n) e b = n b
no_reference (bad_type form n) e b = cc
no_reference (bad_class n) e b = cc

no_type : {t : Tables} {at : ℕ} {z : ℤ} {slot : Slot} {c : Cause} (form : LooseForm) → RefusedInt t at z slot c → slot ≡ TypeSlot form → IsBelow z (length t.types) → ⊥
no_type f (bad_length n) e b = cc
no_type f (bad_count name n) e b = cc
no_type f (bad_reference n) e b = cc
no_type f (bad_type form n) e b = n b
no_type f (bad_class n) e b = cc

no_class : {t : Tables} {at : ℕ} {z : ℤ} {slot : Slot} {c : Cause} → RefusedInt t at z slot c → slot ≡ ClassSlot → IsBelow z (length t.classes) → ⊥
no_class (bad_length n) e b = cc
no_class (bad_count name n) e b = cc
no_class (bad_reference n) e b = cc
no_class (bad_type form n) e b = cc
no_class (bad_class n) e b = n b

not_negative : {z : ℤ} (k : ℕ) → IsNegative z → z ≡ pos k → ⊥
not_negative k n e = let f : pos k ≡ negsuc n.0 = sym e ∙ n.1 in cc

no_length : {t : Tables} {at : ℕ} {z : ℤ} {slot : Slot} {c : Cause} (k : ℕ) → RefusedInt t at z slot c → slot ≡ ALength → z ≡ pos k → ⊥
no_length k (bad_length n) e b = not_negative k n b
no_length k (bad_count name n) e b = cc
no_length k (bad_reference n) e b = cc
no_length k (bad_type form n) e b = cc
no_length k (bad_class n) e b = cc

no_count : {t : Tables} {at : ℕ} {z : ℤ} {slot : Slot} {c : Cause} (name : List ℕ) (k : ℕ) → RefusedInt t at z slot c → slot ≡ ACount name → z ≡ pos k → ⊥
no_count m k (bad_length n) e b = cc
no_count m k (bad_count name n) e b = not_negative k n b
no_count m k (bad_reference n) e b = cc
no_count m k (bad_type form n) e b = cc
no_count m k (bad_class n) e b = cc

pub taken_not_refused : (s u : State) (z : ℤ) (at : ℕ) (slot : Slot) (others : List Slot) (c : Cause) → slots_of s ≡ slot ∷ others → take_element s (elements.Number z) ≡ Ok u → RefusedInt (tables_of s) at z slot c → ⊥
taken_not_refused s u z at slot others c splits took refused = by_place s.place refl took
  where
    slot_at : (p : Place) (first : Slot) (rest : List Slot) → s.place ≡ p → slots_at p (open_slots s.built.open_nodes s.built.wanted) (left_slots s.built.open_nodes s.built.wanted) ≡ first ∷ rest → slot ≡ first
    slot_at p first rest e f = first_slot slot first others rest (sym splits ∙ ap (λ q. slots_at q (open_slots s.built.open_nodes s.built.wanted) (left_slots s.built.open_nodes s.built.wanted)) e ∙ f)

    by_place : (p : Place) → s.place ≡ p → number_step p z s ≡ Ok u → ⊥
    by_place AtValue e t = cc
    by_place AtDefined e t = cc
    by_place AtName e t = cc
    by_place (FieldPlace class k) e t = cc
    by_place AtReference e t = let (k, same, low, e1) = was_below z (length s.built.nodes) (λ n. takes_value (values.Node n) s) (NoNode z) u t in no_reference refused (slot_at AtReference AReference _ e refl) (k, same, low)
    by_place (AtType form) e t = let (k, same, low, e1) = was_below z (length s.names.types) (λ j. goes_behind form (Some j) s) (NoType z) u t in no_type (loose_form form) refused (slot_at (AtType form) (TypeSlot (loose_form form)) _ e refl) (k, same, low)
    by_place (AtLength ty) e t = let (k, same, e1) = was_natural z (λ j. begins_node (Count j) (sorts.List ty) s) (NoLength z) u t in no_length k refused (slot_at (AtLength ty) ALength _ e refl) same
    by_place AtClass e t = let (k, same, low, e1) = was_below z (length s.names.classes) (λ n. begins_object n s) (NoClass z) u t in no_class refused (slot_at AtClass ClassSlot _ e refl) (k, same, low)
    by_place (AtCount name) e t = let (k, same, e1) = was_natural z (λ j. awaits_fields (record { name = name; fields = [] }) j s) (NoLength z) u t in no_count name k refused (slot_at (AtCount name) (ACount name) _ e refl) same
