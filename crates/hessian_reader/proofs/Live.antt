-- What a reading accepts is the front of a loose spelling.
use Rattle.std.proofs.Common.{ℕ, zero, suc, ◌-◌, ◌<◌, ◌≤◌, List, [], ◌∷◌, ◌++◌, length, refl, ap, sym, ◌∙◌, subst, arith, append_assoc}
use Rattle.std.specs.Prelude.{pos}
use Rattle.hessian_graph.specs.declared.value.Value.TheVariants as values
use Rattle.hessian_graph.specs.declared.node.Class.{Class}
use Rattle.hessian_graph.specs.Shape.{Text}
use Rattle.hessian_graph.specs.Reading.{Tables, no_tables, one_more, add_type}
use Rattle.hessian_graph.specs.Reading.IsScalar.{null as plain_null}
use Rattle.hessian_graph.specs.Loose.{LooseForm, Open, Long, Short, Pairs, Slot, OneValue, Items, Entries, AReference, AType as TypeSlot, ALength, AClass as ClassSlot, AName as NameSlot, ACount, AField, field_number, ones, fields_left, class_so_far, and_field, behind_type, begun_by, LooseRow, BeginsLoosely}
use Rattle.hessian_graph.specs.Loose.{Leads as LooseLeads}
use Rattle.hessian_graph.specs.Loose.Leads.{here as l_here, on as l_on}
use Rattle.hessian_graph.specs.Loose.ValueRow.{scalar as v_scalar}
use Rattle.hessian_graph.specs.Loose.LooseRow.{value as x_value, no_item as x_no_item, no_entry as x_no_entry, reference as x_reference, type_name as x_type_name, list_length as x_list_length, class_number as x_class_number, class_name as x_class_name, field_count as x_field_count, field_name as x_field_name}
use Rattle.hessian_scalars.specs.ScalarSpelling.ScalarSpelling.{null as spelled_null, int_in_code}
use Rattle.hessian_text.specs.ChunkHead.ChunkHead.{text_short}
use Rattle.hessian_text.specs.Items.Contents.{none as no_contents}
use Rattle.hessian_text.specs.Spelling.{TextSpelling}
use Rattle.hessian_text.specs.Spelling.Spelling.{last as last_chunk}
use Rattle.hessian_reader.specs.declared.store.Lacks.{Lacks}
use Rattle.hessian_reader.specs.declared.store.OpenNode.{OpenNode}
use Rattle.hessian_reader.specs.Leaves.{hessian, scalar_bytes, node_limit}
use Rattle.hessian_reader.specs.States.{State, Place, AtValue, AtDefined, AtReference, AtType, AtLength, AtClass, AtName, AtCount, AtField as FieldPlace, ToEnd, Count, Key, Mate, start, want_at}
use Rattle.hessian_reader.specs.Steps.{Leads}
use Rattle.hessian_reader.specs.Steps.Leads.{here, on}
use Rattle.hessian_reader.proofs.Slots.{lacking_slots, slots_behind_value, open_slots, left_slots, loose_form, slots_at, slots_of, tables_of}
use Rattle.hessian_reader.proofs.Sound.{PlaceFits, Sound}
use Rattle.hessian_reader.proofs.Keeping.{sound_take, sound_start, sound_leads}
use Rattle.hessian_reader.proofs.SlotSteps.{loose_step}

-- ---- whole elements

pub live : {s u : State} {bytes : List ℕ} → Sound s → Leads s bytes u → LooseLeads hessian (tables_of s) (slots_of s) bytes (tables_of u) (slots_of u)
live sound here = l_here
live {s = s} {u = u} {bytes = bytes} sound (on {t = t} x element rest bytes' d is took joined leads) =
    let step = loose_step s t (want_at s.place) x element sound d is took in
    subst (λ ss. LooseLeads hessian (tables_of s) ss bytes (tables_of u) (slots_of u)) (sym step.splits) (l_on element rest bytes step.row joined (live (sound_take s t x sound d took) leads))

pub leads_more : {t u w : Tables} {ss xs ys : List Slot} {a b : List ℕ} → LooseLeads hessian t ss a u xs → LooseLeads hessian u xs b w ys → LooseLeads hessian t ss (a ++ b) w ys
leads_more l_here m = m
leads_more {b = b} (l_on element rest bytes row joined leads) m = l_on element (rest ++ b) (bytes ++ b) row (ap (λ x. x ++ b) joined ∙ append_assoc element rest b) (leads_more leads m)

-- ---- every place can be filled

-- bytes fill all slots, and begin no node too many
pub record Closed (t : Tables) (ss : List Slot) : Type 0 where
  pub more : List ℕ
  pub last : Tables
  pub leads : LooseLeads hessian t ss more last []
  pub limit : last.begun ≤ node_limit

abbrev pub ArePlain : List Slot → Type 0
ArePlain [] = Unit {0}
ArePlain (OneValue ∷ ss) = ArePlain ss
ArePlain (Items ∷ ss) = ArePlain ss
ArePlain (Entries ∷ ss) = ArePlain ss
ArePlain (AReference ∷ ss) = ⊥
ArePlain (TypeSlot form ∷ ss) = ⊥
ArePlain (ALength ∷ ss) = ⊥
ArePlain (ClassSlot ∷ ss) = ⊥
ArePlain (NameSlot ∷ ss) = ⊥
ArePlain (ACount name ∷ ss) = ⊥
ArePlain (AField class k ∷ ss) = ⊥

pub ones_plain : (k : ℕ) (ss : List Slot) → ArePlain ss → ArePlain (ones k ss)
ones_plain zero ss p = p
ones_plain (suc k) ss p = ones_plain k ss p

lacking_plain : (lacks : Lacks) (ss : List Slot) → ArePlain ss → ArePlain (lacking_slots lacks ss)
lacking_plain ToEnd ss p = p
lacking_plain (Count k) ss p = ones_plain k ss p
lacking_plain Key ss p = p
lacking_plain Mate ss p = p

behind_plain : (lacks : Lacks) (ss : List Slot) → ArePlain ss → ArePlain (slots_behind_value lacks ss)
behind_plain ToEnd ss p = p
behind_plain (Count k) ss p = ones_plain (k - 1) ss p
behind_plain Key ss p = p
behind_plain Mate ss p = p

pub open_plain : (os : List OpenNode) (wanted : ℕ) → ArePlain (open_slots os wanted)
open_plain [] wanted = ones_plain wanted [] tt
open_plain (o ∷ os) wanted = lacking_plain o.lacks (open_slots os wanted) (open_plain os wanted)

pub left_plain : (os : List OpenNode) (wanted : ℕ) → ArePlain (left_slots os wanted)
left_plain [] wanted = ones_plain (wanted - 1) [] tt
left_plain (o ∷ os) wanted = behind_plain o.lacks (open_slots os wanted) (open_plain os wanted)

-- one row, and then the rest
pub filled : {t u : Tables} {slot : Slot} {others after : List Slot} (element : List ℕ) → LooseRow hessian t slot element others after u → Closed u after → Closed t (slot ∷ others)
filled element row c = record { more = element ++ c.more; last = c.last; leads = l_on element c.more (element ++ c.more) row refl c.leads; limit = c.limit }

-- values by null, lists and maps by their end
pub close_plain : (t : Tables) (ss : List Slot) → t.begun ≤ node_limit → ArePlain ss → Closed t ss
close_plain t [] low p = record { more = []; last = t; leads = l_here; limit = low }
close_plain t (OneValue ∷ ss) low p = filled (0x4e ∷ []) (x_value (v_scalar values.Null (0x4e ∷ []) plain_null spelled_null)) (close_plain t ss low p)
close_plain t (Items ∷ ss) low p = filled (0x5a ∷ []) x_no_item (close_plain t ss low p)
close_plain t (Entries ∷ ss) low p = filled (0x5a ∷ []) x_no_entry (close_plain t ss low p)
close_plain t (AReference ∷ ss) low p = absurd p
close_plain t (TypeSlot form ∷ ss) low p = absurd p
close_plain t (ALength ∷ ss) low p = absurd p
close_plain t (ClassSlot ∷ ss) low p = absurd p
close_plain t (NameSlot ∷ ss) low p = absurd p
close_plain t (ACount name ∷ ss) low p = absurd p
close_plain t (AField class k ∷ ss) low p = absurd p

-- ints by 0, and texts by the empty text
pub zero_spelled : scalar_bytes (values.Int (pos 0)) (0x90 ∷ [])
zero_spelled = int_in_code 0x90 (pos 0) (record { above = omega arith; below = omega arith }) refl

pub nothing_spelled : TextSpelling [] (0 ∷ [])
nothing_spelled = last_chunk [] (0 ∷ []) [] 0 (text_short 0 0 (record { low = omega arith; high = omega arith }) refl) no_contents

module _ (left : List Slot) (p : ArePlain left) where
  pub close_behind : (form : LooseForm) (t : Tables) → t.begun < node_limit → Closed (begun_by form t) (behind_type form left)
  close_behind Open t low = close_plain (one_more t) (Items ∷ left) low p
  close_behind Long t low = filled (0x90 ∷ []) (x_list_length (pos 0) (0x90 ∷ []) zero_spelled) (close_plain (one_more t) left low p)
  close_behind (Short k) t low = close_plain (one_more t) (ones k left) low (ones_plain k left p)
  close_behind Pairs t low = close_plain (one_more t) (Entries ∷ left) low p

  pub close_fields : (far : Class) (k : ℕ) (t : Tables) → t.begun ≤ node_limit → Closed (class_so_far far k t) (fields_left far k (OneValue ∷ left))
  close_fields far zero t low = close_plain (class_so_far far zero t) (OneValue ∷ left) low p
  close_fields far (suc k) t low = filled (0 ∷ []) (x_field_name far k [] (0 ∷ []) nothing_spelled) (close_fields (and_field far []) k t low)

  pub close_count : (name : Text) (t : Tables) → t.begun ≤ node_limit → Closed t (ACount name ∷ OneValue ∷ left)
  close_count name t low = filled (0x90 ∷ []) (x_field_count name (pos 0) (0x90 ∷ []) zero_spelled) (close_fields (record { name = name; fields = [] }) 0 t low)

  pub close_field : (class : Class) (k : ℕ) (t : Tables) → 0 < k → t.begun ≤ node_limit → Closed t (AField class k ∷ OneValue ∷ left)
  close_field class zero t some low = absurd (omega arith)
  close_field class (suc k) t some low = close_fields class (suc k) t low

  pub close_at : (s : State) (waiting : List Slot) (place : Place) → ArePlain waiting → length s.built.nodes ≤ node_limit → PlaceFits s place → Closed (tables_of s) (slots_at place waiting left)
  close_at s waiting AtValue q low fits = close_plain (tables_of s) waiting low q
  close_at s waiting AtDefined q low fits = close_plain (tables_of s) (OneValue ∷ left) low p
  close_at s waiting AtReference q low fits = filled (0x90 ∷ []) (x_reference (pos 0) (0x90 ∷ []) zero_spelled) (close_plain (tables_of s) left low p)
  close_at s waiting (AtType form) q low fits = filled (0 ∷ []) (x_type_name (loose_form form) [] (0 ∷ []) nothing_spelled) (close_behind (loose_form form) (add_type [] (tables_of s)) fits.1)
  close_at s waiting (AtLength k) q low fits = filled (0x90 ∷ []) (x_list_length (pos 0) (0x90 ∷ []) zero_spelled) (close_plain (one_more (tables_of s)) left fits.1 p)
  close_at s waiting AtClass q low fits = filled (0x90 ∷ []) (x_class_number (pos 0) (0x90 ∷ []) zero_spelled) (close_plain (one_more (tables_of s)) (ones (field_number (tables_of s) (pos 0)) left) fits.1 (ones_plain (field_number (tables_of s) (pos 0)) left p))
  close_at s waiting AtName q low fits = filled (0 ∷ []) (x_class_name [] (0 ∷ []) nothing_spelled) (close_count [] (tables_of s) low)
  close_at s waiting (AtCount name) q low fits = close_count name (tables_of s) low
  close_at s waiting (FieldPlace class k) q low fits = close_field class k (tables_of s) fits.1 low

pub close : (s : State) → Sound s → Closed (tables_of s) (slots_of s)
close s sound = close_at (left_slots s.built.open_nodes s.built.wanted) (left_plain s.built.open_nodes s.built.wanted) s (open_slots s.built.open_nodes s.built.wanted) s.place (open_plain s.built.open_nodes s.built.wanted) sound.limit sound.place

-- ---- the fronts of loose spellings

pub begins_by : {t : Tables} {ss : List Slot} (roots : ℕ) (bytes : List ℕ) → LooseLeads hessian no_tables (ones roots []) bytes t ss → Closed t ss → BeginsLoosely hessian node_limit roots bytes
begins_by roots bytes leads c = record { more = c.more; spelled = record { last = c.last; leads = leads_more leads c.leads; limit = c.limit } }

-- whole elements that are taken
pub live_whole : (roots : ℕ) (bytes : List ℕ) (s : State) → Leads (start roots) bytes s → BeginsLoosely hessian node_limit roots bytes
live_whole roots bytes s leads = begins_by roots bytes (live (sound_start roots) leads) (close s (sound_leads (sound_start roots) leads))
