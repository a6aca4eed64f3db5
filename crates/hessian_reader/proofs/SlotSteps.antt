-- Each element that is taken meets the first slot by a row of loose spellings.
use Rattle.std.proofs.Common.{◌≡◌, ℕ, zero, suc, ◌-◌, ◌<◌, ◌≤◌, false, List, [], ◌∷◌, ◌++◌, length, refl, ap, sym, ◌∙◌, subst, arith, inl, inr}
use Rattle.std.specs.Prelude.{nat_eq, nat_le, Option, Some, None, Ok, ℤ, pos}
use Rattle.std.proofs.lemmas.Bool.{leb-true, ne_eqb, cond_both, eqb-true}
use Rattle.hessian_graph.specs.declared.value.Value.{Value}
use Rattle.hessian_graph.specs.declared.value.Value.TheVariants as values
use Rattle.hessian_graph.specs.declared.node.Class.{Class}
use Rattle.hessian_graph.specs.Shape.{Text}
use Rattle.hessian_graph.specs.Reading.{Tables, IsCode, one_more}
use Rattle.hessian_graph.specs.Loose.{Short, Slot, OneValue, Items, Entries, AReference, AType as TypeSlot, ALength, AClass as ClassSlot, AName as NameSlot, ACount, AField, ones, behind_type, begun_by, fields_left, class_so_far, TypedCode, ValueRow, LooseRow}
use Rattle.hessian_graph.specs.Loose.TypedCode.{open_list as l_open, long_list as l_long, short_list as l_short, map as l_map}
use Rattle.hessian_graph.specs.Loose.ValueRow.{scalar as v_scalar, text as v_text, binary as v_binary, refer as v_refer, define as v_define, open_list as v_open_list, long_list as v_long_list, short_list as v_short_list, typed as v_typed, open_map as v_open_map, long_object as v_long_object, short_object as v_short_object}
use Rattle.hessian_graph.specs.Loose.LooseRow.{value as x_value, item as x_item, key as x_key, no_item as x_no_item, no_entry as x_no_entry, reference as x_reference, type_name as x_type_name, type_number as x_type_number, list_length as x_list_length, class_number as x_class_number, class_name as x_class_name, field_count as x_field_count, field_name as x_field_name}
use Rattle.hessian_reader.specs.declared.element.Form.{Form}
use Rattle.hessian_reader.specs.declared.element.Form.TheVariants as forms
use Rattle.hessian_reader.specs.declared.element.Head.{Head}
use Rattle.hessian_reader.specs.declared.element.Element.{Element}
use Rattle.hessian_reader.specs.declared.element.Want.{Want}
use Rattle.hessian_reader.specs.declared.table.Sort.{Sort}
use Rattle.hessian_reader.specs.declared.table.Sort.TheVariants as sorts
use Rattle.hessian_reader.specs.declared.store.Lacks.{Lacks}
use Rattle.hessian_reader.specs.declared.store.OpenNode.{OpenNode}
use Rattle.hessian_reader.specs.declared.stop.Objection.TheVariants.{NoNode, NoType, NoClass, NoLength}
use Rattle.hessian_reader.specs.Leaves.{hessian, scalar_bytes}
use Rattle.hessian_reader.specs.Elements.{HeadCode, IsElement}
use Rattle.hessian_reader.specs.Elements.HeadCode.{refer as h_refer, short_list as h_short_list, open_list as h_open_list, long_list as h_long_list, open_typed_list as h_open_typed_list, long_typed_list as h_long_typed_list, short_typed_list as h_short_typed_list, typed_map as h_typed_map, open_map as h_open_map, define as h_define, short_object as h_short_object, long_object as h_long_object, end as h_end}
use Rattle.hessian_reader.specs.Elements.IsElement.{scalar as e_scalar, text as e_text, binary as e_binary, code as e_code, number as e_number, words as e_words}
use Rattle.hessian_text.specs.Spelling.{TextSpelling}
use Rattle.hessian_reader.specs.States.{Built, State, Place, AtValue, AtDefined, AtReference, AtType, AtLength, AtClass, AtName, AtCount, AtField as FieldPlace, ToEnd, Count, Key, Mate, one_less, with_value, with_open, with_node, begins_node, takes_value, moves_to, closes, begins_object, field_count, learns_type, awaits_fields, lacks_none, is_done}
use Rattle.hessian_reader.specs.Steps.{end_of, end_step, behind_type as goes_behind, header_step, class_step, head_step, number_step, words_step, take_element}
use Rattle.hessian_reader.proofs.Slots.{lacking_slots, slots_behind_value, open_slots, left_slots, loose_form, slots_at, slots_of, tables_of}
use Rattle.hessian_reader.proofs.Lacking.{Positive, AreOpen}
use Rattle.hessian_reader.proofs.Sound.{PlaceFits, Sound}
use Rattle.hessian_reader.proofs.Ahead.{TakesValue, value_tables, begins_tables}
use Rattle.hessian_reader.proofs.Outcomes.{ok_is, took_value, ended_there, had_room, was_below, was_natural, some_lacking}

-- ---- slots of open nodes

fewer : (k : ℕ) → k ≤ 1 → k - 1 ≡ 0
fewer k h = omega arith

less_slots : (lacks : Lacks) (n : ℕ) (os : List OpenNode) (wanted : ℕ) → open_slots (one_less lacks n os) wanted ≡ slots_behind_value lacks (open_slots os wanted)
less_slots ToEnd n os wanted = refl
less_slots (Count k) n os wanted = cond_both (nat_le k 1) os (record { node = n; lacks = Count (k - 1) } ∷ os) (λ x. open_slots x wanted ≡ ones (k - 1) (open_slots os wanted)) (λ few. ap (λ m. ones m (open_slots os wanted)) (sym (fewer k (leb-true k 1 few)))) (λ many. refl)
less_slots Key n os wanted = refl
less_slots Mate n os wanted = refl

given_slots : (os : List OpenNode) (v : Value) (b : Built) → open_slots (with_value os v b).open_nodes (with_value os v b).wanted ≡ left_slots os b.wanted
given_slots [] v b = refl
given_slots (o ∷ os) v b = less_slots o.lacks o.node os b.wanted

opened_slots : (lacks : Lacks) (n : ℕ) (os : List OpenNode) (wanted : ℕ) → open_slots (with_open lacks n os) wanted ≡ lacking_slots lacks (open_slots os wanted)
opened_slots ToEnd n os wanted = refl
opened_slots (Count k) n os wanted = cond_both (nat_eq k 0) os (record { node = n; lacks = Count k } ∷ os) (λ x. open_slots x wanted ≡ ones k (open_slots os wanted)) (λ e. ap (λ m. ones m (open_slots os wanted)) (sym (eqb-true k 0 e))) (λ many. refl)
opened_slots Key n os wanted = refl
opened_slots Mate n os wanted = refl

node_slots : (lacks : Lacks) (sort : Sort) (b : Built) → open_slots (with_node lacks sort b).open_nodes (with_node lacks sort b).wanted ≡ lacking_slots lacks (left_slots b.open_nodes b.wanted)
node_slots lacks sort b =
    let b1 : Built = with_value b.open_nodes (values.Node (length b.nodes)) b in
    opened_slots lacks (length b.nodes) b1.open_nodes b1.wanted ∙ ap (lacking_slots lacks) (given_slots b.open_nodes (values.Node (length b.nodes)) b)

-- ---- the slot of a value

-- the first slot takes a value, and what is left behind the value are these
pub record ValueSlot (slots left : List Slot) : Type 0 where
  pub slot : Slot
  pub others : List Slot
  pub splits : slots ≡ slot ∷ others
  pub row : {t u : Tables} {after : List Slot} {element : List ℕ} → ValueRow hessian t element left after u → LooseRow hessian t slot element others after u

by_lacks : (lacks : Lacks) (ss : List Slot) → Positive lacks → ValueSlot (lacking_slots lacks ss) (slots_behind_value lacks ss)
by_lacks ToEnd ss p = record { slot = Items; others = ss; splits = refl; row = λ r. x_item r }
by_lacks (Count zero) ss p = absurd (omega arith)
by_lacks (Count (suc k)) ss p = let e : suc k - 1 ≡ k = omega arith in rw e (record { slot = OneValue; others = ones k ss; splits = refl; row = λ r. x_value r })
by_lacks Key ss p = record { slot = Entries; others = ss; splits = refl; row = λ r. x_key r }
by_lacks Mate ss p = record { slot = OneValue; others = Entries ∷ ss; splits = refl; row = λ r. x_value r }

by_open : (n : ℕ) (os : List OpenNode) (wanted : ℕ) → AreOpen n os → lacks_none os wanted ≡ false → ValueSlot (open_slots os wanted) (left_slots os wanted)
by_open n [] zero sane some = absurd cc
by_open n [] (suc k) sane some = let e : suc k - 1 ≡ k = omega arith in rw e (record { slot = OneValue; others = ones k []; splits = refl; row = λ r. x_value r })
by_open n (o ∷ os) wanted sane some = by_lacks o.lacks (open_slots os wanted) sane.1

pub value_slot : (s : State) → Sound s → lacks_none s.built.open_nodes s.built.wanted ≡ false → TakesValue s.place → ValueSlot (slots_of s) (left_slots s.built.open_nodes s.built.wanted)
value_slot s sound some (inl e) = rw e (by_open (length s.built.nodes) s.built.open_nodes s.built.wanted sound.open_fit some)
value_slot s sound some (inr e) = rw e (record { slot = OneValue; others = left_slots s.built.open_nodes s.built.wanted; splits = refl; row = λ r. x_value r })

-- ---- one element

pub record LooseStep (s u : State) (element : List ℕ) : Type 0 where
  pub slot : Slot
  pub others : List Slot
  pub splits : slots_of s ≡ slot ∷ others
  pub row : LooseRow hessian (tables_of s) slot element others (slots_of u) (tables_of u)

-- a row leads to the state that was taken
stepped : (s m u : State) (element : List ℕ) (slot : Slot) (others after : List Slot) (t : Tables) → m ≡ u → slots_of s ≡ slot ∷ others → slots_of m ≡ after → tables_of m ≡ t → LooseRow hessian (tables_of s) slot element others after t → LooseStep s u element
stepped s m u element slot others after t e splits slots tables row = subst (λ x. LooseStep s x element) e (record {
  slot = slot;
  others = others;
  splits = splits;
  row = subst (λ x. LooseRow hessian (tables_of s) slot element others x (tables_of m)) (sym slots) (subst (λ x. LooseRow hessian (tables_of s) slot element others after x) (sym tables) row);
})

module _ (s u : State) (sound : Sound s) (some : lacks_none s.built.open_nodes s.built.wanted ≡ false) where
  abbrev left : List Slot
  left = left_slots s.built.open_nodes s.built.wanted

  -- a value, or its first element
  valued : (m : State) (element : List ℕ) (after : List Slot) (t : Tables) → TakesValue s.place → m ≡ u → slots_of m ≡ after → tables_of m ≡ t → ValueRow hessian (tables_of s) element left after t → LooseStep s u element
  valued m element after t p e slots tables row =
      let v = value_slot s sound some p in
      stepped s m u element v.slot v.others after t e v.splits slots tables (v.row row)

  plain : (v : Value) (element : List ℕ) → TakesValue s.place → takes_value v s ≡ u → ValueRow hessian (tables_of s) element left left (tables_of s) → LooseStep s u element
  plain v element p e row = valued (takes_value v s) element left (tables_of s) p e (given_slots s.built.open_nodes v s.built) (value_tables s v) row

  node : (lacks : Lacks) (sort : Sort) (element : List ℕ) → TakesValue s.place → begins_node lacks sort s ≡ u → ValueRow hessian (tables_of s) element left (lacking_slots lacks left) (one_more (tables_of s)) → LooseStep s u element
  node lacks sort element p e row = valued (begins_node lacks sort s) element (lacking_slots lacks left) (one_more (tables_of s)) p e (node_slots lacks sort s.built) (begins_tables s lacks sort) row

  typed : (form : Form) (c : ℕ) → TakesValue s.place → TypedCode (loose_form form) c → header_step (AtType form) s ≡ Ok u → LooseStep s u (c ∷ [])
  typed form c p code e = valued (moves_to (AtType form) s) (c ∷ []) (TypeSlot (loose_form form) ∷ left) (tables_of s) p (ok_is _ u (had_room s (Ok (moves_to (AtType form) s)) u e).1) refl refl (v_typed (loose_form form) c code)

  object : (k : ℕ) (c : ℕ) → TakesValue s.place → IsCode 0x60 0x6f c → k ≡ c - 0x60 → class_step (pos k) s ≡ Ok u → LooseStep s u (c ∷ [])
  object k c p row same e =
      let (j, is, low, e1) = was_below (pos k) (length s.names.classes) (λ n. begins_object n s) (NoClass (pos k)) u e in
      let kj : j ≡ c - 0x60 = let q : k ≡ j = cc in sym q ∙ same in
      node (Count (field_count s.names (c - 0x60))) (sorts.Object (c - 0x60)) (c ∷ []) p (ap (λ n. begins_object n s) (sym kj) ∙ e1) (v_short_object c row (subst (λ n. n < length s.names.classes) kj low))

  ends : (lacks : Lacks) (n : ℕ) (others : List OpenNode) → s.place ≡ AtValue → s.built.open_nodes ≡ record { node = n; lacks = lacks } ∷ others → end_of lacks others s ≡ Ok u → LooseStep s u (0x5a ∷ [])
  ends ToEnd n others p os e = stepped s (closes others s) u (0x5a ∷ []) Items (open_slots others s.built.wanted) (open_slots others s.built.wanted) (tables_of s) (ok_is (closes others s) u e) (rw (p, os) refl) (rw p refl) refl x_no_item
  ends (Count k) n others p os e = absurd cc
  ends Key n others p os e = stepped s (closes others s) u (0x5a ∷ []) Entries (open_slots others s.built.wanted) (open_slots others s.built.wanted) (tables_of s) (ok_is (closes others s) u e) (rw (p, os) refl) (rw p refl) refl x_no_entry
  ends Mate n others p os e = absurd cc

  ends_any : (os : List OpenNode) → s.place ≡ AtValue → s.built.open_nodes ≡ os → end_step os s ≡ Ok u → LooseStep s u (0x5a ∷ [])
  ends_any [] p same e = absurd cc
  ends_any (o ∷ os) p same e = ends o.lacks o.node os p same e

  head : (h : Head) (c : ℕ) → HeadCode h c → TakesValue s.place → head_step h s ≡ Ok u → LooseStep s u (c ∷ [])
  head h c h_refer p e = valued (moves_to AtReference s) (0x51 ∷ []) (AReference ∷ left) (tables_of s) p (ok_is (moves_to AtReference s) u e) refl refl v_refer
  head h c (h_short_list code k row same) p e = node (Count k) (sorts.List None) (code ∷ []) p (ok_is _ u (had_room s (Ok (begins_node (Count k) (sorts.List None) s)) u e).1) (subst (λ n. ValueRow hessian (tables_of s) (code ∷ []) left (ones n left) (one_more (tables_of s))) (sym same) (v_short_list code row))
  head h c h_open_list p e = node ToEnd (sorts.List None) (0x57 ∷ []) p (ok_is _ u (had_room s (Ok (begins_node ToEnd (sorts.List None) s)) u e).1) v_open_list
  head h c h_long_list p e = valued (moves_to (AtLength None) s) (0x58 ∷ []) (ALength ∷ left) (tables_of s) p (ok_is _ u (had_room s (Ok (moves_to (AtLength None) s)) u e).1) refl refl v_long_list
  head h c h_open_typed_list p e = typed forms.Open 0x55 p l_open e
  head h c h_long_typed_list p e = typed forms.Long 0x56 p l_long e
  head h c (h_short_typed_list code k row same) p e = typed (forms.Short k) code p (subst (λ n. TypedCode (Short n) code) (sym same) (l_short code row)) e
  head h c h_typed_map p e = typed forms.Pairs 0x4d p l_map e
  head h c h_open_map p e = node Key (sorts.Map None) (0x48 ∷ []) p (ok_is _ u (had_room s (Ok (begins_node Key (sorts.Map None) s)) u e).1) v_open_map
  head h c h_define p e = valued (moves_to AtName s) (0x43 ∷ []) (NameSlot ∷ OneValue ∷ left) (tables_of s) p (ok_is (moves_to AtName s) u e) refl refl v_define
  head h c (h_short_object code k row same) p e = object k code p row same (had_room s (class_step (pos k) s) u e).1
  head h c h_long_object p e = valued (moves_to AtClass s) (0x4f ∷ []) (ClassSlot ∷ left) (tables_of s) p (ok_is _ u (had_room s (Ok (moves_to AtClass s)) u e).1) refl refl v_long_object
  head h c h_end p e = let (q, e1) = ended_there s.place (end_step s.built.open_nodes s) u e in ends_any s.built.open_nodes q refl e1

  -- what comes in a header

  at_place : (m : State) (element : List ℕ) (p : Place) (slot : Slot) (others after : List Slot) (t : Tables) → s.place ≡ p → slots_at p (open_slots s.built.open_nodes s.built.wanted) left ≡ slot ∷ others → m ≡ u → slots_of m ≡ after → tables_of m ≡ t → LooseRow hessian (tables_of s) slot element others after t → LooseStep s u element
  at_place m element p slot others after t place splits e slots tables row = stepped s m u element slot others after t e (ap (λ q. slots_at q (open_slots s.built.open_nodes s.built.wanted) left) place ∙ splits) slots tables row

  fields_slots : (far : Class) (k : ℕ) → slots_of (awaits_fields far k s) ≡ fields_left far k (OneValue ∷ left)
  fields_slots far zero = refl
  fields_slots far (suc k) = rw (ne_eqb (suc k) 0 (λ z. omega arith)) refl

  fields_tables : (far : Class) (k : ℕ) → tables_of (awaits_fields far k s) ≡ class_so_far far k (tables_of s)
  fields_tables far zero = refl
  fields_tables far (suc k) = rw (ne_eqb (suc k) 0 (λ z. omega arith)) refl

  behind_slots : (r : State) (form : Form) (k : Option ℕ) → slots_of (goes_behind form k r) ≡ behind_type (loose_form form) (left_slots r.built.open_nodes r.built.wanted)
  behind_slots r forms.Open k = node_slots ToEnd (sorts.List k) r.built
  behind_slots r forms.Long k = refl
  behind_slots r (forms.Short n) k = node_slots (Count n) (sorts.List k) r.built
  behind_slots r forms.Pairs k = node_slots Key (sorts.Map k) r.built

  behind_tables : (r : State) (form : Form) (k : Option ℕ) → tables_of (goes_behind form k r) ≡ begun_by (loose_form form) (tables_of r)
  behind_tables r forms.Open k = begins_tables r ToEnd (sorts.List k)
  behind_tables r forms.Long k = refl
  behind_tables r (forms.Short n) k = begins_tables r (Count n) (sorts.List k)
  behind_tables r forms.Pairs k = begins_tables r Key (sorts.Map k)

  number : (p : Place) (z : ℤ) (element : List ℕ) → s.place ≡ p → scalar_bytes (values.Int z) element → number_step p z s ≡ Ok u → LooseStep s u element
  number AtValue z element p is e = absurd cc
  number AtDefined z element p is e = absurd cc
  number AtName z element p is e = absurd cc
  number (FieldPlace class k) z element p is e = absurd cc
  number AtReference z element p is e =
      let (k, same, low, e1) = was_below z (length s.built.nodes) (λ n. takes_value (values.Node n) s) (NoNode z) u e in
      at_place (takes_value (values.Node k) s) element AtReference AReference left left (tables_of s) p refl e1 (given_slots s.built.open_nodes (values.Node k) s.built) (value_tables s (values.Node k)) (x_reference z element is)
  number (AtType form) z element p is e =
      let (k, same, low, e1) = was_below z (length s.names.types) (λ j. goes_behind form (Some j) s) (NoType z) u e in
      at_place (goes_behind form (Some k) s) element (AtType form) (TypeSlot (loose_form form)) left (behind_type (loose_form form) left) (begun_by (loose_form form) (tables_of s)) p refl e1 (behind_slots s form (Some k)) (behind_tables s form (Some k)) (x_type_number (loose_form form) z element is)
  number (AtLength ty) z element p is e =
      let (k, same, e1) = was_natural z (λ j. begins_node (Count j) (sorts.List ty) s) (NoLength z) u e in
      at_place (begins_node (Count k) (sorts.List ty) s) element (AtLength ty) ALength left (ones k left) (one_more (tables_of s)) p refl e1 (node_slots (Count k) (sorts.List ty) s.built) (begins_tables s (Count k) (sorts.List ty)) (x_list_length (pos k) element (subst (λ y. scalar_bytes (values.Int y) element) same is))
  number AtClass z element p is e =
      let (k, same, low, e1) = was_below z (length s.names.classes) (λ n. begins_object n s) (NoClass z) u e in
      at_place (begins_object k s) element AtClass ClassSlot left (ones (field_count s.names k) left) (one_more (tables_of s)) p refl e1 (node_slots (Count (field_count s.names k)) (sorts.Object k) s.built) (begins_tables s (Count (field_count s.names k)) (sorts.Object k)) (x_class_number (pos k) element (subst (λ y. scalar_bytes (values.Int y) element) same is))
  number (AtCount name) z element p is e =
      let far : Class = record { name = name; fields = [] } in
      let (k, same, e1) = was_natural z (λ j. awaits_fields far j s) (NoLength z) u e in
      at_place (awaits_fields far k s) element (AtCount name) (ACount name) (OneValue ∷ left) (fields_left far k (OneValue ∷ left)) (class_so_far far k (tables_of s)) p refl e1 (fields_slots far k) (fields_tables far k) (x_field_count name (pos k) element (subst (λ y. scalar_bytes (values.Int y) element) same is))

  words : (p : Place) (text : Text) (element : List ℕ) → s.place ≡ p → TextSpelling text element → words_step p text s ≡ Ok u → LooseStep s u element
  words AtValue text element p is e = absurd cc
  words AtDefined text element p is e = absurd cc
  words AtReference text element p is e = absurd cc
  words (AtLength ty) text element p is e = absurd cc
  words AtClass text element p is e = absurd cc
  words (AtCount name) text element p is e = absurd cc
  words (AtType form) text element p is e =
      let r : State = learns_type text s in
      let k : Option ℕ = Some (length s.names.types) in
      at_place (goes_behind form k r) element (AtType form) (TypeSlot (loose_form form)) left (behind_type (loose_form form) left) (begun_by (loose_form form) (tables_of r)) p refl (ok_is (goes_behind form k r) u e) (behind_slots r form k) (behind_tables r form k) (x_type_name (loose_form form) text element is)
  words AtName text element p is e = at_place (moves_to (AtCount text) s) element AtName NameSlot (OneValue ∷ left) (ACount text ∷ OneValue ∷ left) (tables_of s) p refl (ok_is (moves_to (AtCount text) s) u e) refl refl (x_class_name text element is)
  words (FieldPlace class zero) text element p is e = absurd (let fits : PlaceFits s (FieldPlace class zero) = subst (PlaceFits s) p sound.place in omega (arith, fits.1))
  words (FieldPlace class (suc k)) text element p is e =
      let far : Class = record class { fields = class.fields ++ text ∷ [] } in
      let less : suc k - 1 ≡ k = omega arith in
      at_place (awaits_fields far k s) element (FieldPlace class (suc k)) (AField class (suc k)) (OneValue ∷ left) (fields_left far k (OneValue ∷ left)) (class_so_far far k (tables_of s)) p refl (ap (λ n. awaits_fields far n s) (sym less) ∙ ok_is (awaits_fields far (suc k - 1) s) u e) (fields_slots far k) (fields_tables far k) (x_field_name class k text element is)

  by_element : (w : Want) (x : Element) (element : List ℕ) → IsElement w element x → take_element s x ≡ Ok u → LooseStep s u element
  by_element w x element (e_scalar v bytes is spelled) e = let (p, e1) = took_value s.place (Ok (takes_value v s)) u e in plain v element p (ok_is _ u e1) (v_scalar v element is spelled)
  by_element w x element (e_text text bytes spelled) e = let (p, e1) = took_value s.place (Ok (takes_value (values.Text text) s)) u e in plain (values.Text text) element p (ok_is _ u e1) (v_text text element spelled)
  by_element w x element (e_binary contents bytes spelled) e = let (p, e1) = took_value s.place (Ok (takes_value (values.Bytes contents) s)) u e in plain (values.Bytes contents) element p (ok_is _ u e1) (v_binary contents element spelled)
  by_element w x element (e_code h code is) e = let (p, e1) = took_value s.place (head_step h s) u e in head h code is p e1
  by_element w x element (e_number w' z bytes takes spelled) e = number s.place z element refl spelled e
  by_element w x element (e_words w' text bytes takes spelled) e = words s.place text element refl spelled e

pub loose_step : (s u : State) (w : Want) (x : Element) (element : List ℕ) → Sound s → is_done s ≡ false → IsElement w element x → take_element s x ≡ Ok u → LooseStep s u element
loose_step s u w x element sound d is e = by_element s u sound (some_lacking s sound d) w x element is e
