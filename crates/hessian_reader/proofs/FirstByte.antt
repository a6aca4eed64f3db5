-- The first byte of an element that its place refuses.
use Rattle.std.proofs.Common.{◌≡◌, ◌≢◌, ℕ, false, List, [], ◌∷◌, ◌++◌, length, refl, ap, sym, ◌∙◌, subst}
use Rattle.hessian_graph.specs.declared.value.Value.TheVariants as values
use Rattle.hessian_graph.specs.Reading.IsScalar.{null, bool, int, long, date}
use Rattle.hessian_graph.specs.Loose.{Slot, AReference, AType as TypeSlot, ALength, AClass as ClassSlot, AName as NameSlot, ACount, AField}
use Rattle.hessian_graph.specs.Refusal.{Cause, Double, BadCode, BeginsNoInt, BeginsNoText, BeginsNoValue, Refused, Stopped}
use Rattle.hessian_graph.specs.Refusal.BeginsNode.{map as b_map, typed_map as b_typed_map, long_object as b_long_object, open_typed_list as b_open_typed_list, long_typed_list as b_long_typed_list, open_list as b_open_list, long_list as b_long_list, short_object as b_short_object, short_typed_list as b_short_typed_list, short_list as b_short_list}
use Rattle.hessian_graph.specs.Refusal.WantsInt.{of_reference, of_length, of_class as int_of_class, of_count}
use Rattle.hessian_graph.specs.Refusal.WantsName.{of_class as name_of_class, of_field}
use Rattle.hessian_graph.specs.Refusal.Refused.{double as f_double, no_value as f_no_value, no_int as f_no_int, no_text as f_no_text, no_type as f_no_type}
use Rattle.hessian_scalars.specs.declared.scalar.Scalar.{Scalar}
use Rattle.hessian_scalars.specs.declared.scalar.Scalar.TheVariants as scalars
use Rattle.hessian_scalars.specs.ScalarSpelling.{ScalarSpelling, IsDoubleCode}
use Rattle.hessian_text.specs.declared.stage.Kind.{Kind}
use Rattle.hessian_text.specs.declared.stage.Kind.TheVariants as kinds
use Rattle.hessian_text.specs.Spelling.{Spelling}
use Rattle.hessian_reader.specs.declared.element.Head.{Head}
use Rattle.hessian_reader.specs.declared.element.Element.{Element}
use Rattle.hessian_reader.specs.declared.element.Want.{Want}
use Rattle.hessian_reader.specs.declared.element.Want.TheVariants as wants
use Rattle.hessian_reader.specs.Leaves.{hessian, node_limit}
use Rattle.hessian_reader.specs.Elements.{HeadCode, HasNoElement}
use Rattle.hessian_reader.specs.Elements.HeadCode.{refer as h_refer, short_list as h_short_list, open_list as h_open_list, long_list as h_long_list, open_typed_list as h_open_typed_list, long_typed_list as h_long_typed_list, short_typed_list as h_short_typed_list, typed_map as h_typed_map, open_map as h_open_map, define as h_define, short_object as h_short_object, long_object as h_long_object, end as h_end}
use Rattle.hessian_reader.specs.States.{State, Place, AtValue, AtDefined, AtReference, AtType, AtLength, AtClass, AtName, AtCount, AtField as FieldPlace, start, want_at, is_done}
use Rattle.hessian_reader.specs.Steps.{Leads}
use Rattle.hessian_reader.proofs.Slots.{open_slots, left_slots, loose_form, slots_at, slots_of, tables_of}
use Rattle.hessian_reader.specs.Faults.{faults}
use Rattle.hessian_reader.proofs.Keeping.{sound_start, sound_leads}
use Rattle.hessian_reader.proofs.Outcomes.{some_lacking}
use Rattle.hessian_reader.proofs.Elements.{Formed}
use Rattle.hessian_reader.proofs.Elements.Formed.{a_scalar, chunks, head as a_head}
use Rattle.hessian_reader.proofs.LexScalars.{refused, double_refused}
use Rattle.hessian_reader.proofs.LooseOnce.{want_of}
use Rattle.hessian_reader.proofs.Objected.{WaitsValue, value_waits, any_wanted, any_place}
use Rattle.hessian_reader.proofs.CutOff.{Begins, none_stops}

one_byte : (c : ℕ) (f k : List ℕ) → c ∷ [] ≡ f ++ k → f ≢ [] → k ≢ [] → ⊥
one_byte c [] k e some more = some refl
one_byte c (b ∷ []) k e some more = more (cc)
one_byte c (b ∷ d ∷ f) k e some more = cc

one_begins : (w : Want) (c : ℕ) → Begins w (c ∷ [])
one_begins w c f k e some more = absurd (one_byte c f k e some more)

-- ---- forms of elements that don't begin so

no_value_scalar : (c : ℕ) → BeginsNoValue hessian faults c → (v : Scalar) (ds : List ℕ) → ScalarSpelling v (c ∷ ds) → ⊥
no_value_scalar c n scalars.Null ds s = n.no_scalar values.Null ds null s
no_value_scalar c n (scalars.Bool b) ds s = n.no_scalar (values.Bool b) ds (bool b) s
no_value_scalar c n (scalars.Int z) ds s = n.no_scalar (values.Int z) ds (int z) s
no_value_scalar c n (scalars.Long z) ds s = n.no_scalar (values.Long z) ds (long z) s
no_value_scalar c n (scalars.Date z) ds s = n.no_scalar (values.Date z) ds (date z) s

no_value_chunks : (c : ℕ) → BeginsNoValue hessian faults c → (kind : Kind) (value ds : List ℕ) → Spelling kind value (c ∷ ds) → ⊥
no_value_chunks c n kinds.Text value ds s = n.no_text value ds s
no_value_chunks c n kinds.Binary value ds s = n.no_binary value ds s

no_value_head : (h : Head) (c : ℕ) → BeginsNoValue hessian faults c → HeadCode h c → ⊥
no_value_head h c n h_refer = n.no_reference refl
no_value_head h c n h_define = n.no_class refl
no_value_head h c n h_end = n.no_end refl
no_value_head h c n (h_short_list code k row e) = n.no_node (b_short_list code row)
no_value_head h c n h_open_list = n.no_node b_open_list
no_value_head h c n h_long_list = n.no_node b_long_list
no_value_head h c n h_open_typed_list = n.no_node b_open_typed_list
no_value_head h c n h_long_typed_list = n.no_node b_long_typed_list
no_value_head h c n (h_short_typed_list code k row e) = n.no_node (b_short_typed_list code row)
no_value_head h c n h_typed_map = n.no_node b_typed_map
no_value_head h c n h_open_map = n.no_node b_map
no_value_head h c n (h_short_object code k row e) = n.no_node (b_short_object code row)
no_value_head h c n h_long_object = n.no_node b_long_object

first_same : (c d : ℕ) (ds : List ℕ) → c ∷ ds ≡ d ∷ [] → d ≡ c
first_same c d ds e = cc

no_value_form : (c : ℕ) → BeginsNoValue hessian faults c → (ds : List ℕ) (x : Element) → Formed wants.AnyValue (c ∷ ds) x → ⊥
no_value_form c n ds x (a_scalar v t s e) = no_value_scalar c n v ds s
no_value_form c n ds x (chunks kind value t s e) = no_value_chunks c n kind value ds s
no_value_form c n ds x (a_head h d is t b e) = no_value_head h c n (subst (HeadCode h) (first_same c d ds b) is)

no_int_form : (c : ℕ) → BeginsNoInt hessian c → (ds : List ℕ) (x : Element) → Formed wants.AnInt (c ∷ ds) x → ⊥
no_int_form c n ds x (a_scalar v t s e) = n t.0 ds (subst (λ q. ScalarSpelling q (c ∷ ds)) t.1 s)
no_int_form c n ds x (chunks kind value t s e) = t
no_int_form c n ds x (a_head h d is t b e) = cc

no_text_form : (c : ℕ) → BeginsNoText hessian c → (ds : List ℕ) (x : Element) → Formed wants.AText (c ∷ ds) x → ⊥
no_text_form c n ds x (a_scalar v t s e) = t
no_text_form c n ds x (chunks kind value t s e) = n value ds (subst (λ k. Spelling k value (c ∷ ds)) t s)
no_text_form c n ds x (a_head h d is t b e) = cc

no_type_form : (c : ℕ) → BeginsNoText hessian c → BeginsNoInt hessian c → (ds : List ℕ) (x : Element) → Formed wants.AType (c ∷ ds) x → ⊥
no_type_form c n m ds x (a_scalar v t s e) = m t.0 ds (subst (λ q. ScalarSpelling q (c ∷ ds)) t.1 s)
no_type_form c n m ds x (chunks kind value t s e) = n value ds (subst (λ k. Spelling k value (c ∷ ds)) t s)
no_type_form c n m ds x (a_head h d is t b e) = cc

-- ---- each refusal of a first byte

module _ (roots : ℕ) (bytes before rest : List ℕ) (c : ℕ) (s : State) (joined : bytes ≡ (before ++ c ∷ []) ++ rest) (leads : Leads (start roots) before s) (d : is_done s ≡ false) where
  stops : (slot : Slot) (others : List Slot) (cause : Cause) → slots_of s ≡ slot ∷ others → want_of slot ≡ want_at s.place → HasNoElement (want_at s.place) (c ∷ []) → Refused hessian faults node_limit (tables_of s) (length before) (slot ∷ others) (c ∷ []) cause → Stopped hessian faults node_limit roots bytes cause
  stops slot others cause splits wanted none r = none_stops roots bytes before (c ∷ []) rest s slot others cause joined leads d splits wanted (λ e. cc) none (one_begins (want_at s.place) c) r

  waits : wants.AnyValue ≡ want_at s.place → WaitsValue (slots_of s)
  waits w = let sound = sound_leads (sound_start roots) leads in value_waits s sound (some_lacking s sound d) (any_place s.place w)

  -- a double's code in a value's place
  pub double_stops : wants.AnyValue ≡ want_at s.place → IsDoubleCode c → Stopped hessian faults node_limit roots bytes (Double (length before) c)
  double_stops w is = let v = waits w in stops v.slot v.others (Double (length before) c) v.splits (any_wanted v.slot v.wants ∙ w) (double_refused (want_at s.place) c [] (c ∷ []) refl refl is) (f_double v.slot v.others c v.wants is)

  -- a code that begins no value
  pub no_value_stops : wants.AnyValue ≡ want_at s.place → BeginsNoValue hessian faults c → Stopped hessian faults node_limit roots bytes (BadCode (length before) c)
  no_value_stops w n = let v = waits w in stops v.slot v.others (BadCode (length before) c) v.splits (any_wanted v.slot v.wants ∙ w) (subst (λ q. HasNoElement q (c ∷ [])) w (refused wants.AnyValue c [] (no_value_form c n))) (f_no_value v.slot v.others c v.wants n)

  at_place : (p : Place) (slot : Slot) (others : List Slot) → s.place ≡ p → slots_at p (open_slots s.built.open_nodes s.built.wanted) (left_slots s.built.open_nodes s.built.wanted) ≡ slot ∷ others → want_of slot ≡ want_at p → HasNoElement (want_at p) (c ∷ []) → Refused hessian faults node_limit (tables_of s) (length before) (slot ∷ others) (c ∷ []) (BadCode (length before) c) → Stopped hessian faults node_limit roots bytes (BadCode (length before) c)
  at_place p slot others e f w none r = stops slot others (BadCode (length before) c) (ap (λ q. slots_at q (open_slots s.built.open_nodes s.built.wanted) (left_slots s.built.open_nodes s.built.wanted)) e ∙ f) (w ∙ sym (ap want_at e)) (subst (λ q. HasNoElement q (c ∷ [])) (sym (ap want_at e)) none) r

  -- a code that begins no int in the place of one
  pub no_int_stops : wants.AnInt ≡ want_at s.place → BeginsNoInt hessian c → Stopped hessian faults node_limit roots bytes (BadCode (length before) c)
  no_int_stops w n = by_place s.place refl w
    where
      none : HasNoElement wants.AnInt (c ∷ [])
      none = refused wants.AnInt c [] (no_int_form c n)

      by_place : (p : Place) → s.place ≡ p → wants.AnInt ≡ want_at p → Stopped hessian faults node_limit roots bytes (BadCode (length before) c)
      by_place AtValue e w = absurd cc
      by_place AtDefined e w = absurd cc
      by_place (AtType form) e w = absurd cc
      by_place AtName e w = absurd cc
      by_place (FieldPlace class k) e w = absurd cc
      by_place AtReference e w = at_place AtReference AReference _ e refl refl none (f_no_int AReference _ c of_reference n)
      by_place (AtLength k) e w = at_place (AtLength k) ALength _ e refl refl none (f_no_int ALength _ c of_length n)
      by_place AtClass e w = at_place AtClass ClassSlot _ e refl refl none (f_no_int ClassSlot _ c int_of_class n)
      by_place (AtCount name) e w = at_place (AtCount name) (ACount name) _ e refl refl none (f_no_int (ACount name) _ c (of_count name) n)

  -- a code that begins no text in the place of a name
  pub no_text_stops : wants.AText ≡ want_at s.place → BeginsNoText hessian c → Stopped hessian faults node_limit roots bytes (BadCode (length before) c)
  no_text_stops w n = by_place s.place refl w
    where
      none : HasNoElement wants.AText (c ∷ [])
      none = refused wants.AText c [] (no_text_form c n)

      by_place : (p : Place) → s.place ≡ p → wants.AText ≡ want_at p → Stopped hessian faults node_limit roots bytes (BadCode (length before) c)
      by_place AtValue e w = absurd cc
      by_place AtDefined e w = absurd cc
      by_place (AtType form) e w = absurd cc
      by_place AtReference e w = absurd cc
      by_place (AtLength k) e w = absurd cc
      by_place AtClass e w = absurd cc
      by_place (AtCount name) e w = absurd cc
      by_place AtName e w = at_place AtName NameSlot _ e refl refl none (f_no_text NameSlot _ c name_of_class n)
      by_place (FieldPlace class k) e w = at_place (FieldPlace class k) (AField class k) _ e refl refl none (f_no_text (AField class k) _ c (of_field class k) n)

  -- a code that begins neither in the place of a type
  pub no_type_stops : wants.AType ≡ want_at s.place → BeginsNoText hessian c → BeginsNoInt hessian c → Stopped hessian faults node_limit roots bytes (BadCode (length before) c)
  no_type_stops w n m = by_place s.place refl w
    where
      by_place : (p : Place) → s.place ≡ p → wants.AType ≡ want_at p → Stopped hessian faults node_limit roots bytes (BadCode (length before) c)
      by_place AtValue e w = absurd cc
      by_place AtDefined e w = absurd cc
      by_place AtName e w = absurd cc
      by_place (FieldPlace class k) e w = absurd cc
      by_place AtReference e w = absurd cc
      by_place (AtLength k) e w = absurd cc
      by_place AtClass e w = absurd cc
      by_place (AtCount name) e w = absurd cc
      by_place (AtType form) e w = at_place (AtType form) (TypeSlot (loose_form form)) _ e refl refl (refused wants.AType c [] (no_type_form c n m)) (f_no_type (loose_form form) _ c n m)
