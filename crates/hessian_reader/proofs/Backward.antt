-- What is taken a row of the grammar allows.
use Rattle.std.proofs.Common.{◌≡◌, ℕ, zero, suc, ◌-◌, ◌<◌, ◌≤◌, false, List, [], ◌∷◌, ◌++◌, length, get_or, refl, ap, sym, ◌∙◌, subst, append_assoc, arith, inl, inr, add-zero}
use Rattle.std.specs.Prelude.{nat_eq, Option, Some, None, Ok, ℤ, pos}
use Rattle.std.proofs.lemmas.Bool.{ne_eqb, cond-false}
use Rattle.std.proofs.lemmas.List.{append-nil, get_or-append-add}
use Rattle.hessian_graph.specs.declared.value.Value.{Value}
use Rattle.hessian_graph.specs.declared.value.Value.TheVariants as values
use Rattle.hessian_graph.specs.declared.node.Class.{Class}
use Rattle.hessian_graph.specs.Shape.{Text, ListKind, Shape, values_at, type_of}
use Rattle.hessian_graph.specs.Reading.{Tables, IsCode, one_more}
use Rattle.hessian_graph.specs.Spells.{Begins}
use Rattle.hessian_graph.specs.Line.{Open, Long, Pairs, Symbol, ValueOf, End, Reference, TypeFor, LengthFor, ClassFor, NameOf, CountOf, FieldOf, values_then, fields_then, defined, IsNext, typed_kind, behind_type, begun_by, TypedCode, Row}
use Rattle.hessian_graph.specs.Line.TypedCode.{open_list as c_open_list, long_list as c_long_list, short_list as c_short_list, map as c_map}
use Rattle.hessian_graph.specs.Line.Row.{scalar as r_scalar, text as r_text, binary as r_binary, end as r_end, refer as r_refer, reference as r_reference, define as r_define, class_name as r_class_name, field_count as r_field_count, field_name as r_field_name, open_list as r_open_list, long_list as r_long_list, short_list as r_short_list, list_length as r_list_length, typed as r_typed, type_name as r_type_name, type_number as r_type_number, open_map as r_open_map, long_object as r_long_object, class_number as r_class_number, short_object as r_short_object}
use Rattle.hessian_text.specs.Spelling.{TextSpelling}
use Rattle.hessian_reader.specs.declared.element.Form.{Form}
use Rattle.hessian_reader.specs.declared.element.Form.TheVariants as forms
use Rattle.hessian_reader.specs.declared.element.Head.{Head}
use Rattle.hessian_reader.specs.declared.element.Head.TheVariants as heads
use Rattle.hessian_reader.specs.declared.element.Element.{Element}
use Rattle.hessian_reader.specs.declared.element.Element.TheVariants as elements
use Rattle.hessian_reader.specs.declared.element.Want.{Want}
use Rattle.hessian_reader.specs.declared.table.Sort.{Sort}
use Rattle.hessian_reader.specs.declared.table.Sort.TheVariants as sorts
use Rattle.hessian_reader.specs.declared.store.Lacks.{Lacks}
use Rattle.hessian_reader.specs.declared.stop.Objection.TheVariants.{NoNode, NoType, NoClass, NoLength}
use Rattle.hessian_reader.specs.Leaves.{hessian, scalar_bytes}
use Rattle.hessian_reader.specs.Elements.{HeadCode, IsElement}
use Rattle.hessian_reader.specs.Elements.HeadCode.{refer as h_refer, short_list as h_short_list, open_list as h_open_list, long_list as h_long_list, open_typed_list as h_open_typed_list, long_typed_list as h_long_typed_list, short_typed_list as h_short_typed_list, typed_map as h_typed_map, open_map as h_open_map, define as h_define, short_object as h_short_object, long_object as h_long_object, end as h_end}
use Rattle.hessian_reader.specs.Elements.IsElement.{scalar as e_scalar, text as e_text, binary as e_binary, code as e_code, number as e_number, words as e_words}
use Rattle.hessian_reader.specs.States.{Built, State, Place, AtValue, AtDefined, AtReference, AtType, AtLength, AtClass, AtName, AtCount, AtField, ToEnd, Count, Key, with_value, with_open, with_node, begins_node, takes_value, moves_to, closes, begins_object, field_count, learns_type, learns_class, awaits_fields, lacks_none, want_at, is_done, kind_named}
use Rattle.hessian_reader.specs.Steps.{end_step, behind_type as goes_behind, class_step, head_step, number_step, words_step, take_element}
use Rattle.hessian_reader.proofs.Lacking.{behind, Lacking, Lacks'}
use Rattle.hessian_reader.proofs.Lacked.{give_back}
use Rattle.hessian_reader.proofs.Opening.{MayBegin, LacksAll, begin_back, end_back}
use Rattle.hessian_reader.proofs.Sound.{PlaceFits, Sound, sound_typed, value_nodes, value_sort, value_open, node_nodes, sort_new, sort_old}
use Rattle.hessian_reader.proofs.Slots.{tables_of}
use Rattle.hessian_reader.proofs.Ahead.{line_form, FormFits, Ahead, KindsAre, Has, TakesValue, value_tables, begins_tables, kinds_untyped, kinds_unclassed}
use Rattle.hessian_reader.proofs.Ahead.Ahead.{value as a_value, defined as a_defined, reference as a_reference, type as a_type, len as a_len, class as a_class, class_name as a_class_name, field_count as a_field_count, fields as a_fields}
use Rattle.hessian_reader.proofs.Outcomes.{ok_is, took_value, ended_there, had_room, was_below, was_natural, some_lacking}

-- the bytes of an element

plain_row : {g : Shape} {t : Tables} {ss : List Symbol} {w : Want} {element : List ℕ} {v : Value} → IsElement w element (elements.Plain v) → Row hessian g t (ValueOf v) element ss ss t
plain_row (e_scalar v bytes is spelled) = r_scalar v bytes is spelled
plain_row (e_text text bytes spelled) = r_text text bytes spelled
plain_row (e_binary contents bytes spelled) = r_binary contents bytes spelled

code_bytes : {w : Want} {element : List ℕ} {h : Head} → IsElement w element (elements.Code h) → (code : ℕ) × HeadCode h code × (element ≡ code ∷ [])
code_bytes (e_code h code is) = (code, is, refl)

number_bytes : {w : Want} {element : List ℕ} {z : ℤ} → IsElement w element (elements.Number z) → scalar_bytes (values.Int z) element
number_bytes (e_number w z bytes takes spelled) = spelled

words_bytes : {w : Want} {element : List ℕ} {text : Text} → IsElement w element (elements.Words text) → TextSpelling text element
words_bytes (e_words w text bytes takes spelled) = spelled

abbrev pub CodeIs : Head → ℕ → Type 0
CodeIs heads.Refer c = c ≡ 0x51
CodeIs (heads.ShortList k) c = IsCode 0x78 0x7f c × (k ≡ c - 0x78)
CodeIs heads.OpenList c = c ≡ 0x57
CodeIs heads.LongList c = c ≡ 0x58
CodeIs (heads.Typed forms.Open) c = c ≡ 0x55
CodeIs (heads.Typed forms.Long) c = c ≡ 0x56
CodeIs (heads.Typed (forms.Short k)) c = IsCode 0x70 0x77 c × (k ≡ c - 0x70)
CodeIs (heads.Typed forms.Pairs) c = c ≡ 0x4d
CodeIs heads.OpenMap c = c ≡ 0x48
CodeIs heads.Define c = c ≡ 0x43
CodeIs (heads.ShortObject k) c = IsCode 0x60 0x6f c × (k ≡ c - 0x60)
CodeIs heads.LongObject c = c ≡ 0x4f
CodeIs heads.End c = c ≡ 0x5a

pub code_is : {h : Head} {c : ℕ} → HeadCode h c → CodeIs h c
code_is h_refer = refl
code_is (h_short_list code k is e) = (is, e)
code_is h_open_list = refl
code_is h_long_list = refl
code_is h_open_typed_list = refl
code_is h_long_typed_list = refl
code_is (h_short_typed_list code k is e) = (is, e)
code_is h_typed_map = refl
code_is h_open_map = refl
code_is h_define = refl
code_is (h_short_object code k is e) = (is, e)
code_is h_long_object = refl
code_is h_end = refl

typed_code : (form : Form) (code : ℕ) (vs : List Value) → CodeIs (heads.Typed form) code → FormFits form (length vs) → TypedCode vs (line_form form) code
typed_code forms.Open code vs is fits = subst (TypedCode vs Open) (sym is) c_open_list
typed_code forms.Long code vs is fits = subst (TypedCode vs Long) (sym is) c_long_list
typed_code (forms.Short k) code vs is fits = c_short_list code is.0 (sym fits ∙ is.1)
typed_code forms.Pairs code vs is fits = subst (TypedCode vs Pairs) (sym is) (c_map fits)

-- what the place says of what is to come

at_value_is : {g : Shape} {t : Tables} {under ss : List Symbol} → Ahead g t AtValue under ss → under ≡ ss
at_value_is a_value = refl

at_defined : {g : Shape} {t : Tables} {under ss : List Symbol} → Ahead g t AtDefined under ss → (v : Value) × (tail : List Symbol) × (under ≡ ValueOf v ∷ tail) × (ss ≡ ValueOf v ∷ tail)
at_defined (a_defined {ss = tail} v) = (v, tail, refl, refl)

at_reference : {g : Shape} {t : Tables} {under ss : List Symbol} → Ahead g t AtReference under ss → (n : ℕ) × (tail : List Symbol) × (under ≡ ValueOf (values.Node n) ∷ tail) × (ss ≡ Reference n ∷ tail)
at_reference (a_reference {ss = tail} n) = (n, tail, refl, refl)

at_type : {g : Shape} {t : Tables} {form : Form} {under ss : List Symbol} → Ahead g t (AtType form) under ss → (n : ℕ) × (tail : List Symbol) × (under ≡ ValueOf (values.Node n) ∷ tail) × (ss ≡ TypeFor (line_form form) n ∷ tail) × IsNext g t n × FormFits form (length (values_at g n))
at_type (a_type {ss = tail} form f n e next fits) = (n, tail, refl, ap (λ x. TypeFor x n ∷ tail) e, next, fits)

at_length : {g : Shape} {t : Tables} {k : Option ℕ} {under ss : List Symbol} → Ahead g t (AtLength k) under ss → (n : ℕ) × (tail : List Symbol) × (under ≡ ValueOf (values.Node n) ∷ tail) × (ss ≡ LengthFor n ∷ tail) × Begins g t n (ListKind (type_of t.types k))
at_length (a_len {ss = tail} k n begins) = (n, tail, refl, refl, begins)

at_class : {g : Shape} {t : Tables} {under ss : List Symbol} → Ahead g t AtClass under ss → (n : ℕ) × (tail : List Symbol) × (under ≡ ValueOf (values.Node n) ∷ tail) × (ss ≡ ClassFor n ∷ tail) × IsNext g t n
at_class (a_class {ss = tail} n next) = (n, tail, refl, refl, next)

at_name : {g : Shape} {t : Tables} {under ss : List Symbol} → Ahead g t AtName under ss → (v : Value) × (c : Class) × (tail : List Symbol) × (under ≡ ValueOf v ∷ tail) × (ss ≡ NameOf c ∷ ValueOf v ∷ tail)
at_name (a_class_name {ss = tail} v c) = (v, c, tail, refl, refl)

at_count : {g : Shape} {t : Tables} {name : Text} {under ss : List Symbol} → Ahead g t (AtCount name) under ss → (v : Value) × (c : Class) × (tail : List Symbol) × (under ≡ ValueOf v ∷ tail) × (ss ≡ CountOf c ∷ ValueOf v ∷ tail) × (name ≡ c.name)
at_count (a_field_count {ss = tail} v c name e) = (v, c, tail, refl, refl, e)

pub record FieldsAhead (far : Class) (k : ℕ) (under ss : List Symbol) : Type 0 where
  pub v : Value
  pub c : Class
  pub f : Text
  pub fs : List Text
  pub tail : List Symbol
  pub is_under : under ≡ ValueOf v ∷ tail
  pub is : ss ≡ FieldOf c f fs ∷ ValueOf v ∷ tail
  pub name : far.name ≡ c.name
  pub whole : far.fields ++ f ∷ fs ≡ c.fields
  pub count : k ≡ suc (length fs)

at_field : {g : Shape} {t : Tables} {far : Class} {k : ℕ} {under ss : List Symbol} → Ahead g t (AtField far k) under ss → FieldsAhead far k under ss
at_field (a_fields {ss = tail} v c far k f fs e e' e'') = record { v = v; c = c; f = f; fs = fs; tail = tail; is_under = refl; is = refl; name = e; whole = e'; count = e'' }

-- a row that led here, and what was lacking before
pub record Back (g : Shape) (s : State) (element : List ℕ) (u : State) (ss' : List Symbol) : Type 0 where
  pub front : Symbol
  pub ss : List Symbol
  pub row : Row hessian g (tables_of s) front element ss ss' (tables_of u)
  pub has : Has g s (front ∷ ss)

row_is : (g : Shape) (t : Tables) (front : Symbol) (element : List ℕ) (ss a b : List Symbol) (t1 t2 : Tables) → Row hessian g t front element ss a t1 → b ≡ a → t2 ≡ t1 → Row hessian g t front element ss b t2
row_is g t front element ss a b t1 t2 r e e' = rw (e, e') r

row_of_code : (g : Shape) (t : Tables) (front : Symbol) (element : List ℕ) (c c' : ℕ) (ss a : List Symbol) (t1 : Tables) → element ≡ c ∷ [] → c ≡ c' → Row hessian g t front (c' ∷ []) ss a t1 → Row hessian g t front element ss a t1
row_of_code g t front element c c' ss a t1 e e' r = rw (e, e') r

here : (g : Shape) (t : Tables) (p : Place) (v : Value) (ss : List Symbol) → TakesValue p → Ahead g t p (ValueOf v ∷ ss) (ValueOf v ∷ ss)
here g t p v ss h = elim h [ inl e ↦ subst (λ x. Ahead g t x (ValueOf v ∷ ss) (ValueOf v ∷ ss)) (sym e) a_value | inr e ↦ subst (λ x. Ahead g t x (ValueOf v ∷ ss) (ValueOf v ∷ ss)) (sym e) (a_defined v) ]

-- a value that was given
pub record Given (g : Shape) (s : State) (v : Value) (ss : List Symbol) : Type 0 where
  pub lacking : Lacks' g s.built (ValueOf v ∷ ss)
  pub kinds : KindsAre g s

was_given : (g : Shape) (s : State) (v : Value) (ss : List Symbol) → Sound s → lacks_none s.built.open_nodes s.built.wanted ≡ false → Has g (takes_value v s) ss → Given g s v ss
was_given g s v ss sound some h = record {
  lacking = give_back g s.built v ss s.built.open_nodes sound.open_fit some (subst (Lacks' g (with_value s.built.open_nodes v s.built)) (at_value_is h.ahead) h.lacking);
  kinds = λ i low. h.kinds i (subst (λ n. i < n) (sym (value_nodes s.built.open_nodes v s.built)) low) ∙ ap (kind_named s.names) (value_sort s.built.open_nodes v s.built i sound.open_fit);
}

-- a node that had begun
pub record Reopened (g : Shape) (s : State) (lacks : Lacks) (sort : Sort) (ss' : List Symbol) : Type 0 where
  pub ss : List Symbol
  pub is : ss' ≡ values_then (values_at g (length s.built.nodes)) (behind lacks ss)
  pub fits : LacksAll lacks (length (values_at g (length s.built.nodes)))
  pub lacking : Lacks' g s.built (ValueOf (values.Node (length s.built.nodes)) ∷ ss)
  pub kinds : KindsAre g s
  pub begins : Begins g (tables_of s) (length s.built.nodes) (kind_named s.names sort)

reopen : (g : Shape) (s : State) (lacks : Lacks) (sort : Sort) (ss' : List Symbol) → MayBegin lacks → Sound s → lacks_none s.built.open_nodes s.built.wanted ≡ false → length (begins_node lacks sort s).built.nodes ≤ length g.nodes → Has g (begins_node lacks sort s) ss' → Reopened g s lacks sort ss'
reopen g s lacks sort ss' may sound some within h =
    let v : Value = values.Node (length s.built.nodes) in
    let b1 : Built = with_value s.built.open_nodes v s.built in
    let e : length b1.nodes ≡ length s.built.nodes = value_nodes s.built.open_nodes v s.built in
    let all : length (with_node lacks sort s.built).nodes ≡ suc (length s.built.nodes) = node_nodes lacks sort s.built in
    let p : Lacks' g (with_node lacks sort s.built) ss' = subst (Lacks' g (with_node lacks sort s.built)) (at_value_is h.ahead) h.lacking in
    let q : Lacking g b1.roots b1.wanted (b1.nodes ++ record { sort = sort; values = [] } ∷ []) (with_open lacks (length b1.nodes) b1.open_nodes) ss' = subst (λ n. Lacking g b1.roots b1.wanted (b1.nodes ++ record { sort = sort; values = [] } ∷ []) (with_open lacks n b1.open_nodes) ss') (sym e) p in
    let u = begin_back g b1.roots b1.wanted b1.nodes sort b1.open_nodes lacks ss' may (value_open s.built.open_nodes v s.built sound.open_fit) q in
    let low : length s.built.nodes < length (with_node lacks sort s.built).nodes = omega (arith, all) in
    record {
      ss = u.ss;
      is = subst (λ n. ss' ≡ values_then (values_at g n) (behind lacks u.ss)) e u.rest;
      fits = subst (λ n. LacksAll lacks (length (values_at g n))) e u.is;
      lacking = give_back g s.built v u.ss s.built.open_nodes sound.open_fit some u.lacking;
      kinds = λ i below'. h.kinds i (omega (arith, all)) ∙ ap (kind_named s.names) (sort_old lacks sort s.built i sound.open_fit below');
      begins = record {
        next = refl;
        within = omega (arith, all, within);
        kind_is = h.kinds (length s.built.nodes) low ∙ ap (kind_named s.names) (sort_new lacks sort s.built);
      };
    }

-- a type that had been taken
pub record Retyped (g : Shape) (s : State) (form : Form) (k : ℕ) (ss' : List Symbol) : Type 0 where
  pub n : ℕ
  pub ss : List Symbol
  pub is : ss' ≡ behind_type (line_form form) n (values_at g n) ss
  pub fits : FormFits form (length (values_at g n))
  pub lacking : Lacks' g s.built (ValueOf (values.Node n) ∷ ss)
  pub kinds : KindsAre g s
  pub begins : Begins g (tables_of s) n (typed_kind (line_form form) (get_or s.names.types k []))
  pub tables : tables_of (goes_behind form (Some k) s) ≡ begun_by (line_form form) (tables_of s)

retype : (g : Shape) (s : State) (form : Form) (k : ℕ) (ss' : List Symbol) → Sound s → lacks_none s.built.open_nodes s.built.wanted ≡ false → length (goes_behind form (Some k) s).built.nodes ≤ length g.nodes → Has g (goes_behind form (Some k) s) ss' → Retyped g s form k ss'
retype g s forms.Open k ss' sound some within h =
    let r = reopen g s ToEnd (sorts.List (Some k)) ss' tt sound some within h in
    record { n = length s.built.nodes; ss = r.ss; is = r.is; fits = tt; lacking = r.lacking; kinds = r.kinds; begins = r.begins; tables = begins_tables s ToEnd (sorts.List (Some k)) }
retype g s forms.Long k ss' sound some within h =
    let (n, tail, e, e', begins) = at_length h.ahead in
    record { n = n; ss = tail; is = e'; fits = tt; lacking = subst (Lacks' g s.built) e h.lacking; kinds = h.kinds; begins = begins; tables = refl }
retype g s (forms.Short m) k ss' sound some within h =
    let r = reopen g s (Count m) (sorts.List (Some k)) ss' tt sound some within h in
    record { n = length s.built.nodes; ss = r.ss; is = r.is; fits = r.fits; lacking = r.lacking; kinds = r.kinds; begins = r.begins; tables = begins_tables s (Count m) (sorts.List (Some k)) }
retype g s forms.Pairs k ss' sound some within h =
    let r = reopen g s Key (sorts.Map (Some k)) ss' tt sound some within h in
    record { n = length s.built.nodes; ss = r.ss; is = r.is; fits = r.fits; lacking = r.lacking; kinds = r.kinds; begins = r.begins; tables = begins_tables s Key (sorts.Map (Some k)) }

-- the fields of a class that had been waited for
pub record Refielded (g : Shape) (s : State) (far : Class) (k : ℕ) (ss' : List Symbol) : Type 0 where
  pub c : Class
  pub fs : List Text
  pub v : Value
  pub tail : List Symbol
  pub lacking : Lacks' g s.built (ValueOf v ∷ tail)
  pub kinds : KindsAre g s
  pub name : far.name ≡ c.name
  pub whole : far.fields ++ fs ≡ c.fields
  pub count : k ≡ length fs
  pub is : ss' ≡ fields_then c fs (ValueOf v ∷ tail)
  pub tables : tables_of (awaits_fields far k s) ≡ defined c fs (tables_of s)

refield : (g : Shape) (s : State) (far : Class) (k : ℕ) (ss' : List Symbol) → Sound s → Has g (awaits_fields far k s) ss' → Refielded g s far k ss'
refield g s far zero ss' sound h =
    let (v, tail, e, e') = at_defined h.ahead in
    record { c = far; fs = []; v = v; tail = tail; lacking = subst (Lacks' g s.built) e h.lacking; kinds = kinds_unclassed g s far sound h.kinds; name = refl; whole = append-nil far.fields; count = refl; is = e'; tables = refl }
refield g s far (suc k) ss' sound h0 =
    let same : awaits_fields far (suc k) s ≡ moves_to (AtField far (suc k)) s = cond-false (nat_eq (suc k) 0) (learns_class far s) (moves_to (AtField far (suc k)) s) (ne_eqb (suc k) 0 (λ z. omega arith)) in
    let h : Has g (moves_to (AtField far (suc k)) s) ss' = subst (λ x. Has g x ss') same h0 in
    let a = at_field h.ahead in
    record { c = a.c; fs = a.f ∷ a.fs; v = a.v; tail = a.tail; lacking = subst (Lacks' g s.built) a.is_under h.lacking; kinds = h.kinds; name = a.name; whole = a.whole; count = a.count; is = a.is; tables = ap tables_of same }

module _ (g : Shape) (s u : State) (element : List ℕ) (ss' : List Symbol) (sound : Sound s) (some : lacks_none s.built.open_nodes s.built.wanted ≡ false) (within : length u.built.nodes ≤ length g.nodes) (h : Has g u ss') where
  has_at : (t : State) → t ≡ u → Has g t ss'
  has_at t e = subst (λ x. Has g x ss') (sym e) h

  within_at : (t : State) → t ≡ u → length t.built.nodes ≤ length g.nodes
  within_at t e = subst (λ (x : State). length x.built.nodes ≤ length g.nodes) (sym e) within

  back : (t : State) (front : Symbol) (ss a : List Symbol) (t1 : Tables) → t ≡ u → Row hessian g (tables_of s) front element ss a t1 → ss' ≡ a → tables_of t ≡ t1 → Has g s (front ∷ ss) → Back g s element u ss'
  back t front ss a t1 e row is tables has = record { front = front; ss = ss; row = row_is g (tables_of s) front element ss a ss' t1 (tables_of u) row is (ap tables_of (sym e) ∙ tables); has = has }

  back_plain : (v : Value) → TakesValue s.place → takes_value v s ≡ u → ((t : Tables) (ss : List Symbol) → Row hessian g t (ValueOf v) element ss ss t) → Back g s element u ss'
  back_plain v p e row =
      let q = was_given g s v ss' sound some (has_at (takes_value v s) e) in
      back (takes_value v s) (ValueOf v) ss' ss' (tables_of s) e (row (tables_of s) ss') refl (value_tables s v) (record { under = ValueOf v ∷ ss'; lacking = q.lacking; ahead = here g (tables_of s) s.place v ss' p; kinds = q.kinds })

  -- a node that began with its code
  back_node : (lacks : Lacks) (sort : Sort) → MayBegin lacks → TakesValue s.place → begins_node lacks sort s ≡ u → ((ss : List Symbol) → Begins g (tables_of s) (length s.built.nodes) (kind_named s.names sort) → LacksAll lacks (length (values_at g (length s.built.nodes))) → Row hessian g (tables_of s) (ValueOf (values.Node (length s.built.nodes))) element ss (values_then (values_at g (length s.built.nodes)) (behind lacks ss)) (one_more (tables_of s))) → Back g s element u ss'
  back_node lacks sort may p e row =
      let r = reopen g s lacks sort ss' may sound some (within_at (begins_node lacks sort s) e) (has_at (begins_node lacks sort s) e) in
      back (begins_node lacks sort s) (ValueOf (values.Node (length s.built.nodes))) r.ss (values_then (values_at g (length s.built.nodes)) (behind lacks r.ss)) (one_more (tables_of s)) e (row r.ss r.begins r.fits) r.is (begins_tables s lacks sort) (record { under = ValueOf (values.Node (length s.built.nodes)) ∷ r.ss; lacking = r.lacking; ahead = here g (tables_of s) s.place (values.Node (length s.built.nodes)) r.ss p; kinds = r.kinds })

  -- a code that went on to another place
  back_moved : (p' : Place) (v : Value) (tail a : List Symbol) → TakesValue s.place → (e : moves_to p' s ≡ u) → (has_at (moves_to p' s) e).under ≡ ValueOf v ∷ tail → ss' ≡ a → Row hessian g (tables_of s) (ValueOf v) element tail a (tables_of s) → Back g s element u ss'
  back_moved p' v tail a p e under is row =
      back (moves_to p' s) (ValueOf v) tail a (tables_of s) e row is refl (record { under = ValueOf v ∷ tail; lacking = subst (Lacks' g s.built) under (has_at (moves_to p' s) e).lacking; ahead = here g (tables_of s) s.place v tail p; kinds = (has_at (moves_to p' s) e).kinds })

  -- a row of a code
  coded : (front : Symbol) (c c' : ℕ) (ss a : List Symbol) (t1 : Tables) → element ≡ c ∷ [] → c ≡ c' → Row hessian g (tables_of s) front (c' ∷ []) ss a t1 → Row hessian g (tables_of s) front element ss a t1
  coded front c c' ss a t1 e e' r = row_of_code g (tables_of s) front element c c' ss a t1 e e' r

  back_head : (hd : Head) (c : ℕ) → CodeIs hd c → element ≡ c ∷ [] → TakesValue s.place → head_step hd s ≡ Ok u → Back g s element u ss'
  back_head heads.Refer c is eq p e =
      let e1 = ok_is (moves_to AtReference s) u e in
      let (n, tail, under, are) = at_reference (has_at (moves_to AtReference s) e1).ahead in
      back_moved AtReference (values.Node n) tail (Reference n ∷ tail) p e1 under are (coded _ c 0x51 _ _ _ eq is (r_refer n))
  back_head heads.Define c is eq p e =
      let e1 = ok_is (moves_to AtName s) u e in
      let (v, class, tail, under, are) = at_name (has_at (moves_to AtName s) e1).ahead in
      back_moved AtName v tail (NameOf class ∷ ValueOf v ∷ tail) p e1 under are (coded _ c 0x43 _ _ _ eq is (r_define v class))
  back_head (heads.ShortList k) c is eq p e =
      let (low, e1) = had_room s (Ok (begins_node (Count k) (sorts.List None) s)) u e in
      back_node (Count k) (sorts.List None) tt p (ok_is _ u e1) (λ ss begins fits. coded _ c c _ _ _ eq refl (r_short_list (length s.built.nodes) c begins is.0 (sym fits ∙ is.1)))
  back_head heads.OpenList c is eq p e =
      let (low, e1) = had_room s (Ok (begins_node ToEnd (sorts.List None) s)) u e in
      back_node ToEnd (sorts.List None) tt p (ok_is _ u e1) (λ ss begins fits. coded _ c 0x57 _ _ _ eq is (r_open_list (length s.built.nodes) begins))
  back_head heads.OpenMap c is eq p e =
      let (low, e1) = had_room s (Ok (begins_node Key (sorts.Map None) s)) u e in
      back_node Key (sorts.Map None) tt p (ok_is _ u e1) (λ ss begins fits. coded _ c 0x48 _ _ _ eq is (r_open_map (length s.built.nodes) begins fits))
  back_head heads.LongList c is eq p e =
      let (low, e0) = had_room s (Ok (moves_to (AtLength None) s)) u e in
      let e1 = ok_is (moves_to (AtLength None) s) u e0 in
      let (n, tail, under, are, begins) = at_length (has_at (moves_to (AtLength None) s) e1).ahead in
      back_moved (AtLength None) (values.Node n) tail (LengthFor n ∷ tail) p e1 under are (coded _ c 0x58 _ _ _ eq is (r_long_list n begins))
  back_head (heads.Typed form) c is eq p e =
      let (low, e0) = had_room s (Ok (moves_to (AtType form) s)) u e in
      let e1 = ok_is (moves_to (AtType form) s) u e0 in
      let (n, tail, under, are, next, fits) = at_type (has_at (moves_to (AtType form) s) e1).ahead in
      back_moved (AtType form) (values.Node n) tail (TypeFor (line_form form) n ∷ tail) p e1 under are (coded _ c c _ _ _ eq refl (r_typed (line_form form) n c next (typed_code form c (values_at g n) is fits)))
  back_head heads.LongObject c is eq p e =
      let (low, e0) = had_room s (Ok (moves_to AtClass s)) u e in
      let e1 = ok_is (moves_to AtClass s) u e0 in
      let (n, tail, under, are, next) = at_class (has_at (moves_to AtClass s) e1).ahead in
      back_moved AtClass (values.Node n) tail (ClassFor n ∷ tail) p e1 under are (coded _ c 0x4f _ _ _ eq is (r_long_object n next))
  back_head (heads.ShortObject k) c is eq p e =
      let (low, e0) = had_room s (class_step (pos k) s) u e in
      let (k', same, known, e1) = was_below (pos k) (length s.names.classes) (λ j. begins_object j s) (NoClass (pos k)) u e0 in
      let kk : k ≡ k' = cc in
      let known' : c - 0x60 < length s.names.classes = subst (λ j. j < length s.names.classes) (sym kk ∙ is.1) known in
      let e2 : begins_object (c - 0x60) s ≡ u = ap (λ j. begins_object j s) (sym is.1 ∙ kk) ∙ e1 in
      back_node (Count (field_count s.names (c - 0x60))) (sorts.Object (c - 0x60)) tt p e2 (λ ss begins fits. coded _ c c _ _ _ eq refl (r_short_object (length s.built.nodes) c is.0 (record { known = known'; begins = begins; values_are = sym fits })))
  back_head heads.End c is eq p e =
      let (pv, e0) = ended_there s.place (end_step s.built.open_nodes s) u e in
      let r = end_back g s u ss' s.built.open_nodes e0 in
      let q = has_at (closes r.others s) r.is in
      let under : q.under ≡ ss' = at_value_is (subst (λ x. Ahead g (tables_of s) x q.under ss') pv q.ahead) in
      back (closes r.others s) End ss' ss' (tables_of s) r.is (coded _ c 0x5a _ _ _ eq is r_end) refl refl (record { under = End ∷ ss'; lacking = r.lacking (subst (Lacks' g (closes r.others s).built) under q.lacking); ahead = subst (λ x. Ahead g (tables_of s) x (End ∷ ss') (End ∷ ss')) (sym pv) a_value; kinds = q.kinds })

  back_number : (p : Place) (z : ℤ) → s.place ≡ p → scalar_bytes (values.Int z) element → number_step p z s ≡ Ok u → Back g s element u ss'
  back_number AtValue z p spelled e = cc
  back_number AtDefined z p spelled e = cc
  back_number AtName z p spelled e = cc
  back_number (AtField class k) z p spelled e = cc
  back_number AtReference z p spelled e =
      let (k, is, low, e1) = was_below z (length s.built.nodes) (λ n. takes_value (values.Node n) s) (NoNode z) u e in
      let q = was_given g s (values.Node k) ss' sound some (has_at (takes_value (values.Node k) s) e1) in
      back (takes_value (values.Node k) s) (Reference k) ss' ss' (tables_of s) e1 (r_reference k element low (subst (λ x. scalar_bytes (values.Int x) element) is spelled)) refl (value_tables s (values.Node k)) (record { under = ValueOf (values.Node k) ∷ ss'; lacking = q.lacking; ahead = subst (λ x. Ahead g (tables_of s) x (ValueOf (values.Node k) ∷ ss') (Reference k ∷ ss')) (sym p) (a_reference k); kinds = q.kinds })
  back_number (AtType form) z p spelled e =
      let (k, is, low, e1) = was_below z (length s.names.types) (λ j. goes_behind form (Some j) s) (NoType z) u e in
      let q = retype g s form k ss' sound some (within_at (goes_behind form (Some k) s) e1) (has_at (goes_behind form (Some k) s) e1) in
      back (goes_behind form (Some k) s) (TypeFor (line_form form) q.n) q.ss (behind_type (line_form form) q.n (values_at g q.n) q.ss) (begun_by (line_form form) (tables_of s)) e1 (r_type_number (line_form form) q.n k element low q.begins (subst (λ x. scalar_bytes (values.Int x) element) is spelled)) q.is q.tables (record { under = ValueOf (values.Node q.n) ∷ q.ss; lacking = q.lacking; ahead = subst (λ x. Ahead g (tables_of s) x (ValueOf (values.Node q.n) ∷ q.ss) (TypeFor (line_form form) q.n ∷ q.ss)) (sym p) (a_type form (line_form form) q.n refl (record { next = q.begins.next; within = q.begins.within }) q.fits); kinds = q.kinds })
  back_number (AtLength ty) z p spelled e =
      let (k, is, e1) = was_natural z (λ j. begins_node (Count j) (sorts.List ty) s) (NoLength z) u e in
      let n : ℕ = length s.built.nodes in
      let r = reopen g s (Count k) (sorts.List ty) ss' tt sound some (within_at (begins_node (Count k) (sorts.List ty) s) e1) (has_at (begins_node (Count k) (sorts.List ty) s) e1) in
      let spelled' : scalar_bytes (values.Int (pos (length (values_at g n)))) element = subst (λ x. scalar_bytes (values.Int x) element) (is ∙ ap pos r.fits) spelled in
      back (begins_node (Count k) (sorts.List ty) s) (LengthFor n) r.ss (values_then (values_at g n) r.ss) (one_more (tables_of s)) e1 (r_list_length n element (record { next = refl; within = r.begins.within }) spelled') r.is (begins_tables s (Count k) (sorts.List ty)) (record { under = ValueOf (values.Node n) ∷ r.ss; lacking = r.lacking; ahead = subst (λ x. Ahead g (tables_of s) x (ValueOf (values.Node n) ∷ r.ss) (LengthFor n ∷ r.ss)) (sym p) (a_len ty n r.begins); kinds = r.kinds })
  back_number AtClass z p spelled e =
      let (k, is, low, e1) = was_below z (length s.names.classes) (λ j. begins_object j s) (NoClass z) u e in
      let n : ℕ = length s.built.nodes in
      let count : ℕ = field_count s.names k in
      let r = reopen g s (Count count) (sorts.Object k) ss' tt sound some (within_at (begins_object k s) e1) (has_at (begins_object k s) e1) in
      back (begins_object k s) (ClassFor n) r.ss (values_then (values_at g n) r.ss) (one_more (tables_of s)) e1 (r_class_number n k element (record { known = low; begins = r.begins; values_are = sym r.fits }) (subst (λ x. scalar_bytes (values.Int x) element) is spelled)) r.is (begins_tables s (Count count) (sorts.Object k)) (record { under = ValueOf (values.Node n) ∷ r.ss; lacking = r.lacking; ahead = subst (λ x. Ahead g (tables_of s) x (ValueOf (values.Node n) ∷ r.ss) (ClassFor n ∷ r.ss)) (sym p) (a_class n (record { next = refl; within = r.begins.within })); kinds = r.kinds })
  back_number (AtCount name) z p spelled e =
      let far : Class = record { name = name; fields = [] } in
      let (k, is, e1) = was_natural z (λ j. awaits_fields far j s) (NoLength z) u e in
      let r = refield g s far k ss' sound (has_at (awaits_fields far k s) e1) in
      let ss : List Symbol = ValueOf r.v ∷ r.tail in
      let are : ss' ≡ fields_then r.c r.c.fields ss = r.is ∙ ap (λ x. fields_then r.c x ss) r.whole in
      let tables : tables_of (awaits_fields far k s) ≡ defined r.c r.c.fields (tables_of s) = r.tables ∙ ap (λ x. defined r.c x (tables_of s)) r.whole in
      let spelled' : scalar_bytes (values.Int (pos (length r.c.fields))) element = subst (λ x. scalar_bytes (values.Int x) element) (is ∙ ap pos (r.count ∙ ap length r.whole)) spelled in
      back (awaits_fields far k s) (CountOf r.c) ss (fields_then r.c r.c.fields ss) (defined r.c r.c.fields (tables_of s)) e1 (r_field_count r.c element spelled') are tables (record { under = ss; lacking = r.lacking; ahead = subst (λ x. Ahead g (tables_of s) x ss (CountOf r.c ∷ ss)) (sym p) (a_field_count r.v r.c name r.name); kinds = r.kinds })

  back_words : (p : Place) (text : Text) → s.place ≡ p → TextSpelling text element → words_step p text s ≡ Ok u → Back g s element u ss'
  back_words AtValue text p spelled e = cc
  back_words AtDefined text p spelled e = cc
  back_words AtReference text p spelled e = cc
  back_words (AtLength ty) text p spelled e = cc
  back_words AtClass text p spelled e = cc
  back_words (AtCount name) text p spelled e = cc
  back_words (AtType form) text p spelled e =
      let s1 : State = learns_type text s in
      let k : ℕ = length s.names.types in
      let e1 = ok_is (goes_behind form (Some k) s1) u e in
      let q = retype g s1 form k ss' (sound_typed s text sound) some (within_at (goes_behind form (Some k) s1) e1) (has_at (goes_behind form (Some k) s1) e1) in
      let name : get_or (s.names.types ++ text ∷ []) k [] ≡ text = rw (← add-zero (length s.names.types)) (get_or-append-add s.names.types (text ∷ []) 0 []) in
      let begins : Begins g (tables_of s) q.n (typed_kind (line_form form) text) = record { next = q.begins.next; within = q.begins.within; kind_is = q.begins.kind_is ∙ ap (typed_kind (line_form form)) name } in
      back (goes_behind form (Some k) s1) (TypeFor (line_form form) q.n) q.ss (behind_type (line_form form) q.n (values_at g q.n) q.ss) (begun_by (line_form form) (tables_of s1)) e1 (r_type_name (line_form form) q.n text element begins spelled) q.is q.tables (record { under = ValueOf (values.Node q.n) ∷ q.ss; lacking = q.lacking; ahead = subst (λ x. Ahead g (tables_of s) x (ValueOf (values.Node q.n) ∷ q.ss) (TypeFor (line_form form) q.n ∷ q.ss)) (sym p) (a_type form (line_form form) q.n refl (record { next = q.begins.next; within = q.begins.within }) q.fits); kinds = kinds_untyped g s text sound q.kinds })
  back_words AtName text p spelled e =
      let e1 = ok_is (moves_to (AtCount text) s) u e in
      let q = has_at (moves_to (AtCount text) s) e1 in
      let (v, c, tail, under, are, name) = at_count q.ahead in
      let ss : List Symbol = ValueOf v ∷ tail in
      back (moves_to (AtCount text) s) (NameOf c) ss (CountOf c ∷ ss) (tables_of s) e1 (r_class_name c element (subst (λ x. TextSpelling x element) name spelled)) are refl (record { under = ss; lacking = subst (Lacks' g s.built) under q.lacking; ahead = subst (λ x. Ahead g (tables_of s) x ss (NameOf c ∷ ss)) (sym p) (a_class_name v c); kinds = q.kinds })
  back_words (AtField c0 k) text p spelled e =
      let far : Class = record c0 { fields = c0.fields ++ text ∷ [] } in
      let fits : PlaceFits s (AtField c0 k) = subst (PlaceFits s) p sound.place in
      let e1 = ok_is (awaits_fields far (k - 1) s) u e in
      let r = refield g s far (k - 1) ss' sound (has_at (awaits_fields far (k - 1) s) e1) in
      let ss : List Symbol = ValueOf r.v ∷ r.tail in
      let more = r.count in
      let count : k ≡ suc (length r.fs) = omega (arith, fits.1, more) in
      let whole : c0.fields ++ text ∷ r.fs ≡ r.c.fields = sym (append_assoc c0.fields (text ∷ []) r.fs) ∙ r.whole in
      back (awaits_fields far (k - 1) s) (FieldOf r.c text r.fs) ss (fields_then r.c r.fs ss) (defined r.c r.fs (tables_of s)) e1 (r_field_name r.c text r.fs element spelled) r.is r.tables (record { under = ss; lacking = r.lacking; ahead = subst (λ x. Ahead g (tables_of s) x ss (FieldOf r.c text r.fs ∷ ss)) (sym p) (a_fields r.v r.c c0 k text r.fs r.name whole count); kinds = r.kinds })

  back_element : (w : Want) (x : Element) → IsElement w element x → take_element s x ≡ Ok u → Back g s element u ss'
  back_element w (elements.Plain v) is e =
      let (p, e0) = took_value s.place (Ok (takes_value v s)) u e in
      back_plain v p (ok_is (takes_value v s) u e0) (λ t ss. plain_row is)
  back_element w (elements.Code hd) is e =
      let (p, e0) = took_value s.place (head_step hd s) u e in
      let (c, coded', eq) = code_bytes is in
      back_head hd c (code_is coded') eq p e0
  back_element w (elements.Number z) is e = back_number s.place z refl (number_bytes is) e
  back_element w (elements.Words text) is e = back_words s.place text refl (words_bytes is) e

pub backward : (g : Shape) (s u : State) (element : List ℕ) (x : Element) (ss' : List Symbol) → Sound s → is_done s ≡ false → IsElement (want_at s.place) element x → take_element s x ≡ Ok u → length u.built.nodes ≤ length g.nodes → Has g u ss' → Back g s element u ss'
backward g s u element x ss' sound d is e within h = back_element g s u element ss' sound (some_lacking s sound d) within h (want_at s.place) x is e
