-- What a row of the grammar allows is taken.
use Rattle.std.proofs.Common.{◌≡◌, ℕ, suc, ◌-◌, ◌<◌, ◌≤◌, List, [], ◌∷◌, ◌++◌, length, get_or, refl, ap, sym, ◌∙◌, subst, append_assoc, arith, inl, inr, add-zero}
use Rattle.std.specs.Prelude.{nat_lt, Option, Some, None, Ok, Err, pos}
use Rattle.std.proofs.lemmas.Bool.{lt-ltb, ne_eqb, cond-true}
use Rattle.std.proofs.lemmas.List.{append-nil, get_or-append-add}
use Rattle.hessian_graph.specs.declared.value.Value.{Value}
use Rattle.hessian_graph.specs.declared.value.Value.TheVariants as values
use Rattle.hessian_graph.specs.declared.node.Class.{Class}
use Rattle.hessian_graph.specs.Shape.{Text, ListKind, MapKind, ObjectKind, Shape, values_at, kind_at, type_of, no_class}
use Rattle.hessian_graph.specs.Reading.{Tables, one_more}
use Rattle.hessian_graph.specs.Line.{Form as LineForm, Symbol, ValueOf, End, Reference, TypeFor, LengthFor, ClassFor, NameOf, CountOf, FieldOf, values_then, fields_then, defined, typed_kind, behind_type, begun_by, TypedCode, Row}
use Rattle.hessian_graph.specs.Line.TypedCode.{open_list as c_open_list, long_list as c_long_list, short_list as c_short_list, map as c_map}
use Rattle.hessian_graph.specs.Line.Row.{scalar as r_scalar, text as r_text, binary as r_binary, end as r_end, refer as r_refer, reference as r_reference, define as r_define, class_name as r_class_name, field_count as r_field_count, field_name as r_field_name, open_list as r_open_list, long_list as r_long_list, short_list as r_short_list, list_length as r_list_length, typed as r_typed, type_name as r_type_name, type_number as r_type_number, open_map as r_open_map, long_object as r_long_object, class_number as r_class_number, short_object as r_short_object}
use Rattle.hessian_reader.specs.declared.element.Form.{Form}
use Rattle.hessian_reader.specs.declared.element.Form.TheVariants as forms
use Rattle.hessian_reader.specs.declared.element.Head.{Head}
use Rattle.hessian_reader.specs.declared.element.Head.TheVariants as heads
use Rattle.hessian_reader.specs.declared.element.Element.{Element}
use Rattle.hessian_reader.specs.declared.element.Element.TheVariants as elements
use Rattle.hessian_reader.specs.declared.element.Want.TheVariants as wants
use Rattle.hessian_reader.specs.declared.table.Sort.{Sort}
use Rattle.hessian_reader.specs.declared.table.Sort.TheVariants as sorts
use Rattle.hessian_reader.specs.declared.store.Lacks.{Lacks}
use Rattle.hessian_reader.specs.declared.stop.Objection.{Objection}
use Rattle.hessian_reader.specs.declared.stop.Objection.TheVariants.{NoNode, NoType, NoClass, TooMany}
use Rattle.hessian_reader.specs.Leaves.{hessian, node_limit}
use Rattle.hessian_reader.specs.Elements.{HeadCode, IsElement}
use Rattle.hessian_reader.specs.Elements.HeadCode.{refer as h_refer, short_list as h_short_list, open_list as h_open_list, long_list as h_long_list, open_typed_list as h_open_typed_list, long_typed_list as h_long_typed_list, short_typed_list as h_short_typed_list, typed_map as h_typed_map, open_map as h_open_map, define as h_define, short_object as h_short_object, long_object as h_long_object, end as h_end}
use Rattle.hessian_reader.specs.Elements.TakesInt.{int as t_int, type as t_int_type}
use Rattle.hessian_reader.specs.Elements.TakesText.{text as t_text, type as t_text_type}
use Rattle.hessian_reader.specs.Elements.IsElement.{scalar as e_scalar, text as e_text, binary as e_binary, code as e_code, number as e_number, words as e_words}
use Rattle.hessian_reader.specs.States.{State, Place, AtValue, AtDefined, AtReference, AtType, AtLength, AtClass, AtName, AtCount, AtField, ToEnd, Count, Key, begins_node, takes_value, moves_to, closes, begins_object, field_count, learns_type, learns_class, awaits_fields, want_at, kind_named}
use Rattle.hessian_reader.specs.Steps.{Outcome, if_room, at_value, may_end, end_step, below, behind_type as goes_behind, node_step, header_step, head_step, number_step, words_step, take_element}
use Rattle.hessian_reader.proofs.Lacking.{behind, Lacks'}
use Rattle.hessian_reader.proofs.Opening.{LacksAll, end}
use Rattle.hessian_reader.proofs.Sound.{Sound, sound_typed}
use Rattle.hessian_reader.proofs.Slots.{tables_of}
use Rattle.hessian_reader.proofs.Ahead.{line_form, FormFits, Ahead, KindsAre, Has, TakesValue, expects, value_has, value_tables, begins_has, begins_tables, kinds_typed, kinds_classed}
use Rattle.hessian_reader.proofs.Ahead.Ahead.{value as a_value, defined as a_defined, reference as a_reference, type as a_type, len as a_len, class as a_class, class_name as a_class_name, field_count as a_field_count, fields as a_fields}

pub record Went (g : Shape) (s : State) (element : List ℕ) (ss : List Symbol) (t : Tables) : Type 0 where
  pub to : State
  pub x : Element
  pub is_element : IsElement (want_at s.place) element x
  pub taken : take_element s x ≡ Ok to
  pub has : Has g to ss
  pub tables : tables_of to ≡ t

-- the next place, with the same values
moved : (g : Shape) (s : State) (p : Place) (under ss : List Symbol) → Lacks' g s.built under → Ahead g (tables_of s) p under ss → KindsAre g s → Has g (moves_to p s) ss
moved g s p under ss lacking ahead kinds = record { under = under; lacking = lacking; ahead = ahead; kinds = kinds }

pub want_value : (p : Place) → TakesValue p → want_at p ≡ wants.AnyValue
want_value p h = elim h [ inl e ↦ ap want_at e | inr e ↦ ap want_at e ]

module _ (g : Shape) (s : State) (sound : Sound s) where
  pub value_taken : (outcome : Outcome) → TakesValue s.place → at_value s.place outcome ≡ outcome
  value_taken outcome h = elim h [ inl e ↦ ap (λ p. at_value p outcome) e | inr e ↦ ap (λ p. at_value p outcome) e ]

  in_value : (element : List ℕ) (x : Element) → TakesValue s.place → IsElement wants.AnyValue element x → IsElement (want_at s.place) element x
  in_value element x h is = subst (λ w. IsElement w element x) (sym (want_value s.place h)) is

  code_taken : (h : Head) (t : State) → TakesValue s.place → head_step h s ≡ Ok t → take_element s (elements.Code h) ≡ Ok t
  code_taken h t p e = value_taken (head_step h s) p ∙ e

  has_room : (outcome : Outcome) → length s.built.nodes < node_limit → if_room s outcome ≡ outcome
  has_room outcome h = cond-true (nat_lt (length s.built.nodes) node_limit) outcome (Err TooMany) (lt-ltb (length s.built.nodes) node_limit h)

  is_below : (k count : ℕ) (f : ℕ → State) (o : Objection) → k < count → below (pos k) count f o ≡ Ok (f k)
  is_below k count f o h = cond-true (nat_lt k count) (Ok (f k)) (Err o) (lt-ltb k count h)

  -- a leaf
  leaf : (v : Value) (ss : List Symbol) (element : List ℕ) → IsElement wants.AnyValue element (elements.Plain v) → Has g s (ValueOf v ∷ ss) → Went g s element ss (tables_of s)
  leaf v ss element is h =
      let (p, u) = expects g s (ValueOf v ∷ ss) h in
      record {
        to = takes_value v s;
        x = elements.Plain v;
        is_element = in_value element (elements.Plain v) p is;
        taken = value_taken (Ok (takes_value v s)) p;
        has = value_has g s v ss sound (subst (Lacks' g s.built) u h.lacking) h.kinds;
        tables = value_tables s v;
      }

  -- a node begins with its code
  opens : (h : Head) (code : ℕ) (lacks : Lacks) (sort : Sort) (n : ℕ) (ss : List Symbol) → HeadCode h code → Has g s (ValueOf (values.Node n) ∷ ss) → n ≡ length s.built.nodes → n < length g.nodes → length g.nodes ≤ node_limit → kind_at g n ≡ kind_named s.names sort → LacksAll lacks (length (values_at g n)) → head_step h s ≡ node_step lacks sort s → Went g s (code ∷ []) (values_then (values_at g n) (behind lacks ss)) (one_more (tables_of s))
  opens h code lacks sort n ss is has now within limit kind fits e =
      let (p, u) = expects g s (ValueOf (values.Node n) ∷ ss) has in
      record {
        to = begins_node lacks sort s;
        x = elements.Code h;
        is_element = in_value (code ∷ []) (elements.Code h) p (e_code h code is);
        taken = code_taken h (begins_node lacks sort s) p (e ∙ has_room (Ok (begins_node lacks sort s)) (omega arith));
        has = begins_has g s lacks sort n ss sound now (subst (Lacks' g s.built) u has.lacking) has.kinds kind fits;
        tables = begins_tables s lacks sort;
      }

  -- a code that goes on to another place
  goes : (h : Head) (code : ℕ) (p' : Place) (v : Value) (ss ss' : List Symbol) → HeadCode h code → Has g s (ValueOf v ∷ ss) → Ahead g (tables_of s) p' (ValueOf v ∷ ss) ss' → head_step h s ≡ Ok (moves_to p' s) → Went g s (code ∷ []) ss' (tables_of s)
  goes h code p' v ss ss' is has ahead e =
      let (p, u) = expects g s (ValueOf v ∷ ss) has in
      record {
        to = moves_to p' s;
        x = elements.Code h;
        is_element = in_value (code ∷ []) (elements.Code h) p (e_code h code is);
        taken = code_taken h (moves_to p' s) p e;
        has = moved g s p' (ValueOf v ∷ ss) ss' (subst (Lacks' g s.built) u has.lacking) ahead has.kinds;
        tables = refl;
      }

  -- the header of a node goes on
  header : (h : Head) (code : ℕ) (p' : Place) (n : ℕ) (ss ss' : List Symbol) → HeadCode h code → Has g s (ValueOf (values.Node n) ∷ ss) → Ahead g (tables_of s) p' (ValueOf (values.Node n) ∷ ss) ss' → n ≡ length s.built.nodes → n < length g.nodes → length g.nodes ≤ node_limit → head_step h s ≡ header_step p' s → Went g s (code ∷ []) ss' (tables_of s)
  header h code p' n ss ss' is has ahead now within limit e = goes h code p' (values.Node n) ss ss' is has ahead (e ∙ has_room (Ok (moves_to p' s)) (omega arith))

-- behind the type of a node
behind_has : (g : Shape) (s : State) (form : Form) (k : Option ℕ) (type : Text) (n : ℕ) (ss : List Symbol) → Sound s → Lacks' g s.built (ValueOf (values.Node n) ∷ ss) → KindsAre g s → n ≡ length s.built.nodes → n < length g.nodes → kind_at g n ≡ typed_kind (line_form form) type → Some type ≡ type_of s.names.types k → FormFits form (length (values_at g n)) → Has g (goes_behind form k s) (behind_type (line_form form) n (values_at g n) ss) × (tables_of (goes_behind form k s) ≡ begun_by (line_form form) (tables_of s))
behind_has g s forms.Open k type n ss sound lacking kinds now within is name fits = (begins_has g s ToEnd (sorts.List k) n ss sound now lacking kinds (is ∙ ap ListKind name) tt, begins_tables s ToEnd (sorts.List k))
behind_has g s forms.Long k type n ss sound lacking kinds now within is name fits = (moved g s (AtLength k) (ValueOf (values.Node n) ∷ ss) (LengthFor n ∷ ss) lacking (a_len k n (record { next = now; within = within; kind_is = is ∙ ap ListKind name })) kinds, refl)
behind_has g s (forms.Short m) k type n ss sound lacking kinds now within is name fits = (begins_has g s (Count m) (sorts.List k) n ss sound now lacking kinds (is ∙ ap ListKind name) fits, begins_tables s (Count m) (sorts.List k))
behind_has g s forms.Pairs k type n ss sound lacking kinds now within is name fits = (begins_has g s Key (sorts.Map k) n ss sound now lacking kinds (is ∙ ap MapKind name) fits, begins_tables s Key (sorts.Map k))

type_new : (types : List Text) (text : Text) → Some text ≡ Some (get_or (types ++ text ∷ []) (length types) [])
type_new types text = ap Some (sym (rw (← add-zero (length types)) (get_or-append-add types (text ∷ []) 0 [])))

class_is : (c far : Class) → far.name ≡ c.name → far.fields ++ [] ≡ c.fields → far ≡ c
class_is c far e e' = ap (λ (x : Text × List Text). record { name = x.0; fields = x.1 }) (let q : ◌≡◌ {A = Text × List Text} (far.name, far.fields) (c.name, c.fields) = rw (e, ← e', append-nil far.fields) refl in q)

-- the fields of a class that are to come
fields_has : (g : Shape) (s : State) → Sound s → (c far : Class) (fs : List Text) (k : ℕ) (v : Value) (tail ss : List Symbol) → Lacks' g s.built ss → KindsAre g s → ss ≡ ValueOf v ∷ tail → far.name ≡ c.name → far.fields ++ fs ≡ c.fields → k ≡ length fs → Has g (awaits_fields far k s) (fields_then c fs ss) × (tables_of (awaits_fields far k s) ≡ defined c fs (tables_of s))
fields_has g s sound c far [] k v tail ss lacking kinds front name whole count =
    let same : far ≡ c = class_is c far name whole in
    rw (count, same) (record { under = ss; lacking = lacking; ahead = subst (λ x. Ahead g (tables_of (learns_class c s)) AtDefined x x) (sym front) (a_defined v); kinds = kinds_classed g s c sound kinds }, refl)
fields_has g s sound c far (f ∷ fs) k v tail ss lacking kinds front name whole count =
    rw (ne_eqb k 0 (λ z. omega arith)) (moved g s (AtField far k) ss (FieldOf c f fs ∷ ss) lacking (subst (λ x. Ahead g (tables_of s) (AtField far k) x (FieldOf c f fs ∷ x)) (sym front) (a_fields v c far k f fs name whole count)) kinds, refl)

-- the code of a node with a type says how the node goes on
pub record TypedForm (vs : List Value) (f : LineForm) (code : ℕ) : Type 0 where
  pub form : Form
  pub same : f ≡ line_form form
  pub is_code : HeadCode (heads.Typed form) code
  pub fits : FormFits form (length vs)

typed_form : {vs : List Value} {f : LineForm} {code : ℕ} → TypedCode vs f code → TypedForm vs f code
typed_form c_open_list = record { form = forms.Open; same = refl; is_code = h_open_typed_list; fits = tt }
typed_form c_long_list = record { form = forms.Long; same = refl; is_code = h_long_typed_list; fits = tt }
typed_form (c_short_list code is count) = record { form = forms.Short (code - 0x70); same = refl; is_code = h_short_typed_list code (code - 0x70) (record { above = is.above; below = is.below }) refl; fits = sym count }
typed_form (c_map pairs) = record { form = forms.Pairs; same = refl; is_code = h_typed_map; fits = pairs }

may_end_here : (p : Place) (outcome : Outcome) → p ≡ AtValue → may_end p outcome ≡ outcome
may_end_here p outcome e = ap (λ x. may_end x outcome) e

pub forward : (g : Shape) (s : State) {t t' : Tables} {front : Symbol} {element : List ℕ} {ss ss' : List Symbol} → Sound s → length g.nodes ≤ node_limit → t ≡ tables_of s → Row hessian g t front element ss ss' t' → Has g s (front ∷ ss) → Went g s element ss' t'
forward g s sound limit e (r_scalar {ss = ss} v element is spelled) h = rw e (leaf g s sound v ss element (e_scalar v element is spelled) h)
forward g s sound limit e (r_text {ss = ss} text element spelled) h = rw e (leaf g s sound (values.Text text) ss element (e_text text element spelled) h)
forward g s sound limit e (r_binary {ss = ss} contents element spelled) h = rw e (leaf g s sound (values.Bytes contents) ss element (e_binary contents element spelled) h)
forward g s sound limit e (r_end {ss = ss}) h =
    let (p, u) = expects g s (End ∷ ss) h in
    let q = end g s ss s.built.open_nodes (subst (Lacks' g s.built) u h.lacking) in
    rw e (record {
      to = closes q.others s;
      x = elements.Code heads.End;
      is_element = in_value g s sound (0x5a ∷ []) (elements.Code heads.End) (inl p) (e_code heads.End 0x5a h_end);
      taken = code_taken g s sound heads.End (closes q.others s) (inl p) (may_end_here s.place (end_step s.built.open_nodes s) p ∙ q.is);
      has = record { under = ss; lacking = q.lacking; ahead = subst (λ x. Ahead g (tables_of s) x ss ss) (sym p) a_value; kinds = h.kinds };
      tables = refl;
    })
forward g s sound limit e (r_refer {ss = ss} n) h = rw e (goes g s sound heads.Refer 0x51 AtReference (values.Node n) ss (Reference n ∷ ss) h_refer h (a_reference n) refl)
forward g s sound limit e (r_reference {ss = ss} n element low spelled) h =
    let (p, u) = expects g s (Reference n ∷ ss) h in
    let low' : n < length s.built.nodes = subst (λ (x : Tables). n < x.begun) e low in
    rw e (record {
      to = takes_value (values.Node n) s;
      x = elements.Number (pos n);
      is_element = subst (λ w. IsElement w element (elements.Number (pos n))) (sym (ap want_at p)) (e_number wants.AnInt (pos n) element t_int spelled);
      taken = ap (λ x. number_step x (pos n) s) p ∙ is_below g s sound n (length s.built.nodes) (λ k. takes_value (values.Node k) s) (NoNode (pos n)) low';
      has = value_has g s (values.Node n) ss sound (subst (Lacks' g s.built) u h.lacking) h.kinds;
      tables = value_tables s (values.Node n);
    })
forward g s sound limit e (r_define {ss = ss} v c) h = rw e (goes g s sound heads.Define 0x43 AtName v ss (NameOf c ∷ ValueOf v ∷ ss) h_define h (a_class_name v c) refl)
forward g s sound limit e (r_class_name {ss = ss} c element spelled) h =
    let (p, u, v, tail, front) = expects g s (NameOf c ∷ ss) h in
    rw e (record {
      to = moves_to (AtCount c.name) s;
      x = elements.Words c.name;
      is_element = subst (λ w. IsElement w element (elements.Words c.name)) (sym (ap want_at p)) (e_words wants.AText c.name element t_text spelled);
      taken = ap (λ x. words_step x c.name s) p;
      has = moved g s (AtCount c.name) ss (CountOf c ∷ ss) (subst (Lacks' g s.built) u h.lacking) (subst (λ x. Ahead g (tables_of s) (AtCount c.name) x (CountOf c ∷ x)) (sym front) (a_field_count v c c.name refl)) h.kinds;
      tables = refl;
    })
forward g s sound limit e (r_field_count {ss = ss} c element spelled) h =
    let (p, u, v, tail, front) = expects g s (CountOf c ∷ ss) h in
    let far : Class = record { name = c.name; fields = [] } in
    let k : ℕ = length c.fields in
    let q = fields_has g s sound c far c.fields k v tail ss (subst (Lacks' g s.built) u h.lacking) h.kinds front refl refl refl in
    rw e (record {
      to = awaits_fields far k s;
      x = elements.Number (pos k);
      is_element = subst (λ w. IsElement w element (elements.Number (pos k))) (sym (ap want_at p)) (e_number wants.AnInt (pos k) element t_int spelled);
      taken = ap (λ x. number_step x (pos k) s) p;
      has = q.0;
      tables = q.1;
    })
forward g s sound limit e (r_field_name {ss = ss} c f fs element spelled) h =
    let (far, p, u, name, whole, v, tail, front) = expects g s (FieldOf c f fs ∷ ss) h in
    let far' : Class = record far { fields = far.fields ++ f ∷ [] } in
    let q = fields_has g s sound c far' fs (suc (length fs) - 1) v tail ss (subst (Lacks' g s.built) u h.lacking) h.kinds front name (append_assoc far.fields (f ∷ []) fs ∙ whole) (omega arith) in
    rw e (record {
      to = awaits_fields far' (suc (length fs) - 1) s;
      x = elements.Words f;
      is_element = subst (λ w. IsElement w element (elements.Words f)) (sym (ap want_at p)) (e_words wants.AText f element t_text spelled);
      taken = ap (λ x. words_step x f s) p;
      has = q.0;
      tables = q.1;
    })
forward g s sound limit e (r_open_list {ss = ss} n b) h = rw e (opens g s sound heads.OpenList 0x57 ToEnd (sorts.List None) n ss h_open_list h (b.next ∙ ap (λ (x : Tables). x.begun) e) b.within limit b.kind_is tt refl)
forward g s sound limit e (r_short_list {ss = ss} n code b is count) h = rw e (opens g s sound (heads.ShortList (code - 0x78)) code (Count (code - 0x78)) (sorts.List None) n ss (h_short_list code (code - 0x78) (record { above = is.above; below = is.below }) refl) h (b.next ∙ ap (λ (x : Tables). x.begun) e) b.within limit b.kind_is (sym count) refl)
forward g s sound limit e (r_open_map {ss = ss} n b pairs) h = rw e (opens g s sound heads.OpenMap 0x48 Key (sorts.Map None) n ss h_open_map h (b.next ∙ ap (λ (x : Tables). x.begun) e) b.within limit b.kind_is pairs refl)
forward g s sound limit e (r_long_list {ss = ss} n b) h =
    let now = b.next ∙ ap (λ (x : Tables). x.begun) e in
    rw e (header g s sound heads.LongList 0x58 (AtLength None) n ss (LengthFor n ∷ ss) h_long_list h (a_len None n (record { next = now; within = b.within; kind_is = b.kind_is })) now b.within limit refl)
forward g s sound limit e (r_list_length {ss = ss} n element next spelled) h =
    let (ty, p, u, b) = expects g s (LengthFor n ∷ ss) h in
    let k : ℕ = length (values_at g n) in
    rw e (record {
      to = begins_node (Count k) (sorts.List ty) s;
      x = elements.Number (pos k);
      is_element = subst (λ w. IsElement w element (elements.Number (pos k))) (sym (ap want_at p)) (e_number wants.AnInt (pos k) element t_int spelled);
      taken = ap (λ x. number_step x (pos k) s) p;
      has = begins_has g s (Count k) (sorts.List ty) n ss sound b.next (subst (Lacks' g s.built) u h.lacking) h.kinds b.kind_is refl;
      tables = begins_tables s (Count k) (sorts.List ty);
    })
forward g s sound limit e (r_typed {ss = ss} f n code next is) h =
    let q = typed_form is in
    let now = next.next ∙ ap (λ (x : Tables). x.begun) e in
    rw e (header g s sound (heads.Typed q.form) code (AtType q.form) n ss (TypeFor f n ∷ ss) q.is_code h (a_type q.form f n q.same (record { next = now; within = next.within }) q.fits) now next.within limit refl)
forward g s sound limit e (r_type_name {ss = ss} f n text element b spelled) h =
    let (form, p, same, u, fits) = expects g s (TypeFor f n ∷ ss) h in
    let s1 : State = learns_type text s in
    let k : ℕ = length s.names.types in
    let q = behind_has g s1 form (Some k) text n ss (sound_typed s text sound) (subst (Lacks' g s.built) u h.lacking) (kinds_typed g s text sound h.kinds) (b.next ∙ ap (λ (x : Tables). x.begun) e) b.within (b.kind_is ∙ ap (λ x. typed_kind x text) same) (type_new s.names.types text) fits in
    rw (e, same) (record {
      to = goes_behind form (Some k) s1;
      x = elements.Words text;
      is_element = subst (λ w. IsElement w element (elements.Words text)) (sym (ap want_at p)) (e_words wants.AType text element t_text_type spelled);
      taken = ap (λ x. words_step x text s) p;
      has = q.0;
      tables = q.1;
    })
forward g s sound limit e (r_type_number {ss = ss} f n k element low b spelled) h =
    let (form, p, same, u, fits) = expects g s (TypeFor f n ∷ ss) h in
    let low' : k < length s.names.types = subst (λ (x : Tables). k < length x.types) e low in
    let type : Text = get_or s.names.types k [] in
    let kind : kind_at g n ≡ typed_kind (line_form form) type = b.kind_is ∙ ap (λ (x : Tables). typed_kind f (get_or x.types k [])) e ∙ ap (λ x. typed_kind x type) same in
    let q = behind_has g s form (Some k) type n ss sound (subst (Lacks' g s.built) u h.lacking) h.kinds (b.next ∙ ap (λ (x : Tables). x.begun) e) b.within kind refl fits in
    rw (e, same) (record {
      to = goes_behind form (Some k) s;
      x = elements.Number (pos k);
      is_element = subst (λ w. IsElement w element (elements.Number (pos k))) (sym (ap want_at p)) (e_number wants.AType (pos k) element t_int_type spelled);
      taken = ap (λ x. number_step x (pos k) s) p ∙ is_below g s sound k (length s.names.types) (λ j. goes_behind form (Some j) s) (NoType (pos k)) low';
      has = q.0;
      tables = q.1;
    })
forward g s sound limit e (r_long_object {ss = ss} n next) h =
    let now = next.next ∙ ap (λ (x : Tables). x.begun) e in
    rw e (header g s sound heads.LongObject 0x4f AtClass n ss (ClassFor n ∷ ss) h_long_object h (a_class n (record { next = now; within = next.within })) now next.within limit refl)
forward g s sound limit e (r_class_number {ss = ss} n k element o spelled) h =
    let (p, u) = expects g s (ClassFor n ∷ ss) h in
    let low : k < length s.names.classes = subst (λ (x : Tables). k < length x.classes) e o.known in
    let kind : kind_at g n ≡ ObjectKind (get_or s.names.classes k no_class) = o.begins.kind_is ∙ ap (λ (x : Tables). ObjectKind (get_or x.classes k no_class)) e in
    let count : field_count s.names k ≡ length (values_at g n) = sym (o.values_are ∙ ap (λ (x : Tables). length (get_or x.classes k no_class).fields) e) in
    rw e (record {
      to = begins_object k s;
      x = elements.Number (pos k);
      is_element = subst (λ w. IsElement w element (elements.Number (pos k))) (sym (ap want_at p)) (e_number wants.AnInt (pos k) element t_int spelled);
      taken = ap (λ x. number_step x (pos k) s) p ∙ is_below g s sound k (length s.names.classes) (λ j. begins_object j s) (NoClass (pos k)) low;
      has = begins_has g s (Count (field_count s.names k)) (sorts.Object k) n ss sound (o.begins.next ∙ ap (λ (x : Tables). x.begun) e) (subst (Lacks' g s.built) u h.lacking) h.kinds kind count;
      tables = begins_tables s (Count (field_count s.names k)) (sorts.Object k);
    })
forward g s sound limit e (r_short_object {ss = ss} n code is o) h =
    let (p, u) = expects g s (ValueOf (values.Node n) ∷ ss) h in
    let k : ℕ = code - 0x60 in
    let low : k < length s.names.classes = subst (λ (x : Tables). k < length x.classes) e o.known in
    let kind : kind_at g n ≡ ObjectKind (get_or s.names.classes k no_class) = o.begins.kind_is ∙ ap (λ (x : Tables). ObjectKind (get_or x.classes k no_class)) e in
    let count : field_count s.names k ≡ length (values_at g n) = sym (o.values_are ∙ ap (λ (x : Tables). length (get_or x.classes k no_class).fields) e) in
    rw e (opens g s sound (heads.ShortObject k) code (Count (field_count s.names k)) (sorts.Object k) n ss (h_short_object code k (record { above = is.above; below = is.below }) refl) h (o.begins.next ∙ ap (λ (x : Tables). x.begun) e) o.begins.within limit kind count (ap (if_room s) (is_below g s sound k (length s.names.classes) (λ j. begins_object j s) (NoClass (pos k)) low)))
