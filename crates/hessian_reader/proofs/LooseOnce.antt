-- Loose spellings are read one way: an element by its place, and one row.
use Rattle.std.proofs.Common.{◌≡◌, ℕ, zero, suc, ◌-◌, List, [], ◌∷◌, ◌++◌, length, refl, ap, sym, ◌∙◌, subst, append_assoc, ◌⊎◌, inl, inr}
use Rattle.std.specs.Prelude.{nat_lt, if◌then◌else◌, Option, Some, None, ℤ, pos}
use Rattle.std.proofs.lemmas.Bool.{lt-ltb}
use Rattle.std.proofs.lemmas.List.{append-nil}
use Rattle.hessian_graph.specs.declared.value.Value.TheVariants as values
use Rattle.hessian_graph.specs.Shape.{Text}
use Rattle.hessian_graph.specs.Reading.{Tables, one_more, add_type}
use Rattle.hessian_graph.specs.Loose.{LooseForm, Slot, OneValue, Items, Entries, AReference, AType as TypeSlot, ALength, AClass as ClassSlot, AName as NameSlot, ACount, AField, or_zero, field_number, ones, fields_left, class_so_far, and_field, behind_type, begun_by, TypedCode, ValueRow, LooseRow}
use Rattle.hessian_graph.specs.Loose.{Leads as LooseLeads}
use Rattle.hessian_graph.specs.Loose.Leads.{here as l_here, on as l_on}
use Rattle.hessian_graph.specs.Loose.TypedCode.{open_list as l_open, long_list as l_long, short_list as l_short, map as l_map}
use Rattle.hessian_graph.specs.Loose.ValueRow.{scalar as v_scalar, text as v_text, binary as v_binary, refer as v_refer, define as v_define, open_list as v_open_list, long_list as v_long_list, short_list as v_short_list, typed as v_typed, open_map as v_open_map, long_object as v_long_object, short_object as v_short_object}
use Rattle.hessian_graph.specs.Loose.LooseRow.{value as x_value, item as x_item, key as x_key, no_item as x_no_item, no_entry as x_no_entry, reference as x_reference, type_name as x_type_name, type_number as x_type_number, list_length as x_list_length, class_number as x_class_number, class_name as x_class_name, field_count as x_field_count, field_name as x_field_name}
use Rattle.hessian_text.specs.Spelling.{AreBytes}
use Rattle.hessian_reader.specs.declared.element.Form.TheVariants as forms
use Rattle.hessian_reader.specs.declared.element.Head.{Head}
use Rattle.hessian_reader.specs.declared.element.Head.TheVariants as heads
use Rattle.hessian_reader.specs.declared.element.Element.{Element}
use Rattle.hessian_reader.specs.declared.element.Element.TheVariants as elements
use Rattle.hessian_reader.specs.declared.element.Want.{Want}
use Rattle.hessian_reader.specs.declared.element.Want.TheVariants as wants
use Rattle.hessian_reader.specs.Leaves.{hessian}
use Rattle.hessian_reader.specs.Elements.{HeadCode, IsElement}
use Rattle.hessian_reader.specs.Elements.TakesInt.{int as t_int, type as t_int_type}
use Rattle.hessian_reader.specs.Elements.TakesText.{text as t_text, type as t_text_type}
use Rattle.hessian_reader.specs.Elements.HeadCode.{refer as h_refer, short_list as h_short_list, open_list as h_open_list, long_list as h_long_list, open_typed_list as h_open_typed_list, long_typed_list as h_long_typed_list, short_typed_list as h_short_typed_list, typed_map as h_typed_map, open_map as h_open_map, define as h_define, short_object as h_short_object, long_object as h_long_object, end as h_end}
use Rattle.hessian_reader.specs.Elements.IsElement.{scalar as e_scalar, text as e_text, binary as e_binary, code as e_code, number as e_number, words as e_words}
use Rattle.hessian_reader.proofs.Slots.{loose_form}
use Rattle.hessian_reader.proofs.Elements.{element_some, one_element}
use Rattle.hessian_reader.proofs.OneWay.{Fronts, fronts, bytes_front, bytes_rest}
use Rattle.hessian_reader.proofs.OneWay.Fronts.{first_shorter, second_shorter}

-- ---- an element by its place

abbrev pub want_of : Slot → Want
want_of OneValue = wants.AnyValue
want_of Items = wants.AnyValue
want_of Entries = wants.AnyValue
want_of AReference = wants.AnInt
want_of (TypeSlot form) = wants.AType
want_of ALength = wants.AnInt
want_of ClassSlot = wants.AnInt
want_of NameSlot = wants.AText
want_of (ACount name) = wants.AnInt
want_of (AField class k) = wants.AText

-- what is to come behind an element, and the tables there
pub record Left : Type 0 where
  pub slots : List Slot
  pub tables : Tables

abbrev left_are : List Slot → Tables → Option Left
left_are ss t = Some (record { slots = ss; tables = t })

abbrev pub head_left : Tables → List Slot → Head → Option Left
head_left t ss heads.Refer = left_are (AReference ∷ ss) t
head_left t ss heads.Define = left_are (NameSlot ∷ OneValue ∷ ss) t
head_left t ss heads.OpenList = left_are (Items ∷ ss) (one_more t)
head_left t ss heads.LongList = left_are (ALength ∷ ss) t
head_left t ss (heads.ShortList k) = left_are (ones k ss) (one_more t)
head_left t ss (heads.Typed form) = left_are (TypeSlot (loose_form form) ∷ ss) t
head_left t ss heads.OpenMap = left_are (Entries ∷ ss) (one_more t)
head_left t ss heads.LongObject = left_are (ClassSlot ∷ ss) t
head_left t ss (heads.ShortObject k) = if nat_lt k (length t.classes) then left_are (ones (field_number t (pos k)) ss) (one_more t) else None
head_left t ss heads.End = None

abbrev value_left : Tables → List Slot → Element → Option Left
value_left t ss (elements.Plain v) = left_are ss t
value_left t ss (elements.Code h) = head_left t ss h
value_left t ss (elements.Number z) = None
value_left t ss (elements.Words text) = None

-- the first where a head is `Z`
abbrev pub end_or : Head → Option Left → Option Left → Option Left
end_or heads.End a b = a
end_or heads.Refer a b = b
end_or heads.Define a b = b
end_or heads.OpenList a b = b
end_or heads.LongList a b = b
end_or (heads.ShortList k) a b = b
end_or (heads.Typed form) a b = b
end_or heads.OpenMap a b = b
end_or heads.LongObject a b = b
end_or (heads.ShortObject k) a b = b

abbrev or_end : Element → Option Left → Option Left → Option Left
or_end (elements.Code h) a b = end_or h a b
or_end (elements.Plain v) a b = b
or_end (elements.Number z) a b = b
or_end (elements.Words text) a b = b

abbrev number_left : Element → (ℤ → Option Left) → Option Left
number_left (elements.Number z) f = f z
number_left (elements.Plain v) f = None
number_left (elements.Code h) f = None
number_left (elements.Words text) f = None

abbrev words_left : Element → (Text → Option Left) → Option Left → Option Left
words_left (elements.Words text) f other = f text
words_left (elements.Number z) f other = other
words_left (elements.Plain v) f other = other
words_left (elements.Code h) f other = other

abbrev pub element_left : Tables → Slot → List Slot → Element → Option Left
element_left t OneValue ss x = value_left t ss x
element_left t Items ss x = or_end x (left_are ss t) (value_left t (Items ∷ ss) x)
element_left t Entries ss x = or_end x (left_are ss t) (value_left t (OneValue ∷ Entries ∷ ss) x)
element_left t AReference ss x = number_left x (λ z. left_are ss t)
element_left t (TypeSlot form) ss x = words_left x (λ text. left_are (behind_type form ss) (begun_by form (add_type text t))) (number_left x (λ z. left_are (behind_type form ss) (begun_by form t)))
element_left t ALength ss x = number_left x (λ z. left_are (ones (or_zero z) ss) (one_more t))
element_left t ClassSlot ss x = number_left x (λ z. left_are (ones (field_number t z) ss) (one_more t))
element_left t NameSlot ss x = words_left x (λ text. left_are (ACount text ∷ ss) t) None
element_left t (ACount name) ss x = number_left x (λ z. left_are (fields_left (record { name = name; fields = [] }) (or_zero z) ss) (class_so_far (record { name = name; fields = [] }) (or_zero z) t))
element_left t (AField class zero) ss x = None
element_left t (AField class (suc k)) ss x = words_left x (λ text. left_are (fields_left (and_field class text) k ss) (class_so_far (and_field class text) k t)) None

-- ---- each row takes the element of its place

pub record RowElement (t : Tables) (slot : Slot) (e : List ℕ) (others after : List Slot) (u : Tables) : Type 0 where
  pub element : Element
  pub is : IsElement (want_of slot) e element
  pub left : element_left t slot others element ≡ left_are after u

record ValueElement (t : Tables) (e : List ℕ) (ss after : List Slot) (u : Tables) : Type 0 where
  element : Element
  is : IsElement wants.AnyValue e element
  left : value_left t ss element ≡ left_are after u
  no_end : (a b : Option Left) → or_end element a b ≡ b

code_element : {t u : Tables} {ss after : List Slot} (h : Head) (c : ℕ) → HeadCode h c → head_left t ss h ≡ left_are after u → ((a b : Option Left) → end_or h a b ≡ b) → ValueElement t (c ∷ []) ss after u
code_element h c is left none = record { element = elements.Code h; is = e_code h c is; left = left; no_end = none }

typed_element : {t : Tables} {ss : List Slot} {form : LooseForm} {c : ℕ} → TypedCode form c → ValueElement t (c ∷ []) ss (TypeSlot form ∷ ss) t
typed_element l_open = code_element (heads.Typed forms.Open) 0x55 h_open_typed_list refl (λ a b. refl)
typed_element l_long = code_element (heads.Typed forms.Long) 0x56 h_long_typed_list refl (λ a b. refl)
typed_element (l_short code i) = code_element (heads.Typed (forms.Short (code - 0x70))) code (h_short_typed_list code (code - 0x70) i refl) refl (λ a b. refl)
typed_element l_map = code_element (heads.Typed forms.Pairs) 0x4d h_typed_map refl (λ a b. refl)

value_element : {t u : Tables} {e : List ℕ} {ss after : List Slot} → ValueRow hessian t e ss after u → ValueElement t e ss after u
value_element (v_scalar v element is l) = record { element = elements.Plain v; is = e_scalar v element is l; left = refl; no_end = λ a b. refl }
value_element (v_text text element l) = record { element = elements.Plain (values.Text text); is = e_text text element l; left = refl; no_end = λ a b. refl }
value_element (v_binary contents element l) = record { element = elements.Plain (values.Bytes contents); is = e_binary contents element l; left = refl; no_end = λ a b. refl }
value_element v_refer = code_element heads.Refer 0x51 h_refer refl (λ a b. refl)
value_element v_define = code_element heads.Define 0x43 h_define refl (λ a b. refl)
value_element v_open_list = code_element heads.OpenList 0x57 h_open_list refl (λ a b. refl)
value_element v_long_list = code_element heads.LongList 0x58 h_long_list refl (λ a b. refl)
value_element (v_short_list code i) = code_element (heads.ShortList (code - 0x78)) code (h_short_list code (code - 0x78) i refl) refl (λ a b. refl)
value_element (v_typed form code is) = typed_element is
value_element v_open_map = code_element heads.OpenMap 0x48 h_open_map refl (λ a b. refl)
value_element v_long_object = code_element heads.LongObject 0x4f h_long_object refl (λ a b. refl)
value_element {t = t} (v_short_object code i low) = code_element (heads.ShortObject (code - 0x60)) code (h_short_object code (code - 0x60) i refl) (rw (lt-ltb (code - 0x60) (length t.classes) low) refl) (λ a b. refl)

pub row_element : {t u : Tables} {slot : Slot} {e : List ℕ} {others after : List Slot} → LooseRow hessian t slot e others after u → RowElement t slot e others after u
row_element (x_value r) = let v = value_element r in record { element = v.element; is = v.is; left = v.left }
row_element (x_item r) = let v = value_element r in record { element = v.element; is = v.is; left = v.no_end _ _ ∙ v.left }
row_element (x_key r) = let v = value_element r in record { element = v.element; is = v.is; left = v.no_end _ _ ∙ v.left }
row_element x_no_item = record { element = elements.Code heads.End; is = e_code heads.End 0x5a h_end; left = refl }
row_element x_no_entry = record { element = elements.Code heads.End; is = e_code heads.End 0x5a h_end; left = refl }
row_element (x_reference z element is) = record { element = elements.Number z; is = e_number wants.AnInt z element t_int is; left = refl }
row_element (x_type_name form type' element is) = record { element = elements.Words type'; is = e_words wants.AType type' element t_text_type is; left = refl }
row_element (x_type_number form z element is) = record { element = elements.Number z; is = e_number wants.AType z element t_int_type is; left = refl }
row_element (x_list_length z element is) = record { element = elements.Number z; is = e_number wants.AnInt z element t_int is; left = refl }
row_element (x_class_number z element is) = record { element = elements.Number z; is = e_number wants.AnInt z element t_int is; left = refl }
row_element (x_class_name name element is) = record { element = elements.Words name; is = e_words wants.AText name element t_text is; left = refl }
row_element (x_field_count name z element is) = record { element = elements.Number z; is = e_number wants.AnInt z element t_int is; left = refl }
row_element (x_field_name class k field element is) = record { element = elements.Words field; is = e_words wants.AText field element t_text is; left = refl }

-- ---- the same element, where one of them is of bytes

pub record SameFront (e rest e' rest' : List ℕ) (x x' : Element) : Type 0 where
  pub bytes : e ≡ e'
  pub behind : rest ≡ rest'
  pub element : x ≡ x'

same_by : (w : Want) (e rest e' rest' : List ℕ) (x x' : Element) → AreBytes e → IsElement w e x → IsElement w e' x' → Fronts e rest e' rest' → SameFront e rest e' rest' x x'
same_by w e rest e' rest' x x' small is is' (first_shorter k a b) =
    let (none, same) = one_element w e k x x' small is (subst (λ l. IsElement w l x') a is') in
    record { bytes = sym (a ∙ rw none (append-nil e)); behind = b ∙ rw none refl; element = sym same }
same_by w e rest e' rest' x x' small is is' (second_shorter k a b) =
    let (none, same) = one_element w e' k x' x (bytes_front e' k (subst AreBytes a small)) is' (subst (λ l. IsElement w l x) a is) in
    record { bytes = a ∙ rw none (append-nil e'); behind = sym (b ∙ rw none refl); element = same }

pub same_front : (w : Want) (e rest e' rest' : List ℕ) (x x' : Element) → AreBytes e → e ++ rest ≡ e' ++ rest' → IsElement w e x → IsElement w e' x' → SameFront e rest e' rest' x x'
same_front w e rest e' rest' x x' small same is is' = same_by w e rest e' rest' x x' small is is' (fronts e rest e' rest' same)

-- ---- what leads on leads on from there

pub record FirstRow (t : Tables) (slot : Slot) (others : List Slot) (bytes : List ℕ) (w : Tables) (ys : List Slot) : Type 0 where
  pub element : List ℕ
  pub rest : List ℕ
  pub after : List Slot
  pub tables : Tables
  pub row : LooseRow hessian t slot element others after tables
  pub joined : bytes ≡ element ++ rest
  pub leads : LooseLeads hessian tables after rest w ys

slot_is : (s r : Slot) (ss rs : List Slot) → s ∷ ss ≡ r ∷ rs → s ≡ r
slot_is s r ss rs e = cc

slots_are : (s r : Slot) (ss rs : List Slot) → s ∷ ss ≡ r ∷ rs → ss ≡ rs
slots_are s r ss rs e = cc

pub first_row : {t w : Tables} {ss ys : List Slot} {bytes : List ℕ} (slot : Slot) (others : List Slot) → LooseLeads hessian t ss bytes w ys → ss ≡ slot ∷ others → (bytes ≡ []) ⊎ FirstRow t slot others bytes w ys
first_row slot others l_here e = inl refl
first_row {t} {w} {ys = ys} {bytes = bytes} slot others (l_on {t' = t'} {s = s} {ss = ss} {ss' = ss'} element rest bytes' row joined leads) e = inr (record {
  element = element;
  rest = rest;
  after = ss';
  tables = t';
  row = subst (λ o. LooseRow hessian t slot element o ss' t') (slots_are s slot ss others e) (subst (λ r. LooseRow hessian t r element ss ss' t') (slot_is s slot ss others e) row);
  joined = joined;
  leads = leads;
})

left_is : (a b : Left) → Some a ≡ Some b → a ≡ b
left_is a b e = cc

no_front : (e rest : List ℕ) → e ++ rest ≡ [] → e ≡ []
no_front [] rest h = refl
no_front (b ∷ e) rest h = cc

pub once : {t u w : Tables} {ss xs ys : List Slot} {a bytes : List ℕ} (m : List ℕ) → AreBytes a → bytes ≡ a ++ m → LooseLeads hessian t ss a u xs → LooseLeads hessian t ss bytes w ys → LooseLeads hessian u xs m w ys
once {t} {w = w} {ss = ss} {ys = ys} m small e l_here l = subst (λ b. LooseLeads hessian t ss b w ys) e l
once {u = u} {w = w} {xs = xs} {ys = ys} {a = a} {bytes = bytes} m small e (l_on {t = t} {t' = t'} {s = s} {ss = ss} {ss' = ss'} element rest a' row joined leads) l = by_first (λ b behind more. once m (bytes_rest element rest (subst AreBytes joined small)) behind leads more) (first_row s ss l refl)
  where
    p : RowElement t s element ss ss' t'
    p = row_element row

    whole : bytes ≡ element ++ (rest ++ m)
    whole = e ∙ ap (λ x. x ++ m) joined ∙ append_assoc element rest m

    by_first : ((b : List ℕ) → b ≡ rest ++ m → LooseLeads hessian t' ss' b w ys → LooseLeads hessian u xs m w ys) → (bytes ≡ []) ⊎ FirstRow t s ss bytes w ys → LooseLeads hessian u xs m w ys
    by_first onward (inl none) = absurd (element_some (want_of s) element p.element p.is (no_front element (rest ++ m) (sym whole ∙ none)))
    by_first onward (inr f) =
        let q = row_element f.row in
        let same = same_front (want_of s) element (rest ++ m) f.element f.rest p.element q.element (bytes_front element rest (subst AreBytes joined small)) (sym whole ∙ f.joined) p.is q.is in
        let left = left_is (record { slots = ss'; tables = t' }) (record { slots = f.after; tables = f.tables }) (sym p.left ∙ ap (element_left t s ss) same.element ∙ q.left) in
        let tables : f.tables ≡ t' = sym (ap (λ (r : Left). r.tables) left) in
        let slots : f.after ≡ ss' = sym (ap (λ (r : Left). r.slots) left) in
        onward f.rest (sym same.behind) (subst (λ x. LooseLeads hessian t' x f.rest w ys) slots (subst (λ x. LooseLeads hessian x f.after f.rest w ys) tables f.leads))
