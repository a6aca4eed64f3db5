-- A reading that wants more roots takes the same elements.
use Rattle.std.proofs.Common.{◌≡◌, ℕ, ◌+◌, ◌-◌, Bool, true, false, List, [], ◌∷◌, ◌++◌, length, refl, ap, sym, ◌∙◌, subst, arith, inl, inr}
use Rattle.std.specs.Prelude.{nat_eq, nat_lt, if◌then◌else◌, ◌&&◌, Option, Some, None, Ok, Err, ℤ, pos, negsuc}
use Rattle.std.proofs.lemmas.Bool.{eqb-false, eqb-true, ne_eqb, and_parts, cases_lt}
use Rattle.std.proofs.lemmas.List.{append-nil}
use Rattle.hessian_graph.specs.declared.value.Value.{Value}
use Rattle.hessian_graph.specs.declared.value.Value.TheVariants.{Node}
use Rattle.hessian_graph.specs.declared.node.Class.{Class}
use Rattle.hessian_graph.specs.Shape.{Text, Shape}
use Rattle.hessian_text.specs.Spelling.{AreBytes}
use Rattle.hessian_reader.specs.declared.element.Form.{Form}
use Rattle.hessian_reader.specs.declared.element.Form.TheVariants as forms
use Rattle.hessian_reader.specs.declared.element.Head.{Head}
use Rattle.hessian_reader.specs.declared.element.Head.TheVariants as heads
use Rattle.hessian_reader.specs.declared.element.Element.{Element}
use Rattle.hessian_reader.specs.declared.element.Element.TheVariants as elements
use Rattle.hessian_reader.specs.declared.table.Sort.{Sort}
use Rattle.hessian_reader.specs.declared.table.Sort.TheVariants as sorts
use Rattle.hessian_reader.specs.declared.store.Lacks.{Lacks}
use Rattle.hessian_reader.specs.declared.store.OpenNode.{OpenNode}
use Rattle.hessian_reader.specs.declared.stop.Objection.{Objection}
use Rattle.hessian_reader.specs.declared.stop.Objection.TheVariants.{NoNode, NoType, NoClass, NoLength, TooMany}
use Rattle.hessian_reader.specs.Leaves.{IsDenoted, node_limit}
use Rattle.hessian_reader.specs.States.{Built, State, Place, AtValue, AtDefined, AtReference, AtType, AtLength, AtClass, AtName, AtCount, AtField, ToEnd, Count, Key, Mate, start, with_value, with_begun, with_node, begins_node, takes_value, moves_to, begins_object, learns_type, learns_class, awaits_fields, lacks_none, is_at_value, is_done}
use Rattle.hessian_reader.specs.Steps.{Outcome, at_value, end_of, end_step, may_end, below, natural, behind_type, class_step, number_step, words_step, node_step, header_step, head_step, take_element, Leads}
use Rattle.hessian_reader.specs.Steps.Leads.{here, on}
use Rattle.hessian_reader.proofs.Sound.{Sound}
use Rattle.hessian_reader.proofs.Outcomes.{some_lacking}
use Rattle.hessian_reader.proofs.Keeping.{sound_take, sound_start}
use Rattle.hessian_reader.proofs.Running.{reads}
use Rattle.hessian_reader.proofs.OneWay.{leads_on, leads_end, one_graph}

-- so many roots more are wanted
abbrev pub plus : ℕ → Built → Built
plus d b = record b { wanted = b.wanted + d }

abbrev pub further : ℕ → State → State
further d s = record s { built = plus d s.built }

abbrev mapped : ℕ → Outcome → Outcome
mapped d (Ok s) = Ok (further d s)
mapped d (Err o) = Err o

value_plus : (d : ℕ) (os : List OpenNode) (v : Value) (b : Built) → lacks_none os b.wanted ≡ false → with_value os v (plus d b) ≡ plus d (with_value os v b)
value_plus d [] v b some =
    let h = eqb-false b.wanted 0 some in
    let e : (b.wanted + d) - 1 ≡ (b.wanted - 1) + d = omega (arith, h) in
    ap (λ w. record { roots = b.roots ++ v ∷ []; wanted = w; nodes = b.nodes; open_nodes = [] }) e
value_plus d (o ∷ os) v b some = refl

value_further : (d : ℕ) (v : Value) (s : State) → lacks_none s.built.open_nodes s.built.wanted ≡ false → takes_value v (further d s) ≡ further d (takes_value v s)
value_further d v s some = ap (λ (b : Built). record { built = b; names = s.names; place = AtValue }) (value_plus d s.built.open_nodes v s.built some)

begins_further : (d : ℕ) (lacks : Lacks) (sort : Sort) (s : State) → lacks_none s.built.open_nodes s.built.wanted ≡ false → begins_node lacks sort (further d s) ≡ further d (begins_node lacks sort s)
begins_further d lacks sort s some = ap (λ (b : Built). record { built = with_begun lacks sort (length s.built.nodes) b; names = s.names; place = AtValue }) (value_plus d s.built.open_nodes (Node (length s.built.nodes)) s.built some)

-- outcomes

room_by : (d : ℕ) (t : Bool) (a b : Outcome) → a ≡ mapped d b → (if t then a else Err TooMany) ≡ mapped d (if t then b else Err TooMany)
room_by d true a b e = e
room_by d false a b e = refl

value_by : (d : ℕ) (p : Place) (a b : Outcome) → a ≡ mapped d b → at_value p a ≡ mapped d (at_value p b)
value_by d AtValue a b e = e
value_by d AtDefined a b e = e
value_by d AtReference a b e = refl
value_by d (AtType form) a b e = refl
value_by d (AtLength k) a b e = refl
value_by d AtClass a b e = refl
value_by d AtName a b e = refl
value_by d (AtCount name) a b e = refl
value_by d (AtField class k) a b e = refl

test_by : (d : ℕ) (t : Bool) (s u : State) (o : Objection) → s ≡ further d u → (if t then Ok s else Err o) ≡ mapped d (if t then Ok u else Err o)
test_by d true s u o e = ap Ok e
test_by d false s u o e = refl

below_further : (d : ℕ) (z : ℤ) (count : ℕ) (f g : ℕ → State) (o : Objection) → ((k : ℕ) → f k ≡ further d (g k)) → below z count f o ≡ mapped d (below z count g o)
below_further d (pos k) count f g o e = test_by d (nat_lt k count) (f k) (g k) o (e k)
below_further d (negsuc k) count f g o e = refl

natural_further : (d : ℕ) (z : ℤ) (f g : ℕ → State) (o : Objection) → ((k : ℕ) → f k ≡ further d (g k)) → natural z f o ≡ mapped d (natural z g o)
natural_further d (pos k) f g o e = ap Ok (e k)
natural_further d (negsuc k) f g o e = refl

module _ (d : ℕ) (s : State) (some : lacks_none s.built.open_nodes s.built.wanted ≡ false) where
  behind_further : (form : Form) (k : Option ℕ) → behind_type form k (further d s) ≡ further d (behind_type form k s)
  behind_further forms.Open k = begins_further d ToEnd (sorts.List k) s some
  behind_further forms.Long k = refl
  behind_further (forms.Short n) k = begins_further d (Count n) (sorts.List k) s some
  behind_further forms.Pairs k = begins_further d Key (sorts.Map k) s some

  fields_by : (t : Bool) (class : Class) (k : ℕ) → (if t then learns_class class (further d s) else moves_to (AtField class k) (further d s)) ≡ further d (if t then learns_class class s else moves_to (AtField class k) s)
  fields_by true class k = refl
  fields_by false class k = refl

  fields_further : (class : Class) (k : ℕ) → awaits_fields class k (further d s) ≡ further d (awaits_fields class k s)
  fields_further class k = fields_by (nat_eq k 0) class k

  node_further : (lacks : Lacks) (sort : Sort) → node_step lacks sort (further d s) ≡ mapped d (node_step lacks sort s)
  node_further lacks sort = room_by d (nat_lt (length s.built.nodes) node_limit) (Ok (begins_node lacks sort (further d s))) (Ok (begins_node lacks sort s)) (ap Ok (begins_further d lacks sort s some))

  header_further : (p : Place) → header_step p (further d s) ≡ mapped d (header_step p s)
  header_further p = room_by d (nat_lt (length s.built.nodes) node_limit) (Ok (moves_to p (further d s))) (Ok (moves_to p s)) refl

  class_further : (z : ℤ) → class_step z (further d s) ≡ mapped d (class_step z s)
  class_further z = below_further d z (length s.names.classes) (λ k. begins_object k (further d s)) (λ k. begins_object k s) (NoClass z) (λ k. begins_further d (Count (Rattle.hessian_reader.specs.States.field_count s.names k)) (sorts.Object k) s some)

  end_by : (lacks : Lacks) (others : List OpenNode) → end_of lacks others (further d s) ≡ mapped d (end_of lacks others s)
  end_by ToEnd others = refl
  end_by (Count k) others = refl
  end_by Key others = refl
  end_by Mate others = refl

  ends_by : (os : List OpenNode) → end_step os (further d s) ≡ mapped d (end_step os s)
  ends_by [] = refl
  ends_by (o ∷ os) = end_by o.lacks os

  may_end_by : (p : Place) (a b : Outcome) → a ≡ mapped d b → may_end p a ≡ mapped d (may_end p b)
  may_end_by AtValue a b e = e
  may_end_by AtDefined a b e = refl
  may_end_by AtReference a b e = refl
  may_end_by (AtType form) a b e = refl
  may_end_by (AtLength k) a b e = refl
  may_end_by AtClass a b e = refl
  may_end_by AtName a b e = refl
  may_end_by (AtCount name) a b e = refl
  may_end_by (AtField class k) a b e = refl

  head_further : (h : Head) → head_step h (further d s) ≡ mapped d (head_step h s)
  head_further heads.Refer = refl
  head_further (heads.ShortList k) = node_further (Count k) (sorts.List None)
  head_further heads.OpenList = node_further ToEnd (sorts.List None)
  head_further heads.LongList = header_further (AtLength None)
  head_further (heads.Typed form) = header_further (AtType form)
  head_further heads.OpenMap = node_further Key (sorts.Map None)
  head_further heads.Define = refl
  head_further (heads.ShortObject k) = room_by d (nat_lt (length s.built.nodes) node_limit) (class_step (pos k) (further d s)) (class_step (pos k) s) (class_further (pos k))
  head_further heads.LongObject = header_further AtClass
  head_further heads.End = may_end_by s.place (end_step s.built.open_nodes (further d s)) (end_step s.built.open_nodes s) (ends_by s.built.open_nodes)

  number_further : (p : Place) (z : ℤ) → number_step p z (further d s) ≡ mapped d (number_step p z s)
  number_further AtValue z = refl
  number_further AtDefined z = refl
  number_further AtReference z = below_further d z (length s.built.nodes) (λ n. takes_value (Node n) (further d s)) (λ n. takes_value (Node n) s) (NoNode z) (λ n. value_further d (Node n) s some)
  number_further (AtType form) z = below_further d z (length s.names.types) (λ k. behind_type form (Some k) (further d s)) (λ k. behind_type form (Some k) s) (NoType z) (λ k. behind_further form (Some k))
  number_further (AtLength ty) z = natural_further d z (λ k. begins_node (Count k) (sorts.List ty) (further d s)) (λ k. begins_node (Count k) (sorts.List ty) s) (NoLength z) (λ k. begins_further d (Count k) (sorts.List ty) s some)
  number_further AtClass z = class_further z
  number_further AtName z = refl
  number_further (AtCount name) z = natural_further d z (λ k. awaits_fields (record { name = name; fields = [] }) k (further d s)) (λ k. awaits_fields (record { name = name; fields = [] }) k s) (NoLength z) (λ k. fields_further (record { name = name; fields = [] }) k)
  number_further (AtField class k) z = refl

words_further : (d : ℕ) (s : State) → lacks_none s.built.open_nodes s.built.wanted ≡ false → (p : Place) (text : Text) → words_step p text (further d s) ≡ mapped d (words_step p text s)
words_further d s some AtValue text = refl
words_further d s some AtDefined text = refl
words_further d s some AtReference text = refl
words_further d s some (AtType form) text = ap Ok (behind_further d (learns_type text s) some form (Some (length s.names.types)))
words_further d s some (AtLength ty) text = refl
words_further d s some AtClass text = refl
words_further d s some AtName text = refl
words_further d s some (AtCount name) text = refl
words_further d s some (AtField class k) text = ap Ok (fields_further d s some (record class { fields = class.fields ++ text ∷ [] }) (k - 1))

take_further : (d : ℕ) (s : State) (x : Element) → lacks_none s.built.open_nodes s.built.wanted ≡ false → take_element (further d s) x ≡ mapped d (take_element s x)
take_further d s (elements.Plain v) some = value_by d s.place (Ok (takes_value v (further d s))) (Ok (takes_value v s)) (ap Ok (value_further d v s some))
take_further d s (elements.Code h) some = value_by d s.place (head_step h (further d s)) (head_step h s) (head_further d s some h)
take_further d s (elements.Number z) some = number_further d s some s.place z
take_further d s (elements.Words text) some = words_further d s some s.place text

-- whole bytes

lacks_further : (d : ℕ) (os : List OpenNode) (wanted : ℕ) → lacks_none os wanted ≡ false → lacks_none os (wanted + d) ≡ false
lacks_further d [] wanted some = let h = eqb-false wanted 0 some in ne_eqb (wanted + d) 0 (λ z. omega (arith, h))
lacks_further d (o ∷ os) wanted some = refl

done_by : (d : ℕ) (s : State) (p : Place) → lacks_none s.built.open_nodes s.built.wanted ≡ false → (is_at_value p && lacks_none s.built.open_nodes (s.built.wanted + d)) ≡ false
done_by d s AtValue some = lacks_further d s.built.open_nodes s.built.wanted some
done_by d s AtDefined some = refl
done_by d s AtReference some = refl
done_by d s (AtType form) some = refl
done_by d s (AtLength k) some = refl
done_by d s AtClass some = refl
done_by d s AtName some = refl
done_by d s (AtCount name) some = refl
done_by d s (AtField class k) some = refl

leads_further : {s u : State} {bytes : List ℕ} (d : ℕ) → Sound s → Leads s bytes u → Leads (further d s) bytes (further d u)
leads_further d sound here = here
leads_further {s = s} d sound (on {t = t} x el rest bytes open' is took joined leads) =
    let some = some_lacking s sound open' in
    on x el rest bytes (done_by d s s.place some) is (take_further d s x some ∙ ap (mapped d) took) joined (leads_further d (sound_take s t x sound open' took) leads)

ends_wanting : (os : List OpenNode) (wanted : ℕ) → lacks_none os wanted ≡ true → wanted ≡ 0
ends_wanting [] wanted e = eqb-true wanted 0 e
ends_wanting (o ∷ os) wanted e = cc

wants_none : (s : State) → is_done s ≡ true → s.built.wanted ≡ 0
wants_none s e = ends_wanting s.built.open_nodes s.built.wanted (and_parts (is_at_value s.place) (lacks_none s.built.open_nodes s.built.wanted) e).1

stands_still : {s u : State} {bytes : List ℕ} → bytes ≡ [] → Leads s bytes u → u ≡ s
stands_still e here = refl
stands_still {s = s} e (on x el rest bytes open' is took joined leads) = absurd (Rattle.hessian_reader.proofs.OneWay.never_nil (Rattle.hessian_reader.specs.States.want_at s.place) el rest x is (sym e ∙ joined))

-- no more roots are spelled by the same bytes
no_further : (bytes : List ℕ) (g h : Shape) (d : ℕ) → AreBytes bytes → IsDenoted bytes g → IsDenoted bytes h → length h.roots ≡ length g.roots + d → d ≡ 0
no_further bytes g h d small dg dh e =
    let a = reads g bytes dg in
    let b = reads h bytes dh in
    let l = leads_further d (sound_start (length g.roots)) a.leads in
    let l' = subst (λ n. Leads (start n) bytes b.to) e b.leads in
    let same : b.to ≡ further d a.to = stands_still refl (leads_on [] small (sym (append-nil bytes)) l l') in
    let w : b.to.built.wanted ≡ a.to.built.wanted + d = ap (λ (s : State). s.built.wanted) same in
    let none = wants_none b.to b.is_end in
    omega (arith, w, none)

pub as_many_roots : (bytes : List ℕ) (g h : Shape) → AreBytes bytes → IsDenoted bytes g → IsDenoted bytes h → length g.roots ≡ length h.roots
as_many_roots bytes g h small dg dh = elim (cases_lt (length g.roots) (length h.roots)) [
  | inl less ↦ let z = no_further bytes g h (length h.roots - length g.roots) small dg dh (omega (arith, less)) in omega (arith, z, less)
  | inr more ↦ let z = no_further bytes h g (length g.roots - length h.roots) small dh dg (omega (arith, more)) in omega (arith, z, more)
]
