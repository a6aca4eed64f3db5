-- Elements that are taken one after another, and leaves and references that go to the innermost open node.
use Rattle.std.proofs.Common.{◌≡◌, ℕ, ◌+◌, ◌-◌, ◌<◌, ◌≤◌, false, List, [], ◌∷◌, ◌++◌, length, take, drop, get_or, set, refl, ap, sym, ◌∙◌, subst, append_assoc, append-nil, arith, inl, inr, length-append}
use Rattle.std.specs.Prelude.{slice_index, if◌then◌else◌, Some, None, Result, Ok, Err, IfOk, ℤ, pos}
use Rattle.std.proofs.Math.Seq.{take-add}
use Rattle.std.proofs.lemmas.Bool.{cases_lt, lt-ltb, le-ltb, lt-leb, le-leb}
use Rattle.std.proofs.lemmas.List.{length-drop, length-set, set-set, set-get_or, get_or-set_same, set_past}
use Rattle.hessian_graph.specs.declared.value.Value.{Value}
use Rattle.hessian_text.proofs.Advancing.{rest_is}
use Rattle.hessian_graph.specs.declared.value.Value.TheVariants.{Node}
use Rattle.hessian_reader.specs.declared.element.Element.{Element}
use Rattle.hessian_reader.specs.declared.element.Element.TheVariants.{Plain, Code, Number}
use Rattle.hessian_reader.specs.declared.element.Head.{Head}
use Rattle.hessian_reader.specs.declared.element.Head.TheVariants as heads
use Rattle.hessian_reader.specs.declared.table.Sort.{Sort}
use Rattle.hessian_reader.specs.declared.table.Sort.TheVariants as sorts
use Rattle.hessian_reader.specs.declared.stop.Objection.TheVariants.{NoNode}
use Rattle.hessian_reader.specs.declared.element.Want.TheVariants as wants
use Rattle.hessian_reader.specs.Nodes.{Begun}
use Rattle.hessian_reader.specs.declared.store.OpenNode.{OpenNode}
use Rattle.hessian_reader.specs.declared.store.Lacks.{Lacks}
use Rattle.hessian_reader.specs.Codes.{head_of}
use Rattle.hessian_reader.specs.Elements.{IsElement}
use Rattle.hessian_reader.specs.Leaves.{node_limit}
use Rattle.hessian_reader.specs.Views.{fields_of}
use Rattle.hessian_reader.specs.Runs.{AreValues, AddsValues, with_items, after_values, Gives}
use Rattle.hessian_reader.specs.Runs.AreValues.{none, leaf, reference}
use Rattle.hessian_reader.specs.States.{Built, State, Place, AtValue, AtReference, Count, begins_node, begins_object, field_count, moves_to, no_begun, sort_at, values_so_far, with_item, one_less, with_value, takes_value, want_at, lacks_none, is_done}
use Rattle.hessian_reader.specs.Steps.{Leads, Outcome, at_value, if_room, natural_of, below_by, reference_step, class_step, node_step, take_element, head_step}
use Rattle.hessian_reader.specs.Steps.Leads.{here, on}
use Rattle.hessian_reader.proofs.LexScalars.{code_lexed}
use Rattle.hessian_reader.proofs.OneWay.{leads_more}

-- elements behind elements

pub leads_join : {s t u : State} {a b : List ℕ} → Leads s a t → Leads t b u → Leads s (a ++ b) u
leads_join here m = m
leads_join {b = b} (on x el rest a d is took joined leads) m = on x el (rest ++ b) (a ++ b) d is took (ap (λ l. l ++ b) joined ∙ append_assoc el rest b) (leads_join leads m)

-- elements of the rest of a piece, behind those of its front
pub run_more : (s t u : State) (piece : List ℕ) (n used : ℕ) → Leads s (take n piece) t → Leads t (take used (take (length piece - n) (drop n piece))) u → Leads s (take (n + used) piece) u
run_more s t u piece n used first rest = subst (λ b. Leads s b u) (sym (take-add n used piece)) (leads_join first (subst (λ r. Leads t (take used r) u) (rest_is n piece) rest))

-- one element where a value may stand
pub one_leads : (s t : State) (x : Element) (element : List ℕ) → s.place ≡ AtValue → is_done s ≡ false → IsElement wants.AnyValue element x → take_element s x ≡ Ok t → Leads s element t
one_leads s t x element p d is took = leads_more x element here d (subst (λ (q : Place). IsElement (want_at q) element x) (sym p) is) took

-- the items of a node

pub items_none : (nodes : List Begun) (n : ℕ) → with_items nodes n [] ≡ nodes
items_none nodes n = ap (λ vs. set nodes n (record { sort = sort_at nodes n; values = vs })) (append-nil (values_so_far nodes n)) ∙ set-get_or nodes n no_begun

items_here : (nodes : List Begun) (n : ℕ) (vs : List Value) → n < length nodes → get_or (with_items nodes n vs) n no_begun ≡ record { sort = sort_at nodes n; values = values_so_far nodes n ++ vs }
items_here nodes n vs low = get_or-set_same nodes n (record { sort = sort_at nodes n; values = values_so_far nodes n ++ vs }) no_begun low

item_more : (nodes : List Begun) (n : ℕ) (vs : List Value) (v : Value) → with_item (with_items nodes n vs) n v ≡ with_items nodes n (vs ++ v ∷ [])
item_more nodes n vs v = elim (cases_lt n (length nodes)) [
  | inl low ↦
      ap (λ (b : Begun). set (with_items nodes n vs) n (record { sort = b.sort; values = b.values ++ v ∷ [] })) (items_here nodes n vs low)
      ∙ set-set nodes n _ _
      ∙ ap (λ ws. set nodes n (record { sort = sort_at nodes n; values = ws })) (append_assoc (values_so_far nodes n) vs (v ∷ []))
  | inr high ↦
      let same : with_items nodes n vs ≡ nodes = set_past nodes n _ high in
      ap (λ ns. with_item ns n v) same ∙ set_past nodes n _ high ∙ sym (set_past nodes n _ high)
]

-- what the innermost node lacks

less_is : (n left count : ℕ) (others : List OpenNode) → count < left → one_less (Count (left - count)) n others ≡ after_values n left (count + 1) others
less_is n left count others low = elim (cases_lt (count + 1) left) [
  | inl h ↦ rw (lt-leb (left - count) 1 (omega arith), lt-leb left (count + 1) h) (ap (λ k. record { node = n; lacks = Count k } ∷ others) (omega arith))
  | inr h ↦ rw (le-leb (left - count) 1 (omega arith), le-leb left (count + 1) h) refl
]

still_open : (n left count : ℕ) (others : List OpenNode) → count < left → after_values n left count others ≡ record { node = n; lacks = Count (left - count) } ∷ others
still_open n left count others low = rw (lt-leb left count low) refl

-- the state to which values lead
gave : State → ℕ → ℕ → List OpenNode → List Value → State
gave s n left others vs = record s { built = record (s.built) { nodes = with_items s.built.nodes n vs; open_nodes = after_values n left (length vs) others }; place = AtValue }

gave_none : (s : State) (n left : ℕ) (others : List OpenNode) → s.place ≡ AtValue → s.built.open_nodes ≡ record { node = n; lacks = Count left } ∷ others → 0 < left → gave s n left others [] ≡ s
unfolding gave
gave_none s n left others p e some =
    let first : after_values n left 0 others ≡ s.built.open_nodes = still_open n left 0 others some ∙ ap (λ k. record { node = n; lacks = Count k } ∷ others) (omega arith) ∙ sym e in
    ap (λ ns. record s { built = record (s.built) { nodes = ns; open_nodes = after_values n left 0 others }; place = AtValue }) (items_none s.built.nodes n)
    ∙ ap (λ os. record s { built = record (s.built) { open_nodes = os }; place = AtValue }) first
    ∙ ap (λ q. record s { place = q }) (sym p)

gave_more : (s : State) (n left : ℕ) (others : List OpenNode) (vs : List Value) (v : Value) → length vs < left → takes_value v (gave s n left others vs) ≡ gave s n left others (vs ++ v ∷ [])
unfolding gave
gave_more s n left others vs v low =
    let b : Built = (gave s n left others vs).built in
    let first : after_values n left (length vs) others ≡ record { node = n; lacks = Count (left - length vs) } ∷ others = still_open n left (length vs) others low in
    let count : length vs + 1 ≡ length (vs ++ v ∷ []) = sym (length-append vs (v ∷ [])) in
    ap (λ os. record s { built = with_value os v b; place = AtValue }) first
    ∙ ap (λ ns. record s { built = record b { nodes = ns; open_nodes = one_less (Count (left - length vs)) n others }; place = AtValue }) (item_more s.built.nodes n vs v)
    ∙ ap (λ os. record s { built = record b { nodes = with_items s.built.nodes n (vs ++ v ∷ []); open_nodes = os }; place = AtValue }) (less_is n left (length vs) others low ∙ ap (λ k. after_values n left k others) count)

gave_going : (s : State) (n left : ℕ) (others : List OpenNode) (vs : List Value) → length vs < left → is_done (gave s n left others vs) ≡ false
unfolding gave
gave_going s n left others vs low = ap (λ os. lacks_none os s.built.wanted) (still_open n left (length vs) others low)

gave_takes : (s : State) (n left : ℕ) (others : List OpenNode) (vs : List Value) (v : Value) → take_element (gave s n left others vs) (Plain v) ≡ Ok (takes_value v (gave s n left others vs))
unfolding gave
gave_takes s n left others vs v = refl

gave_wants : (s : State) (n left : ℕ) (others : List OpenNode) (vs : List Value) → want_at (gave s n left others vs).place ≡ wants.AnyValue
unfolding gave
gave_wants s n left others vs = refl

-- as many nodes have begun
gave_nodes : (s : State) (n left : ℕ) (others : List OpenNode) (vs : List Value) → length (gave s n left others vs).built.nodes ≡ length s.built.nodes
unfolding gave
gave_nodes s n left others vs = length-set s.built.nodes n _

gave_refers : (s : State) (n left : ℕ) (others : List OpenNode) (vs : List Value) → take_element (gave s n left others vs) (Code heads.Refer) ≡ Ok (moves_to AtReference (gave s n left others vs))
unfolding gave
gave_refers s n left others vs = refl

-- the code of a reference and its number
refer_more : {s t : State} {front : List ℕ} (code number : List ℕ) (k : ℕ) → Leads s front t → is_done t ≡ false → want_at t.place ≡ wants.AnyValue → take_element t (Code heads.Refer) ≡ Ok (moves_to AtReference t) → IsElement wants.AnyValue code (Code heads.Refer) → IsElement wants.AnInt number (Number (pos k)) → k < length t.built.nodes → Leads s (front ++ (code ++ number)) (takes_value (Node k) t)
refer_more {s = s} {t = t} {front = front} code number k leads d wants_any takes is_code is_number low =
    let is' = subst (λ w. IsElement w code (Code heads.Refer)) (sym wants_any) is_code in
    let first : Leads s (front ++ code) (moves_to AtReference t) = leads_more (Code heads.Refer) code leads d is' takes in
    let step : reference_step (pos k) (moves_to AtReference t) ≡ Ok (takes_value (Node k) t) = rw (lt-ltb k (length t.built.nodes) low) refl in
    subst (λ b. Leads s b (takes_value (Node k) t)) (append_assoc front code number) (leads_more (Number (pos k)) number first refl is_number step)

values_lead : (s : State) (n left : ℕ) (others : List OpenNode) {vs : List Value} {bytes : List ℕ} → s.place ≡ AtValue → s.built.open_nodes ≡ record { node = n; lacks = Count left } ∷ others → length vs ≤ left → 0 < left → AreValues (length s.built.nodes) vs bytes → Leads s bytes (gave s n left others vs)
values_lead s n left others p e few some none = subst (Leads s []) (sym (gave_none s n left others p e some)) here
values_lead s n left others p e few some (leaf vs more v front element bytes values is joined spelled) =
    let count : length more ≡ length vs + 1 = ap length joined ∙ length-append vs (v ∷ []) in
    let low : length vs < left = omega (arith, count, few) in
    let leads : Leads s front (gave s n left others vs) = values_lead s n left others p e (omega (arith, low)) some values in
    let is' = subst (λ w. IsElement w element (Plain v)) (sym (gave_wants s n left others vs)) is in
    let one = leads_more (Plain v) element leads (gave_going s n left others vs low) is' (gave_takes s n left others vs v ∙ ap Ok (gave_more s n left others vs v low)) in
    subst (λ ws. Leads s bytes (gave s n left others ws)) (sym joined) (subst (λ b. Leads s b (gave s n left others (vs ++ v ∷ []))) (sym spelled) one)
values_lead s n left others p e few some (reference vs more k front code number bytes values is_code is_number begun joined spelled) =
    let count : length more ≡ length vs + 1 = ap length joined ∙ length-append vs (Node k ∷ []) in
    let low : length vs < left = omega (arith, count, few) in
    let leads : Leads s front (gave s n left others vs) = values_lead s n left others p e (omega (arith, low)) some values in
    let begun' = subst (λ m. k < m) (sym (gave_nodes s n left others vs)) begun in
    let two = refer_more code number k leads (gave_going s n left others vs low) (gave_wants s n left others vs) (gave_refers s n left others vs) is_code is_number begun' in
    let one = subst (Leads s (front ++ (code ++ number))) (gave_more s n left others vs (Node k) low) two in
    subst (λ ws. Leads s bytes (gave s n left others ws)) (sym joined) (subst (λ b. Leads s b (gave s n left others (vs ++ Node k ∷ []))) (sym spelled) one)

-- what the values of a piece lead to
pub gives_lead : (s t : State) (bytes : List ℕ) → s.place ≡ AtValue → t.place ≡ AtValue → t.names ≡ s.names → Gives s.built bytes t.built → Leads s bytes t
unfolding gave
gives_lead s t bytes p q names (inl (same, e)) =
    let is : t ≡ s = ap (λ b. record t { built = b }) same ∙ ap (λ k. record s { names = k; place = t.place }) names ∙ ap (λ k. record s { place = k }) (q ∙ sym p) in
    rw (e, is) here
gives_lead s t bytes p q names (inr g) =
    let is : t ≡ gave s g.node g.left g.others g.added = ap (λ b. record t { built = b }) g.is ∙ ap (λ k. record (gave s g.node g.left g.others g.added) { names = k; place = t.place }) names ∙ ap (λ k. record (gave s g.node g.left g.others g.added) { place = k }) q in
    subst (Leads s bytes) (sym is) (values_lead s g.node g.left g.others p g.innermost g.few g.some g.values)

-- one value more
pub one_leaf : (nodes : ℕ) (v : Value) (bytes : List ℕ) → IsElement wants.AnyValue bytes (Plain v) → AreValues nodes (v ∷ []) bytes
one_leaf nodes v bytes is = leaf [] (v ∷ []) v [] bytes bytes none is refl refl

pub one_reference : (nodes n used : ℕ) (piece : List ℕ) → 0 < length piece → head_of (slice_index piece 0) ≡ Some heads.Refer → IsElement wants.AnInt (take used (drop 1 piece)) (Number (pos n)) → n < nodes → AreValues nodes (Node n ∷ []) (take (1 + used) piece)
one_reference nodes n used piece some code is low = reference [] (Node n ∷ []) n [] (take 1 piece) (take used (drop 1 piece)) (take (1 + used) piece) none (code_lexed wants.AnyValue heads.Refer (slice_index piece 0) piece refl some refl code) is low refl (take-add 1 used piece)

values_join : {nodes : ℕ} {vs ws : List Value} {a b : List ℕ} → AreValues nodes vs a → AreValues nodes ws b → AreValues nodes (vs ++ ws) (a ++ b)
values_join {nodes = nodes} {vs = vs} {a = a} values none = subst (λ l. AreValues nodes l (a ++ [])) (sym (append-nil vs)) (subst (AreValues nodes vs) (sym (append-nil a)) values)
values_join {vs = us} {a = a} values (leaf vs more v front element bytes others is joined spelled) = leaf (us ++ vs) (us ++ more) v (a ++ front) element (a ++ bytes) (values_join values others) is (ap (λ l. us ++ l) joined ∙ sym (append_assoc us vs (v ∷ []))) (ap (λ l. a ++ l) spelled ∙ sym (append_assoc a front element))
values_join {vs = us} {a = a} values (reference vs more n front code number bytes others is_code is_number low joined spelled) = reference (us ++ vs) (us ++ more) n (a ++ front) code number (a ++ bytes) (values_join values others) is_code is_number low (ap (λ l. us ++ l) joined ∙ sym (append_assoc us vs (Node n ∷ []))) (ap (λ l. a ++ l) spelled ∙ sym (append_assoc a front (code ++ number)))

pub value_more : (nodes : ℕ) (old vs : List Value) (piece : List ℕ) (most count bytes used : ℕ) (v : Value) → AddsValues nodes old piece most vs (record { values = count; bytes = bytes }) → count < most → used ≤ length (drop bytes piece) → AreValues nodes (v ∷ []) (take used (drop bytes piece)) → AddsValues nodes old piece most (vs ++ v ∷ []) (record { values = count + 1; bytes = bytes + used })
value_more nodes old vs piece most count bytes used v adds low within one =
    let counted = adds.count in
    let begun = adds.within in
    let far = length-drop bytes piece in
    let more = length-append adds.added (v ∷ []) in
    record {
      added = adds.added ++ v ∷ [];
      values = subst (AreValues nodes (adds.added ++ v ∷ [])) (sym (take-add bytes used piece)) (values_join adds.values one);
      is = ap (λ ws. ws ++ v ∷ []) adds.is ∙ append_assoc old adds.added (v ∷ []);
      count = omega (arith, counted, more);
      few = omega arith;
      within = omega (arith, begun, within, far);
    }

pub no_value : (nodes : ℕ) (vs : List Value) (piece : List ℕ) (most : ℕ) → AddsValues nodes vs piece most vs (record { values = 0; bytes = 0 })
no_value nodes vs piece most = record { added = []; values = none; is = sym (append-nil vs); count = refl; few = omega arith; within = omega arith }

-- codes

took_here : (s : State) (outcome : Outcome) → s.place ≡ AtValue → at_value s.place outcome ≡ outcome
took_here s outcome p = rw p refl

room_here : (s : State) (outcome : Outcome) → length s.built.nodes < node_limit → if_room s outcome ≡ outcome
room_here s outcome low = rw (lt-ltb (length s.built.nodes) node_limit low) refl

-- a leaf
pub leaf_leads : (s t : State) (v : Value) (element : List ℕ) → s.place ≡ AtValue → is_done s ≡ false → IsElement wants.AnyValue element (Plain v) → t ≡ takes_value v s → Leads s element t
leaf_leads s t v element p d is same = one_leads s t (Plain v) element p d is (took_here s (Ok (takes_value v s)) p ∙ ap Ok (sym same))

module _ (s : State) (piece : List ℕ) (p : s.place ≡ AtValue) (d : is_done s ≡ false) (some : 0 < length piece) where
  pub code_leads : (h : Head) (t : State) → head_of (slice_index piece 0) ≡ Some h → head_step h s ≡ Ok t → Leads s (take 1 piece) t
  code_leads h t code step = one_leads s t (Code h) (take 1 piece) p d (code_lexed wants.AnyValue h (slice_index piece 0) piece refl some refl code) (took_here s (head_step h s) p ∙ step)

  pub node_leads : (h : Head) (lacks : Lacks) (sort : Sort) (t : State) → head_of (slice_index piece 0) ≡ Some h → head_step h s ≡ node_step lacks sort s → length s.built.nodes < node_limit → t ≡ begins_node lacks sort s → Leads s (take 1 piece) t
  node_leads h lacks sort t code step low is = code_leads h t code (step ∙ room_here s (Ok (begins_node lacks sort s)) low ∙ ap Ok (sym is))

  class_below : (k count : ℕ) → fields_of s.names k ≡ Some count → (k < length s.names.classes) × (field_count s.names k ≡ count)
  class_below k count e = elim (cases_lt k (length s.names.classes)) [
    | inl low ↦ let e' : Some (field_count s.names k) ≡ Some count = subst (λ b. (if b then Some (field_count s.names k) else None) ≡ Some count) (lt-ltb k (length s.names.classes) low) e in (low, cc)
    | inr high ↦ let e' : None ≡ Some count = subst (λ b. (if b then Some (field_count s.names k) else None) ≡ Some count) (le-ltb k (length s.names.classes) high) e in absurd cc
  ]

  pub object_leads : (k count : ℕ) (t : State) → head_of (slice_index piece 0) ≡ Some (heads.ShortObject k) → fields_of s.names k ≡ Some count → length s.built.nodes < node_limit → t ≡ begins_node (Count count) (sorts.Object k) s → Leads s (take 1 piece) t
  object_leads k count t code fields low is =
      let c = class_below k count fields in
      let step : class_step (pos k) s ≡ Ok (begins_object k s) = rw (lt-ltb k (length s.names.classes) c.0) refl in
      let same : begins_object k s ≡ t = ap (λ n. begins_node (Count n) (sorts.Object k) s) c.1 ∙ sym is in
      code_leads (heads.ShortObject k) t code (room_here s (class_step (pos k) s) low ∙ step ∙ ap Ok same)

  pub refer_leads : (z : ℤ) (node used : ℕ) (t : State) → head_of (slice_index piece 0) ≡ Some heads.Refer → IsElement wants.AnInt (take used (drop 1 piece)) (Number z) → natural_of z ≡ Some node → node < length s.built.nodes → t ≡ takes_value (Node node) s → Leads s (take (1 + used) piece) t
  refer_leads z node used t code is natural low same =
      let first : Leads s (take 1 piece) (moves_to AtReference s) = code_leads heads.Refer (moves_to AtReference s) code refl in
      let step : reference_step z (moves_to AtReference s) ≡ Ok (takes_value (Node node) s) = ap (λ o. below_by o (length s.built.nodes) (λ n. takes_value (Node n) (moves_to AtReference s)) (NoNode z)) natural ∙ rw (lt-ltb node (length s.built.nodes) low) refl in
      subst (λ bytes. Leads s bytes t) (sym (take-add 1 used piece)) (leads_more (Number z) (take used (drop 1 piece)) first refl is (step ∙ ap Ok (sym same)))

-- what follows from a result's fact
pub if_ok : {A E : Type 0} {P Q : A → Type 0} (r : Result A E) → ((a : A) → P a → Q a) → IfOk r P → IfOk r Q
if_ok (Ok a) f p = f a p
if_ok (Err e) f p = tt
