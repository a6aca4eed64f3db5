-- What the notation spells is read.
use Rattle.std.proofs.Common.{◌≡◌, ℕ, suc, ◌+◌, ◌<◌, ◌≤◌, Bool, true, false, List, [], ◌∷◌, ◌++◌, length, set, refl, ap, sym, ◌∙◌, arith, append_assoc, length-append, inl, inr, ◌⊎◌}
use Rattle.std.specs.Prelude.{not, Ok}
use Rattle.std.proofs.lemmas.Bool.{lt-ltb}
use Rattle.std.proofs.lemmas.List.{append-nil}
use Rattle.hessian_graph.specs.declared.value.Value.{Value}
use Rattle.hessian_graph.specs.declared.value.Value.TheVariants as values
use Rattle.hessian_graph.specs.Shape.{Text, NodeShape, no_node}
use Rattle.graph_notation.specs.declared.element.Mark.TheVariants.{Comma, Colon}
use Rattle.graph_notation.specs.declared.element.Element.{Element}
use Rattle.graph_notation.specs.declared.element.Element.TheVariants.{Plain, Words, Reference, Sign}
use Rattle.graph_notation.specs.declared.frame.Head.{Head}
use Rattle.graph_notation.specs.declared.frame.Head.TheVariants as heads
use Rattle.graph_notation.specs.declared.frame.Frame.{Frame}
use Rattle.graph_notation.specs.declared.frame.Place.{Place}
use Rattle.graph_notation.specs.declared.frame.Place.TheVariants as places
use Rattle.graph_notation.specs.Forms.{Form, Items, Pairs, Fields, Spells, Entry, Joined, Entries}
use Rattle.graph_notation.specs.Forms.Spells.{plain, words, reference, node}
use Rattle.graph_notation.specs.Forms.Entry.{item, pair, field}
use Rattle.graph_notation.specs.Forms.Joined.{last, more}
use Rattle.graph_notation.specs.Forms.Entries.{none, some}
use Rattle.graph_notation.specs.Machine.{new_frame, shown, fed, flips, wants_value, is_object, run, step}
use Rattle.graph_notation.proofs.Stages.{at, form_of, head_of, grown, IsEnd, goes, head_goes, end_goes, shows, form_is, set_there}

-- where entries may come
abbrev pub IsOpen : Place → Type 0
IsOpen place = (place ≡ places.Start) ⊎ (place ≡ places.Next)

-- so the reading goes on behind entries
pub record Behind (bound : ℕ) (nodes : List NodeShape) (f : Frame) (under : List Frame) (place : Place) (es rest : List Element) (names : List Text) (vs : List Value) (seg : List NodeShape) : Type 0 where
  pub after : Place
  pub ends : IsEnd after
  pub is : run bound (at nodes f under place) (es ++ rest) ≡ run bound (at (nodes ++ seg) (grown names vs f) under after) rest

items_flip : (head : Head) (k : Bool) → form_of head ≡ Items → flips head k ≡ false
items_flip (heads.List type) k e = refl
items_flip (heads.Map type) k e = cc
items_flip (heads.Object name) k e = refl

pairs_flip : (head : Head) (k : Bool) → form_of head ≡ Pairs → flips head k ≡ not k
pairs_flip (heads.List type) k e = cc
pairs_flip (heads.Map type) k e = refl
pairs_flip (heads.Object name) k e = cc

fields_flip : (head : Head) (k : Bool) → form_of head ≡ Fields → flips head k ≡ false
fields_flip (heads.List type) k e = refl
fields_flip (heads.Map type) k e = cc
fields_flip (heads.Object name) k e = refl

open_wants : (place : Place) (head : Head) → IsOpen place → wants_value place head ≡ not (is_object head)
open_wants place head h = elim h [ inl e ↦ rw e refl | inr e ↦ rw e refl ]

pub wants_item : (place : Place) (head : Head) → IsOpen place → form_of head ≡ Items → wants_value place head ≡ true
wants_item place head h e = open_wants place head h ∙ by_head head e
  where
    by_head : (head : Head) → form_of head ≡ Items → not (is_object head) ≡ true
    by_head (heads.List type) e = refl
    by_head (heads.Map type) e = refl
    by_head (heads.Object name) e = cc

pub wants_key : (place : Place) (head : Head) → IsOpen place → form_of head ≡ Pairs → wants_value place head ≡ true
wants_key place head h e = open_wants place head h ∙ by_head head e
  where
    by_head : (head : Head) → form_of head ≡ Pairs → not (is_object head) ≡ true
    by_head (heads.List type) e = refl
    by_head (heads.Map type) e = refl
    by_head (heads.Object name) e = cc

pub wants_name : (place : Place) (head : Head) → IsOpen place → form_of head ≡ Fields → wants_value place head ≡ false
wants_name place head h e = open_wants place head h ∙ by_head head e
  where
    by_head : (head : Head) → form_of head ≡ Fields → not (is_object head) ≡ false
    by_head (heads.List type) e = cc
    by_head (heads.Map type) e = cc
    by_head (heads.Object name) e = refl

pub item_fed : (v : Value) (f : Frame) → form_of f.head ≡ Items → f.keyed ≡ false → fed v f ≡ grown [] (v ∷ []) f
item_fed v f e k = let b : flips f.head f.keyed ≡ f.keyed = items_flip f.head f.keyed e ∙ sym k in rw (append-nil f.names, b) refl

pub pair_fed : (key v : Value) (f : Frame) → form_of f.head ≡ Pairs → f.keyed ≡ false → fed v (fed key f) ≡ grown [] (key ∷ v ∷ []) f
pair_fed key v f e k =
    let b : flips f.head (flips f.head f.keyed) ≡ f.keyed = pairs_flip f.head (flips f.head f.keyed) e ∙ ap not (pairs_flip f.head f.keyed e ∙ ap not k) ∙ sym k in
    rw (append-nil f.names, b, append_assoc f.values (key ∷ []) (v ∷ [])) refl

pub key_waits : (key : Value) (f : Frame) → form_of f.head ≡ Pairs → f.keyed ≡ false → (fed key f).keyed ≡ true
key_waits key f e k = pairs_flip f.head f.keyed e ∙ ap not k

abbrev pub with_name : Text → Frame → Frame
with_name name f = record f { names = f.names ++ name ∷ [] }

pub field_fed : (name : Text) (v : Value) (f : Frame) → form_of f.head ≡ Fields → f.keyed ≡ false → fed v (with_name name f) ≡ grown (name ∷ []) (v ∷ []) f
field_fed name v f e k = let b : flips f.head f.keyed ≡ f.keyed = fields_flip f.head f.keyed e ∙ sym k in rw b refl

pub grown_none : (f : Frame) → grown [] [] f ≡ f
grown_none f = rw (append-nil f.names, append-nil f.values) refl

pub grown_more : (names names' : List Text) (vs vs' : List Value) (f : Frame) → grown names' vs' (grown names vs f) ≡ grown (names ++ names') (vs ++ vs') f
grown_more names names' vs vs' f = rw (append_assoc f.names names names', append_assoc f.values vs vs') refl

pub name_goes : (bound : ℕ) (nodes : List NodeShape) (f : Frame) (under : List Frame) (place : Place) (name : Text) (more : List Element) → IsOpen place → form_of f.head ≡ Fields → run bound (at nodes f under place) (Words name ∷ Sign Colon ∷ more) ≡ run bound (at nodes (with_name name f) under places.Value) more
name_goes bound nodes f under place name rest h e =
    goes bound (at nodes f under place) (at nodes (with_name name f) under places.AfterField) (Words name) (Sign Colon ∷ rest) named_step
    ∙ goes bound (at nodes (with_name name f) under places.AfterField) (at nodes (with_name name f) under places.Value) (Sign Colon) rest refl
  where
    named_step : step bound (at nodes f under place) (Words name) ≡ Ok (at nodes (with_name name f) under places.AfterField)
    named_step = rw (wants_name place f.head h e) (elim h [ inl p ↦ rw p refl | inr p ↦ rw p refl ])

mutual
  pub value_goes : {bound n : ℕ} {v : Value} {seg : List NodeShape} {es : List Element} (nodes : List NodeShape) (f : Frame) (under : List Frame) (place : Place) (rest : List Element) → Spells v n seg es → length nodes ≡ n → wants_value place f.head ≡ true → n + length seg ≤ bound → run bound (at nodes f under place) (es ++ rest) ≡ run bound (at (nodes ++ seg) (fed v f) under places.After) rest
  value_goes {bound} nodes f under place rest (plain n v ok) e w b =
      goes bound (at nodes f under place) (at nodes (fed v f) under places.After) (Plain v) rest (rw w refl)
      ∙ ap (λ ns. run bound (at ns (fed v f) under places.After) rest) (sym (append-nil nodes))
  value_goes {bound} nodes f under place rest (words n text) e w b =
      goes bound (at nodes f under place) (at nodes (fed (values.Text text) f) under places.After) (Words text) rest (rw w refl)
      ∙ ap (λ ns. run bound (at ns (fed (values.Text text) f) under places.After) rest) (sym (append-nil nodes))
  value_goes {bound} nodes f under place rest (reference n k low) e w b =
      let low' : k < length nodes = omega arith in
      goes bound (at nodes f under place) (at nodes (fed (values.Node k) f) under places.After) (Reference k) rest (rw (w, lt-ltb k (length nodes) low') refl)
      ∙ ap (λ ns. run bound (at ns (fed (values.Node k) f) under places.After) rest) (sym (append-nil nodes))
  value_goes {bound} nodes f under place rest (node n kind form names head end vs seg inner row entries) e w b =
      let number : ℕ = length nodes in
      let nodes1 : List NodeShape = nodes ++ no_node ∷ [] in
      let f1 : Frame = new_frame number (head_of kind) in
      let outer : Frame = fed (values.Node number) f in
      let many : length nodes1 ≡ suc n = rw (length-append nodes (no_node ∷ [])) (omega arith) in
      let inside : Behind bound nodes1 f1 (outer ∷ under) places.Start inner (end ∷ rest) names vs seg = entries_goes nodes1 f1 (outer ∷ under) (end ∷ rest) entries (form_is row) refl many (omega arith) in
      let shape : NodeShape = record { kind = kind; values = vs } in
      let joined : (head ++ (inner ++ end ∷ [])) ++ rest ≡ head ++ (inner ++ end ∷ rest) = append_assoc head (inner ++ end ∷ []) rest ∙ ap (λ x. head ++ x) (append_assoc inner (end ∷ []) rest) in
      let placed : set (nodes1 ++ seg) number (shown (grown names vs f1)) ≡ nodes ++ (shape ∷ seg) = set_there nodes seg no_node (shown (grown names vs f1)) ∙ ap (λ x. nodes ++ (x ∷ seg)) (shows vs number row) in
      ap (run bound (at nodes f under place)) joined
      ∙ head_goes bound nodes f under place kind head form names end (inner ++ end ∷ rest) row w (omega arith)
      ∙ inside.is
      ∙ end_goes bound (nodes1 ++ seg) (grown names vs f1) outer under inside.after kind head form names end rest row refl refl inside.ends
      ∙ ap (λ ns. run bound (at ns outer under places.After) rest) placed
      ∙ ap (λ k. run bound (at (nodes ++ (shape ∷ seg)) (fed (values.Node k) f) under places.After) rest) e

  pub entry_goes : {bound n : ℕ} {form : Form} {names : List Text} {vs : List Value} {seg : List NodeShape} {es : List Element} (nodes : List NodeShape) (f : Frame) (under : List Frame) (place : Place) (rest : List Element) → IsOpen place → Entry form names vs n seg es → form_of f.head ≡ form → f.keyed ≡ false → length nodes ≡ n → n + length seg ≤ bound → run bound (at nodes f under place) (es ++ rest) ≡ run bound (at (nodes ++ seg) (grown names vs f) under places.After) rest
  entry_goes {bound} nodes f under place rest open' (item v n seg es s) e k many b =
      value_goes nodes f under place rest s many (wants_item place f.head open' e) b
      ∙ ap (λ x. run bound (at (nodes ++ seg) x under places.After) rest) (item_fed v f e k)
  entry_goes {bound} nodes f under place rest open' (pair key v n first second front back s1 s2) e k many b =
      let total : length (first ++ second) ≡ length first + length second = length-append first second in
      let nodes1 : List NodeShape = nodes ++ first in
      let many1 : length nodes1 ≡ n + length first = rw (length-append nodes first) (omega arith) in
      ap (run bound (at nodes f under place)) (append_assoc front (Sign Colon ∷ back) rest)
      ∙ value_goes nodes f under place (Sign Colon ∷ (back ++ rest)) s1 many (wants_key place f.head open' e) (omega arith)
      ∙ goes bound (at nodes1 (fed key f) under places.After) (at nodes1 (fed key f) under places.Value) (Sign Colon) (back ++ rest) (rw (key_waits key f e k) refl)
      ∙ value_goes nodes1 (fed key f) under places.Value rest s2 many1 refl (omega arith)
      ∙ ap (λ x. run bound (at (nodes1 ++ second) x under places.After) rest) (pair_fed key v f e k)
      ∙ ap (λ ns. run bound (at ns (grown [] (key ∷ v ∷ []) f) under places.After) rest) (append_assoc nodes first second)
  entry_goes {bound} nodes f under place rest open' (field name v n seg es s) e k many b =
      name_goes bound nodes f under place name (es ++ rest) open' e
      ∙ value_goes nodes (with_name name f) under places.Value rest s many refl b
      ∙ ap (λ x. run bound (at (nodes ++ seg) x under places.After) rest) (field_fed name v f e k)

  pub joined_goes : {bound n : ℕ} {form : Form} {names : List Text} {vs : List Value} {seg : List NodeShape} {es : List Element} (nodes : List NodeShape) (f : Frame) (under : List Frame) (place : Place) (rest : List Element) → IsOpen place → Joined form names vs n seg es → form_of f.head ≡ form → f.keyed ≡ false → length nodes ≡ n → n + length seg ≤ bound → run bound (at nodes f under place) (es ++ rest) ≡ run bound (at (nodes ++ seg) (grown names vs f) under places.After) rest
  joined_goes nodes f under place rest open' (last form names vs n seg es entry) e k many b = entry_goes nodes f under place rest open' entry e k many b
  joined_goes {bound} nodes f under place rest open' (more form names names' vs vs' n first second front back entry joined) e k many b =
      let total : length (first ++ second) ≡ length first + length second = length-append first second in
      let nodes1 : List NodeShape = nodes ++ first in
      let f1 : Frame = grown names vs f in
      let many1 : length nodes1 ≡ n + length first = rw (length-append nodes first) (omega arith) in
      ap (run bound (at nodes f under place)) (append_assoc front (Sign Comma ∷ back) rest)
      ∙ entry_goes nodes f under place (Sign Comma ∷ (back ++ rest)) open' entry e k many (omega arith)
      ∙ goes bound (at nodes1 f1 under places.After) (at nodes1 f1 under places.Next) (Sign Comma) (back ++ rest) (rw k refl)
      ∙ joined_goes nodes1 f1 under places.Next rest (inr refl) joined e k many1 (omega arith)
      ∙ ap (λ x. run bound (at (nodes1 ++ second) x under places.After) rest) (grown_more names names' vs vs' f)
      ∙ ap (λ ns. run bound (at ns (grown (names ++ names') (vs ++ vs') f) under places.After) rest) (append_assoc nodes first second)

  pub entries_goes : {bound n : ℕ} {form : Form} {names : List Text} {vs : List Value} {seg : List NodeShape} {es : List Element} (nodes : List NodeShape) (f : Frame) (under : List Frame) (rest : List Element) → Entries form names vs n seg es → form_of f.head ≡ form → f.keyed ≡ false → length nodes ≡ n → n + length seg ≤ bound → Behind bound nodes f under places.Start es rest names vs seg
  entries_goes {bound} nodes f under rest (none form n) e k many b = record {
    after = places.Start;
    ends = inl refl;
    is = ap (λ ns. run bound (at ns f under places.Start) rest) (sym (append-nil nodes)) ∙ ap (λ x. run bound (at (nodes ++ []) x under places.Start) rest) (sym (grown_none f));
  }
  entries_goes nodes f under rest (some form names vs n seg es joined) e k many b = record {
    after = places.After;
    ends = inr refl;
    is = joined_goes nodes f under places.Start rest (inl refl) joined e k many b;
  }
