-- Steps of a printing: each part that is printed is read.
use Rattle.std.proofs.Common.{◌≡◌, ℕ, zero, suc, ◌<◌, ◌≤◌, Bool, true, false, List, [], ◌∷◌, ◌++◌, length, get_or, take, set, refl, ap, sym, ◌∙◌, arith, inl, inr, append_assoc}
use Rattle.std.specs.Prelude.{if◌then◌else◌, Option, Some, None}
use Rattle.std.specs.List.{flat_map}
use Rattle.std.proofs.lemmas.Bool.{lt-ltb}
use Rattle.std.proofs.lemmas.Grind.{flat_map-append}
use Rattle.std.proofs.lemmas.List.{take_all}
use Rattle.std.proofs.lemmas.List.Elements.{All-append}
use Rattle.std.proofs.Math.Seq.{take-suc}
use Rattle.hessian_graph.specs.declared.value.Value.{Value}
use Rattle.hessian_graph.specs.declared.value.Value.TheVariants as values
use Rattle.hessian_graph.specs.Shape.{Text, Kind, ListKind, MapKind, ObjectKind, NodeShape, no_node}
use Rattle.graph_notation.specs.declared.element.Mark.TheVariants.{Comma, Colon}
use Rattle.graph_notation.specs.declared.element.Element.{Element}
use Rattle.graph_notation.specs.declared.element.Element.TheVariants.{Plain, Words, Reference, Sign}
use Rattle.graph_notation.specs.declared.frame.Head.TheVariants as heads
use Rattle.graph_notation.specs.declared.frame.Frame.{Frame}
use Rattle.graph_notation.specs.declared.frame.Place.{Place}
use Rattle.graph_notation.specs.declared.frame.Place.TheVariants as places
use Rattle.graph_notation.specs.Elements.{printed}
use Rattle.graph_notation.specs.Notation.{IsSoundElement}
use Rattle.graph_notation.specs.Forms.{Form, Items, Pairs, Fields, Brackets}
use Rattle.graph_notation.specs.Forms.Brackets.{list, typed_list, map as map_row, typed_map, object}
use Rattle.graph_notation.specs.Machine.{State, start, new_frame, fed, wants_value, shown, run}
use Rattle.graph_notation.specs.Pressing.{Prints, IsRead, Stands, element_of, head_of, end_of, comma, is_odd, before, part_of, names_of, keyed_at, begins_as}
use Rattle.graph_notation.proofs.Stages.{at, goes, head_goes, end_goes, IsEnd, head_of as machine_head}
use Rattle.graph_notation.proofs.Forward.{name_goes, with_name, IsOpen}

pub nothing_read : (bound : ℕ) → IsRead bound [] start
nothing_read bound = record { elements = []; sound = λ k d l. absurd (omega arith); written = refl; goes = λ more. refl }

-- what is printed further is read further
pub read_on : {bound : ℕ} {old new : List ℕ} {s t : State} {es : List Element} → IsRead bound old s → Prints old es new → ((more : List Element) → run bound s (es ++ more) ≡ run bound t more) → IsRead bound new t
read_on {bound} {old} {new} {s} {t} {es} x p h = record {
  elements = x.elements ++ es;
  sound = All-append IsSoundElement x.elements es x.sound p.sound;
  written = p.written ∙ ap (λ z. z ++ flat_map printed es) x.written ∙ sym (flat_map-append printed x.elements es);
  goes = λ more. ap (run bound start) (append_assoc x.elements es more) ∙ x.goes (es ++ more) ∙ h more;
}

-- the rows of brackets
pub brackets : (kind : Kind) → (form : Form) × Brackets kind (head_of kind) form (names_of kind) (end_of kind)
brackets (ListKind None) = (Items, list)
brackets (ListKind (Some type)) = (Items, typed_list type)
brackets (MapKind None) = (Pairs, map_row)
brackets (MapKind (Some type)) = (Pairs, typed_map type)
brackets (ObjectKind class) = (Fields, object class)

head_is : (kind : Kind) → begins_as kind ≡ machine_head kind
head_is (ListKind type) = refl
head_is (MapKind type) = refl
head_is (ObjectKind class) = refl

take_none : (n : ℕ) → take {A = Text} n [] ≡ []
take_none n = take_all n [] (omega arith)

-- a value may come, and with it the node has one value more
pub record Asked (bound : ℕ) (nodes : List NodeShape) (f : Frame) (under : List Frame) (place : Place) (es : List Element) (v : Value) (g : Frame) : Type 0 where
  pub frame : Frame
  pub after : Place
  pub wants : wants_value after frame.head ≡ true
  pub feeds : fed v frame ≡ g
  pub is : (more : List Element) → run bound (at nodes f under place) (es ++ more) ≡ run bound (at nodes frame under after) more

-- behind the comma, where there is one
abbrev behind_comma : ℕ → Place
behind_comma zero = places.Start
behind_comma (suc n) = places.Next

comma_goes : (bound : ℕ) (nodes : List NodeShape) (f : Frame) (under : List Frame) (place : Place) (i : ℕ) (more : List Element) → Stands i place → f.keyed ≡ false → run bound (at nodes f under place) (comma i ++ more) ≡ run bound (at nodes f under (behind_comma i)) more
comma_goes bound nodes f under place zero more s k = ap (λ p. run bound (at nodes f under p) more) (s.none refl)
comma_goes bound nodes f under place (suc i) more s k = goes bound (at nodes f under place) (at nodes f under places.Next) (Sign Comma) more (rw (s.some (omega arith), k) refl)

comma_open : (i : ℕ) → IsOpen (behind_comma i)
comma_open zero = inl refl
comma_open (suc i) = inr refl

item_wants : (i : ℕ) (type : Option Text) → wants_value (behind_comma i) (heads.List type) ≡ true
item_wants zero type = refl
item_wants (suc i) type = refl

key_wants : (i : ℕ) (type : Option Text) → wants_value (behind_comma i) (heads.Map type) ≡ true
key_wants zero type = refl
key_wants (suc i) type = refl

one_name : (names : List Text) (i : ℕ) → i < length names → take i names ++ get_or names i [] ∷ [] ≡ take (suc i) names
one_name names i h = sym (take-suc names i [] h)

one_value : (vs : List Value) (i : ℕ) (v : Value) → i < length vs → v ≡ get_or vs i values.Null → take i vs ++ v ∷ [] ≡ take (suc i) vs
one_value vs i v h e = ap (λ x. take i vs ++ x ∷ []) e ∙ sym (take-suc vs i values.Null h)

-- so many names as values
abbrev pub NamesFor : Kind → ℕ → Type 0
NamesFor (ListKind type) at = Unit {0}
NamesFor (MapKind type) at = Unit {0}
NamesFor (ObjectKind class) at = at < length class.fields

map_asked : (bound : ℕ) (type : Option Text) (vs : List Value) (number i : ℕ) (v : Value) (nodes : List NodeShape) (under : List Frame) (place : Place) (odd : Bool) → is_odd i ≡ odd → Stands i place → i < length vs → v ≡ get_or vs i values.Null → Asked bound nodes (part_of (MapKind type) vs number i) under place (if odd then Sign Colon ∷ [] else comma i) v (part_of (MapKind type) vs number (suc i))
map_asked bound type vs number i v nodes under place false even s h e = record {
  frame = part_of (MapKind type) vs number i;
  after = behind_comma i;
  wants = key_wants i type;
  feeds = rw (one_value vs i v h e, take_none i) refl;
  is = λ more. comma_goes bound nodes (part_of (MapKind type) vs number i) under place i more s even;
}
map_asked bound type vs number zero v nodes under place true odd s h e = cc
map_asked bound type vs number (suc i) v nodes under place true odd s h e = record {
  frame = part_of (MapKind type) vs number (suc i);
  after = places.Value;
  wants = refl;
  feeds = rw (one_value vs (suc i) v h e) refl;
  is = λ more. goes bound (at nodes (part_of (MapKind type) vs number (suc i)) under place) (at nodes (part_of (MapKind type) vs number (suc i)) under places.Value) (Sign Colon) more (rw (s.some (omega arith), odd) refl);
}

pub asked : (bound : ℕ) (kind : Kind) (vs : List Value) (number i : ℕ) (v : Value) (nodes : List NodeShape) (under : List Frame) (place : Place) → Stands i place → i < length vs → NamesFor kind i → v ≡ get_or vs i values.Null → Asked bound nodes (part_of kind vs number i) under place (before kind i) v (part_of kind vs number (suc i))
asked bound (ListKind type) vs number i v nodes under place s h n e = record {
  frame = part_of (ListKind type) vs number i;
  after = behind_comma i;
  wants = item_wants i type;
  feeds = rw (one_value vs i v h e, take_none i) refl;
  is = λ more. comma_goes bound nodes (part_of (ListKind type) vs number i) under place i more s refl;
}
asked bound (MapKind type) vs number i v nodes under place s h n e = map_asked bound type vs number i v nodes under place (is_odd i) refl s h e
asked bound (ObjectKind class) vs number i v nodes under place s h n e =
    let f : Frame = part_of (ObjectKind class) vs number i in
    let name : Text = get_or class.fields i [] in
    record {
      frame = with_name name f;
      after = places.Value;
      wants = refl;
      feeds = rw (one_value vs i v h e, one_name class.fields i n) refl;
      is = λ more.
          ap (run bound (at nodes f under place)) (append_assoc (comma i) (Words name ∷ Sign Colon ∷ []) more)
          ∙ comma_goes bound nodes f under place i (Words name ∷ Sign Colon ∷ more) s refl
          ∙ name_goes bound nodes f under (behind_comma i) name more (comma_open i) refl;
    }

-- a value that is no node, or a node that has begun
pub leaf_goes : (bound : ℕ) (nodes : List NodeShape) (f : Frame) (under : List Frame) (place : Place) (v : Value) (more : List Element) → wants_value place f.head ≡ true → ((k : ℕ) → v ≡ values.Node k → k < length nodes) → run bound (at nodes f under place) (element_of v ∷ more) ≡ run bound (at nodes (fed v f) under places.After) more
leaf_goes bound nodes f under place values.Null more w h = goes bound (at nodes f under place) (at nodes (fed values.Null f) under places.After) (Plain values.Null) more (rw w refl)
leaf_goes bound nodes f under place (values.Bool b) more w h = goes bound (at nodes f under place) (at nodes (fed (values.Bool b) f) under places.After) (Plain (values.Bool b)) more (rw w refl)
leaf_goes bound nodes f under place (values.Int z) more w h = goes bound (at nodes f under place) (at nodes (fed (values.Int z) f) under places.After) (Plain (values.Int z)) more (rw w refl)
leaf_goes bound nodes f under place (values.Long z) more w h = goes bound (at nodes f under place) (at nodes (fed (values.Long z) f) under places.After) (Plain (values.Long z)) more (rw w refl)
leaf_goes bound nodes f under place (values.Date z) more w h = goes bound (at nodes f under place) (at nodes (fed (values.Date z) f) under places.After) (Plain (values.Date z)) more (rw w refl)
leaf_goes bound nodes f under place (values.Text text) more w h = goes bound (at nodes f under place) (at nodes (fed (values.Text text) f) under places.After) (Words text) more (rw w refl)
leaf_goes bound nodes f under place (values.Bytes bytes) more w h = goes bound (at nodes f under place) (at nodes (fed (values.Bytes bytes) f) under places.After) (Plain (values.Bytes bytes)) more (rw w refl)
leaf_goes bound nodes f under place (values.Node k) more w h = goes bound (at nodes f under place) (at nodes (fed (values.Node k) f) under places.After) (Reference k) more (rw (w, lt-ltb k (length nodes) (h k refl)) refl)

-- a node of which nothing is printed
begun_frame : (kind : Kind) (vs : List Value) (number : ℕ) → new_frame number (machine_head kind) ≡ part_of kind vs number 0
begun_frame (ListKind type) vs number = refl
begun_frame (MapKind type) vs number = refl
begun_frame (ObjectKind class) vs number = refl

pub node_goes : (bound : ℕ) (nodes : List NodeShape) (f g : Frame) (under : List Frame) (place : Place) (kind : Kind) (vs : List Value) (more : List Element) → wants_value place f.head ≡ true → length nodes < bound → fed (values.Node (length nodes)) f ≡ g → run bound (at nodes f under place) (head_of kind ++ more) ≡ run bound (at (nodes ++ no_node ∷ []) (part_of kind vs (length nodes) 0) (g ∷ under) places.Start) more
node_goes bound nodes f g under place kind vs more w room e =
    let b = brackets kind in
    head_goes bound nodes f under place kind (head_of kind) b.0 (names_of kind) (end_of kind) more b.1 w room
    ∙ ap (λ x. run bound (at (nodes ++ no_node ∷ []) x (fed (values.Node (length nodes)) f ∷ under) places.Start) more) (begun_frame kind vs (length nodes))
    ∙ ap (λ x. run bound (at (nodes ++ no_node ∷ []) (part_of kind vs (length nodes) 0) (x ∷ under) places.Start) more) e

-- a whole node has as many values as names, and no key without its value
abbrev pub WholeAt : Kind → ℕ → Type 0
WholeAt (ListKind type) count = Unit {0}
WholeAt (MapKind type) count = is_odd count ≡ false
WholeAt (ObjectKind class) count = length class.fields ≤ count

whole_keyed : (kind : Kind) (n : ℕ) → WholeAt kind n → keyed_at kind n ≡ false
whole_keyed (ListKind type) n w = refl
whole_keyed (MapKind type) n w = w
whole_keyed (ObjectKind class) n w = refl

whole_shown : (kind : Kind) (vs : List Value) (number n : ℕ) → length vs ≤ n → WholeAt kind n → shown (part_of kind vs number n) ≡ record { kind = kind; values = vs }
whole_shown (ListKind type) vs number n h w = rw (take_all n vs h) refl
whole_shown (MapKind type) vs number n h w = rw (take_all n vs h) refl
whole_shown (ObjectKind class) vs number n h w = rw (take_all n vs h, take_all n class.fields w) refl

pub whole_goes : (bound : ℕ) (nodes : List NodeShape) (g : Frame) (under : List Frame) (place : Place) (kind : Kind) (vs : List Value) (number n : ℕ) (more : List Element) → IsEnd place → length vs ≤ n → WholeAt kind n → run bound (at nodes (part_of kind vs number n) (g ∷ under) place) (end_of kind ∷ more) ≡ run bound (at (set nodes number (record { kind = kind; values = vs })) g under places.After) more
whole_goes bound nodes g under place kind vs number n more ends h w =
    let b = brackets kind in
    end_goes bound nodes (part_of kind vs number n) g under place kind (head_of kind) b.0 (names_of kind) (end_of kind) more b.1 (head_is kind) (whole_keyed kind n w) ends
    ∙ ap (λ x. run bound (at (set nodes number x) g under places.After) more) (whole_shown kind vs number n h w)
