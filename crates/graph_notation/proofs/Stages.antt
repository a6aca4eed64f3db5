-- States, and single steps of a reading.
use Rattle.std.proofs.Common.{◌≡◌, ℕ, ◌<◌, true, false, List, [], ◌∷◌, ◌++◌, length, set, refl, ap, ◌∙◌}
use Rattle.std.specs.Prelude.{if◌then◌else◌, Some, None, Ok, Err, ◌⊎◌}
use Rattle.std.proofs.Common.{inl, inr}
use Rattle.std.proofs.lemmas.Bool.{lt-ltb}
use Rattle.hessian_graph.specs.declared.value.Value.{Value}
use Rattle.hessian_graph.specs.Shape.{Text, Kind, ListKind, MapKind, ObjectKind, NodeShape}
use Rattle.graph_notation.specs.declared.element.Mark.TheVariants.{BeginList, EndList, BeginMap, EndMap, BeginFields, EndFields, Named}
use Rattle.graph_notation.specs.declared.element.Element.{Element}
use Rattle.graph_notation.specs.declared.element.Element.TheVariants.{Words, Sign}
use Rattle.graph_notation.specs.declared.frame.Head.{Head}
use Rattle.graph_notation.specs.declared.frame.Head.TheVariants as heads
use Rattle.graph_notation.specs.declared.frame.Frame.{Frame}
use Rattle.graph_notation.specs.declared.frame.Place.{Place}
use Rattle.graph_notation.specs.declared.frame.Place.TheVariants as places
use Rattle.graph_notation.specs.Forms.{Form, Items, Pairs, Fields, Brackets}
use Rattle.graph_notation.specs.Forms.Brackets.{list, typed_list, map, typed_map, object}
use Rattle.graph_notation.specs.declared.frame.Cause.TheVariants.{Bad}
use Rattle.graph_notation.specs.Machine.{State, new_frame, shown, opens, wants_value, may_end, room, run, step, and_then}

abbrev pub at : List NodeShape → Frame → List Frame → Place → State
at nodes f under place = record { nodes = nodes; frame = f; under = under; place = place }

abbrev pub form_of : Head → Form
form_of (heads.List type) = Items
form_of (heads.Map type) = Pairs
form_of (heads.Object name) = Fields

abbrev pub head_of : Kind → Head
head_of (ListKind type) = heads.List type
head_of (MapKind type) = heads.Map type
head_of (ObjectKind class) = heads.Object class.name

-- names and values more
abbrev pub grown : List Text → List Value → Frame → Frame
grown names vs f = record f { names = f.names ++ names; values = f.values ++ vs }

-- the node may end here
abbrev pub IsEnd : Place → Type 0
IsEnd place = (place ≡ places.Start) ⊎ (place ≡ places.After)

pub ends_here : (place : Place) → IsEnd place → may_end place false ≡ true
ends_here place h = elim h [ inl e ↦ rw e refl | inr e ↦ rw e refl ]

-- one step, and the rest
pub goes : (bound : ℕ) (s t : State) (e : Element) (es : List Element) → step bound s e ≡ Ok t → run bound s (e ∷ es) ≡ run bound t es
goes bound s t e es h = ap (λ r. and_then r (λ x. run bound x es)) h

pub has_room : (bound : ℕ) (s t : State) → length s.nodes < bound → room bound s t ≡ Ok t
has_room bound s t h = rw (lt-ltb (length s.nodes) bound h) refl

-- a node begins
pub head_goes : (bound : ℕ) (nodes : List NodeShape) (f : Frame) (under : List Frame) (place : Place) (kind : Kind) (head : List Element) (form : Form) (names : List Text) (end : Element) (more : List Element) → Brackets kind head form names end → wants_value place f.head ≡ true → length nodes < bound → run bound (at nodes f under place) (head ++ more) ≡ run bound (opens (head_of kind) (at nodes f under place)) more
head_goes bound nodes f under place kind head form names end more b w h = by_row b
  where
    s : State
    s = at nodes f under place

    typed : State
    typed = at nodes f under places.Type

    begins : (head : Head) → (if wants_value place f.head then room bound s (opens head s) else Err Bad) ≡ Ok (opens head s)
    begins head = rw w (has_room bound s (opens head s) h)

    names_type : (if wants_value place f.head then room bound s typed else Err Bad) ≡ Ok typed
    names_type = rw w (has_room bound s typed h)

    named_goes : (text : Text) (mark : Element) (head : Head) → step bound (at nodes f under (places.Bracket text)) mark ≡ Ok (opens head s) → run bound s (Sign Named ∷ Words text ∷ mark ∷ more) ≡ run bound (opens head s) more
    named_goes text mark head e =
        goes bound s typed (Sign Named) (Words text ∷ mark ∷ more) names_type
        ∙ goes bound (at nodes f under (places.Bracket text)) (opens head s) mark more e

    by_row : {kind : Kind} {head : List Element} {form : Form} {names : List Text} {end : Element} → Brackets kind head form names end → run bound (at nodes f under place) (head ++ more) ≡ run bound (opens (head_of kind) (at nodes f under place)) more
    by_row list = goes bound s (opens (heads.List None) s) (Sign BeginList) more (rw w (has_room bound s (opens (heads.List None) s) h))
    by_row (typed_list type) = named_goes type (Sign BeginList) (heads.List (Some type)) refl
    by_row map = goes bound s (opens (heads.Map None) s) (Sign BeginMap) more (rw w (has_room bound s (opens (heads.Map None) s) h))
    by_row (typed_map type) = named_goes type (Sign BeginMap) (heads.Map (Some type)) refl
    by_row (object class) = named_goes class.name (Sign BeginFields) (heads.Object class.name) refl

-- a node ends
pub end_goes : (bound : ℕ) (nodes : List NodeShape) (f g : Frame) (under : List Frame) (place : Place) (kind : Kind) (head : List Element) (form : Form) (names : List Text) (end : Element) (more : List Element) → Brackets kind head form names end → f.head ≡ head_of kind → f.keyed ≡ false → IsEnd place → run bound (at nodes f (g ∷ under) place) (end ∷ more) ≡ run bound (at (set nodes f.number (shown f)) g under places.After) more
end_goes bound nodes f g under place kind head form names end more b is free here = by_row b is
  where
    s : State
    s = at nodes f (g ∷ under) place

    t : State
    t = at (set nodes f.number (shown f)) g under places.After

    may : may_end place f.keyed ≡ true
    may = rw free (ends_here place here)

    by_row : {kind : Kind} {head : List Element} {form : Form} {names : List Text} {end : Element} → Brackets kind head form names end → f.head ≡ head_of kind → run bound s (end ∷ more) ≡ run bound t more
    by_row list e = goes bound s t (Sign EndList) more (rw (may, e) refl)
    by_row (typed_list type) e = goes bound s t (Sign EndList) more (rw (may, e) refl)
    by_row map e = goes bound s t (Sign EndMap) more (rw (may, e) refl)
    by_row (typed_map type) e = goes bound s t (Sign EndMap) more (rw (may, e) refl)
    by_row (object class) e = goes bound s t (Sign EndFields) more (rw (may, e) refl)

-- what the whole frame of a node shows
pub shows : {kind : Kind} {head : List Element} {form : Form} {names : List Text} {end : Element} (vs : List Value) (number : ℕ) → Brackets kind head form names end → shown (grown names vs (new_frame number (head_of kind))) ≡ record { kind = kind; values = vs }
shows vs number list = refl
shows vs number (typed_list type) = refl
shows vs number map = refl
shows vs number (typed_map type) = refl
shows vs number (object class) = refl

pub form_is : {kind : Kind} {head : List Element} {form : Form} {names : List Text} {end : Element} → Brackets kind head form names end → form_of (head_of kind) ≡ form
form_is list = refl
form_is (typed_list type) = refl
form_is map = refl
form_is (typed_map type) = refl
form_is (object class) = refl

-- the node at its place
pub set_there : (xs ys : List NodeShape) (old new : NodeShape) → set ((xs ++ old ∷ []) ++ ys) (length xs) new ≡ xs ++ (new ∷ ys)
set_there [] ys old new = refl
set_there (x ∷ xs) ys old new = ap (λ zs. x ∷ zs) (set_there xs ys old new)
