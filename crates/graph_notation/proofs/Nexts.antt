-- What may come next, by the place.
use Rattle.std.proofs.Common.{◌≡◌, ℕ, ◌<◌, Bool, true, false, List, [], ◌∷◌, ◌++◌, length, set, refl, ap, sym, ◌∙◌, subst, arith, inl, inr, ◌⊎◌}
use Rattle.std.specs.Prelude.{nat_lt, ◌&&◌, if◌then◌else◌, Some, None, Result, Ok, Err}
use Rattle.std.proofs.lemmas.Bool.{and_parts, ltb-true}
use Rattle.hessian_graph.specs.Shape.{Text, NodeShape}
use Rattle.graph_notation.specs.declared.element.Mark.TheVariants.{BeginList, EndList, BeginMap, EndMap, BeginFields, EndFields, Comma, Colon, Named}
use Rattle.graph_notation.specs.declared.element.Element.{Element}
use Rattle.graph_notation.specs.declared.element.Element.TheVariants.{Plain, Words, Reference, Sign}
use Rattle.graph_notation.specs.declared.frame.Head.{Head}
use Rattle.graph_notation.specs.declared.frame.Head.TheVariants as heads
use Rattle.graph_notation.specs.declared.frame.Frame.{Frame}
use Rattle.graph_notation.specs.declared.frame.Place.{Place}
use Rattle.graph_notation.specs.declared.frame.Place.TheVariants as places
use Rattle.graph_notation.specs.declared.frame.Cause.{Cause}
use Rattle.graph_notation.specs.declared.frame.Cause.TheVariants.{Bad, TooMany}
use Rattle.graph_notation.specs.Forms.{IsPlain}
use Rattle.graph_notation.specs.Machine.{State, shown, opens, closed, may_end, is_list, is_map, is_object, is_outermost, is_whole, room, run, step, and_then, end_step}
use Rattle.graph_notation.proofs.Stages.{at}

-- no element but those of plain values stands for one
abbrev pub IsForm : Element → Type 0
IsForm (Plain v) = IsPlain v
IsForm (Words text) = Unit {0}
IsForm (Reference k) = Unit {0}
IsForm (Sign mark) = Unit {0}

abbrev pub AllForms : List Element → Type 0
AllForms [] = Unit {0}
AllForms (e ∷ es) = IsForm e × AllForms es

-- the text may end here
pub record Done (t : State) : Type 0 where
  pub outermost : t.under ≡ []
  pub ends : may_end t.place t.frame.keyed ≡ true

outermost_is : (fs : List Frame) → is_outermost fs ≡ true → fs ≡ []
outermost_is [] e = refl
outermost_is (f ∷ fs) e = cc

pub done_of : (t : State) → is_whole t ≡ true → Done t
done_of t e =
    let both = and_parts (may_end t.place t.frame.keyed) (is_outermost t.under) e in
    record { outermost = outermost_is t.under both.1; ends = both.0 }

pub ok_is : (s t : State) → ◌≡◌ {A = Result State Cause} (Ok s) (Ok t) → s ≡ t
ok_is s t e = cc

pub unequal : {A : Type 0} → false ≡ true → A
unequal e = cc

-- one step, and the rest
pub record Stepped (bound : ℕ) (r : Result State Cause) (es : List Element) (t : State) : Type 0 where
  pub u : State
  pub is : r ≡ Ok u
  pub rest : run bound u es ≡ Ok t

pub stepped : (bound : ℕ) (r : Result State Cause) (es : List Element) (t : State) → and_then r (λ x. run bound x es) ≡ Ok t → Stepped bound r es t
stepped bound (Ok u) es t h = record { u = u; is = refl; rest = h }
stepped bound (Err c) es t h = cc

pub chosen : (b : Bool) (x y : Result State Cause) (t : State) → (if b then x else y) ≡ Ok t → ((b ≡ true) × (x ≡ Ok t)) ⊎ ((b ≡ false) × (y ≡ Ok t))
chosen true x y t e = inl (refl, e)
chosen false x y t e = inr (refl, e)

pub roomed : (bound : ℕ) (s t u : State) → room bound s t ≡ Ok u → (length s.nodes < bound) × (t ≡ u)
roomed bound s t u e = elim (chosen (nat_lt (length s.nodes) bound) (Ok t) (Err TooMany) u e) [
  | inl h ↦ (ltb-true (length s.nodes) bound h.0, ok_is t u h.1)
  | inr h ↦ cc
]

-- the marks that end a node
abbrev pub IsNoEnd : Element → Type 0
IsNoEnd (Plain v) = Unit {0}
IsNoEnd (Words text) = Unit {0}
IsNoEnd (Reference k) = Unit {0}
IsNoEnd (Sign BeginList) = Unit {0}
IsNoEnd (Sign EndList) = ⊥
IsNoEnd (Sign BeginMap) = Unit {0}
IsNoEnd (Sign EndMap) = ⊥
IsNoEnd (Sign BeginFields) = Unit {0}
IsNoEnd (Sign EndFields) = ⊥
IsNoEnd (Sign Comma) = Unit {0}
IsNoEnd (Sign Colon) = Unit {0}
IsNoEnd (Sign Named) = Unit {0}

abbrev pub end_of : Head → Element
end_of (heads.List type) = Sign EndList
end_of (heads.Map type) = Sign EndMap
end_of (heads.Object name) = Sign EndFields

list_end : (h : Head) → is_list h ≡ true → end_of h ≡ Sign EndList
list_end (heads.List type) e = refl
list_end (heads.Map type) e = cc
list_end (heads.Object name) e = cc

map_end : (h : Head) → is_map h ≡ true → end_of h ≡ Sign EndMap
map_end (heads.List type) e = cc
map_end (heads.Map type) e = refl
map_end (heads.Object name) e = cc

object_end : (h : Head) → is_object h ≡ true → end_of h ≡ Sign EndFields
object_end (heads.List type) e = cc
object_end (heads.Map type) e = cc
object_end (heads.Object name) e = refl

-- a node that was ended
pub record Ended (nodes : List NodeShape) (f g : Frame) (under : List Frame) (e : Element) (u : State) : Type 0 where
  pub mark : e ≡ end_of f.head
  pub is : u ≡ at (set nodes f.number (shown f)) g under places.After

ended : (nodes : List NodeShape) (f g : Frame) (under : List Frame) (place : Place) (fits : Bool) (e : Element) (u : State) → (fits ≡ true → e ≡ end_of f.head) → end_step fits (at nodes f (g ∷ under) place) ≡ Ok u → Ended nodes f g under e u
ended nodes f g under place fits e u mark h = elim (chosen (may_end place f.keyed && fits) (closed (g ∷ under) (at nodes f (g ∷ under) place)) (Err Bad) u h) [
  | inl x ↦ record { mark = mark ((and_parts (may_end place f.keyed) fits x.0).1); is = sym (ok_is (at (set nodes f.number (shown f)) g under places.After) u x.1) }
  | inr x ↦ cc
]

pub ends_list : (bound : ℕ) (nodes : List NodeShape) (f g : Frame) (under : List Frame) (place : Place) (u : State) → step bound (at nodes f (g ∷ under) place) (Sign EndList) ≡ Ok u → Ended nodes f g under (Sign EndList) u
ends_list bound nodes f g under place u h = ended nodes f g under place (is_list f.head) (Sign EndList) u (λ e. sym (list_end f.head e)) h

pub ends_map : (bound : ℕ) (nodes : List NodeShape) (f g : Frame) (under : List Frame) (place : Place) (u : State) → step bound (at nodes f (g ∷ under) place) (Sign EndMap) ≡ Ok u → Ended nodes f g under (Sign EndMap) u
ends_map bound nodes f g under place u h = ended nodes f g under place (is_map f.head) (Sign EndMap) u (λ e. sym (map_end f.head e)) h

pub ends_object : (bound : ℕ) (nodes : List NodeShape) (f g : Frame) (under : List Frame) (place : Place) (u : State) → step bound (at nodes f (g ∷ under) place) (Sign EndFields) ≡ Ok u → Ended nodes f g under (Sign EndFields) u
ends_object bound nodes f g under place u h = ended nodes f g under place (is_object f.head) (Sign EndFields) u (λ e. sym (object_end f.head e)) h

-- no node ends outside of all
pub no_end_outside : (fits : Bool) (nodes : List NodeShape) (f : Frame) (place : Place) (u : State) → end_step fits (at nodes f [] place) ≡ Ok u → ⊥
no_end_outside fits nodes f place u h = elim (chosen (may_end place f.keyed && fits) (Err Bad) (Err Bad) u h) [ inl x ↦ cc | inr x ↦ cc ]

-- an element that is refused leads nowhere
pub refused : {A : Type 0} (bound : ℕ) (r : Result State Cause) (es : List Element) (t : State) (c : Cause) → r ≡ Err c → and_then r (λ x. run bound x es) ≡ Ok t → A
refused bound (Ok u) es t c e h = cc
refused bound (Err d) es t c e h = cc

-- the text doesn't end here
pub not_done : {A : Type 0} (s t : State) → ◌≡◌ {A = Result State Cause} (Ok s) (Ok t) → Done t → may_end s.place s.frame.keyed ≡ false → A
not_done s t e done never = unequal (sym never ∙ subst (λ (x : State). may_end x.place x.frame.keyed ≡ true) (sym (ok_is s t e)) done.ends)

pub not_inside : {A : Type 0} (nodes : List NodeShape) (f g : Frame) (under : List Frame) (place : Place) (t : State) → ◌≡◌ {A = Result State Cause} (Ok (at nodes f (g ∷ under) place)) (Ok t) → Done t → A
not_inside nodes f g under place t e done = let no : g ∷ under ≡ [] = subst (λ (x : State). x.under ≡ []) (sym (ok_is (at nodes f (g ∷ under) place) t e)) done.outermost in cc

-- what comes is a colon, and then a value
pub record ColonNext (bound : ℕ) (nodes : List NodeShape) (f : Frame) (under : List Frame) (es : List Element) (t : State) : Type 0 where
  pub tail : List Element
  pub is : es ≡ Sign Colon ∷ tail
  pub rest : run bound (at nodes f under places.Value) tail ≡ Ok t
  pub forms : AllForms tail

pub colon_after_field : (bound : ℕ) (nodes : List NodeShape) (f : Frame) (under : List Frame) (es : List Element) (t : State) → run bound (at nodes f under places.AfterField) es ≡ Ok t → Done t → AllForms es → ColonNext bound nodes f under es t
colon_after_field bound nodes f under [] t h done a = not_done (at nodes f under places.AfterField) t h done refl
colon_after_field bound nodes f under (Plain v ∷ es) t h done a = cc
colon_after_field bound nodes f under (Words text ∷ es) t h done a = cc
colon_after_field bound nodes f under (Reference k ∷ es) t h done a = cc
colon_after_field bound nodes f under (Sign BeginList ∷ es) t h done a = cc
colon_after_field bound nodes f under (Sign EndList ∷ es) t h done a = cc
colon_after_field bound nodes f under (Sign BeginMap ∷ es) t h done a = cc
colon_after_field bound nodes f under (Sign EndMap ∷ es) t h done a = cc
colon_after_field bound nodes f under (Sign BeginFields ∷ es) t h done a = cc
colon_after_field bound nodes f under (Sign EndFields ∷ es) t h done a = cc
colon_after_field bound nodes f under (Sign Comma ∷ es) t h done a = cc
colon_after_field bound nodes f under (Sign Colon ∷ es) t h done a = record { tail = es; is = refl; rest = h; forms = a.1 }
colon_after_field bound nodes f under (Sign Named ∷ es) t h done a = cc

abbrev pub keyed : Frame → Frame
keyed f = record f { keyed = true }

abbrev pub unkeyed : Frame → Frame
unkeyed f = record f { keyed = false }

pub colon_after_key : (bound : ℕ) (nodes : List NodeShape) (f : Frame) (under : List Frame) (es : List Element) (t : State) → run bound (at nodes (keyed f) under places.After) es ≡ Ok t → Done t → AllForms es → ColonNext bound nodes (keyed f) under es t
colon_after_key bound nodes f under [] t h done a = not_done (at nodes (keyed f) under places.After) t h done refl
colon_after_key bound nodes f under (Plain v ∷ es) t h done a = cc
colon_after_key bound nodes f under (Words text ∷ es) t h done a = cc
colon_after_key bound nodes f under (Reference k ∷ es) t h done a = cc
colon_after_key bound nodes f under (Sign BeginList ∷ es) t h done a = cc
colon_after_key bound nodes f under (Sign EndList ∷ es) t h done a = cc
colon_after_key bound nodes f under (Sign BeginMap ∷ es) t h done a = cc
colon_after_key bound nodes f under (Sign EndMap ∷ es) t h done a = cc
colon_after_key bound nodes f under (Sign BeginFields ∷ es) t h done a = cc
colon_after_key bound nodes f under (Sign EndFields ∷ es) t h done a = cc
colon_after_key bound nodes f under (Sign Comma ∷ es) t h done a = cc
colon_after_key bound nodes f under (Sign Colon ∷ es) t h done a = record { tail = es; is = refl; rest = h; forms = a.1 }
colon_after_key bound nodes f under (Sign Named ∷ es) t h done a = cc

-- a comma, or something else
abbrev pub NoComma : List Element → Type 0
NoComma [] = Unit {0}
NoComma (Plain v ∷ es) = Unit {0}
NoComma (Words text ∷ es) = Unit {0}
NoComma (Reference k ∷ es) = Unit {0}
NoComma (Sign BeginList ∷ es) = Unit {0}
NoComma (Sign EndList ∷ es) = Unit {0}
NoComma (Sign BeginMap ∷ es) = Unit {0}
NoComma (Sign EndMap ∷ es) = Unit {0}
NoComma (Sign BeginFields ∷ es) = Unit {0}
NoComma (Sign EndFields ∷ es) = Unit {0}
NoComma (Sign Comma ∷ es) = ⊥
NoComma (Sign Colon ∷ es) = Unit {0}
NoComma (Sign Named ∷ es) = Unit {0}

pub comma_or_not : (es : List Element) → ((tail : List Element) × (es ≡ Sign Comma ∷ tail)) ⊎ NoComma es
comma_or_not [] = inr tt
comma_or_not (Plain v ∷ es) = inr tt
comma_or_not (Words text ∷ es) = inr tt
comma_or_not (Reference k ∷ es) = inr tt
comma_or_not (Sign BeginList ∷ es) = inr tt
comma_or_not (Sign EndList ∷ es) = inr tt
comma_or_not (Sign BeginMap ∷ es) = inr tt
comma_or_not (Sign EndMap ∷ es) = inr tt
comma_or_not (Sign BeginFields ∷ es) = inr tt
comma_or_not (Sign EndFields ∷ es) = inr tt
comma_or_not (Sign Comma ∷ es) = inl (es, refl)
comma_or_not (Sign Colon ∷ es) = inr tt
comma_or_not (Sign Named ∷ es) = inr tt

-- what comes ends the node
pub record EndNext (bound : ℕ) (nodes : List NodeShape) (f g : Frame) (under : List Frame) (es : List Element) (t : State) : Type 0 where
  pub tail : List Element
  pub is : es ≡ end_of f.head ∷ tail
  pub rest : run bound (at (set nodes f.number (shown f)) g under places.After) tail ≡ Ok t
  pub forms : AllForms tail

pub end_next : (bound : ℕ) (nodes : List NodeShape) (f g : Frame) (under : List Frame) (place : Place) (e : Element) (es : List Element) (t : State) → ((u : State) → step bound (at nodes f (g ∷ under) place) e ≡ Ok u → Ended nodes f g under e u) → run bound (at nodes f (g ∷ under) place) (e ∷ es) ≡ Ok t → AllForms (e ∷ es) → EndNext bound nodes f g under (e ∷ es) t
end_next bound nodes f g under place e es t ends h a =
    let s = stepped bound (step bound (at nodes f (g ∷ under) place) e) es t h in
    let x = ends s.u s.is in
    record { tail = es; is = ap (λ y. y ∷ es) x.mark; rest = subst (λ y. run bound y es ≡ Ok t) x.is s.rest; forms = a.1 }

pub end_after : (bound : ℕ) (nodes : List NodeShape) (f g : Frame) (under : List Frame) (es : List Element) (t : State) → run bound (at nodes (unkeyed f) (g ∷ under) places.After) es ≡ Ok t → Done t → AllForms es → NoComma es → EndNext bound nodes (unkeyed f) g under es t
end_after bound nodes f g under [] t h done a n = not_inside nodes (unkeyed f) g under places.After t h done
end_after bound nodes f g under (Plain v ∷ es) t h done a n = cc
end_after bound nodes f g under (Words text ∷ es) t h done a n = cc
end_after bound nodes f g under (Reference k ∷ es) t h done a n = cc
end_after bound nodes f g under (Sign BeginList ∷ es) t h done a n = cc
end_after bound nodes f g under (Sign EndList ∷ es) t h done a n = end_next bound nodes (unkeyed f) g under places.After (Sign EndList) es t (ends_list bound nodes (unkeyed f) g under places.After) h a
end_after bound nodes f g under (Sign BeginMap ∷ es) t h done a n = cc
end_after bound nodes f g under (Sign EndMap ∷ es) t h done a n = end_next bound nodes (unkeyed f) g under places.After (Sign EndMap) es t (ends_map bound nodes (unkeyed f) g under places.After) h a
end_after bound nodes f g under (Sign BeginFields ∷ es) t h done a n = cc
end_after bound nodes f g under (Sign EndFields ∷ es) t h done a n = end_next bound nodes (unkeyed f) g under places.After (Sign EndFields) es t (ends_object bound nodes (unkeyed f) g under places.After) h a
end_after bound nodes f g under (Sign Comma ∷ es) t h done a n = absurd n
end_after bound nodes f g under (Sign Colon ∷ es) t h done a n = cc
end_after bound nodes f g under (Sign Named ∷ es) t h done a n = cc

-- outside of all nothing comes but a comma
pub none_after : (bound : ℕ) (nodes : List NodeShape) (f : Frame) (es : List Element) (t : State) → run bound (at nodes (unkeyed f) [] places.After) es ≡ Ok t → NoComma es → es ≡ []
none_after bound nodes f [] t h n = refl
none_after bound nodes f (Plain v ∷ es) t h n = cc
none_after bound nodes f (Words text ∷ es) t h n = cc
none_after bound nodes f (Reference k ∷ es) t h n = cc
none_after bound nodes f (Sign BeginList ∷ es) t h n = cc
none_after bound nodes f (Sign EndList ∷ es) t h n = let s = stepped bound (end_step (is_list f.head) (at nodes (unkeyed f) [] places.After)) es t h in absurd (no_end_outside (is_list f.head) nodes (unkeyed f) places.After s.u s.is)
none_after bound nodes f (Sign BeginMap ∷ es) t h n = cc
none_after bound nodes f (Sign EndMap ∷ es) t h n = let s = stepped bound (end_step (is_map f.head) (at nodes (unkeyed f) [] places.After)) es t h in absurd (no_end_outside (is_map f.head) nodes (unkeyed f) places.After s.u s.is)
none_after bound nodes f (Sign BeginFields ∷ es) t h n = cc
none_after bound nodes f (Sign EndFields ∷ es) t h n = let s = stepped bound (end_step (is_object f.head) (at nodes (unkeyed f) [] places.After)) es t h in absurd (no_end_outside (is_object f.head) nodes (unkeyed f) places.After s.u s.is)
none_after bound nodes f (Sign Comma ∷ es) t h n = absurd n
none_after bound nodes f (Sign Colon ∷ es) t h n = cc
none_after bound nodes f (Sign Named ∷ es) t h n = cc

-- the elements before a node's entries
abbrev pub prefix_of : Head → List Element
prefix_of (heads.List None) = Sign BeginList ∷ []
prefix_of (heads.List (Some type)) = Sign Named ∷ Words type ∷ Sign BeginList ∷ []
prefix_of (heads.Map None) = Sign BeginMap ∷ []
prefix_of (heads.Map (Some type)) = Sign Named ∷ Words type ∷ Sign BeginMap ∷ []
prefix_of (heads.Object name) = Sign Named ∷ Words name ∷ Sign BeginFields ∷ []

-- behind `!` a name and a bracket come
pub record HeadNext (bound : ℕ) (nodes : List NodeShape) (f : Frame) (under : List Frame) (es : List Element) (t : State) : Type 0 where
  pub head : Head
  pub tail : List Element
  pub is : Sign Named ∷ es ≡ prefix_of head ++ tail
  pub rest : run bound (opens head (at nodes f under places.After)) tail ≡ Ok t
  pub fewer : length tail < length es
  pub forms : AllForms tail

bracket_next : (bound : ℕ) (nodes : List NodeShape) (f : Frame) (under : List Frame) (text : Text) (es : List Element) (t : State) → run bound (at nodes f under (places.Bracket text)) es ≡ Ok t → Done t → AllForms es → HeadNext bound nodes f under (Words text ∷ es) t
bracket_next bound nodes f under text [] t h done a = not_done (at nodes f under (places.Bracket text)) t h done refl
bracket_next bound nodes f under text (Plain v ∷ es) t h done a = cc
bracket_next bound nodes f under text (Words text' ∷ es) t h done a = cc
bracket_next bound nodes f under text (Reference k ∷ es) t h done a = cc
bracket_next bound nodes f under text (Sign BeginList ∷ es) t h done a = record { head = heads.List (Some text); tail = es; is = refl; rest = h; fewer = omega arith; forms = a.1 }
bracket_next bound nodes f under text (Sign EndList ∷ es) t h done a = cc
bracket_next bound nodes f under text (Sign BeginMap ∷ es) t h done a = record { head = heads.Map (Some text); tail = es; is = refl; rest = h; fewer = omega arith; forms = a.1 }
bracket_next bound nodes f under text (Sign EndMap ∷ es) t h done a = cc
bracket_next bound nodes f under text (Sign BeginFields ∷ es) t h done a = record { head = heads.Object text; tail = es; is = refl; rest = h; fewer = omega arith; forms = a.1 }
bracket_next bound nodes f under text (Sign EndFields ∷ es) t h done a = cc
bracket_next bound nodes f under text (Sign Comma ∷ es) t h done a = cc
bracket_next bound nodes f under text (Sign Colon ∷ es) t h done a = cc
bracket_next bound nodes f under text (Sign Named ∷ es) t h done a = cc

pub head_next : (bound : ℕ) (nodes : List NodeShape) (f : Frame) (under : List Frame) (es : List Element) (t : State) → run bound (at nodes f under places.Type) es ≡ Ok t → Done t → AllForms es → HeadNext bound nodes f under es t
head_next bound nodes f under [] t h done a = not_done (at nodes f under places.Type) t h done refl
head_next bound nodes f under (Plain v ∷ es) t h done a = cc
head_next bound nodes f under (Words text ∷ es) t h done a = bracket_next bound nodes f under text es t h done a.1
head_next bound nodes f under (Reference k ∷ es) t h done a = cc
head_next bound nodes f under (Sign BeginList ∷ es) t h done a = cc
head_next bound nodes f under (Sign EndList ∷ es) t h done a = cc
head_next bound nodes f under (Sign BeginMap ∷ es) t h done a = cc
head_next bound nodes f under (Sign EndMap ∷ es) t h done a = cc
head_next bound nodes f under (Sign BeginFields ∷ es) t h done a = cc
head_next bound nodes f under (Sign EndFields ∷ es) t h done a = cc
head_next bound nodes f under (Sign Comma ∷ es) t h done a = cc
head_next bound nodes f under (Sign Colon ∷ es) t h done a = cc
head_next bound nodes f under (Sign Named ∷ es) t h done a = cc
