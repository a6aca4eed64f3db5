-- What has been read so far can go on.
use Rattle.std.proofs.Common.{◌≡◌, ℕ, ◌<◌, ◌≤◌, Bool, true, false, List, [], ◌∷◌, ◌++◌, length, set, refl, ap, sym, ◌∙◌, subst, arith, inl, inr, length-append}
use Rattle.std.specs.Prelude.{nat_lt, ◌&&◌, if◌then◌else◌, None, Ok, Err}
use Rattle.std.proofs.lemmas.Bool.{cases_Bool}
use Rattle.std.proofs.lemmas.List.{length-set}
use Rattle.hessian_graph.specs.declared.value.Value.{Value}
use Rattle.hessian_graph.specs.declared.value.Value.TheVariants as values
use Rattle.hessian_graph.specs.Shape.{Text, NodeShape, no_node}
use Rattle.graph_notation.specs.declared.element.Mark.{Mark}
use Rattle.graph_notation.specs.declared.element.Mark.TheVariants.{BeginList, EndList, BeginMap, EndMap, BeginFields, EndFields, Comma, Colon, Named}
use Rattle.graph_notation.specs.declared.element.Element.{Element}
use Rattle.graph_notation.specs.declared.element.Element.TheVariants.{Plain, Words, Reference, Sign}
use Rattle.graph_notation.specs.declared.frame.Head.{Head}
use Rattle.graph_notation.specs.declared.frame.Head.TheVariants as heads
use Rattle.graph_notation.specs.declared.frame.Frame.{Frame}
use Rattle.graph_notation.specs.declared.frame.Place.{Place}
use Rattle.graph_notation.specs.declared.frame.Place.TheVariants as places
use Rattle.graph_notation.specs.declared.frame.Cause.TheVariants.{Bad, Unknown}
use Rattle.graph_notation.specs.Machine.{State, start, new_frame, shown, fed, flips, opens, gives, goes_to, named, closed, wants_value, may_end, may_go_on, wants_colon, is_list, is_map, is_object, is_whole, room, run, step, end_step, bracket_step, name_step, mark_step, reference_step, typed_list, typed_map, typed_object}
use Rattle.graph_notation.proofs.Stages.{at, goes}
use Rattle.graph_notation.proofs.Nexts.{AllForms, stepped, ok_is, chosen, roomed, end_of, keyed, unkeyed}

-- behind `!` a node has room
abbrev pub RoomAt : ℕ → ℕ → Place → Type 0
RoomAt bound n places.Start = Unit {0}
RoomAt bound n places.Next = Unit {0}
RoomAt bound n places.Value = Unit {0}
RoomAt bound n places.AfterField = Unit {0}
RoomAt bound n places.After = Unit {0}
RoomAt bound n places.Type = n < bound
RoomAt bound n (places.Bracket text) = n < bound

abbrev pub FreeAt : Bool → Place → Type 0
FreeAt k places.Start = k ≡ false
FreeAt k places.Next = Unit {0}
FreeAt k places.Value = Unit {0}
FreeAt k places.AfterField = Unit {0}
FreeAt k places.After = Unit {0}
FreeAt k places.Type = Unit {0}
FreeAt k (places.Bracket text) = Unit {0}

-- what holds of each state that is come to
pub record Sane (bound : ℕ) (s : State) : Type 0 where
  pub limit : length s.nodes ≤ bound
  pub room : RoomAt bound (length s.nodes) s.place
  pub free : FreeAt s.frame.keyed s.place

pub sane_start : (bound : ℕ) → Sane bound start
sane_start bound = record { limit = omega arith; room = tt; free = refl }

sane_gives : (bound : ℕ) (s : State) (v : Value) → Sane bound s → Sane bound (gives v s)
sane_gives bound s v h = record { limit = h.limit; room = tt; free = tt }

sane_opens : (bound : ℕ) (s : State) (h : Head) → length s.nodes < bound → Sane bound (opens h s)
sane_opens bound s h low = record { limit = rw (length-append s.nodes (no_node ∷ [])) (omega arith); room = tt; free = refl }

sane_if : (bound : ℕ) (b : Bool) (s t u : State) → Sane bound t → (if b then Ok t else Err Bad) ≡ Ok u → Sane bound u
sane_if bound b s t u h e = elim (chosen b (Ok t) (Err Bad) u e) [ inl x ↦ subst (Sane bound) (ok_is t u x.1) h | inr x ↦ cc ]

sane_room : (bound : ℕ) (s t u : State) → (length s.nodes < bound → Sane bound t) → room bound s t ≡ Ok u → Sane bound u
sane_room bound s t u h e = let x = roomed bound s t u e in subst (Sane bound) x.1 (h x.0)

sane_closed : (bound : ℕ) (under : List Frame) (s u : State) → Sane bound s → closed under s ≡ Ok u → Sane bound u
sane_closed bound [] s u h e = cc
sane_closed bound (f ∷ fs) s u h e =
    let t : State = record { nodes = set s.nodes s.frame.number (shown s.frame); frame = f; under = fs; place = places.After } in
    let low = h.limit in
    subst (Sane bound) (ok_is t u e) (record { limit = let n : length (set s.nodes s.frame.number (shown s.frame)) ≡ length s.nodes = length-set s.nodes s.frame.number (shown s.frame) in omega (arith, n, low); room = tt; free = tt })

sane_end : (bound : ℕ) (fits : Bool) (s u : State) → Sane bound s → end_step fits s ≡ Ok u → Sane bound u
sane_end bound fits s u h e = elim (chosen (may_end s.place s.frame.keyed && fits) (closed s.under s) (Err Bad) u e) [ inl x ↦ sane_closed bound s.under s u h x.1 | inr x ↦ cc ]

sane_bracket : (bound : ℕ) (make : Text → Head) (place : Place) (s u : State) → RoomAt bound (length s.nodes) place → bracket_step make place s ≡ Ok u → Sane bound u
sane_bracket bound make places.Start s u r e = cc
sane_bracket bound make places.Next s u r e = cc
sane_bracket bound make places.Value s u r e = cc
sane_bracket bound make places.AfterField s u r e = cc
sane_bracket bound make places.After s u r e = cc
sane_bracket bound make places.Type s u r e = cc
sane_bracket bound make (places.Bracket text) s u r e = subst (Sane bound) (ok_is (opens (make text) s) u e) (sane_opens bound s (make text) r)

sane_name : (bound : ℕ) (place : Place) (text : Text) (s u : State) → Sane bound s → RoomAt bound (length s.nodes) place → name_step place text s ≡ Ok u → Sane bound u
sane_name bound places.Start text s u h r e = subst (Sane bound) (ok_is (named text s) u e) (record { limit = h.limit; room = tt; free = tt })
sane_name bound places.Next text s u h r e = subst (Sane bound) (ok_is (named text s) u e) (record { limit = h.limit; room = tt; free = tt })
sane_name bound places.Value text s u h r e = cc
sane_name bound places.AfterField text s u h r e = cc
sane_name bound places.After text s u h r e = cc
sane_name bound places.Type text s u h r e = subst (Sane bound) (ok_is (goes_to (places.Bracket text) s) u e) (record { limit = h.limit; room = r; free = tt })
sane_name bound (places.Bracket text') text s u h r e = cc

sane_mark : (bound : ℕ) (mark : Mark) (s u : State) → Sane bound s → mark_step bound mark s ≡ Ok u → Sane bound u
sane_mark bound BeginList s u h e = elim (chosen (wants_value s.place s.frame.head) (room bound s (opens (heads.List None) s)) (bracket_step typed_list s.place s) u e) [
  | inl x ↦ sane_room bound s (opens (heads.List None) s) u (sane_opens bound s (heads.List None)) x.1
  | inr x ↦ sane_bracket bound typed_list s.place s u h.room x.1
]
sane_mark bound EndList s u h e = sane_end bound (is_list s.frame.head) s u h e
sane_mark bound BeginMap s u h e = elim (chosen (wants_value s.place s.frame.head) (room bound s (opens (heads.Map None) s)) (bracket_step typed_map s.place s) u e) [
  | inl x ↦ sane_room bound s (opens (heads.Map None) s) u (sane_opens bound s (heads.Map None)) x.1
  | inr x ↦ sane_bracket bound typed_map s.place s u h.room x.1
]
sane_mark bound EndMap s u h e = sane_end bound (is_map s.frame.head) s u h e
sane_mark bound BeginFields s u h e = sane_bracket bound typed_object s.place s u h.room e
sane_mark bound EndFields s u h e = sane_end bound (is_object s.frame.head) s u h e
sane_mark bound Comma s u h e = sane_if bound (may_go_on s.place s.frame.keyed) s (goes_to places.Next s) u (record { limit = h.limit; room = tt; free = tt }) e
sane_mark bound Colon s u h e = sane_if bound (wants_colon s.place s.frame.keyed) s (goes_to places.Value s) u (record { limit = h.limit; room = tt; free = tt }) e
sane_mark bound Named s u h e = elim (chosen (wants_value s.place s.frame.head) (room bound s (goes_to places.Type s)) (Err Bad) u e) [
  | inl x ↦ sane_room bound s (goes_to places.Type s) u (λ low. record { limit = h.limit; room = low; free = tt }) x.1
  | inr x ↦ cc
]

pub sane_step : (bound : ℕ) (s u : State) (e : Element) → Sane bound s → step bound s e ≡ Ok u → Sane bound u
sane_step bound s u (Plain v) h e = sane_if bound (wants_value s.place s.frame.head) s (gives v s) u (sane_gives bound s v h) e
sane_step bound s u (Words text) h e = elim (chosen (wants_value s.place s.frame.head) (Ok (gives (values.Text text) s)) (name_step s.place text s) u e) [
  | inl x ↦ subst (Sane bound) (ok_is (gives (values.Text text) s) u x.1) (sane_gives bound s (values.Text text) h)
  | inr x ↦ sane_name bound s.place text s u h h.room x.1
]
sane_step bound s u (Reference k) h e = elim (chosen (wants_value s.place s.frame.head) (reference_step k s) (Err Bad) u e) [
  | inl x ↦ elim (chosen (nat_lt k (length s.nodes)) (Ok (gives (values.Node k) s)) (Err (Unknown k)) u x.1) [
    | inl y ↦ subst (Sane bound) (ok_is (gives (values.Node k) s) u y.1) (sane_gives bound s (values.Node k) h)
    | inr y ↦ cc
  ]
  | inr x ↦ cc
]
sane_step bound s u (Sign mark) h e = sane_mark bound mark s u h e

pub sane_run : (bound : ℕ) (es : List Element) (s t : State) → Sane bound s → run bound s es ≡ Ok t → Sane bound t
sane_run bound [] s t h e = subst (Sane bound) (ok_is s t e) h
sane_run bound (x ∷ xs) s t h e = let y = stepped bound (step bound s x) xs t e in sane_run bound xs y.u t (sane_step bound s y.u x h y.is) y.rest

-- some elements lead to where the text may end, and no node more begins but where `!` was read
pub record Finish (bound : ℕ) (s : State) : Type 0 where
  pub more : List Element
  pub last : State
  pub is : run bound s more ≡ Ok last
  pub whole : is_whole last ≡ true
  pub forms : AllForms more

finish_on : (bound : ℕ) (s t : State) (e : Element) → AllForms (e ∷ []) → step bound s e ≡ Ok t → Finish bound t → Finish bound s
finish_on bound s t e a h f = record { more = e ∷ f.more; last = f.last; is = goes bound s t e f.more h ∙ f.is; whole = f.whole; forms = (a.0, f.forms) }

abbrev null : Element
null = Plain values.Null

ends_list : (bound : ℕ) (nodes : List NodeShape) (f g : Frame) (under : List Frame) (h : Head) → f.head ≡ h → step bound (at nodes (unkeyed f) (g ∷ under) places.After) (end_of h) ≡ Ok (at (set nodes f.number (shown f)) g under places.After)
ends_list bound nodes f g under (heads.List type) e = rw e refl
ends_list bound nodes f g under (heads.Map type) e = rw e refl
ends_list bound nodes f g under (heads.Object name) e = rw e refl

end_form : (h : Head) → AllForms (end_of h ∷ [])
end_form (heads.List type) = (tt, tt)
end_form (heads.Map type) = (tt, tt)
end_form (heads.Object name) = (tt, tt)

starts_end : (bound : ℕ) (nodes : List NodeShape) (f g : Frame) (under : List Frame) (h : Head) → f.head ≡ h → step bound (at nodes (unkeyed f) (g ∷ under) places.Start) (end_of h) ≡ Ok (at (set nodes f.number (shown f)) g under places.After)
starts_end bound nodes f g under (heads.List type) e = rw e refl
starts_end bound nodes f g under (heads.Map type) e = rw e refl
starts_end bound nodes f g under (heads.Object name) e = rw e refl

flips_back : (h : Head) → flips h true ≡ false
flips_back (heads.List type) = refl
flips_back (heads.Map type) = refl
flips_back (heads.Object name) = refl

-- a key that waits gets a value
key_first : (bound : ℕ) (under : List Frame) (nodes : List NodeShape) (f : Frame) → ((g : Frame) → g.keyed ≡ false → Finish bound (at nodes g under places.After)) → Finish bound (at nodes f under places.After)
key_first bound under nodes f free = elim (cases_Bool f.keyed) [
  | inl k ↦
      let e : keyed f ≡ f = ap (λ b. record f { keyed = b }) (sym k) in
      subst (λ x. Finish bound (at nodes x under places.After)) e (finish_on bound (at nodes (keyed f) under places.After) (at nodes (keyed f) under places.Value) (Sign Colon) (tt, tt) refl
      (finish_on bound (at nodes (keyed f) under places.Value) (at nodes (fed values.Null (keyed f)) under places.After) null (tt, tt) refl
      (free (fed values.Null (keyed f)) (flips_back f.head))))
  | inr k ↦ free f k
]

-- behind a value
pub finish_after : (bound : ℕ) (under : List Frame) (nodes : List NodeShape) (f : Frame) → Finish bound (at nodes f under places.After)
finish_after bound [] nodes f = key_first bound [] nodes f (λ g k. record { more = []; last = at nodes g [] places.After; is = refl; whole = rw k refl; forms = tt })
finish_after bound (o ∷ under) nodes f = key_first bound (o ∷ under) nodes f (λ g k.
    let e : unkeyed g ≡ g = ap (λ b. record g { keyed = b }) (sym k) in
    subst (λ x. Finish bound (at nodes x (o ∷ under) places.After)) e (finish_on bound (at nodes (unkeyed g) (o ∷ under) places.After) (at (set nodes g.number (shown g)) o under places.After) (end_of g.head) (end_form g.head) (ends_list bound nodes g o under g.head refl) (finish_after bound under (set nodes g.number (shown g)) o)))

finish_start : (bound : ℕ) (under : List Frame) (nodes : List NodeShape) (f : Frame) → f.keyed ≡ false → Finish bound (at nodes f under places.Start)
finish_start bound [] nodes f k = record { more = []; last = at nodes f [] places.Start; is = refl; whole = rw k refl; forms = tt }
finish_start bound (o ∷ under) nodes f k =
    let e : unkeyed f ≡ f = ap (λ b. record f { keyed = b }) (sym k) in
    subst (λ x. Finish bound (at nodes x (o ∷ under) places.Start)) e (finish_on bound (at nodes (unkeyed f) (o ∷ under) places.Start) (at (set nodes f.number (shown f)) o under places.After) (end_of f.head) (end_form f.head) (starts_end bound nodes f o under f.head refl) (finish_after bound under (set nodes f.number (shown f)) o))

finish_value : (bound : ℕ) (under : List Frame) (nodes : List NodeShape) (f : Frame) → Finish bound (at nodes f under places.Value)
finish_value bound under nodes f = finish_on bound (at nodes f under places.Value) (at nodes (fed values.Null f) under places.After) null (tt, tt) refl (finish_after bound under nodes (fed values.Null f))

finish_field : (bound : ℕ) (under : List Frame) (nodes : List NodeShape) (f : Frame) → Finish bound (at nodes f under places.AfterField)
finish_field bound under nodes f = finish_on bound (at nodes f under places.AfterField) (at nodes f under places.Value) (Sign Colon) (tt, tt) refl (finish_value bound under nodes f)

finish_next : (bound : ℕ) (under : List Frame) (nodes : List NodeShape) (f : Frame) → Finish bound (at nodes f under places.Next)
finish_next bound under nodes f = by_head f.head refl
  where
    with_name : Frame
    with_name = record f { names = f.names ++ [] ∷ [] }

    by_head : (h : Head) → f.head ≡ h → Finish bound (at nodes f under places.Next)
    by_head (heads.List type) e = finish_on bound (at nodes f under places.Next) (at nodes (fed values.Null f) under places.After) null (tt, tt) (rw e refl) (finish_after bound under nodes (fed values.Null f))
    by_head (heads.Map type) e = finish_on bound (at nodes f under places.Next) (at nodes (fed values.Null f) under places.After) null (tt, tt) (rw e refl) (finish_after bound under nodes (fed values.Null f))
    by_head (heads.Object name) e = finish_on bound (at nodes f under places.Next) (at nodes with_name under places.AfterField) (Words []) (tt, tt) (rw e refl) (finish_field bound under nodes with_name)

finish_bracket : (bound : ℕ) (under : List Frame) (nodes : List NodeShape) (f : Frame) (text : Text) → Finish bound (at nodes f under (places.Bracket text))
finish_bracket bound under nodes f text = finish_on bound (at nodes f under (places.Bracket text)) (opens (heads.Object text) (at nodes f under places.After)) (Sign BeginFields) (tt, tt) refl (finish_start bound (fed (values.Node (length nodes)) f ∷ under) (nodes ++ no_node ∷ []) (new_frame (length nodes) (heads.Object text)) refl)

pub finish : (bound : ℕ) (s : State) → FreeAt s.frame.keyed s.place → Finish bound s
finish bound s h = by_place s.place h
  where
    by_place : (p : Place) → FreeAt s.frame.keyed p → Finish bound (at s.nodes s.frame s.under p)
    by_place places.Start h = finish_start bound s.under s.nodes s.frame h
    by_place places.Next h = finish_next bound s.under s.nodes s.frame
    by_place places.Value h = finish_value bound s.under s.nodes s.frame
    by_place places.AfterField h = finish_field bound s.under s.nodes s.frame
    by_place places.After h = finish_after bound s.under s.nodes s.frame
    by_place places.Type h = finish_on bound (at s.nodes s.frame s.under places.Type) (at s.nodes s.frame s.under (places.Bracket [])) (Words []) (tt, tt) refl (finish_bracket bound s.under s.nodes s.frame [])
    by_place (places.Bracket text) h = finish_bracket bound s.under s.nodes s.frame text
