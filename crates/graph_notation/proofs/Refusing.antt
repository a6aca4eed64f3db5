-- What is refused can't go on, and what isn't can.
use Rattle.std.proofs.Common.{◌≡◌, ℕ, suc, ◌+◌, ◌≤◌, Bool, true, false, List, [], ◌∷◌, ◌++◌, length, refl, ap, sym, ◌∙◌, subst, arith, inl, inr, ◌⊎◌, append_assoc}
use Rattle.std.specs.Prelude.{nat_lt, ◌&&◌, if◌then◌else◌, None, Result, Ok, Err}
use Rattle.std.proofs.lemmas.Bool.{lt-ltb}
use Rattle.hessian_graph.specs.declared.value.Value.TheVariants as values
use Rattle.hessian_graph.specs.Shape.{Text, Shape}
use Rattle.graph_notation.specs.declared.frame.Head.{Head}
use Rattle.graph_notation.specs.declared.frame.Frame.{Frame}
use Rattle.graph_notation.specs.declared.frame.Place.{Place}
use Rattle.graph_notation.specs.declared.element.Mark.{Mark}
use Rattle.graph_notation.specs.declared.element.Mark.TheVariants.{BeginList, EndList, BeginMap, EndMap, BeginFields, EndFields, Comma, Colon, Named}
use Rattle.graph_notation.specs.declared.element.Element.{Element}
use Rattle.graph_notation.specs.declared.element.Element.TheVariants.{Plain, Words, Reference, Sign}
use Rattle.graph_notation.specs.declared.frame.Cause.{Cause}
use Rattle.graph_notation.specs.declared.frame.Cause.TheVariants.{Bad, Unknown, TooMany}
use Rattle.graph_notation.specs.declared.frame.Head.TheVariants as heads
use Rattle.graph_notation.specs.declared.frame.Place.TheVariants as places
use Rattle.graph_notation.specs.Forms.{SpellsGraph}
use Rattle.graph_notation.specs.Machine.{State, start, gives, opens, goes_to, wants_value, may_end, may_go_on, wants_colon, is_list, is_map, is_object, is_whole, room, run, step, and_then, end_step, bracket_step, name_step, closed, mark_step, reference_step, typed_list, typed_map, typed_object, graph_of}
use Rattle.graph_notation.specs.Refusal.{GoOn, GoOnWithin}
use Rattle.graph_notation.proofs.Nexts.{AllForms, stepped, ok_is, chosen, roomed}
use Rattle.graph_notation.proofs.Exact.{read_where_spelled, spelled_where_read}
use Rattle.graph_notation.proofs.Living.{sane_start, sane_run, finish}

run_both : (bound : ℕ) (a b : List Element) (s t : State) → run bound s a ≡ Ok t → run bound s (a ++ b) ≡ run bound t b
run_both bound [] b s t e = ap (λ x. run bound x b) (ok_is s t e)
run_both bound (x ∷ xs) b s t e =
    let y = stepped bound (step bound s x) xs t e in
    ap (λ r. and_then r (λ z. run bound z (xs ++ b))) y.is ∙ run_both bound xs b y.u t y.rest

forms_both : (a b : List Element) → AllForms a → AllForms b → AllForms (a ++ b)
forms_both [] b p q = q
forms_both (x ∷ xs) b p q = (p.0, forms_both xs b p.1 q)

-- what has been read goes on
pub lives : (bound : ℕ) (es : List Element) (s : State) → run bound start es ≡ Ok s → AllForms es → GoOnWithin bound es
lives bound es s e a =
    let sane = sane_run bound es start s (sane_start bound) e in
    let f = finish bound s sane.free in
    let go : run bound start (es ++ f.more) ≡ Ok f.last = run_both bound es f.more start s e ∙ f.is in
    record {
      more = f.more;
      graph = graph_of f.last;
      spelled = spelled_where_read bound (es ++ f.more) f.last go f.whole (forms_both es f.more a f.forms);
      limit = (sane_run bound f.more s f.last sane f.is).limit;
    }

pub goes_on : (bound : ℕ) (es : List Element) → GoOnWithin bound es → GoOn es
goes_on bound es x = record { more = x.more; graph = x.graph; spelled = x.spelled }

-- more room changes nothing that was taken
room_more : (bound bound' : ℕ) (s t u : State) → bound ≤ bound' → room bound s t ≡ Ok u → room bound' s t ≡ Ok u
room_more bound bound' s t u h e = let x = roomed bound s t u e in rw (lt-ltb (length s.nodes) bound' (omega (arith, x.0))) (ap Ok x.1)

mark_more : (bound bound' : ℕ) (mark : Mark) (s u : State) → bound ≤ bound' → mark_step bound mark s ≡ Ok u → mark_step bound' mark s ≡ Ok u
mark_more bound bound' BeginList s u h e = elim (chosen (wants_value s.place s.frame.head) (room bound s (opens (heads.List None) s)) (bracket_step typed_list s.place s) u e) [
  | inl x ↦ rw x.0 (room_more bound bound' s (opens (heads.List None) s) u h x.1)
  | inr x ↦ rw x.0 x.1
]
mark_more bound bound' EndList s u h e = e
mark_more bound bound' BeginMap s u h e = elim (chosen (wants_value s.place s.frame.head) (room bound s (opens (heads.Map None) s)) (bracket_step typed_map s.place s) u e) [
  | inl x ↦ rw x.0 (room_more bound bound' s (opens (heads.Map None) s) u h x.1)
  | inr x ↦ rw x.0 x.1
]
mark_more bound bound' EndMap s u h e = e
mark_more bound bound' BeginFields s u h e = e
mark_more bound bound' EndFields s u h e = e
mark_more bound bound' Comma s u h e = e
mark_more bound bound' Colon s u h e = e
mark_more bound bound' Named s u h e = elim (chosen (wants_value s.place s.frame.head) (room bound s (goes_to places.Type s)) (Err Bad) u e) [
  | inl x ↦ rw x.0 (room_more bound bound' s (goes_to places.Type s) u h x.1)
  | inr x ↦ cc
]

step_more : (bound bound' : ℕ) (s u : State) (e : Element) → bound ≤ bound' → step bound s e ≡ Ok u → step bound' s e ≡ Ok u
step_more bound bound' s u (Plain v) h e = e
step_more bound bound' s u (Words text) h e = e
step_more bound bound' s u (Reference k) h e = e
step_more bound bound' s u (Sign mark) h e = mark_more bound bound' mark s u h e

pub run_more_room : (bound bound' : ℕ) (es : List Element) (s t : State) → bound ≤ bound' → run bound s es ≡ Ok t → run bound' s es ≡ Ok t
run_more_room bound bound' [] s t h e = e
run_more_room bound bound' (x ∷ xs) s t h e =
    let y = stepped bound (step bound s x) xs t e in
    ap (λ r. and_then r (λ z. run bound' z xs)) (step_more bound bound' s y.u x h y.is) ∙ run_more_room bound bound' xs y.u t h y.rest

-- a refusal for another cause than room stays
abbrev pub NotRoom : Cause → Type 0
NotRoom Bad = Unit {0}
NotRoom (Unknown k) = Unit {0}
NotRoom TooMany = ⊥

pub err_is : (b : Bool) (x y : Result State Cause) (c : Cause) → (if b then x else y) ≡ Err c → ((b ≡ true) × (x ≡ Err c)) ⊎ ((b ≡ false) × (y ≡ Err c))
err_is true x y c e = inl (refl, e)
err_is false x y c e = inr (refl, e)

no_room : (bound : ℕ) (s t : State) (c : Cause) → room bound s t ≡ Err c → c ≡ TooMany
no_room bound s t c e = elim (err_is (nat_lt (length s.nodes) bound) (Ok t) (Err TooMany) c e) [ inl x ↦ cc | inr x ↦ cc ]

mark_stays : (bound bound' : ℕ) (mark : Mark) (s : State) (c : Cause) → NotRoom c → mark_step bound mark s ≡ Err c → mark_step bound' mark s ≡ Err c
mark_stays bound bound' BeginList s c n e = elim (err_is (wants_value s.place s.frame.head) (room bound s (opens (heads.List None) s)) (bracket_step typed_list s.place s) c e) [
  | inl x ↦ absurd (subst NotRoom (no_room bound s (opens (heads.List None) s) c x.1) n)
  | inr x ↦ rw x.0 x.1
]
mark_stays bound bound' EndList s c n e = e
mark_stays bound bound' BeginMap s c n e = elim (err_is (wants_value s.place s.frame.head) (room bound s (opens (heads.Map None) s)) (bracket_step typed_map s.place s) c e) [
  | inl x ↦ absurd (subst NotRoom (no_room bound s (opens (heads.Map None) s) c x.1) n)
  | inr x ↦ rw x.0 x.1
]
mark_stays bound bound' EndMap s c n e = e
mark_stays bound bound' BeginFields s c n e = e
mark_stays bound bound' EndFields s c n e = e
mark_stays bound bound' Comma s c n e = e
mark_stays bound bound' Colon s c n e = e
mark_stays bound bound' Named s c n e = elim (err_is (wants_value s.place s.frame.head) (room bound s (goes_to places.Type s)) (Err Bad) c e) [
  | inl x ↦ absurd (subst NotRoom (no_room bound s (goes_to places.Type s) c x.1) n)
  | inr x ↦ rw x.0 x.1
]

pub step_stays : (bound bound' : ℕ) (s : State) (e : Element) (c : Cause) → NotRoom c → step bound s e ≡ Err c → step bound' s e ≡ Err c
step_stays bound bound' s (Plain v) c n e = e
step_stays bound bound' s (Words text) c n e = e
step_stays bound bound' s (Reference k) c n e = e
step_stays bound bound' s (Sign mark) c n e = mark_stays bound bound' mark s c n e

-- a refused element leads nowhere
pub dead : (bound : ℕ) (es : List Element) (s : State) (e : Element) (c : Cause) (more : List Element) (g : Shape) → run bound start es ≡ Ok s → step bound s e ≡ Err c → SpellsGraph g ((es ++ e ∷ []) ++ more) → length g.nodes ≤ bound → ⊥
dead bound es s e c more g h k sp low =
    let x = read_where_spelled bound g ((es ++ e ∷ []) ++ more) sp low in
    let go : run bound start (es ++ (e ∷ more)) ≡ Ok x.state = ap (run bound start) (sym (append_assoc es (e ∷ []) more)) ∙ x.is in
    let bad : and_then (step bound s e) (λ y. run bound y more) ≡ Ok x.state = sym (run_both bound es (e ∷ more) start s h) ∙ go in
    let bad' : ◌≡◌ {A = Result State Cause} (Err c) (Ok x.state) = ap (λ r. and_then r (λ y. run bound y more)) (sym k) ∙ bad in
    cc

pub dead_within : (bound : ℕ) (es : List Element) (s : State) (e : Element) (c : Cause) → run bound start es ≡ Ok s → step bound s e ≡ Err c → GoOnWithin bound (es ++ e ∷ []) → ⊥
dead_within bound es s e c h k x = dead bound es s e c x.more x.graph h k x.spelled x.limit

pub dead_always : (bound : ℕ) (es : List Element) (s : State) (e : Element) (c : Cause) → NotRoom c → run bound start es ≡ Ok s → step bound s e ≡ Err c → GoOn (es ++ e ∷ []) → ⊥
dead_always bound es s e c n h k x =
    let many : ℕ = bound + length x.graph.nodes in
    dead many es s e c x.more x.graph (run_more_room bound many es start s (omega arith) h) (step_stays bound many s e c n k) x.spelled (omega arith)

-- the text ends too early
pub unfinished : (bound : ℕ) (es : List Element) (s : State) (g : Shape) → run bound start es ≡ Ok s → is_whole s ≡ false → SpellsGraph g es → ⊥
unfinished bound es s g h w sp =
    let many : ℕ = bound + length g.nodes in
    let x = read_where_spelled many g es sp (omega arith) in
    let same : s ≡ x.state = ok_is s x.state (sym (run_more_room bound many es start s (omega arith) h) ∙ x.is) in
    let whole : is_whole s ≡ true = subst (λ (y : State). is_whole y ≡ true) (sym same) x.whole in
    let bad : false ≡ true = sym w ∙ whole in
    cc

-- where room alone is lacking, more room helps
bracket_never : (make : Text → Head) (p : Place) (s : State) → bracket_step make p s ≡ Err TooMany → ⊥
bracket_never make places.Start s e = cc
bracket_never make places.Next s e = cc
bracket_never make places.Value s e = cc
bracket_never make places.AfterField s e = cc
bracket_never make places.After s e = cc
bracket_never make places.Type s e = cc
bracket_never make (places.Bracket text) s e = cc

name_never : (p : Place) (text : Text) (s : State) → name_step p text s ≡ Err TooMany → ⊥
name_never places.Start text s e = cc
name_never places.Next text s e = cc
name_never places.Value text s e = cc
name_never places.AfterField text s e = cc
name_never places.After text s e = cc
name_never places.Type text s e = cc
name_never (places.Bracket text') text s e = cc

closed_never : (fs : List Frame) (s : State) → closed fs s ≡ Err TooMany → ⊥
closed_never [] s e = cc
closed_never (f ∷ fs) s e = cc

end_never : (fits : Bool) (s : State) → end_step fits s ≡ Err TooMany → ⊥
end_never fits s e = elim (err_is (may_end s.place s.frame.keyed && fits) (closed s.under s) (Err Bad) TooMany e) [ inl x ↦ closed_never s.under s x.1 | inr x ↦ cc ]

if_never : (b : Bool) (t : State) → (if b then Ok t else Err Bad) ≡ Err TooMany → ⊥
if_never true t e = cc
if_never false t e = cc

pub record WithRoom (bound : ℕ) (s : State) (e : Element) : Type 0 where
  pub next : State
  pub is : step (bound + suc (length s.nodes)) s e ≡ Ok next

room_helps : (bound : ℕ) (s t : State) → room (bound + suc (length s.nodes)) s t ≡ Ok t
room_helps bound s t = rw (lt-ltb (length s.nodes) (bound + suc (length s.nodes)) (omega arith)) refl

pub with_room : (bound : ℕ) (s : State) (e : Element) → step bound s e ≡ Err TooMany → WithRoom bound s e
with_room bound s (Plain v) h = absurd (if_never (wants_value s.place s.frame.head) (gives v s) h)
with_room bound s (Words text) h = elim (err_is (wants_value s.place s.frame.head) (Ok (gives (values.Text text) s)) (name_step s.place text s) TooMany h) [ inl x ↦ cc | inr x ↦ absurd (name_never s.place text s x.1) ]
with_room bound s (Reference k) h = elim (err_is (wants_value s.place s.frame.head) (reference_step k s) (Err Bad) TooMany h) [
  | inl x ↦ elim (err_is (nat_lt k (length s.nodes)) (Ok (gives (values.Node k) s)) (Err (Unknown k)) TooMany x.1) [ inl y ↦ cc | inr y ↦ cc ]
  | inr x ↦ cc
]
with_room bound s (Sign BeginList) h = elim (err_is (wants_value s.place s.frame.head) (room bound s (opens (heads.List None) s)) (bracket_step typed_list s.place s) TooMany h) [
  | inl x ↦ record { next = opens (heads.List None) s; is = rw x.0 (room_helps bound s (opens (heads.List None) s)) }
  | inr x ↦ absurd (bracket_never typed_list s.place s x.1)
]
with_room bound s (Sign EndList) h = absurd (end_never (is_list s.frame.head) s h)
with_room bound s (Sign BeginMap) h = elim (err_is (wants_value s.place s.frame.head) (room bound s (opens (heads.Map None) s)) (bracket_step typed_map s.place s) TooMany h) [
  | inl x ↦ record { next = opens (heads.Map None) s; is = rw x.0 (room_helps bound s (opens (heads.Map None) s)) }
  | inr x ↦ absurd (bracket_never typed_map s.place s x.1)
]
with_room bound s (Sign EndMap) h = absurd (end_never (is_map s.frame.head) s h)
with_room bound s (Sign BeginFields) h = absurd (bracket_never typed_object s.place s h)
with_room bound s (Sign EndFields) h = absurd (end_never (is_object s.frame.head) s h)
with_room bound s (Sign Comma) h = absurd (if_never (may_go_on s.place s.frame.keyed) (goes_to places.Next s) h)
with_room bound s (Sign Colon) h = absurd (if_never (wants_colon s.place s.frame.keyed) (goes_to places.Value s) h)
with_room bound s (Sign Named) h = elim (err_is (wants_value s.place s.frame.head) (room bound s (goes_to places.Type s)) (Err Bad) TooMany h) [
  | inl x ↦ record { next = goes_to places.Type s; is = rw x.0 (room_helps bound s (goes_to places.Type s)) }
  | inr x ↦ cc
]

-- a node that hasn't begun is named only by a reference, where a value may stand
pub record ForwardStep (s : State) (e : Element) (k : ℕ) : Type 0 where
  pub is : e ≡ Reference k
  pub wants : wants_value s.place s.frame.head ≡ true

name_no_node : (p : Place) (text : Text) (s : State) (k : ℕ) → name_step p text s ≡ Err (Unknown k) → ⊥
name_no_node places.Start text s k e = cc
name_no_node places.Next text s k e = cc
name_no_node places.Value text s k e = cc
name_no_node places.AfterField text s k e = cc
name_no_node places.After text s k e = cc
name_no_node places.Type text s k e = cc
name_no_node (places.Bracket text') text s k e = cc

bracket_no_node : (make : Text → Head) (p : Place) (s : State) (k : ℕ) → bracket_step make p s ≡ Err (Unknown k) → ⊥
bracket_no_node make places.Start s k e = cc
bracket_no_node make places.Next s k e = cc
bracket_no_node make places.Value s k e = cc
bracket_no_node make places.AfterField s k e = cc
bracket_no_node make places.After s k e = cc
bracket_no_node make places.Type s k e = cc
bracket_no_node make (places.Bracket text) s k e = cc

closed_no_node : (fs : List Frame) (s : State) (k : ℕ) → closed fs s ≡ Err (Unknown k) → ⊥
closed_no_node [] s k e = cc
closed_no_node (f ∷ fs) s k e = cc

if_no_node : (b : Bool) (t : State) (k : ℕ) → (if b then Ok t else Err Bad) ≡ Err (Unknown k) → ⊥
if_no_node true t k e = cc
if_no_node false t k e = cc

end_no_node : (fits : Bool) (s : State) (k : ℕ) → end_step fits s ≡ Err (Unknown k) → ⊥
end_no_node fits s k e = elim (err_is (may_end s.place s.frame.keyed && fits) (closed s.under s) (Err Bad) (Unknown k) e) [ inl x ↦ closed_no_node s.under s k x.1 | inr x ↦ cc ]

room_no_node : (bound : ℕ) (s t : State) (k : ℕ) → room bound s t ≡ Err (Unknown k) → ⊥
room_no_node bound s t k e = let bad : Unknown k ≡ TooMany = no_room bound s t (Unknown k) e in cc

pub forward_step : (bound : ℕ) (s : State) (e : Element) (k : ℕ) → step bound s e ≡ Err (Unknown k) → ForwardStep s e k
forward_step bound s (Plain v) k h = absurd (if_no_node (wants_value s.place s.frame.head) (gives v s) k h)
forward_step bound s (Words text) k h = elim (err_is (wants_value s.place s.frame.head) (Ok (gives (values.Text text) s)) (name_step s.place text s) (Unknown k) h) [ inl x ↦ cc | inr x ↦ absurd (name_no_node s.place text s k x.1) ]
forward_step bound s (Reference n) k h = elim (err_is (wants_value s.place s.frame.head) (reference_step n s) (Err Bad) (Unknown k) h) [
  | inl x ↦ elim (err_is (nat_lt n (length s.nodes)) (Ok (gives (values.Node n) s)) (Err (Unknown n)) (Unknown k) x.1) [
    | inl y ↦ cc
    | inr y ↦ let same : n ≡ k = cc in record { is = ap Reference same; wants = x.0 }
  ]
  | inr x ↦ cc
]
forward_step bound s (Sign BeginList) k h = elim (err_is (wants_value s.place s.frame.head) (room bound s (opens (heads.List None) s)) (bracket_step typed_list s.place s) (Unknown k) h) [ inl x ↦ absurd (room_no_node bound s (opens (heads.List None) s) k x.1) | inr x ↦ absurd (bracket_no_node typed_list s.place s k x.1) ]
forward_step bound s (Sign EndList) k h = absurd (end_no_node (is_list s.frame.head) s k h)
forward_step bound s (Sign BeginMap) k h = elim (err_is (wants_value s.place s.frame.head) (room bound s (opens (heads.Map None) s)) (bracket_step typed_map s.place s) (Unknown k) h) [ inl x ↦ absurd (room_no_node bound s (opens (heads.Map None) s) k x.1) | inr x ↦ absurd (bracket_no_node typed_map s.place s k x.1) ]
forward_step bound s (Sign EndMap) k h = absurd (end_no_node (is_map s.frame.head) s k h)
forward_step bound s (Sign BeginFields) k h = absurd (bracket_no_node typed_object s.place s k h)
forward_step bound s (Sign EndFields) k h = absurd (end_no_node (is_object s.frame.head) s k h)
forward_step bound s (Sign Comma) k h = absurd (if_no_node (may_go_on s.place s.frame.keyed) (goes_to places.Next s) k h)
forward_step bound s (Sign Colon) k h = absurd (if_no_node (wants_colon s.place s.frame.keyed) (goes_to places.Value s) k h)
forward_step bound s (Sign Named) k h = elim (err_is (wants_value s.place s.frame.head) (room bound s (goes_to places.Type s)) (Err Bad) (Unknown k) h) [ inl x ↦ absurd (room_no_node bound s (goes_to places.Type s) k x.1) | inr x ↦ cc ]
