-- What is read to its end is spelled.
use Rattle.std.proofs.Common.{◌≡◌, ℕ, zero, suc, ◌+◌, ◌<◌, ◌≤◌, Bool, true, false, List, [], ◌∷◌, ◌++◌, length, set, refl, ap, sym, ◌∙◌, subst, arith, inl, inr, ◌⊎◌, append_assoc, length-append}
use Rattle.std.specs.Prelude.{nat_lt, ◌&&◌, not, if◌then◌else◌, Some, None, Ok, Err}
use Rattle.std.proofs.lemmas.Bool.{and_parts, ltb-true}
use Rattle.std.proofs.lemmas.List.{append-nil}
use Rattle.hessian_graph.specs.declared.value.Value.{Value}
use Rattle.hessian_graph.specs.declared.value.Value.TheVariants as values
use Rattle.hessian_graph.specs.Shape.{Text, NodeShape, no_node}
use Rattle.graph_notation.specs.declared.element.Mark.TheVariants.{BeginList, EndList, BeginMap, EndMap, BeginFields, EndFields, Comma, Colon, Named}
use Rattle.graph_notation.specs.declared.element.Element.{Element}
use Rattle.graph_notation.specs.declared.element.Element.TheVariants.{Plain, Words, Reference, Sign}
use Rattle.graph_notation.specs.declared.frame.Head.{Head}
use Rattle.graph_notation.specs.declared.frame.Head.TheVariants as heads
use Rattle.graph_notation.specs.declared.frame.Frame.{Frame}
use Rattle.graph_notation.specs.declared.frame.Place.{Place}
use Rattle.graph_notation.specs.declared.frame.Place.TheVariants as places
use Rattle.graph_notation.specs.declared.frame.Cause.TheVariants.{Bad, Unknown}
use Rattle.graph_notation.specs.Forms.{Form, Items, Pairs, Fields, Brackets, Spells, Entry, Joined, Entries}
use Rattle.graph_notation.specs.Forms.Brackets.{list as list_row, typed_list as typed_list_row, map as map_row, typed_map as typed_map_row, object as object_row}
use Rattle.graph_notation.specs.Forms.Spells.{plain as plain_row, words as words_row, reference as reference_row, node as node_row}
use Rattle.graph_notation.specs.Forms.Entry.{item as item_row, pair as pair_row, field as field_row}
use Rattle.graph_notation.specs.Forms.Joined.{last as last_row, more as more_row}
use Rattle.graph_notation.specs.Forms.Entries.{none as none_row, some as some_row}
use Rattle.graph_notation.specs.Machine.{State, new_frame, kind_of, shown, fed, opens, goes_to, closed, wants_value, may_end, may_go_on, wants_colon, is_list, is_map, is_object, room, run, and_then, end_step, bracket_step, typed_object}
use Rattle.graph_notation.proofs.Stages.{at, form_of, grown, set_there, goes}
use Rattle.graph_notation.proofs.Forward.{IsOpen, item_fed, pair_fed, key_waits, with_name, field_fed, grown_none, grown_more, wants_item, wants_key, wants_name}
use Rattle.graph_notation.proofs.Nexts.{AllForms, Done, stepped, ok_is, unequal, chosen, roomed, IsNoEnd, end_of, refused, not_done, not_inside, colon_after_field, colon_after_key, keyed, unkeyed, NoComma, comma_or_not, EndNext, end_next, end_after, ends_list, ends_map, ends_object, prefix_of, head_next}

-- a value that was read at the front
pub record ValueRead (bound : ℕ) (nodes : List NodeShape) (f : Frame) (under : List Frame) (es : List Element) (t : State) : Type 0 where
  pub v : Value
  pub seg : List NodeShape
  pub front : List Element
  pub rest : List Element
  pub is : es ≡ front ++ rest
  pub spelled : Spells v (length nodes) seg front
  pub goes_on : run bound (at (nodes ++ seg) (fed v f) under places.After) rest ≡ Ok t
  pub fewer : length rest < length es
  pub forms : AllForms rest

-- an entry that was read at the front
pub record EntryRead (bound : ℕ) (nodes : List NodeShape) (f : Frame) (under : List Frame) (es : List Element) (t : State) : Type 0 where
  pub names : List Text
  pub vs : List Value
  pub seg : List NodeShape
  pub front : List Element
  pub rest : List Element
  pub is : es ≡ front ++ rest
  pub spelled : Entry (form_of f.head) names vs (length nodes) seg front
  pub goes_on : run bound (at (nodes ++ seg) (grown names vs f) under places.After) rest ≡ Ok t
  pub fewer : length rest < length es
  pub forms : AllForms rest

-- entries that were read at the front, so many as come
pub record JoinedRead (bound : ℕ) (nodes : List NodeShape) (f : Frame) (under : List Frame) (es : List Element) (t : State) : Type 0 where
  pub names : List Text
  pub vs : List Value
  pub seg : List NodeShape
  pub front : List Element
  pub rest : List Element
  pub is : es ≡ front ++ rest
  pub spelled : Joined (form_of f.head) names vs (length nodes) seg front
  pub goes_on : run bound (at (nodes ++ seg) (grown names vs f) under places.After) rest ≡ Ok t
  pub fewer : length rest < length es
  pub forms : AllForms rest
  pub ends : NoComma rest

-- the entries of a node and its end that were read at the front
pub record NodeRead (bound : ℕ) (nodes : List NodeShape) (f g : Frame) (under : List Frame) (es : List Element) (t : State) : Type 0 where
  pub names : List Text
  pub vs : List Value
  pub seg : List NodeShape
  pub front : List Element
  pub rest : List Element
  pub is : es ≡ front ++ (end_of f.head ∷ rest)
  pub spelled : Entries (form_of f.head) names vs (length nodes) seg front
  pub goes_on : run bound (at (set (nodes ++ seg) f.number (shown (grown names vs f))) g under places.After) rest ≡ Ok t
  pub fewer : length rest < length es
  pub forms : AllForms rest

-- values are read from so few elements
abbrev pub ReadsBelow : ℕ → ℕ → Type 0
ReadsBelow bound k = (nodes : List NodeShape) (f : Frame) (under : List Frame) (place : Place) (e : Element) (es : List Element) (t : State) → wants_value place f.head ≡ true → (may_end place f.keyed ≡ true → IsNoEnd e) → run bound (at nodes f under place) (e ∷ es) ≡ Ok t → Done t → AllForms (e ∷ es) → length es < k → ValueRead bound nodes f under (e ∷ es) t

-- the value behind a colon
colon_value : (bound k : ℕ) → ReadsBelow bound k → (nodes : List NodeShape) (f : Frame) (under : List Frame) (tail : List Element) (t : State) → run bound (at nodes f under places.Value) tail ≡ Ok t → Done t → AllForms tail → length tail ≤ k → ValueRead bound nodes f under tail t
colon_value bound k reads nodes f under [] t h done a low = not_done (at nodes f under places.Value) t h done refl
colon_value bound k reads nodes f under (e ∷ es) t h done a low = reads nodes f under places.Value e es t refl (λ x. unequal x) h done a (omega arith)

-- a key and its value
pair_read : (bound k : ℕ) → ReadsBelow bound k → (nodes : List NodeShape) (f : Frame) (under : List Frame) (place : Place) (e : Element) (es : List Element) (t : State) → form_of f.head ≡ Pairs → f.keyed ≡ false → IsOpen place → (may_end place f.keyed ≡ true → IsNoEnd e) → run bound (at nodes f under place) (e ∷ es) ≡ Ok t → Done t → AllForms (e ∷ es) → length es < k → EntryRead bound nodes f under (e ∷ es) t
pair_read bound k reads nodes f under place e es t form free open' start h done a low =
    let key = reads nodes f under place e es t (wants_key place f.head open' form) start h done a low in
    let nodes1 : List NodeShape = nodes ++ key.seg in
    let waits : fed key.v f ≡ keyed (fed key.v f) = ap (λ x. record (fed key.v f) { keyed = x }) (key_waits key.v f form free) in
    let colon = colon_after_key bound nodes1 (fed key.v f) under key.rest t (subst (λ x. run bound (at nodes1 x under places.After) key.rest ≡ Ok t) waits key.goes_on) done key.forms in
    let shorter : length key.rest ≡ suc (length colon.tail) = ap length colon.is in
    let few = key.fewer in
    let v = colon_value bound k reads nodes1 (keyed (fed key.v f)) under colon.tail t colon.rest done colon.forms (omega (arith, few)) in
    let fewer = v.fewer in
    let many : length nodes1 ≡ length nodes + length key.seg = length-append nodes key.seg in
    record {
      names = [];
      vs = key.v ∷ v.v ∷ [];
      seg = key.seg ++ v.seg;
      front = key.front ++ (Sign Colon ∷ v.front);
      rest = v.rest;
      is = key.is ∙ ap (λ x. key.front ++ x) (colon.is ∙ ap (λ x. Sign Colon ∷ x) v.is) ∙ sym (append_assoc key.front (Sign Colon ∷ v.front) v.rest);
      spelled = subst (λ x. Entry x [] (key.v ∷ v.v ∷ []) (length nodes) (key.seg ++ v.seg) (key.front ++ (Sign Colon ∷ v.front))) (sym form) (pair_row key.v v.v (length nodes) key.seg v.seg key.front v.front key.spelled (subst (λ n. Spells v.v n v.seg v.front) many v.spelled));
      goes_on = subst (λ ns. run bound (at ns (grown [] (key.v ∷ v.v ∷ []) f) under places.After) v.rest ≡ Ok t) (append_assoc nodes key.seg v.seg)
          (subst (λ x. run bound (at (nodes1 ++ v.seg) x under places.After) v.rest ≡ Ok t) (pair_fed key.v v.v f form free)
          (subst (λ x. run bound (at (nodes1 ++ v.seg) (fed v.v x) under places.After) v.rest ≡ Ok t) (sym waits) v.goes_on));
      fewer = omega (arith, shorter, few, fewer);
      forms = v.forms;
    }

item_read : (bound k : ℕ) → ReadsBelow bound k → (nodes : List NodeShape) (f : Frame) (under : List Frame) (place : Place) (e : Element) (es : List Element) (t : State) → form_of f.head ≡ Items → f.keyed ≡ false → IsOpen place → (may_end place f.keyed ≡ true → IsNoEnd e) → run bound (at nodes f under place) (e ∷ es) ≡ Ok t → Done t → AllForms (e ∷ es) → length es < k → EntryRead bound nodes f under (e ∷ es) t
item_read bound k reads nodes f under place e es t form free open' start h done a low =
    let v = reads nodes f under place e es t (wants_item place f.head open' form) start h done a low in
    record {
      names = [];
      vs = v.v ∷ [];
      seg = v.seg;
      front = v.front;
      rest = v.rest;
      is = v.is;
      spelled = subst (λ x. Entry x [] (v.v ∷ []) (length nodes) v.seg v.front) (sym form) (item_row v.v (length nodes) v.seg v.front v.spelled);
      goes_on = subst (λ x. run bound (at (nodes ++ v.seg) x under places.After) v.rest ≡ Ok t) (item_fed v.v f form free) v.goes_on;
      fewer = v.fewer;
      forms = v.forms;
    }

-- what follows a field's name
field_rest : (bound k : ℕ) → ReadsBelow bound k → (nodes : List NodeShape) (f : Frame) (under : List Frame) (name : Text) (es : List Element) (t : State) → form_of f.head ≡ Fields → f.keyed ≡ false → run bound (at nodes (with_name name f) under places.AfterField) es ≡ Ok t → Done t → AllForms es → length es < k → EntryRead bound nodes f under (Words name ∷ es) t
field_rest bound k reads nodes f under name es t form free h done a low =
    let colon = colon_after_field bound nodes (with_name name f) under es t h done a in
    let shorter : length es ≡ suc (length colon.tail) = ap length colon.is in
    let v = colon_value bound k reads nodes (with_name name f) under colon.tail t colon.rest done colon.forms (omega arith) in
    let fewer = v.fewer in
    record {
      names = name ∷ [];
      vs = v.v ∷ [];
      seg = v.seg;
      front = Words name ∷ Sign Colon ∷ v.front;
      rest = v.rest;
      is = ap (λ x. Words name ∷ x) (colon.is ∙ ap (λ x. Sign Colon ∷ x) v.is);
      spelled = subst (λ x. Entry x (name ∷ []) (v.v ∷ []) (length nodes) v.seg (Words name ∷ Sign Colon ∷ v.front)) (sym form) (field_row name v.v (length nodes) v.seg v.front v.spelled);
      goes_on = subst (λ x. run bound (at (nodes ++ v.seg) x under places.After) v.rest ≡ Ok t) (field_fed name v.v f form free) v.goes_on;
      fewer = omega (arith, shorter, fewer);
      forms = v.forms;
    }

-- in an object's brackets a name comes first
only_name : (bound k : ℕ) → ReadsBelow bound k → (nodes : List NodeShape) (f : Frame) (under : List Frame) (place : Place) (e : Element) (es : List Element) (t : State) → form_of f.head ≡ Fields → f.keyed ≡ false → (place ≡ places.Start) ⊎ (place ≡ places.Next) → (may_end place f.keyed ≡ true → IsNoEnd e) → run bound (at nodes f under place) (e ∷ es) ≡ Ok t → Done t → AllForms (e ∷ es) → length es < k → EntryRead bound nodes f under (e ∷ es) t
only_name bound k reads nodes f under place e es t form free (inl p) start h done a low =
    let w : wants_value places.Start f.head ≡ false = wants_name places.Start f.head (inl refl) form in
    at_start w e (λ x. subst (λ q. may_end q f.keyed ≡ true → IsNoEnd e) p start x) (subst (λ q. run bound (at nodes f under q) (e ∷ es) ≡ Ok t) p h) a
  where
    no_end : (fits : Bool) → (may_end places.Start f.keyed ≡ true → ⊥) → and_then (end_step fits (at nodes f under places.Start)) (λ x. run bound x es) ≡ Ok t → EntryRead bound nodes f under (e ∷ es) t
    no_end fits never h = let k : may_end places.Start f.keyed ≡ true = ap not free in absurd (never k)

    at_start : wants_value places.Start f.head ≡ false → (e : Element) → (may_end places.Start f.keyed ≡ true → IsNoEnd e) → run bound (at nodes f under places.Start) (e ∷ es) ≡ Ok t → AllForms (e ∷ es) → EntryRead bound nodes f under (e ∷ es) t
    at_start w (Plain v) start h a = let bad = rw w at h in cc
    at_start w (Words text) start h a = let good = rw w at h in field_rest bound k reads nodes f under text es t form free good done a.1 low
    at_start w (Reference n) start h a = let bad = rw w at h in cc
    at_start w (Sign BeginList) start h a = let bad = rw w at h in cc
    at_start w (Sign EndList) start h a = absurd (start (ap not free))
    at_start w (Sign BeginMap) start h a = let bad = rw w at h in cc
    at_start w (Sign EndMap) start h a = absurd (start (ap not free))
    at_start w (Sign BeginFields) start h a = cc
    at_start w (Sign EndFields) start h a = absurd (start (ap not free))
    at_start w (Sign Comma) start h a = cc
    at_start w (Sign Colon) start h a = cc
    at_start w (Sign Named) start h a = let bad = rw w at h in cc
only_name bound k reads nodes f under place e es t form free (inr p) start h done a low =
    let w : wants_value places.Next f.head ≡ false = wants_name places.Next f.head (inr refl) form in
    at_next w e (subst (λ q. run bound (at nodes f under q) (e ∷ es) ≡ Ok t) p h) a
  where
    at_next : wants_value places.Next f.head ≡ false → (e : Element) → run bound (at nodes f under places.Next) (e ∷ es) ≡ Ok t → AllForms (e ∷ es) → EntryRead bound nodes f under (e ∷ es) t
    at_next w (Plain v) h a = let bad = rw w at h in cc
    at_next w (Words text) h a = let good = rw w at h in field_rest bound k reads nodes f under text es t form free good done a.1 low
    at_next w (Reference n) h a = let bad = rw w at h in cc
    at_next w (Sign BeginList) h a = let bad = rw w at h in cc
    at_next w (Sign EndList) h a = cc
    at_next w (Sign BeginMap) h a = let bad = rw w at h in cc
    at_next w (Sign EndMap) h a = cc
    at_next w (Sign BeginFields) h a = cc
    at_next w (Sign EndFields) h a = cc
    at_next w (Sign Comma) h a = cc
    at_next w (Sign Colon) h a = cc
    at_next w (Sign Named) h a = let bad = rw w at h in cc

entry_read : (bound k : ℕ) → ReadsBelow bound k → (nodes : List NodeShape) (f : Frame) (under : List Frame) (place : Place) (e : Element) (es : List Element) (t : State) → f.keyed ≡ false → IsOpen place → (may_end place f.keyed ≡ true → IsNoEnd e) → run bound (at nodes f under place) (e ∷ es) ≡ Ok t → Done t → AllForms (e ∷ es) → length es < k → EntryRead bound nodes f under (e ∷ es) t
entry_read bound k reads nodes f under place e es t free open' start h done a low = by_form (form_of f.head) refl
  where
    by_form : (form : Form) → form_of f.head ≡ form → EntryRead bound nodes f under (e ∷ es) t
    by_form Items form = item_read bound k reads nodes f under place e es t form free open' start h done a low
    by_form Pairs form = pair_read bound k reads nodes f under place e es t form free open' start h done a low
    by_form Fields form = only_name bound k reads nodes f under place e es t form free open' start h done a low

-- entries are read from so few elements
abbrev pub JoinsBelow : ℕ → ℕ → Type 0
JoinsBelow bound m = (nodes : List NodeShape) (f : Frame) (under : List Frame) (place : Place) (e : Element) (es : List Element) (t : State) → f.keyed ≡ false → IsOpen place → (may_end place f.keyed ≡ true → IsNoEnd e) → run bound (at nodes f under place) (e ∷ es) ≡ Ok t → Done t → AllForms (e ∷ es) → length es < m → JoinedRead bound nodes f under (e ∷ es) t

-- entries up to what is no comma
pub joined_read : (m bound k : ℕ) → m ≤ k → ReadsBelow bound k → (nodes : List NodeShape) (f : Frame) (under : List Frame) (place : Place) (e : Element) (es : List Element) (t : State) → f.keyed ≡ false → IsOpen place → (may_end place f.keyed ≡ true → IsNoEnd e) → run bound (at nodes f under place) (e ∷ es) ≡ Ok t → Done t → AllForms (e ∷ es) → length es < m → JoinedRead bound nodes f under (e ∷ es) t
joined_read zero bound k below reads nodes f under place e es t free open' start h done a low = absurd (omega arith)
joined_read (suc m) bound k below reads nodes f under place e es t free open' start h done a low =
    let x = entry_read bound k reads nodes f under place e es t free open' start h done a (omega arith) in
    elim (comma_or_not x.rest) [
      | inl c ↦ on (joined_read m bound k (omega arith) reads) x c.0 c.1
      | inr ends ↦ record {
        names = x.names;
        vs = x.vs;
        seg = x.seg;
        front = x.front;
        rest = x.rest;
        is = x.is;
        spelled = last_row (form_of f.head) x.names x.vs (length nodes) x.seg x.front x.spelled;
        goes_on = x.goes_on;
        fewer = x.fewer;
        forms = x.forms;
        ends = ends;
      }
    ]
  where
    on : JoinsBelow bound m → (x : EntryRead bound nodes f under (e ∷ es) t) (tail : List Element) → x.rest ≡ Sign Comma ∷ tail → JoinedRead bound nodes f under (e ∷ es) t
    on again x [] c = let after : run bound (at (nodes ++ x.seg) (grown x.names x.vs f) under places.After) (Sign Comma ∷ []) ≡ Ok t = subst (λ y. run bound (at (nodes ++ x.seg) (grown x.names x.vs f) under places.After) y ≡ Ok t) c x.goes_on in
        let after' : run bound (at (nodes ++ x.seg) (grown x.names x.vs f) under places.Next) [] ≡ Ok t = sym (goes bound (at (nodes ++ x.seg) (grown x.names x.vs f) under places.After) (at (nodes ++ x.seg) (grown x.names x.vs f) under places.Next) (Sign Comma) [] (rw free refl)) ∙ after in
        not_done (at (nodes ++ x.seg) (grown x.names x.vs f) under places.Next) t after' done refl
    on again x (e' ∷ es') c =
        let nodes1 : List NodeShape = nodes ++ x.seg in
        let f1 : Frame = grown x.names x.vs f in
        let after : run bound (at nodes1 f1 under places.After) (Sign Comma ∷ e' ∷ es') ≡ Ok t = subst (λ y. run bound (at nodes1 f1 under places.After) y ≡ Ok t) c x.goes_on in
        let after' : run bound (at nodes1 f1 under places.Next) (e' ∷ es') ≡ Ok t = sym (goes bound (at nodes1 f1 under places.After) (at nodes1 f1 under places.Next) (Sign Comma) (e' ∷ es') (rw free refl)) ∙ after in
        let shorter : length x.rest ≡ suc (suc (length es')) = ap length c in
        let few = x.fewer in
        let forms = subst AllForms c x.forms in
        let y = again nodes1 f1 under places.Next e' es' t free (inr refl) (λ z. unequal z) after' done forms.1 (omega (arith, shorter, few)) in
        let fewer = y.fewer in
        let many : length nodes1 ≡ length nodes + length x.seg = length-append nodes x.seg in
        record {
          names = x.names ++ y.names;
          vs = x.vs ++ y.vs;
          seg = x.seg ++ y.seg;
          front = x.front ++ (Sign Comma ∷ y.front);
          rest = y.rest;
          is = x.is ∙ ap (λ z. x.front ++ z) (c ∙ ap (λ z. Sign Comma ∷ z) y.is) ∙ sym (append_assoc x.front (Sign Comma ∷ y.front) y.rest);
          spelled = more_row (form_of f.head) x.names y.names x.vs y.vs (length nodes) x.seg y.seg x.front y.front x.spelled (subst (λ n. Joined (form_of f.head) y.names y.vs n y.seg y.front) many y.spelled);
          goes_on = subst (λ ns. run bound (at ns (grown (x.names ++ y.names) (x.vs ++ y.vs) f) under places.After) y.rest ≡ Ok t) (append_assoc nodes x.seg y.seg)
              (subst (λ z. run bound (at (nodes1 ++ y.seg) z under places.After) y.rest ≡ Ok t) (grown_more x.names y.names x.vs y.vs f) y.goes_on);
          fewer = omega (arith, shorter, few, fewer);
          forms = y.forms;
          ends = y.ends;
        }

-- an end at once
ends_at_once : (bound : ℕ) (nodes : List NodeShape) (f g : Frame) (under : List Frame) (es : List Element) (t : State) → EndNext bound nodes f g under es t → NodeRead bound nodes f g under es t
ends_at_once bound nodes f g under es t x =
    let shorter : length es ≡ suc (length x.tail) = ap length x.is in
    record {
      names = [];
      vs = [];
      seg = [];
      front = [];
      rest = x.tail;
      is = x.is;
      spelled = none_row (form_of f.head) (length nodes);
      goes_on = subst (λ z. run bound (at (set (nodes ++ []) f.number (shown z)) g under places.After) x.tail ≡ Ok t) (sym (grown_none f)) (subst (λ ns. run bound (at (set ns f.number (shown f)) g under places.After) x.tail ≡ Ok t) (sym (append-nil nodes)) x.rest);
      fewer = omega (arith, shorter);
      forms = x.forms;
    }

-- entries, and then the end
ends_after : (bound k : ℕ) → ReadsBelow bound k → (nodes : List NodeShape) (f g : Frame) (under : List Frame) (e : Element) (es : List Element) (t : State) → f.keyed ≡ false → IsNoEnd e → run bound (at nodes f (g ∷ under) places.Start) (e ∷ es) ≡ Ok t → Done t → AllForms (e ∷ es) → length es < k → NodeRead bound nodes f g under (e ∷ es) t
ends_after bound k reads nodes f g under e es t free start h done a low =
    let x = joined_read k bound k (omega arith) reads nodes f (g ∷ under) places.Start e es t free (inl refl) (λ z. start) h done a low in
    let f1 : Frame = grown x.names x.vs f in
    let loose : f1 ≡ unkeyed f1 = ap (λ z. record f1 { keyed = z }) free in
    let y = end_after bound (nodes ++ x.seg) f1 g under x.rest t (subst (λ z. run bound (at (nodes ++ x.seg) z (g ∷ under) places.After) x.rest ≡ Ok t) loose x.goes_on) done x.forms x.ends in
    let shorter : length x.rest ≡ suc (length y.tail) = ap length y.is in
    let fewer = x.fewer in
    record {
      names = x.names;
      vs = x.vs;
      seg = x.seg;
      front = x.front;
      rest = y.tail;
      is = x.is ∙ ap (λ z. x.front ++ z) y.is;
      spelled = some_row (form_of f.head) x.names x.vs (length nodes) x.seg x.front x.spelled;
      goes_on = y.rest;
      fewer = omega (arith, shorter, fewer);
      forms = y.forms;
    }

node_read : (bound k : ℕ) → ReadsBelow bound k → (nodes : List NodeShape) (f g : Frame) (under : List Frame) (es : List Element) (t : State) → f.keyed ≡ false → run bound (at nodes f (g ∷ under) places.Start) es ≡ Ok t → Done t → AllForms es → length es ≤ k → NodeRead bound nodes f g under es t
node_read bound k reads nodes f g under [] t free h done a low = not_inside nodes f g under places.Start t h done
node_read bound k reads nodes f g under (Plain v ∷ es) t free h done a low = ends_after bound k reads nodes f g under (Plain v) es t free tt h done a (omega arith)
node_read bound k reads nodes f g under (Words text ∷ es) t free h done a low = ends_after bound k reads nodes f g under (Words text) es t free tt h done a (omega arith)
node_read bound k reads nodes f g under (Reference n ∷ es) t free h done a low = ends_after bound k reads nodes f g under (Reference n) es t free tt h done a (omega arith)
node_read bound k reads nodes f g under (Sign BeginList ∷ es) t free h done a low = ends_after bound k reads nodes f g under (Sign BeginList) es t free tt h done a (omega arith)
node_read bound k reads nodes f g under (Sign EndList ∷ es) t free h done a low = ends_at_once bound nodes f g under (Sign EndList ∷ es) t (end_next bound nodes f g under places.Start (Sign EndList) es t (ends_list bound nodes f g under places.Start) h a)
node_read bound k reads nodes f g under (Sign BeginMap ∷ es) t free h done a low = ends_after bound k reads nodes f g under (Sign BeginMap) es t free tt h done a (omega arith)
node_read bound k reads nodes f g under (Sign EndMap ∷ es) t free h done a low = ends_at_once bound nodes f g under (Sign EndMap ∷ es) t (end_next bound nodes f g under places.Start (Sign EndMap) es t (ends_map bound nodes f g under places.Start) h a)
node_read bound k reads nodes f g under (Sign BeginFields ∷ es) t free h done a low = ends_after bound k reads nodes f g under (Sign BeginFields) es t free tt h done a (omega arith)
node_read bound k reads nodes f g under (Sign EndFields ∷ es) t free h done a low = ends_at_once bound nodes f g under (Sign EndFields ∷ es) t (end_next bound nodes f g under places.Start (Sign EndFields) es t (ends_object bound nodes f g under places.Start) h a)
node_read bound k reads nodes f g under (Sign Comma ∷ es) t free h done a low = ends_after bound k reads nodes f g under (Sign Comma) es t free tt h done a (omega arith)
node_read bound k reads nodes f g under (Sign Colon ∷ es) t free h done a low = ends_after bound k reads nodes f g under (Sign Colon) es t free tt h done a (omega arith)
node_read bound k reads nodes f g under (Sign Named ∷ es) t free h done a low = ends_after bound k reads nodes f g under (Sign Named) es t free tt h done a (omega arith)

-- lists and maps have no field names
entry_unnamed : {form : Form} {names : List Text} {vs : List Value} {n : ℕ} {seg : List NodeShape} {es : List Element} → Entry form names vs n seg es → (form ≡ Fields → ⊥) → names ≡ []
entry_unnamed (item_row v n seg es s) never = refl
entry_unnamed (pair_row key v n first second front back s1 s2) never = refl
entry_unnamed (field_row name v n seg es s) never = absurd (never refl)

joined_unnamed : {form : Form} {names : List Text} {vs : List Value} {n : ℕ} {seg : List NodeShape} {es : List Element} → Joined form names vs n seg es → (form ≡ Fields → ⊥) → names ≡ []
joined_unnamed (last_row form names vs n seg es x) never = entry_unnamed x never
joined_unnamed (more_row form names names' vs vs' n first second front back x y) never = let a : names ≡ [] = entry_unnamed x never in let b : names' ≡ [] = joined_unnamed y never in rw (a, b) refl

pub unnamed : {form : Form} {names : List Text} {vs : List Value} {n : ℕ} {seg : List NodeShape} {es : List Element} → Entries form names vs n seg es → (form ≡ Fields → ⊥) → names ≡ []
unnamed (none_row form n) never = refl
unnamed (some_row form names vs n seg es x) never = joined_unnamed x never

row_of : (h : Head) (names : List Text) → ((form_of h ≡ Fields → ⊥) → names ≡ []) → Brackets (kind_of h names) (prefix_of h) (form_of h) names (end_of h)
row_of (heads.List None) names e = let none : names ≡ [] = e (λ z. cc) in rw none list_row
row_of (heads.List (Some type)) names e = let none : names ≡ [] = e (λ z. cc) in rw none (typed_list_row type)
row_of (heads.Map None) names e = let none : names ≡ [] = e (λ z. cc) in rw none map_row
row_of (heads.Map (Some type)) names e = let none : names ≡ [] = e (λ z. cc) in rw none (typed_map_row type)
row_of (heads.Object name) names e = object_row (record { name = name; fields = names })

-- a node, and so a value
node_value : (bound : ℕ) (nodes : List NodeShape) (f : Frame) (under : List Frame) (h : Head) (es : List Element) (t : State) → NodeRead bound (nodes ++ no_node ∷ []) (new_frame (length nodes) h) (fed (values.Node (length nodes)) f) under es t → AllForms es → ValueRead bound nodes f under (prefix_of h ++ es) t
node_value bound nodes f under h es t x a =
    let number : ℕ = length nodes in
    let shape : NodeShape = record { kind = kind_of h x.names; values = x.vs } in
    let many : length (nodes ++ no_node ∷ []) ≡ suc number = rw (length-append nodes (no_node ∷ [])) (omega arith) in
    let inside : Entries (form_of h) x.names x.vs (suc number) x.seg x.front = subst (λ n. Entries (form_of h) x.names x.vs n x.seg x.front) many x.spelled in
    let placed : set ((nodes ++ no_node ∷ []) ++ x.seg) number shape ≡ nodes ++ (shape ∷ x.seg) = set_there nodes x.seg no_node shape in
    let fewer = x.fewer in
    record {
      v = values.Node number;
      seg = shape ∷ x.seg;
      front = prefix_of h ++ (x.front ++ end_of h ∷ []);
      rest = x.rest;
      is = ap (λ z. prefix_of h ++ z) (x.is ∙ sym (append_assoc x.front (end_of h ∷ []) x.rest)) ∙ sym (append_assoc (prefix_of h) (x.front ++ end_of h ∷ []) x.rest);
      spelled = node_row number (kind_of h x.names) (form_of h) x.names (prefix_of h) (end_of h) x.vs x.seg x.front (row_of h x.names (unnamed inside)) inside;
      goes_on = subst (λ ns. run bound (at ns (fed (values.Node number) f) under places.After) x.rest ≡ Ok t) placed x.goes_on;
      fewer = let e : length (prefix_of h ++ es) ≡ length (prefix_of h) + length es = length-append (prefix_of h) es in omega (arith, e, fewer);
      forms = x.forms;
    }

-- a value of one element
one_value : (bound : ℕ) (nodes : List NodeShape) (f : Frame) (under : List Frame) (e : Element) (es : List Element) (t : State) (v : Value) → Spells v (length nodes) [] (e ∷ []) → run bound (at nodes (fed v f) under places.After) es ≡ Ok t → AllForms es → ValueRead bound nodes f under (e ∷ es) t
one_value bound nodes f under e es t v s h a = record {
  v = v;
  seg = [];
  front = e ∷ [];
  rest = es;
  is = refl;
  spelled = s;
  goes_on = subst (λ ns. run bound (at ns (fed v f) under places.After) es ≡ Ok t) (sym (append-nil nodes)) h;
  fewer = omega arith;
  forms = a;
}

no_comma_here : (place : Place) (h : Head) (k : Bool) → wants_value place h ≡ true → may_go_on place k ≡ false
no_comma_here places.Start h k w = refl
no_comma_here places.Next h k w = refl
no_comma_here places.Value h k w = refl
no_comma_here places.AfterField h k w = refl
no_comma_here places.After h k w = unequal w
no_comma_here places.Type h k w = refl
no_comma_here (places.Bracket text) h k w = refl

no_colon_here : (place : Place) (h : Head) (k : Bool) → wants_value place h ≡ true → wants_colon place k ≡ false
no_colon_here places.Start h k w = refl
no_colon_here places.Next h k w = refl
no_colon_here places.Value h k w = refl
no_colon_here places.AfterField h k w = unequal w
no_colon_here places.After h k w = unequal w
no_colon_here places.Type h k w = refl
no_colon_here (places.Bracket text) h k w = refl

no_bracket_here : (make : Text → Head) (place : Place) (h : Head) (s : State) → wants_value place h ≡ true → bracket_step make place s ≡ Err Bad
no_bracket_here make places.Start h s w = refl
no_bracket_here make places.Next h s w = refl
no_bracket_here make places.Value h s w = refl
no_bracket_here make places.AfterField h s w = refl
no_bracket_here make places.After h s w = refl
no_bracket_here make places.Type h s w = refl
no_bracket_here make (places.Bracket text) h s w = unequal w

no_end_mark : {A : Type 0} (bound : ℕ) (fits : Bool) (s : State) (es : List Element) (t : State) → (may_end s.place s.frame.keyed ≡ true → ⊥) → and_then (end_step fits s) (λ x. run bound x es) ≡ Ok t → A
no_end_mark bound fits s es t never h =
    let x = stepped bound (end_step fits s) es t h in
    absurd (elim (chosen (may_end s.place s.frame.keyed && fits) (closed s.under s) (Err Bad) x.u x.is) [ inl y ↦ never ((and_parts (may_end s.place s.frame.keyed) fits y.0).0) | inr y ↦ cc ])

-- where a node may begin it does
node_begins : (bound k : ℕ) → ReadsBelow bound k → (nodes : List NodeShape) (f : Frame) (under : List Frame) (place : Place) (h : Head) (es : List Element) (t : State) → and_then (room bound (at nodes f under place) (opens h (at nodes f under place))) (λ x. run bound x es) ≡ Ok t → Done t → AllForms es → length es ≤ k → ValueRead bound nodes f under (prefix_of h ++ es) t
node_begins bound k reads nodes f under place h es t go done a low =
    let x = stepped bound (room bound (at nodes f under place) (opens h (at nodes f under place))) es t go in
    let r = roomed bound (at nodes f under place) (opens h (at nodes f under place)) x.u x.is in
    let go' : run bound (opens h (at nodes f under place)) es ≡ Ok t = subst (λ u. run bound u es ≡ Ok t) (sym r.1) x.rest in
    node_value bound nodes f under h es t (node_read bound k reads (nodes ++ no_node ∷ []) (new_frame (length nodes) h) (fed (values.Node (length nodes)) f) under es t refl go' done a low) a

named_begins : (bound k : ℕ) → ReadsBelow bound k → (nodes : List NodeShape) (f : Frame) (under : List Frame) (place : Place) (es : List Element) (t : State) → and_then (room bound (at nodes f under place) (goes_to places.Type (at nodes f under place))) (λ x. run bound x es) ≡ Ok t → Done t → AllForms es → length es ≤ k → ValueRead bound nodes f under (Sign Named ∷ es) t
named_begins bound k reads nodes f under place es t go done a low =
    let x = stepped bound (room bound (at nodes f under place) (at nodes f under places.Type)) es t go in
    let r = roomed bound (at nodes f under place) (at nodes f under places.Type) x.u x.is in
    let go' : run bound (at nodes f under places.Type) es ≡ Ok t = subst (λ u. run bound u es ≡ Ok t) (sym r.1) x.rest in
    let y = head_next bound nodes f under es t go' done a in
    let fewer = y.fewer in
    subst (λ z. ValueRead bound nodes f under z t) (sym y.is)
    (node_value bound nodes f under y.head y.tail t (node_read bound k reads (nodes ++ no_node ∷ []) (new_frame (length nodes) y.head) (fed (values.Node (length nodes)) f) under y.tail t refl y.rest done y.forms (omega (arith, fewer))) y.forms)

pub value_read : (k bound : ℕ) → ReadsBelow bound k
value_read zero bound nodes f under place e es t w start h done a low = absurd (omega arith)
value_read (suc k) bound nodes f under place (Plain v) es t w start h done a low = one_value bound nodes f under (Plain v) es t v (plain_row (length nodes) v a.0) (rw w at h) a.1
value_read (suc k) bound nodes f under place (Words text) es t w start h done a low = one_value bound nodes f under (Words text) es t (values.Text text) (words_row (length nodes) text) (rw w at h) a.1
value_read (suc k) bound nodes f under place (Reference n) es t w start h done a low =
    let s = stepped bound (if nat_lt n (length nodes) then Ok (at nodes (fed (values.Node n) f) under places.After) else Err (Unknown n)) es t (rw w at h) in
    elim (chosen (nat_lt n (length nodes)) (Ok (at nodes (fed (values.Node n) f) under places.After)) (Err (Unknown n)) s.u s.is) [
      | inl x ↦ one_value bound nodes f under (Reference n) es t (values.Node n) (reference_row (length nodes) n (ltb-true n (length nodes) x.0)) (subst (λ u. run bound u es ≡ Ok t) (sym (ok_is (at nodes (fed (values.Node n) f) under places.After) s.u x.1)) s.rest) a.1
      | inr x ↦ cc
    ]
value_read (suc k) bound nodes f under place (Sign BeginList) es t w start h done a low = node_begins bound k (value_read k bound) nodes f under place (heads.List None) es t (rw w at h) done a.1 (omega arith)
value_read (suc k) bound nodes f under place (Sign EndList) es t w start h done a low = no_end_mark bound (is_list f.head) (at nodes f under place) es t start h
value_read (suc k) bound nodes f under place (Sign BeginMap) es t w start h done a low = node_begins bound k (value_read k bound) nodes f under place (heads.Map None) es t (rw w at h) done a.1 (omega arith)
value_read (suc k) bound nodes f under place (Sign EndMap) es t w start h done a low = no_end_mark bound (is_map f.head) (at nodes f under place) es t start h
value_read (suc k) bound nodes f under place (Sign BeginFields) es t w start h done a low = refused bound (bracket_step typed_object place (at nodes f under place)) es t Bad (no_bracket_here typed_object place f.head (at nodes f under place) w) h
value_read (suc k) bound nodes f under place (Sign EndFields) es t w start h done a low = no_end_mark bound (is_object f.head) (at nodes f under place) es t start h
value_read (suc k) bound nodes f under place (Sign Comma) es t w start h done a low = let no_comma : may_go_on place f.keyed ≡ false = no_comma_here place f.head f.keyed w in let bad = rw no_comma at h in cc
value_read (suc k) bound nodes f under place (Sign Colon) es t w start h done a low = let no_colon : wants_colon place f.keyed ≡ false = no_colon_here place f.head f.keyed w in let bad = rw no_colon at h in cc
value_read (suc k) bound nodes f under place (Sign Named) es t w start h done a low = named_begins bound k (value_read k bound) nodes f under place es t (rw w at h) done a.1 (omega arith)
