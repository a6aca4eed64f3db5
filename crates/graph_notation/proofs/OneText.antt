-- A canonical form has one printed notation.
use Rattle.std.proofs.Common.{◌≡◌, ℕ, suc, ◌+◌, ◌<◌, List, [], ◌∷◌, ◌++◌, length, refl, ap, sym, ◌∙◌, subst, arith, append_assoc, length-append}
use Rattle.std.specs.Prelude.{Option, Some, None}
use Rattle.std.specs.List.{flat_map}
use Rattle.hessian_graph.specs.declared.value.Value.{Value}
use Rattle.hessian_graph.specs.declared.value.Value.TheVariants as values
use Rattle.hessian_graph.specs.declared.node.Class.{Class}
use Rattle.hessian_graph.specs.Shape.{Text, Kind, NodeShape, Shape}
use Rattle.graph_notation.specs.declared.element.Mark.TheVariants.{Comma, Colon, Named, BeginList, BeginMap, BeginFields}
use Rattle.graph_notation.specs.declared.element.Element.{Element}
use Rattle.graph_notation.specs.declared.element.Element.TheVariants.{Plain, Words, Reference, Sign}
use Rattle.graph_notation.specs.Forms.{Form, Items, Pairs, Fields, IsPlain, Brackets, Spells, Entry, Joined, Entries, SpellsGraph}
use Rattle.graph_notation.specs.Forms.Brackets.{list, typed_list, map, typed_map, object}
use Rattle.graph_notation.specs.Forms.Spells.{plain, words, reference, node}
use Rattle.graph_notation.specs.Forms.Entry.{item, pair, field}
use Rattle.graph_notation.specs.Forms.Joined.{last, more}
use Rattle.graph_notation.specs.Forms.Entries.{none, some}
use Rattle.graph_notation.specs.Elements.{printed}
use Rattle.graph_notation.specs.Notation.{IsPrinted}
use Rattle.graph_notation.proofs.Tokens.{fronts}

-- the same nodes begin, and the elements are the same
pub record SameSpelling (seg seg' : List NodeShape) (es es' : List Element) : Type 0 where
  pub nodes : seg ≡ seg'
  pub elements : es ≡ es'

no_text : {v : Value} (text : Text) → IsPlain v → v ≡ values.Text text → ⊥
no_text {v} text h e = subst IsPlain e h

no_node : {v : Value} (k : ℕ) → IsPlain v → v ≡ values.Node k → ⊥
no_node {v} k h e = subst IsPlain e h

-- the kind says what the brackets are
record SameBrackets (head head' : List Element) (form form' : Form) (names names' : List Text) (end end' : Element) : Type 0 where
  pub heads : head ≡ head'
  pub forms : form ≡ form'
  pub named : names ≡ names'
  pub ends : end ≡ end'

one_bracket : {k k' : Kind} {head head' : List Element} {form form' : Form} {names names' : List Text} {end end' : Element} → Brackets k head form names end → Brackets k' head' form' names' end' → k ≡ k' → SameBrackets head head' form form' names names' end end'
one_bracket list list e = record { heads = refl; forms = refl; named = refl; ends = refl }
one_bracket list (typed_list type) e = let bad : ◌≡◌ {A = Option Text} None (Some type) = cc in cc
one_bracket list map e = cc
one_bracket list (typed_map type) e = cc
one_bracket list (object class) e = cc
one_bracket (typed_list type) list e = let bad : ◌≡◌ {A = Option Text} (Some type) None = cc in cc
one_bracket (typed_list type) (typed_list type') e = let t : type ≡ type' = cc in record { heads = ap (λ x. Sign Named ∷ Words x ∷ Sign BeginList ∷ []) t; forms = refl; named = refl; ends = refl }
one_bracket (typed_list type) map e = cc
one_bracket (typed_list type) (typed_map type') e = cc
one_bracket (typed_list type) (object class) e = cc
one_bracket map list e = cc
one_bracket map (typed_list type) e = cc
one_bracket map map e = record { heads = refl; forms = refl; named = refl; ends = refl }
one_bracket map (typed_map type) e = let bad : ◌≡◌ {A = Option Text} None (Some type) = cc in cc
one_bracket map (object class) e = cc
one_bracket (typed_map type) list e = cc
one_bracket (typed_map type) (typed_list type') e = cc
one_bracket (typed_map type) map e = let bad : ◌≡◌ {A = Option Text} (Some type) None = cc in cc
one_bracket (typed_map type) (typed_map type') e = let t : type ≡ type' = cc in record { heads = ap (λ x. Sign Named ∷ Words x ∷ Sign BeginMap ∷ []) t; forms = refl; named = refl; ends = refl }
one_bracket (typed_map type) (object class) e = cc
one_bracket (object class) list e = cc
one_bracket (object class) (typed_list type) e = cc
one_bracket (object class) map e = cc
one_bracket (object class) (typed_map type) e = cc
one_bracket (object class) (object class') e = let c : class ≡ class' = cc in record { heads = ap (λ (x : Class). Sign Named ∷ Words x.name ∷ Sign BeginFields ∷ []) c; forms = refl; named = ap (λ (x : Class). x.fields) c; ends = refl }

-- how many names and values an entry has
abbrev width : Form → ℕ
width Items = 1
width Pairs = 2
width Fields = 1

abbrev name_width : Form → ℕ
name_width Items = 0
name_width Pairs = 0
name_width Fields = 1

entry_wide : {form : Form} {names : List Text} {vs : List Value} {n : ℕ} {seg : List NodeShape} {es : List Element} → Entry form names vs n seg es → (length vs ≡ width form) × (length names ≡ name_width form)
entry_wide (item v n nodes es s) = (refl, refl)
entry_wide (pair key v n first second front back s1 s2) = (refl, refl)
entry_wide (field name v n nodes es s) = (refl, refl)

wide : (form : Form) → 0 < width form
wide Items = omega arith
wide Pairs = omega arith
wide Fields = omega arith

joined_wide : {form : Form} {names : List Text} {vs : List Value} {n : ℕ} {seg : List NodeShape} {es : List Element} → Joined form names vs n seg es → 0 < length vs
joined_wide (last form names vs n nodes es x) = let e = (entry_wide x).0 in let w = wide form in omega (arith, e, w)
joined_wide (more form names names' vs vs' n first second front back x y) = let e = (entry_wide x).0 in let w = wide form in rw (length-append vs vs') (omega (arith, e, w))

seg_first : (a b c : List NodeShape) → (a ++ b) ++ c ≡ a ++ (b ++ c)
seg_first a b c = append_assoc a b c

cut_first : (a a' b b' : List NodeShape) → a ≡ a' → a ++ b ≡ a' ++ b' → b ≡ b'
cut_first a a' b b' e h = (fronts a b a' b' (ap length e) h).1

mutual
  pub one_value : {v v' : Value} {n n' : ℕ} {seg seg' : List NodeShape} {es es' : List Element} (rest rest' : List NodeShape) → Spells v n seg es → Spells v' n' seg' es' → v ≡ v' → n ≡ n' → seg ++ rest ≡ seg' ++ rest' → SameSpelling seg seg' es es'
  one_value rest rest' (plain n v h) (plain n' v' h') e m j = record { nodes = refl; elements = ap (λ x. Plain x ∷ []) e }
  one_value rest rest' (plain n v h) (words n' text) e m j = absurd (no_text text h e)
  one_value rest rest' (plain n v h) (reference n' k low) e m j = absurd (no_node k h e)
  one_value rest rest' (plain n v h) (node n' kind form names head end vs nodes inner row entries) e m j = absurd (no_node n' h e)
  one_value rest rest' (words n text) (plain n' v' h') e m j = absurd (no_text text h' (sym e))
  one_value rest rest' (words n text) (words n' text') e m j = let t : text ≡ text' = cc in record { nodes = refl; elements = ap (λ x. Words x ∷ []) t }
  one_value rest rest' (words n text) (reference n' k low) e m j = cc
  one_value rest rest' (words n text) (node n' kind form names head end vs nodes inner row entries) e m j = cc
  one_value rest rest' (reference n k low) (plain n' v' h') e m j = absurd (no_node k h' (sym e))
  one_value rest rest' (reference n k low) (words n' text) e m j = cc
  one_value rest rest' (reference n k low) (reference n' k' low') e m j = let t : k ≡ k' = cc in record { nodes = refl; elements = ap (λ x. Reference x ∷ []) t }
  one_value rest rest' (reference n k low) (node n' kind form names head end vs nodes inner row entries) e m j = let t : k ≡ n' = cc in absurd (omega arith)
  one_value rest rest' (node n kind form names head end vs nodes inner row entries) (plain n' v' h') e m j = absurd (no_node n h' (sym e))
  one_value rest rest' (node n kind form names head end vs nodes inner row entries) (words n' text) e m j = cc
  one_value rest rest' (node n kind form names head end vs nodes inner row entries) (reference n' k low) e m j = let t : n ≡ k = cc in absurd (omega arith)
  one_value rest rest' (node n kind form names head end vs nodes inner row entries) (node n' kind' form' names' head' end' vs' nodes' inner' row' entries') e m j =
      let x : NodeShape = record { kind = kind; values = vs } in
      let x' : NodeShape = record { kind = kind'; values = vs' } in
      let first : x ≡ x' = cc in
      let others : nodes ++ rest ≡ nodes' ++ rest' = cc in
      let kinds : kind ≡ kind' = ap (λ (s : NodeShape). s.kind) first in
      let values' : vs ≡ vs' = ap (λ (s : NodeShape). s.values) first in
      let b = one_bracket row row' kinds in
      let y = one_entries rest rest' entries entries' b.forms b.named values' (ap suc m) others in
      record {
        nodes = ap (λ s. s ∷ nodes) first ∙ ap (λ ns. x' ∷ ns) y.nodes;
        elements = ap (λ h. h ++ (inner ++ end ∷ [])) b.heads ∙ ap (λ z. head' ++ (z ++ end ∷ [])) y.elements ∙ ap (λ z. head' ++ (inner' ++ z ∷ [])) b.ends;
      }

  pub one_entry : {form form' : Form} {names names' : List Text} {vs vs' : List Value} {n n' : ℕ} {seg seg' : List NodeShape} {es es' : List Element} (rest rest' : List NodeShape) → Entry form names vs n seg es → Entry form' names' vs' n' seg' es' → form ≡ form' → names ≡ names' → vs ≡ vs' → n ≡ n' → seg ++ rest ≡ seg' ++ rest' → SameSpelling seg seg' es es'
  one_entry rest rest' (item v n nodes es s) (item v' n' nodes' es' s') f a e m j = let t : v ≡ v' = cc in one_value rest rest' s s' t m j
  one_entry rest rest' (item v n nodes es s) (pair key v' n' first second front back s1 s2) f a e m j = cc
  one_entry rest rest' (item v n nodes es s) (field name v' n' nodes' es' s') f a e m j = cc
  one_entry rest rest' (pair key v n first second front back s1 s2) (item v' n' nodes' es' s') f a e m j = cc
  one_entry rest rest' (pair key v n first second front back s1 s2) (pair key' v' n' first' second' front' back' s1' s2') f a e m j =
      let k : key ≡ key' = cc in
      let t : v ≡ v' = cc in
      let j1 : first ++ (second ++ rest) ≡ first' ++ (second' ++ rest') = sym (seg_first first second rest) ∙ j ∙ seg_first first' second' rest' in
      let x = one_value (second ++ rest) (second' ++ rest') s1 s1' k m j1 in
      let j2 : second ++ rest ≡ second' ++ rest' = cut_first first first' (second ++ rest) (second' ++ rest') x.nodes j1 in
      let m2 : n + length first ≡ n' + length first' = ap (λ i. i + length first) m ∙ ap (λ ns. n' + length ns) x.nodes in
      let y = one_value rest rest' s2 s2' t m2 j2 in
      record {
        nodes = ap (λ z. z ++ second) x.nodes ∙ ap (λ z. first' ++ z) y.nodes;
        elements = ap (λ z. z ++ (Sign Colon ∷ back)) x.elements ∙ ap (λ z. front' ++ (Sign Colon ∷ z)) y.elements;
      }
  one_entry rest rest' (pair key v n first second front back s1 s2) (field name v' n' nodes' es' s') f a e m j = cc
  one_entry rest rest' (field name v n nodes es s) (item v' n' nodes' es' s') f a e m j = cc
  one_entry rest rest' (field name v n nodes es s) (pair key v' n' first second front back s1 s2) f a e m j = cc
  one_entry rest rest' (field name v n nodes es s) (field name' v' n' nodes' es' s') f a e m j =
      let t : v ≡ v' = cc in
      let k : name ≡ name' = cc in
      let x = one_value rest rest' s s' t m j in
      record { nodes = x.nodes; elements = ap (λ z. Words z ∷ Sign Colon ∷ es) k ∙ ap (λ z. Words name' ∷ Sign Colon ∷ z) x.elements }

  pub one_joined : {form form' : Form} {names names' : List Text} {vs vs' : List Value} {n n' : ℕ} {seg seg' : List NodeShape} {es es' : List Element} (rest rest' : List NodeShape) → Joined form names vs n seg es → Joined form' names' vs' n' seg' es' → form ≡ form' → names ≡ names' → vs ≡ vs' → n ≡ n' → seg ++ rest ≡ seg' ++ rest' → SameSpelling seg seg' es es'
  one_joined rest rest' (last form names vs n nodes es x) (last form' names' vs' n' nodes' es' x') f a e m j = one_entry rest rest' x x' f a e m j
  one_joined rest rest' (last form names vs n nodes es x) (more form' names1 names2 vs1 vs2 n' first second front back x' y') f a e m j =
      let p = (entry_wide x).0 in
      let q = (entry_wide x').0 in
      let r = joined_wide y' in
      let w : width form ≡ width form' = ap width f in
      let l : length vs ≡ length vs1 + length vs2 = ap length e ∙ length-append vs1 vs2 in
      absurd (omega (arith, p, q, r, w, l))
  one_joined rest rest' (more form names1 names2 vs1 vs2 n first second front back x y) (last form' names' vs' n' nodes' es' x') f a e m j =
      let p = (entry_wide x).0 in
      let q = (entry_wide x').0 in
      let r = joined_wide y in
      let w : width form ≡ width form' = ap width f in
      let l : length vs1 + length vs2 ≡ length vs' = sym (length-append vs1 vs2) ∙ ap length e in
      absurd (omega (arith, p, q, r, w, l))
  one_joined rest rest' (more form names1 names2 vs1 vs2 n first second front back x y) (more form' names1' names2' vs1' vs2' n' first' second' front' back' x' y') f a e m j =
      let p = entry_wide x in
      let q = entry_wide x' in
      let vals = fronts vs1 vs2 vs1' vs2' (p.0 ∙ ap width f ∙ sym q.0) e in
      let texts = fronts names1 names2 names1' names2' (p.1 ∙ ap name_width f ∙ sym q.1) a in
      let j1 : first ++ (second ++ rest) ≡ first' ++ (second' ++ rest') = sym (seg_first first second rest) ∙ j ∙ seg_first first' second' rest' in
      let z = one_entry (second ++ rest) (second' ++ rest') x x' f texts.0 vals.0 m j1 in
      let j2 : second ++ rest ≡ second' ++ rest' = cut_first first first' (second ++ rest) (second' ++ rest') z.nodes j1 in
      let m2 : n + length first ≡ n' + length first' = ap (λ i. i + length first) m ∙ ap (λ ns. n' + length ns) z.nodes in
      let t = one_joined rest rest' y y' f texts.1 vals.1 m2 j2 in
      record {
        nodes = ap (λ u. u ++ second) z.nodes ∙ ap (λ u. first' ++ u) t.nodes;
        elements = ap (λ u. u ++ (Sign Comma ∷ back)) z.elements ∙ ap (λ u. front' ++ (Sign Comma ∷ u)) t.elements;
      }

  pub one_entries : {form form' : Form} {names names' : List Text} {vs vs' : List Value} {n n' : ℕ} {seg seg' : List NodeShape} {es es' : List Element} (rest rest' : List NodeShape) → Entries form names vs n seg es → Entries form' names' vs' n' seg' es' → form ≡ form' → names ≡ names' → vs ≡ vs' → n ≡ n' → seg ++ rest ≡ seg' ++ rest' → SameSpelling seg seg' es es'
  one_entries rest rest' (none form n) (none form' n') f a e m j = record { nodes = refl; elements = refl }
  one_entries rest rest' (none form n) (some form' names' vs' n' nodes' es' x') f a e m j = let r = joined_wide x' in let l : 0 ≡ length vs' = ap length e in absurd (omega (arith, r, l))
  one_entries rest rest' (some form names vs n nodes es x) (none form' n') f a e m j = let r = joined_wide x in let l : length vs ≡ 0 = ap length e in absurd (omega (arith, r, l))
  one_entries rest rest' (some form names vs n nodes es x) (some form' names' vs' n' nodes' es' x') f a e m j = one_joined rest rest' x x' f a e m j

-- a graph is spelled by one list of elements
pub spelled_by_one : (g : Shape) (es es' : List Element) → SpellsGraph g es → SpellsGraph g es' → es ≡ es'
spelled_by_one g es es' s s' = (one_entries [] [] s s' refl refl refl refl refl).elements

pub one_text : (g : Shape) (s t : List ℕ) → IsPrinted g s → IsPrinted g t → s ≡ t
one_text g s t a b = a.written ∙ ap (flat_map printed) (spelled_by_one g a.elements b.elements a.spelled b.spelled) ∙ sym b.written
