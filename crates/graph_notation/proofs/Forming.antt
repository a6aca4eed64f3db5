-- The graph of a notation is canonical.
use Rattle.std.proofs.Common.{◌≡◌, ℕ, zero, suc, ◌+◌, ◌<◌, ◌≤◌, ◌^◌, List, [], ◌∷◌, ◌++◌, length, get_or, take, map, refl, ap, sym, ◌∙◌, subst, arith, inl, inr, append_assoc, length-append}
use Rattle.std.specs.Prelude.{Option, Some, None, All}
use Rattle.std.proofs.lemmas.Bool.{cases_eq}
use Rattle.std.proofs.lemmas.List.{append-nil, map-append}
use Rattle.std.proofs.Math.Seq.{take-suc}
use Rattle.std.proofs.lemmas.List.{take_all}
use Rattle.hessian_graph.specs.declared.value.Value.{Value}
use Rattle.hessian_graph.specs.declared.value.Value.TheVariants as values
use Rattle.hessian_graph.specs.Shape.{Text, Kind, NodeShape, Shape, node_of, no_node, values_at}
use Rattle.hessian_graph.specs.Canon.{Visit, IsCanon, in_order, moved, renumbered, place_of, place_or_zero}
use Rattle.hessian_graph.specs.Canon.Visit.{done, plain as visit_plain, again as visit_again, first as visit_first}
use Rattle.hessian_graph.specs.Work.{NamesBelow, IsClosed}
use Rattle.hessian_graph.proofs.Places.{place_kept, place_new, place_other}
use Rattle.graph_notation.specs.declared.element.Element.{Element}
use Rattle.graph_notation.specs.Forms.{Form, Items, Pairs, Fields, IsPlain, Brackets, Spells, Entry, Joined, Entries, SpellsGraph}
use Rattle.graph_notation.specs.Forms.Brackets.{list, typed_list, map as map_row, typed_map, object}
use Rattle.graph_notation.specs.Forms.Spells.{plain, words, reference, node}
use Rattle.graph_notation.specs.Forms.Entry.{item, pair, field}
use Rattle.graph_notation.specs.Forms.Joined.{last, more}
use Rattle.graph_notation.specs.Forms.Entries.{none, some}
use Rattle.graph_notation.specs.Pressing.{upto}
use Rattle.graph_notation.specs.Whole.{IsEven, Fits, AllBelow, IsGood, AllGood}

below_join : (count : ℕ) (vs ws : List Value) → AllBelow count vs → AllBelow count ws → AllBelow count (vs ++ ws)
below_join count [] ws a b = b
below_join count (v ∷ vs) ws a b = (a.0, below_join count vs ws a.1 b)

good_join : (count : ℕ) (vs ws : List NodeShape) → AllGood count vs → AllGood count ws → AllGood count (vs ++ ws)
good_join count [] ws a b = b
good_join count (v ∷ vs) ws a b = (a.0, good_join count vs ws a.1 b)

plain_names : (v : Value) → IsPlain v → node_of v ≡ None
plain_names values.Null h = refl
plain_names (values.Bool b) h = refl
plain_names (values.Int z) h = refl
plain_names (values.Long z) h = refl
plain_names (values.Date z) h = refl
plain_names (values.Text text) h = absurd h
plain_names (values.Bytes bytes) h = refl
plain_names (values.Node k) h = absurd h

none_below : (count : ℕ) (v : Value) → node_of v ≡ None → NamesBelow count v
none_below count v e = λ n h. let bad : ◌≡◌ {A = Option ℕ} None (Some n) = sym e ∙ h in absurd (cc)

node_below : (count k : ℕ) → k < count → NamesBelow count (values.Node k)
node_below count k h = λ n e. let s : k ≡ n = cc in omega (arith, s)

-- the number of values, by the form
abbrev FormFits : Form → List Text → ℕ → Type 0
FormFits Items names n = Unit {0}
FormFits Pairs names n = IsEven n
FormFits Fields names n = n ≡ length names

form_none : (form : Form) → FormFits form [] 0
form_none Items = tt
form_none Pairs = (0, refl)
form_none Fields = refl

form_join : (form : Form) (names names' : List Text) (n m : ℕ) → FormFits form names n → FormFits form names' m → FormFits form (names ++ names') (n + m)
form_join Items names names' n m a b = tt
form_join Pairs names names' n m a b = (a.0 + b.0, omega (arith, a.1, b.1))
form_join Fields names names' n m a b = let e : length (names ++ names') ≡ length names + length names' = length-append names names' in omega (arith, e, a, b)

kind_fits : {kind : Kind} {head : List Element} {form : Form} {names : List Text} {end : Element} (n : ℕ) → Brackets kind head form names end → FormFits form names n → Fits kind n
kind_fits n list h = tt
kind_fits n (typed_list type) h = tt
kind_fits n map_row h = h
kind_fits n (typed_map type) h = h
kind_fits n (object class) h = h

mutual
  value_good : {v : Value} {n : ℕ} {seg : List NodeShape} {es : List Element} (count : ℕ) → Spells v n seg es → n + length seg ≤ count → NamesBelow count v × AllGood count seg
  value_good count (plain n v h) b = (none_below count v (plain_names v h), tt)
  value_good count (words n text) b = (none_below count (values.Text text) refl, tt)
  value_good count (reference n k h) b = (node_below count k (omega arith), tt)
  value_good count (node n kind form names head end vs nodes inner row entries) b =
      let x = entries_good count entries (omega arith) in
      (node_below count n (omega arith), (record { values = x.0; fits = kind_fits (length vs) row x.2 }, x.1))

  entry_good : {form : Form} {names : List Text} {vs : List Value} {n : ℕ} {seg : List NodeShape} {es : List Element} (count : ℕ) → Entry form names vs n seg es → n + length seg ≤ count → AllBelow count vs × AllGood count seg × FormFits form names (length vs)
  entry_good count (item v n nodes es s) b = let x = value_good count s b in ((x.0, tt), x.1, tt)
  entry_good count (pair key v n first second front back s1 s2) b =
      let e : length (first ++ second) ≡ length first + length second = length-append first second in
      let x = value_good count s1 (omega arith) in
      let y = value_good count s2 (omega arith) in
      ((x.0, (y.0, tt)), good_join count first second x.1 y.1, (1, refl))
  entry_good count (field name v n nodes es s) b = let x = value_good count s b in ((x.0, tt), x.1, refl)

  joined_good : {form : Form} {names : List Text} {vs : List Value} {n : ℕ} {seg : List NodeShape} {es : List Element} (count : ℕ) → Joined form names vs n seg es → n + length seg ≤ count → AllBelow count vs × AllGood count seg × FormFits form names (length vs)
  joined_good count (last form names vs n nodes es x) b = entry_good count x b
  joined_good count (more form names names' vs vs' n first second front back x y) b =
      let e : length (first ++ second) ≡ length first + length second = length-append first second in
      let p = entry_good count x (omega arith) in
      let q = joined_good count y (omega arith) in
      (below_join count vs vs' p.0 q.0, good_join count first second p.1 q.1, subst (FormFits form (names ++ names')) (sym (length-append vs vs')) (form_join form names names' (length vs) (length vs') p.2 q.2))

  entries_good : {form : Form} {names : List Text} {vs : List Value} {n : ℕ} {seg : List NodeShape} {es : List Element} (count : ℕ) → Entries form names vs n seg es → n + length seg ≤ count → AllBelow count vs × AllGood count seg × FormFits form names (length vs)
  entries_good count (none form n) b = (tt, tt, form_none form)
  entries_good count (some form names vs n nodes es x) b = joined_good count x b

-- the graph is closed, and each node has as many values as its kind takes
pub graph_good : (g : Shape) (es : List Element) → SpellsGraph g es → AllBelow (length g.nodes) g.roots × AllGood (length g.nodes) g.nodes
graph_good g es s = let x = entries_good (length g.nodes) s (omega arith) in (x.0, x.1)

all_below : (count : ℕ) (vs : List Value) → AllBelow count vs → All (NamesBelow count) vs
all_below count [] a k d h = absurd (omega arith)
all_below count (v ∷ vs) a zero d h = a.0
all_below count (v ∷ vs) a (suc k) d h = all_below count vs a.1 k d (omega arith)

good_at : (count : ℕ) (nodes : List NodeShape) (n : ℕ) → n < length nodes → AllGood count nodes → IsGood count (get_or nodes n no_node)
good_at count [] n h a = absurd (omega arith)
good_at count (x ∷ xs) zero h a = a.0
good_at count (x ∷ xs) (suc n) h a = good_at count xs n (omega arith) a.1

pub closed : (g : Shape) → length g.nodes < 2 ^ 32 → AllBelow (length g.nodes) g.roots → AllGood (length g.nodes) g.nodes → IsClosed g
closed g few roots nodes = record {
  few = few;
  roots = all_below (length g.nodes) g.roots roots;
  each = λ n h. all_below (length g.nodes) (values_at g n) ((good_at (length g.nodes) g.nodes n h nodes).values);
}

-- the numbers below a number
pub upto_long : (n : ℕ) → length (upto n) ≡ n
upto_long zero = refl
upto_long (suc n) = length-append (upto n) (n ∷ []) ∙ ap (λ k. k + 1) (upto_long n) ∙ omega arith

pub place_past : (m n : ℕ) → m ≤ n → place_of n (upto m) ≡ None
place_past zero n h = refl
place_past (suc m) n h = place_other m n (upto m) (λ e. omega arith) ∙ place_past m n (omega arith)

pub place_upto : (m k : ℕ) → k < m → place_of k (upto m) ≡ Some k
place_upto zero k h = absurd (omega arith)
place_upto (suc m) k h = elim (cases_eq k m) [
  | inl e ↦ subst (λ x. place_of x (upto m ++ m ∷ []) ≡ Some x) (sym e) (place_new m (upto m) [] (place_past m m (omega arith)) ∙ ap Some (upto_long m))
  | inr ne ↦ place_kept k (upto m) (m ∷ []) k (place_upto m k (omega arith))
]

there : (pre post : List NodeShape) (x : NodeShape) → get_or (pre ++ x ∷ post) (length pre) no_node ≡ x
there [] post x = refl
there (y ∷ ys) post x = there ys post x

seg_split : (pre first second post nodes : List NodeShape) → nodes ≡ pre ++ ((first ++ second) ++ post) → nodes ≡ pre ++ (first ++ (second ++ post))
seg_split pre first second post nodes e = e ∙ ap (λ x. pre ++ x) (append_assoc first second post)

seg_next : (pre first second post nodes : List NodeShape) → nodes ≡ pre ++ ((first ++ second) ++ post) → nodes ≡ (pre ++ first) ++ (second ++ post)
seg_next pre first second post nodes e = seg_split pre first second post nodes e ∙ sym (append_assoc pre first (second ++ post))

from_upto : (g : Shape) (n m : ℕ) (vs : List Value) (out : List ℕ) → n ≡ m → Visit g (upto n) vs out → Visit g (upto m) vs out
from_upto g n m vs out e v = subst (λ k. Visit g (upto k) vs out) e v

mutual
  value_visit : {v : Value} {n : ℕ} {seg : List NodeShape} {es : List Element} (g : Shape) (pre post : List NodeShape) (rest : List Value) (out : List ℕ) → Spells v n seg es → length pre ≡ n → g.nodes ≡ pre ++ (seg ++ post) → Visit g (upto (n + length seg)) rest out → Visit g (upto n) (v ∷ rest) out
  value_visit g pre post rest out (plain n v h) many is l = visit_plain (upto n) out v rest (plain_names v h) (from_upto g (n + 0) n rest out (omega arith) l)
  value_visit g pre post rest out (words n text) many is l = visit_plain (upto n) out (values.Text text) rest refl (from_upto g (n + 0) n rest out (omega arith) l)
  value_visit g pre post rest out (reference n k h) many is l = visit_again (upto n) out (values.Node k) rest k k refl (place_upto n k h) (from_upto g (n + 0) n rest out (omega arith) l)
  value_visit g pre post rest out (node n kind form names head end vs nodes inner row entries) many is l =
      let x : NodeShape = record { kind = kind; values = vs } in
      let at : values_at g n ≡ vs = ap (λ (s : NodeShape). s.values) (ap (λ ns. get_or ns n no_node) is ∙ ap (λ k. get_or (pre ++ x ∷ (nodes ++ post)) k no_node) (sym many) ∙ there pre (nodes ++ post) x) in
      let long : length (pre ++ x ∷ []) ≡ suc n = length-append pre (x ∷ []) ∙ omega arith in
      let is' : g.nodes ≡ (pre ++ x ∷ []) ++ (nodes ++ post) = is ∙ sym (append_assoc pre (x ∷ []) (nodes ++ post)) in
      let inside : Visit g (upto (suc n)) (vs ++ rest) out = entries_visit g (pre ++ x ∷ []) post rest out entries long is' (from_upto g (n + length (x ∷ nodes)) (suc n + length nodes) rest out (omega arith) l) in
      visit_first (upto n) out (values.Node n) rest n refl (place_past n n (omega arith)) (subst (λ ws. Visit g (upto (suc n)) (ws ++ rest) out) (sym at) inside)

  entry_visit : {form : Form} {names : List Text} {vs : List Value} {n : ℕ} {seg : List NodeShape} {es : List Element} (g : Shape) (pre post : List NodeShape) (rest : List Value) (out : List ℕ) → Entry form names vs n seg es → length pre ≡ n → g.nodes ≡ pre ++ (seg ++ post) → Visit g (upto (n + length seg)) rest out → Visit g (upto n) (vs ++ rest) out
  entry_visit g pre post rest out (item v n nodes es s) many is l = value_visit g pre post rest out s many is l
  entry_visit g pre post rest out (pair key v n first second front back s1 s2) many is l =
      let e : length (first ++ second) ≡ length first + length second = length-append first second in
      let long : length (pre ++ first) ≡ n + length first = length-append pre first ∙ ap (λ k. k + length first) many in
      value_visit g pre (second ++ post) (v ∷ rest) out s1 many (seg_split pre first second post g.nodes is)
      (value_visit g (pre ++ first) post rest out s2 long (seg_next pre first second post g.nodes is) (from_upto g (n + length (first ++ second)) (n + length first + length second) rest out (omega arith) l))
  entry_visit g pre post rest out (field name v n nodes es s) many is l = value_visit g pre post rest out s many is l

  joined_visit : {form : Form} {names : List Text} {vs : List Value} {n : ℕ} {seg : List NodeShape} {es : List Element} (g : Shape) (pre post : List NodeShape) (rest : List Value) (out : List ℕ) → Joined form names vs n seg es → length pre ≡ n → g.nodes ≡ pre ++ (seg ++ post) → Visit g (upto (n + length seg)) rest out → Visit g (upto n) (vs ++ rest) out
  joined_visit g pre post rest out (last form names vs n nodes es x) many is l = entry_visit g pre post rest out x many is l
  joined_visit g pre post rest out (more form names names' vs vs' n first second front back x y) many is l =
      let e : length (first ++ second) ≡ length first + length second = length-append first second in
      let long : length (pre ++ first) ≡ n + length first = length-append pre first ∙ ap (λ k. k + length first) many in
      subst (λ ws. Visit g (upto n) ws out) (sym (append_assoc vs vs' rest))
      (entry_visit g pre (second ++ post) (vs' ++ rest) out x many (seg_split pre first second post g.nodes is)
      (joined_visit g (pre ++ first) post rest out y long (seg_next pre first second post g.nodes is) (from_upto g (n + length (first ++ second)) (n + length first + length second) rest out (omega arith) l)))

  entries_visit : {form : Form} {names : List Text} {vs : List Value} {n : ℕ} {seg : List NodeShape} {es : List Element} (g : Shape) (pre post : List NodeShape) (rest : List Value) (out : List ℕ) → Entries form names vs n seg es → length pre ≡ n → g.nodes ≡ pre ++ (seg ++ post) → Visit g (upto (n + length seg)) rest out → Visit g (upto n) (vs ++ rest) out
  entries_visit g pre post rest out (none form n) many is l = from_upto g (n + 0) n rest out (omega arith) l
  entries_visit g pre post rest out (some form names vs n nodes es x) many is l = joined_visit g pre post rest out x many is l

pub visits : (g : Shape) (es : List Element) → SpellsGraph g es → Visit g [] g.roots (upto (length g.nodes))
visits g es s = subst (λ vs. Visit g [] vs (upto (length g.nodes))) (append-nil g.roots) (entries_visit g [] [] [] (upto (length g.nodes)) s refl (sym (append-nil g.nodes)) (from_upto g (length g.nodes) (0 + length g.nodes) [] (upto (length g.nodes)) (omega arith) (done (upto (length g.nodes)))))

-- numbers stay
stays : (count : ℕ) (v : Value) → NamesBelow count v → renumbered (upto count) v ≡ v
stays count values.Null h = refl
stays count (values.Bool b) h = refl
stays count (values.Int z) h = refl
stays count (values.Long z) h = refl
stays count (values.Date z) h = refl
stays count (values.Text text) h = refl
stays count (values.Bytes bytes) h = refl
stays count (values.Node k) h = ap (λ o. values.Node (place_or_zero o)) (place_upto count k (h k refl))

all_stay : (count : ℕ) (vs : List Value) → AllBelow count vs → map (renumbered (upto count)) vs ≡ vs
all_stay count [] a = refl
all_stay count (v ∷ vs) a = let x : renumbered (upto count) v ≡ v = stays count v a.0 in let y : map (renumbered (upto count)) vs ≡ vs = all_stay count vs a.1 in cc

abbrev put : ℕ → NodeShape → NodeShape
put count s = record { kind = s.kind; values = map (renumbered (upto count)) s.values }

nodes_stay : (count : ℕ) (nodes : List NodeShape) → AllGood count nodes → map (put count) nodes ≡ nodes
nodes_stay count [] a = refl
nodes_stay count (x ∷ xs) a =
    let e : map (renumbered (upto count)) x.values ≡ x.values = all_stay count x.values ((a.0).values) in
    ap (λ vs. record { kind = x.kind; values = vs } ∷ map (put count) xs) e ∙ ap (λ ys. x ∷ ys) (nodes_stay count xs a.1)

by_take : (f : NodeShape → NodeShape) (xs : List NodeShape) (n : ℕ) → n ≤ length xs → map (λ k. f (get_or xs k no_node)) (upto n) ≡ map f (take n xs)
by_take f xs zero h = refl
by_take f xs (suc n) h =
    map-append (λ k. f (get_or xs k no_node)) (upto n) (n ∷ [])
    ∙ ap (λ ys. ys ++ f (get_or xs n no_node) ∷ []) (by_take f xs n (omega arith))
    ∙ sym (map-append f (take n xs) (get_or xs n no_node ∷ []))
    ∙ ap (map f) (sym (take-suc xs n no_node (omega arith)))

pub is_own : (g : Shape) (es : List Element) → SpellsGraph g es → in_order g (upto (length g.nodes)) ≡ g
is_own g es s =
    let count : ℕ = length g.nodes in
    let good = graph_good g es s in
    let roots : map (renumbered (upto count)) g.roots ≡ g.roots = all_stay count g.roots good.0 in
    let nodes : map (moved g (upto count)) (upto count) ≡ g.nodes = by_take (put count) g.nodes count (omega arith) ∙ ap (map (put count)) (take_all count g.nodes (omega arith)) ∙ nodes_stay count g.nodes good.1 in
    ap (λ r. record { roots = r; nodes = map (moved g (upto count)) (upto count) }) roots ∙ ap (λ ns. record { roots = g.roots; nodes = ns }) nodes

pub is_canonical : (g : Shape) (es : List Element) → SpellsGraph g es → IsCanon g g
is_canonical g es s = (upto (length g.nodes), visits g es s, sym (is_own g es s))
