-- What each open node, and the roots, still lack of a finished graph.
use Rattle.std.proofs.Common.{◌≡◌, ℕ, zero, suc, ◌+◌, ◌-◌, ◌<◌, List, [], ◌∷◌, ◌++◌, length, refl, ap, sym, ◌∙◌, subst, append_assoc, arith, inl, inr}
use Rattle.std.specs.Prelude.{nat_eq, if◌then◌else◌}
use Rattle.std.proofs.lemmas.Bool.{lt-leb, ne_eqb, eq-eqb, cases_eq}
use Rattle.std.proofs.lemmas.List.{append-nil, length-set, get_or-set_same, get_or-set_other}
use Rattle.hessian_graph.specs.declared.value.Value.{Value}
use Rattle.hessian_graph.specs.Shape.{Shape, values_at}
use Rattle.hessian_graph.specs.Line.{Symbol, ValueOf, End, values_then}
use Rattle.hessian_reader.specs.Nodes.{Begun}
use Rattle.hessian_reader.specs.declared.store.Lacks.{Lacks}
use Rattle.hessian_reader.specs.declared.store.OpenNode.{OpenNode}
use Rattle.hessian_reader.specs.States.{Built, ToEnd, Count, Key, Mate, no_begun, values_so_far, sort_at, with_item, one_less, with_value}

-- even and odd numbers of values

abbrev pub Even : ℕ → Type 0
Even n = (h : ℕ) × (n ≡ h + h)

abbrev pub Odd : ℕ → Type 0
Odd n = (h : ℕ) × (n ≡ suc (h + h))

pub odd_less : (n : ℕ) → Odd (suc n) → Even n
odd_less n (h, e) = (h, omega arith)

pub even_less : (n : ℕ) → Even (suc n) → Odd n
even_less n (zero, e) = absurd (omega arith)
even_less n (suc h, e) = (h, omega arith)

pub odd_more : (n : ℕ) → Even n → Odd (suc n)
odd_more n (h, e) = (h, omega arith)

pub even_more : (n : ℕ) → Odd n → Even (suc n)
even_more n (h, e) = (suc h, omega arith)

pub never_odd : Odd 0 → ⊥
never_odd (h, e) = omega arith

-- the node of one number more value

pub item_length : (nodes : List Begun) (n : ℕ) (v : Value) → length (with_item nodes n v) ≡ length nodes
item_length nodes n v = length-set nodes n _

pub item_here : (nodes : List Begun) (n : ℕ) (v : Value) → n < length nodes → values_so_far (with_item nodes n v) n ≡ values_so_far nodes n ++ v ∷ []
item_here nodes n v low = ap (λ (b : Begun). b.values) (get_or-set_same nodes n (record { sort = sort_at nodes n; values = values_so_far nodes n ++ v ∷ [] }) no_begun low)

pub item_there : (nodes : List Begun) (n i : ℕ) (v : Value) → (i ≡ n → ⊥) → values_so_far (with_item nodes n v) i ≡ values_so_far nodes i
item_there nodes n i v other = ap (λ (b : Begun). b.values) (get_or-set_other nodes n i (record { sort = sort_at nodes n; values = values_so_far nodes n ++ v ∷ [] }) no_begun other)

pub item_sort : (nodes : List Begun) (n i : ℕ) (v : Value) → n < length nodes → sort_at (with_item nodes n v) i ≡ sort_at nodes i
item_sort nodes n i v low = elim (cases_eq i n) [
  | inl same ↦ rw same (ap (λ (b : Begun). b.sort) (get_or-set_same nodes n (record { sort = sort_at nodes n; values = values_so_far nodes n ++ v ∷ [] }) no_begun low))
  | inr other ↦ ap (λ (b : Begun). b.sort) (get_or-set_other nodes n i (record { sort = sort_at nodes n; values = values_so_far nodes n ++ v ∷ [] }) no_begun other)
]

-- what the open nodes lack

abbrev pub LacksFit : Lacks → ℕ → Type 0
LacksFit ToEnd count = Unit {0}
LacksFit (Count k) count = (k ≡ count) × (0 < k)
LacksFit Key count = Even count
LacksFit Mate count = Odd count

abbrev pub AllFit : List OpenNode → List (List Value) → Type 0
AllFit [] [] = Unit {0}
AllFit (o ∷ os) (r ∷ rs) = LacksFit o.lacks (length r) × AllFit os rs
AllFit [] (r ∷ rs) = ⊥
AllFit (o ∷ os) [] = ⊥

-- an open node is one that has begun, and lacks something
abbrev pub Positive : Lacks → Type 0
Positive ToEnd = Unit {0}
Positive (Count k) = 0 < k
Positive Key = Unit {0}
Positive Mate = Unit {0}

abbrev pub AreOpen : ℕ → List OpenNode → Type 0
AreOpen n [] = Unit {0}
AreOpen n (o ∷ os) = (o.node < n) × Positive o.lacks × AreOpen n os

-- the symbols behind the values that a node lacks
abbrev pub behind : Lacks → List Symbol → List Symbol
behind ToEnd ss = End ∷ ss
behind (Count k) ss = ss
behind Key ss = End ∷ ss
behind Mate ss = End ∷ ss

abbrev pub to_come : List OpenNode → List (List Value) → List Value → List Symbol
to_come [] rs last = values_then last []
to_come (o ∷ os) [] last = []
to_come (o ∷ os) (r ∷ rs) last = values_then r (behind o.lacks (to_come os rs last))

pub share : ℕ → ℕ → List Value → List Value
share i n r = if nat_eq i n then r else []

pub share_here : (i n : ℕ) (r : List Value) → i ≡ n → share i n r ≡ r
unfolding share
share_here i n r e = rw (eq-eqb i n e)

pub share_there : (i n : ℕ) (r : List Value) → (i ≡ n → ⊥) → share i n r ≡ []
unfolding share
share_there i n r e = rw (ne_eqb i n e)

pub share_none : (i n : ℕ) → share i n [] ≡ []
share_none i n = elim (cases_eq i n) [ inl e ↦ share_here i n [] e | inr e ↦ share_there i n [] e ]

pub owed : ℕ → List OpenNode → List (List Value) → List Value
owed i [] rs = []
owed i (o ∷ os) [] = []
owed i (o ∷ os) (r ∷ rs) = share i o.node r ++ owed i os rs

pub owed_first : (i : ℕ) (o : OpenNode) (os : List OpenNode) (r : List Value) (rs : List (List Value)) → owed i (o ∷ os) (r ∷ rs) ≡ share i o.node r ++ owed i os rs
unfolding owed
owed_first i o os r rs = refl

pub owed_nothing : (i : ℕ) (rs : List (List Value)) → owed i [] rs ≡ []
unfolding owed
owed_nothing i rs = refl

-- nothing is owed to a node past those that have begun
pub owed_past : (n : ℕ) (os : List OpenNode) (rs : List (List Value)) → AreOpen n os → owed n os rs ≡ []
unfolding owed
owed_past n [] rs sane = refl
owed_past n (o ∷ os) [] sane = refl
owed_past n (o ∷ os) (r ∷ rs) sane = rw (share_there n o.node r (λ e. omega arith), owed_past n os rs sane.2) refl

-- the symbols are what the roots and the open nodes lack of the graph
pub record Lacking (g : Shape) (roots : List Value) (wanted : ℕ) (nodes : List Begun) (os : List OpenNode) (ss : List Symbol) : Type 0 where
  pub rests : List (List Value)
  pub last : List Value
  pub fit : AllFit os rests
  pub rest : ss ≡ to_come os rests last
  pub roots_are : g.roots ≡ roots ++ last
  pub wants : length last ≡ wanted
  pub values_are : (i : ℕ) → i < length nodes → values_at g i ≡ values_so_far nodes i ++ owed i os rests

abbrev pub Lacks' : Shape → Built → List Symbol → Type 0
Lacks' g b ss = Lacking g b.roots b.wanted b.nodes b.open_nodes ss

-- nothing is lacking at the roots alone
pub plain_nodes : (g : Shape) (roots : List Value) (wanted : ℕ) (nodes : List Begun) (ss : List Symbol) (p : Lacking g roots wanted nodes [] ss) (i : ℕ) → i < length nodes → values_at g i ≡ values_so_far nodes i
plain_nodes g roots wanted nodes ss p i low = p.values_are i low ∙ rw (owed_nothing i p.rests) (append-nil (values_so_far nodes i))

pub roots_lack : (g : Shape) (roots last : List Value) (wanted : ℕ) (nodes : List Begun) → g.roots ≡ roots ++ last → length last ≡ wanted → ((i : ℕ) → i < length nodes → values_at g i ≡ values_so_far nodes i) → Lacking g roots wanted nodes [] (values_then last [])
roots_lack g roots last wanted nodes e w same = record {
  rests = [];
  last = last;
  fit = tt;
  rest = refl;
  roots_are = e;
  wants = w;
  values_are = λ i low. same i low ∙ rw (owed_nothing i []) (sym (append-nil (values_so_far nodes i)));
}

-- the innermost node takes the first value that it lacks
pub takes_first : (nodes : List Begun) (n i : ℕ) (v : Value) (r more : List Value) → n < length nodes → values_so_far nodes i ++ (share i n (v ∷ r) ++ more) ≡ values_so_far (with_item nodes n v) i ++ (share i n r ++ more)
takes_first nodes n i v r more low = elim (cases_eq i n) [
  | inl same ↦ rw (share_here i n (v ∷ r) same, share_here i n r same, same, item_here nodes n v low) (sym (append_assoc (values_so_far nodes n) (v ∷ []) (r ++ more)))
  | inr other ↦ rw (share_there i n (v ∷ r) other, share_there i n r other, item_there nodes n i v other) refl
]

pub goes_on : (n k : ℕ) (os : List OpenNode) (r : List Value) (x : Value) → k ≡ suc (length (x ∷ r)) → one_less (Count k) n os ≡ record { node = n; lacks = Count (length (x ∷ r)) } ∷ os
goes_on n k os r x e = rw (lt-leb k 1 (rw e (omega arith))) (let d : k - 1 ≡ length (x ∷ r) = rw e (omega arith) in ap (λ j. record { node = n; lacks = Count j } ∷ os) d)

pub is_last : (n k : ℕ) (os : List OpenNode) → k ≡ 1 → one_less (Count k) n os ≡ os
is_last n k os e = rw e refl

pub first_is : (v w : Value) (ss tt' : List Symbol) → ValueOf v ∷ ss ≡ ValueOf w ∷ tt' → v ≡ w
first_is v w ss tt' e = cc

pub rest_is : (a b : Symbol) (ss tt' : List Symbol) → a ∷ ss ≡ b ∷ tt' → ss ≡ tt'
rest_is a b ss tt' e = cc

module _ (g : Shape) (b : Built) (v : Value) (ss : List Symbol) where
  -- what the graph says of the values, at the open nodes
  abbrev Says : List OpenNode → List (List Value) → Type 0
  Says os rs = (i : ℕ) → i < length b.nodes → values_at g i ≡ values_so_far b.nodes i ++ owed i os rs

  give_root : (last : List Value) → ValueOf v ∷ ss ≡ values_then last [] → g.roots ≡ b.roots ++ last → length last ≡ b.wanted → Says [] [] → Lacks' g (with_value [] v b) ss
  give_root [] e roots wants says = cc
  give_root (w ∷ last) e roots wants says = record {
    rests = [];
    last = last;
    fit = tt;
    rest = rest_is (ValueOf v) (ValueOf w) ss (values_then last []) e;
    roots_are = rw (first_is v w ss (values_then last []) e) (roots ∙ sym (append_assoc b.roots (w ∷ []) last));
    wants = omega arith;
    values_are = says;
  }

  -- the values behind the first, of a node that lacked them
  says_less : (o : OpenNode) (os : List OpenNode) (w : Value) (r : List Value) (rs : List (List Value)) → v ≡ w → o.node < length b.nodes → Says (o ∷ os) ((w ∷ r) ∷ rs) → (i : ℕ) → i < length b.nodes → values_at g i ≡ values_so_far (with_item b.nodes o.node v) i ++ (share i o.node r ++ owed i os rs)
  says_less o os w r rs e low says i h = says i h ∙ rw (owed_first i o os (w ∷ r) rs, ← e) (takes_first b.nodes o.node i v r (owed i os rs) low)

  -- a node that goes on
  give_on : (o : OpenNode) (after : Lacks) (os : List OpenNode) (w : Value) (r : List Value) (rs : List (List Value)) (last : List Value) → o.node < length b.nodes → LacksFit after (length r) → AllFit os rs → ss ≡ values_then r (behind after (to_come os rs last)) → v ≡ w → g.roots ≡ b.roots ++ last → length last ≡ b.wanted → Says (o ∷ os) ((w ∷ r) ∷ rs) → Lacking g b.roots b.wanted (with_item b.nodes o.node v) (record { node = o.node; lacks = after } ∷ os) ss
  give_on o after os w r rs last low fits fit rest e roots wants says = record {
    rests = r ∷ rs;
    last = last;
    fit = (fits, fit);
    rest = rest;
    roots_are = roots;
    wants = wants;
    values_are = λ i h. says_less o os w r rs e low says i (subst (λ n. i < n) (item_length b.nodes o.node v) h) ∙ rw (owed_first i (record { node = o.node; lacks = after }) os r rs) refl;
  }

  give_last : (o : OpenNode) (os : List OpenNode) (w : Value) (rs : List (List Value)) (last : List Value) → o.node < length b.nodes → AllFit os rs → ss ≡ to_come os rs last → v ≡ w → g.roots ≡ b.roots ++ last → length last ≡ b.wanted → Says (o ∷ os) ((w ∷ []) ∷ rs) → Lacking g b.roots b.wanted (with_item b.nodes o.node v) os ss
  give_last o os w rs last low fit rest e roots wants says = record {
    rests = rs;
    last = last;
    fit = fit;
    rest = rest;
    roots_are = roots;
    wants = wants;
    values_are = λ i h. says_less o os w [] rs e low says i (subst (λ n. i < n) (item_length b.nodes o.node v) h) ∙ rw (share_none i o.node) refl;
  }

  give_open : (n : ℕ) (lacks : Lacks) (os : List OpenNode) (r : List Value) (rs : List (List Value)) (last : List Value) → n < length b.nodes → LacksFit lacks (length r) → AllFit os rs → ValueOf v ∷ ss ≡ values_then r (behind lacks (to_come os rs last)) → g.roots ≡ b.roots ++ last → length last ≡ b.wanted → Says (record { node = n; lacks = lacks } ∷ os) (r ∷ rs) → Lacks' g (with_value (record { node = n; lacks = lacks } ∷ os) v b) ss
  give_open n ToEnd os [] rs last low fits fit e roots wants says = cc
  give_open n (Count k) os [] rs last low fits fit e roots wants says = absurd (omega arith)
  give_open n Key os [] rs last low fits fit e roots wants says = cc
  give_open n Mate os [] rs last low fits fit e roots wants says = cc
  give_open n ToEnd os (w ∷ r) rs last low fits fit e roots wants says = give_on (record { node = n; lacks = ToEnd }) ToEnd os w r rs last low tt fit (rest_is (ValueOf v) (ValueOf w) ss (values_then r (End ∷ to_come os rs last)) e) (first_is v w ss (values_then r (End ∷ to_come os rs last)) e) roots wants says
  give_open n Key os (w ∷ r) rs last low fits fit e roots wants says = give_on (record { node = n; lacks = Key }) Mate os w r rs last low (even_less (length r) fits) fit (rest_is (ValueOf v) (ValueOf w) ss (values_then r (End ∷ to_come os rs last)) e) (first_is v w ss (values_then r (End ∷ to_come os rs last)) e) roots wants says
  give_open n Mate os (w ∷ r) rs last low fits fit e roots wants says = give_on (record { node = n; lacks = Mate }) Key os w r rs last low (odd_less (length r) fits) fit (rest_is (ValueOf v) (ValueOf w) ss (values_then r (End ∷ to_come os rs last)) e) (first_is v w ss (values_then r (End ∷ to_come os rs last)) e) roots wants says
  give_open n (Count k) os (w ∷ []) rs last low fits fit e roots wants says = rw (is_last n k os fits.0) (give_last (record { node = n; lacks = Count k }) os w rs last low fit (rest_is (ValueOf v) (ValueOf w) ss (to_come os rs last) e) (first_is v w ss (to_come os rs last) e) roots wants says)
  give_open n (Count k) os (w ∷ x ∷ r) rs last low fits fit e roots wants says = rw (goes_on n k os r x fits.0) (give_on (record { node = n; lacks = Count k }) (Count (length (x ∷ r))) os w (x ∷ r) rs last low (refl, omega arith) fit (rest_is (ValueOf v) (ValueOf w) ss (values_then (x ∷ r) (to_come os rs last)) e) (first_is v w ss (values_then (x ∷ r) (to_come os rs last)) e) roots wants says)

  give_by : (os : List OpenNode) (rests : List (List Value)) (last : List Value) → AreOpen (length b.nodes) os → AllFit os rests → ValueOf v ∷ ss ≡ to_come os rests last → g.roots ≡ b.roots ++ last → length last ≡ b.wanted → Says os rests → Lacks' g (with_value os v b) ss
  give_by [] [] last sane fit e roots wants says = give_root last e roots wants says
  give_by [] (r ∷ rs) last sane fit e roots wants says = absurd fit
  give_by (o ∷ os) [] last sane fit e roots wants says = absurd fit
  give_by (o ∷ os) (r ∷ rs) last sane fit e roots wants says = give_open o.node o.lacks os r rs last sane.0 fit.0 fit.1 e roots wants says

  -- a value is given that is lacking
  pub give : (os : List OpenNode) → AreOpen (length b.nodes) os → Lacking g b.roots b.wanted b.nodes os (ValueOf v ∷ ss) → Lacks' g (with_value os v b) ss
  give os sane p = give_by os p.rests p.last sane p.fit p.rest p.roots_are p.wants p.values_are
