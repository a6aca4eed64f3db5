-- Attachments are read pair by pair.
use Rattle.std.proofs.Common.{◌≡◌, ℕ, suc, ◌<◌, ◌≤◌, List, [], ◌∷◌, ◌++◌, length, get_or, drop, refl, sym, ap, ◌∙◌, subst, arith, append_assoc}
use Rattle.std.specs.Prelude.{nat_lt, true, false, Option, Some, None}
use Rattle.std.proofs.lemmas.Bool.Decides.{nat_tests}
use Rattle.std.proofs.Math.Seq.{drop-cons}
use Rattle.std.proofs.lemmas.List.{append-nil, get_or-map, length-map, drop_all}
use Rattle.hessian_graph.specs.declared.node.Class.{Class}
use Rattle.hessian_graph.specs.declared.node.Node.{Node}
use Rattle.hessian_graph.specs.declared.node.Node.TheVariants as nodes
use Rattle.hessian_graph.specs.declared.parts.Parts.{Parts}
use Rattle.hessian_graph.specs.declared.value.Pair.{Pair}
use Rattle.hessian_graph.specs.declared.value.Value.{Value}
use Rattle.hessian_graph.specs.declared.value.Value.TheVariants as values
use Rattle.hessian_graph.specs.Shape.{Text, Shape, NodeShape, MapKind, alternately, node_shape, kind_of, type_of, shape_of, kind_at, values_at, no_node}
use Rattle.dubbo_bodies.specs.declared.attachment.Attachment.{Attachment}
use Rattle.dubbo_bodies.specs.Attachments.{IsNoText, TextPairs, AttachmentsOf, NoAttachments}
use Rattle.dubbo_bodies.specs.Attachments.AttachmentsOf.{nothing, map as a_map}
use Rattle.dubbo_bodies.specs.Attachments.TextPairs.{none as no_pairs, kept, dropped}
use Rattle.dubbo_bodies.specs.AttachmentsRead.{FindsAttachments, FindsInNode, FindsPairs, Keeps}
use Rattle.dubbo_bodies.specs.AttachmentsRead.Keeps.{kept as k_kept, dropped as k_dropped}

-- ---- pairs

-- what was found in the pairs in front of a place, and what is to be found from there on
pub record Found (pairs : List Pair) (i : ℕ) (found : List Attachment) : Type 0 where
  pub forth : (rest : List Attachment) → TextPairs (alternately (drop i pairs)) rest → TextPairs (alternately pairs) (found ++ rest)
  pub back : (all : List Attachment) → TextPairs (alternately pairs) all → (rest : List Attachment) × TextPairs (alternately (drop i pairs)) rest

pub found_none : (pairs : List Pair) → Found pairs 0 []
found_none pairs = record { forth = λ rest t. t; back = λ all t. (all, t) }

pub here : (pairs : List Pair) (i : ℕ) (p : Pair) → i < length pairs → p ≡ get_or pairs i p → drop i pairs ≡ p ∷ drop (suc i) pairs
here pairs i p h e = drop-cons pairs i p h ∙ ap (λ x. x ∷ drop (suc i) pairs) (sym e)

behind_pair : {k v : Value} {vs : List Value} {rest : List Attachment} → TextPairs (k ∷ v ∷ vs) rest → (later : List Attachment) × TextPairs vs later
behind_pair (kept name value vs rest t) = (rest, t)
behind_pair (dropped name v vs rest never t) = (rest, t)

key_is : {k v : Value} {vs : List Value} {rest : List Attachment} → TextPairs (k ∷ v ∷ vs) rest → (name : Text) × (k ≡ values.Text name)
key_is (kept name value vs rest t) = (name, refl)
key_is (dropped name v vs rest never t) = (name, refl)

back_on : (pairs : List Pair) (i : ℕ) (p : Pair) (found : List Attachment) → drop i pairs ≡ p ∷ drop (suc i) pairs → Found pairs i found → (all : List Attachment) → TextPairs (alternately pairs) all → (rest : List Attachment) × TextPairs (alternately (drop (suc i) pairs)) rest
back_on pairs i p found e f all t =
    let q = f.back all t in
    behind_pair {k = p.key} {v = p.value} (subst (λ ps. TextPairs (alternately ps) q.0) e q.1)

-- one pair more, whose key is a text
pub found_on : (pairs : List Pair) (i : ℕ) (p : Pair) (found : List Attachment) (name : Text) (value : Value) (new : List Attachment) → i < length pairs → p ≡ get_or pairs i p → p.key ≡ values.Text name → p.value ≡ value → Keeps found name value new → Found pairs i found → Found pairs (suc i) new
found_on pairs i p found name v new h e k w (k_kept value) f =
    let d = here pairs i p h e in
    let one : Attachment = record { name = name; value = value } in
    record {
      forth = λ rest t.
          let u : TextPairs (values.Text name ∷ values.Text value ∷ alternately (drop (suc i) pairs)) (one ∷ rest) = kept name value (alternately (drop (suc i) pairs)) rest t in
          let u' : TextPairs (p.key ∷ p.value ∷ alternately (drop (suc i) pairs)) (one ∷ rest) = subst (λ x. TextPairs (x ∷ p.value ∷ alternately (drop (suc i) pairs)) (one ∷ rest)) (sym k) (subst (λ x. TextPairs (values.Text name ∷ x ∷ alternately (drop (suc i) pairs)) (one ∷ rest)) (sym w) u) in
          subst (TextPairs (alternately pairs)) (sym (append_assoc found (one ∷ []) rest)) (f.forth (one ∷ rest) (subst (λ ps. TextPairs (alternately ps) (one ∷ rest)) (sym d) u'));
      back = back_on pairs i p found d f;
    }
found_on pairs i p found name v new h e k w (k_dropped v' never) f =
    let d = here pairs i p h e in
    record {
      forth = λ rest t.
          let u : TextPairs (values.Text name ∷ v ∷ alternately (drop (suc i) pairs)) rest = dropped name v (alternately (drop (suc i) pairs)) rest never t in
          let u' : TextPairs (p.key ∷ p.value ∷ alternately (drop (suc i) pairs)) rest = subst (λ x. TextPairs (x ∷ p.value ∷ alternately (drop (suc i) pairs)) rest) (sym k) (subst (λ x. TextPairs (values.Text name ∷ x ∷ alternately (drop (suc i) pairs)) rest) (sym w) u) in
          f.forth rest (subst (λ ps. TextPairs (alternately ps) rest) (sym d) u');
      back = back_on pairs i p found d f;
    }

-- what a pair with a text adds
pub keeps_text : (old new : List Attachment) (name value : Text) (one : Attachment) → one.name ≡ name → one.value ≡ value → new ≡ old ++ one ∷ [] → Keeps old name (values.Text value) new
keeps_text old new name value one n w e =
    let is : ◌≡◌ {A = Attachment} (record { name = name; value = value }) one = ap (λ x. record { name = x; value = value }) (sym n) ∙ ap (λ x. record { name = one.name; value = x }) (sym w) in
    subst (Keeps old name (values.Text value)) (ap (λ x. old ++ x ∷ []) is ∙ sym e) (k_kept value)

-- a key that is no text
pub found_no_key : (pairs : List Pair) (i : ℕ) (p : Pair) (found : List Attachment) → i < length pairs → p ≡ get_or pairs i p → IsNoText p.key → Found pairs i found → FindsPairs (alternately pairs) None
found_no_key pairs i p found h e never f = λ all t.
    let q = f.back all t in
    let k = key_is {k = p.key} {v = p.value} (subst (λ ps. TextPairs (alternately ps) q.0) (here pairs i p h e) q.1) in
    never k.0 k.1

pub found_all : (pairs : List Pair) (i : ℕ) (found : List Attachment) → length pairs ≤ i → Found pairs i found → FindsPairs (alternately pairs) (Some found)
found_all pairs i found h f =
    let none : TextPairs (alternately (drop i pairs)) [] = subst (λ ps. TextPairs (alternately ps) []) (sym (drop_all i pairs h)) no_pairs in
    subst (TextPairs (alternately pairs)) (append-nil found) (f.forth [] none)

-- ---- the node of a value

-- what a node that is attachments is
record IsMap (g : Shape) (n : ℕ) (all : List Attachment) : Type 0 where
  type : Option Text
  within : n < length g.nodes
  kind : kind_at g n ≡ MapKind type
  texts : TextPairs (values_at g n) all

number_is : {n m : ℕ} → values.Node n ≡ values.Node m → n ≡ m
number_is e = cc

map_of : {g : Shape} {v : Value} {all : List Attachment} → AttachmentsOf g v all → (n : ℕ) → v ≡ values.Node n → IsMap g n all
map_of nothing n e = absurd (cc)
map_of {g} (a_map m type all within kind texts) n e = subst (λ k. IsMap g k all) (number_is e) (record { type = type; within = within; kind = kind; texts = texts })

node_here : (p : Parts) (n : ℕ) (node : Node) → n < length p.nodes → node ≡ get_or p.nodes n node → get_or (shape_of p).nodes n no_node ≡ node_shape p.types p.classes node
node_here p n node h e = get_or-map (node_shape p.types p.classes) p.nodes n node no_node h ∙ ap (node_shape p.types p.classes) (sym e)

pub found_map : (p : Parts) (n : ℕ) (type : Option ℕ) (pairs : List Pair) (found : Option (List Attachment)) → n < length p.nodes → nodes.Map type pairs ≡ get_or p.nodes n (nodes.Map type pairs) → FindsPairs (alternately pairs) found → FindsAttachments (shape_of p) (values.Node n) found
found_map p n type pairs (Some found) h e f =
    let is = node_here p n (nodes.Map type pairs) h e in
    a_map n (type_of p.types type) found (let k : length (shape_of p).nodes ≡ length p.nodes = length-map p.nodes (node_shape p.types p.classes) in omega (arith, k, h)) (ap (λ (x : NodeShape). x.kind) is) (subst (λ vs. TextPairs vs found) (sym (ap (λ (x : NodeShape). x.values) is)) f)
found_map p n type pairs None h e f = λ all a.
    let m = map_of a n refl in
    f all (subst (λ vs. TextPairs vs all) (ap (λ (x : NodeShape). x.values) (node_here p n (nodes.Map type pairs) h e)) m.texts)

-- a node that is no map
abbrev pub IsNoMap : Node → Type 0
IsNoMap node = (type : Option ℕ) (pairs : List Pair) → node ≡ nodes.Map type pairs → ⊥

no_map_kind : (types : List Text) (classes : List Class) (node : Node) (type : Option Text) → IsNoMap node → kind_of types classes node ≡ MapKind type → ⊥
no_map_kind types classes (nodes.List type_name items) type never e = absurd (cc)
no_map_kind types classes (nodes.Map type_name pairs) type never e = never type_name pairs refl
no_map_kind types classes (nodes.Object class vs) type never e = absurd (cc)

pub found_no_map : (p : Parts) (n : ℕ) (node : Node) → n < length p.nodes → node ≡ get_or p.nodes n node → IsNoMap node → NoAttachments (shape_of p) (values.Node n)
found_no_map p n node h e never = λ all a.
    let m = map_of a n refl in
    no_map_kind p.types p.classes node m.type never (sym (ap (λ (x : NodeShape). x.kind) (node_here p n node h e)) ∙ m.kind)

pub found_no_node : (p : Parts) (n : ℕ) → length p.nodes ≤ n → NoAttachments (shape_of p) (values.Node n)
found_no_node p n h = λ all a.
    let m = map_of a n refl in
    let k : length (shape_of p).nodes ≡ length p.nodes = length-map p.nodes (node_shape p.types p.classes) in
    let w = m.within in
    absurd (omega (arith, k, h, w))

-- the node of a number, and what is found in it
is_less : (n m : ℕ) → true ≡ nat_lt n m → n < m
is_less n m e = grind (arith, nat_tests)

is_least : (n m : ℕ) → false ≡ nat_lt n m → m ≤ n
is_least n m e = grind (arith, nat_tests)

found_in : (p : Parts) (n : ℕ) (node : Node) (found : Option (List Attachment)) → n < length p.nodes → node ≡ get_or p.nodes n node → FindsInNode node found → FindsAttachments (shape_of p) (values.Node n) found
found_in p n (nodes.List type items) found h e f = subst (FindsAttachments (shape_of p) (values.Node n)) (sym f) (found_no_map p n (nodes.List type items) h e (λ t ps k. cc))
found_in p n (nodes.Map type pairs) found h e f = found_map p n type pairs found h e f
found_in p n (nodes.Object class vs) found h e f = subst (FindsAttachments (shape_of p) (values.Node n)) (sym f) (found_no_map p n (nodes.Object class vs) h e (λ t ps k. cc))

pub found_at : (p : Parts) (slice : List Node) (n : ℕ) (node : Node) (found : Option (List Attachment)) → slice ≡ p.nodes → true ≡ nat_lt n (length slice) → node ≡ get_or slice n node → FindsInNode node found → FindsAttachments (shape_of p) (values.Node n) found
found_at p slice n node found s h e f = found_in p n node found (subst (λ (ns : List Node). n < length ns) s (is_less n (length slice) h)) (e ∙ ap (λ (ns : List Node). get_or ns n node) s) f

pub found_past : (p : Parts) (slice : List Node) (n : ℕ) → slice ≡ p.nodes → false ≡ nat_lt n (length slice) → NoAttachments (shape_of p) (values.Node n)
found_past p slice n s h = found_no_node p n (subst (λ (ns : List Node). length ns ≤ n) s (is_least n (length slice) h))
