-- What a kind makes of the values behind it.
use Rattle.std.proofs.Common.{◌≡◌, ◌≢◌, ℕ, zero, suc, ◌+◌, ◌-◌, ◌<◌, ◌≤◌, List, [], ◌∷◌, ◌++◌, length, get_or, take, drop, map, drop-cons, Bor, refl, ap, sym, ◌∙◌, subst, arith}
use Rattle.std.specs.Prelude.{ℤ, pos, Option, Some, Result, Ok, Err, IfErr, slice_get, MatchBool, Bool, true, false}
use Rattle.std.specs.Slice.{IsItemAt}
use Rattle.std.proofs.lemmas.Option.{slice_get-get_or}
use Rattle.std.proofs.lemmas.List.{length-append, drop_all, take_all}
use Rattle.std.proofs.Math.Seq.{take-suc}
use Rattle.hessian_graph.specs.declared.value.Value.{Value}
use Rattle.hessian_graph.specs.declared.value.Value.TheVariants as values
use Rattle.hessian_graph.specs.declared.value.Pair.{Pair}
use Rattle.hessian_graph.specs.declared.node.Node.{Node}
use Rattle.hessian_graph.specs.declared.node.Node.TheVariants as nodes
use Rattle.hessian_graph.specs.declared.parts.Parts.{Parts}
use Rattle.hessian_graph.specs.Shape.{Text, ListKind, MapKind, ObjectKind, Shape, NodeShape, no_class, no_node, shape_of, alternately, values_at, kind_at, node_shape, type_of}
use Rattle.hessian_graph.specs.Canon.{IsCanon}
use Rattle.dubbo_bodies.specs.declared.attachment.Attachment.{Attachment}
use Rattle.dubbo_bodies.specs.Attachments.{IsNoText, TextPairs, AttachmentsOf, NoAttachments}
use Rattle.dubbo_bodies.specs.Attachments.TextPairs.{none, kept, dropped}
use Rattle.dubbo_bodies.specs.Attachments.AttachmentsOf.{nothing, map as a_map}
use Rattle.dubbo_bodies.specs.RootsRead.{DropsLast}
use Rattle.dubbo_bodies.specs.RequestBody.{with_roots}
use Rattle.dubbo_bodies.specs.declared.message.Reply.{Reply}
use Rattle.dubbo_bodies.specs.declared.message.Reply.TheVariants.{Value as AValue, Threw}
use Rattle.dubbo_bodies.specs.declared.reply_fault.ReplyFault.{ReplyFault}
use Rattle.dubbo_bodies.specs.declared.reply_fault.ReplyFault.TheVariants as answers
use Rattle.dubbo_bodies.specs.declared.reply_reader.kind.Kind.{Kind as Kinds}
use Rattle.dubbo_bodies.specs.declared.reply_reader.kind.Kind.TheVariants as kinds
use Rattle.dubbo_bodies.specs.ReplyBody.HasRoots.{exception as r_exception, value as r_value, null as r_null}
use Rattle.dubbo_bodies.specs.ReplyBody.HasBeside.{exception as b_exception, value as b_value, null as b_null}
use Rattle.dubbo_bodies.specs.ReplyBody.Outcome.{exception as o_exception, value as o_value, null as o_null, exception_beside as o_exception_beside, value_beside as o_value_beside}
use Rattle.dubbo_bodies.specs.ReplyBody.{AreSome, HasRoots, Outcome, null_alone}
use Rattle.dubbo_bodies.specs.Refusals.{LacksAttachments}
use Rattle.dubbo_bodies.specs.ReplyKinds.{HasTextPairs, IsTextNode, LastAreSome, LastAreNone, FirstBeside, LacksBeside, number_of}

-- each key among the first is a text exactly where each among the second is
abbrev pub SameKeys : List Value → List Value → Type 0
SameKeys all rest = (HasTextPairs all → HasTextPairs rest) × (HasTextPairs rest → HasTextPairs all)

-- ---- keys that are texts

-- a value that is a text, or is none
data TextOrNone (v : Value) : Type 0 where
  some_text : (text : Text) → v ≡ values.Text text → TextOrNone v
  other : IsNoText v → TextOrNone v

text_or_none : (v : Value) → TextOrNone v
text_or_none values.Null = TextOrNone.other (λ text e. cc)
text_or_none (values.Bool b) = TextOrNone.other (λ text e. cc)
text_or_none (values.Int z) = TextOrNone.other (λ text e. cc)
text_or_none (values.Long z) = TextOrNone.other (λ text e. cc)
text_or_none (values.Date z) = TextOrNone.other (λ text e. cc)
text_or_none (values.Text text) = TextOrNone.some_text text refl
text_or_none (values.Bytes bytes) = TextOrNone.other (λ text e. cc)
text_or_none (values.Node n) = TextOrNone.other (λ text e. cc)

pub pairs_more : (name : Text) (v : Value) (vs : List Value) → HasTextPairs vs → HasTextPairs (values.Text name ∷ v ∷ vs)
pairs_more name v vs (rest, are) = by_value (text_or_none v)
  where
    by_value : TextOrNone v → HasTextPairs (values.Text name ∷ v ∷ vs)
    by_value (TextOrNone.some_text text e) = (record { name = name; value = text } ∷ rest, subst (λ x. TextPairs (values.Text name ∷ x ∷ vs) (record { name = name; value = text } ∷ rest)) (sym e) (kept name text vs rest are))
    by_value (TextOrNone.other not) = (rest, dropped name v vs rest not are)

key_is_by : (key v : Value) (vs all : List Value) (attachments : List Attachment) → all ≡ key ∷ v ∷ vs → TextPairs all attachments → IsNoText key → ⊥
key_is_by key v vs all attachments e none not = cc
key_is_by key v vs all attachments e (kept name value ws rest are) not = not name (sym (let h : values.Text name ≡ key = cc in h))
key_is_by key v vs all attachments e (dropped name w ws rest drops are) not = not name (sym (let h : values.Text name ≡ key = cc in h))

pub no_pairs : (key v : Value) (vs : List Value) → IsNoText key → HasTextPairs (key ∷ v ∷ vs) → ⊥
no_pairs key v vs not (attachments, are) = key_is_by key v vs (key ∷ v ∷ vs) attachments refl are not

rest_pairs_by : (key v : Value) (vs all : List Value) (attachments : List Attachment) → all ≡ key ∷ v ∷ vs → TextPairs all attachments → HasTextPairs vs
rest_pairs_by key v vs all attachments e none = absurd cc
rest_pairs_by key v vs all attachments e (kept name value ws rest are) = (rest, subst (λ x. TextPairs x rest) (let h : ws ≡ vs = cc in h) are)
rest_pairs_by key v vs all attachments e (dropped name w ws rest not are) = (rest, subst (λ x. TextPairs x rest) (let h : ws ≡ vs = cc in h) are)

pub rest_pairs : (key v : Value) (vs : List Value) → HasTextPairs (key ∷ v ∷ vs) → HasTextPairs vs
rest_pairs key v vs (attachments, are) = rest_pairs_by key v vs (key ∷ v ∷ vs) attachments refl are

pub no_text_pairs : HasTextPairs []
no_text_pairs = ([], none)

-- ---- keys up to a place

here : (pairs : List Pair) (at : ℕ) (pair : Pair) → at < length pairs → pair ≡ get_or pairs at pair → alternately (drop at pairs) ≡ pair.key ∷ pair.value ∷ alternately (drop (at + 1) pairs)
here pairs at pair low is = ap alternately (drop-cons pairs at pair low ∙ ap (λ p. p ∷ drop (suc at) pairs) (sym is) ∙ ap (λ n. pair ∷ drop n pairs) (let e : suc at ≡ at + 1 = omega arith in e))

pub keys_at : (pairs : List Pair) (at : ℕ) (pair : Pair) (text : Text) → at < length pairs → pair ≡ get_or pairs at pair → pair.key ≡ values.Text text → SameKeys (alternately pairs) (alternately (drop at pairs)) → SameKeys (alternately pairs) (alternately (drop (at + 1) pairs))
keys_at pairs at pair text low is key (to, back) =
    let e = here pairs at pair low is in (
      λ all. rest_pairs pair.key pair.value (alternately (drop (at + 1) pairs)) (subst HasTextPairs e (to all)),
      λ rest. back (subst HasTextPairs (sym (e ∙ ap (λ k. k ∷ pair.value ∷ alternately (drop (at + 1) pairs)) key)) (pairs_more text pair.value (alternately (drop (at + 1) pairs)) rest)),
    )

pub keys_stop : (pairs : List Pair) (at : ℕ) (pair : Pair) → at < length pairs → pair ≡ get_or pairs at pair → IsNoText pair.key → SameKeys (alternately pairs) (alternately (drop at pairs)) → HasTextPairs (alternately pairs) → ⊥
keys_stop pairs at pair low is not (to, back) all = no_pairs pair.key pair.value (alternately (drop (at + 1) pairs)) not (subst HasTextPairs (here pairs at pair low is) (to all))

pub keys_end : (pairs : List Pair) (at : ℕ) → length pairs ≤ at → SameKeys (alternately pairs) (alternately (drop at pairs)) → HasTextPairs (alternately pairs)
keys_end pairs at low (to, back) = back (subst HasTextPairs (ap alternately (sym (drop_all at pairs low))) no_text_pairs)

-- ---- a value that is attachments

pub null_is_some : (g : Shape) → AreSome g values.Null
null_is_some g = ([], nothing)

there : {A B : Type 0} (f : A → B) (d : B) (xs : List A) (n : ℕ) (x : A) → slice_get xs n ≡ Some x → (n < length (map f xs)) × (get_or (map f xs) n d ≡ f x)
there f d [] n x e = absurd cc
there f d (y ∷ ys) zero x e = (omega arith, ap f (let h : y ≡ x = cc in h))
there f d (y ∷ ys) (suc n) x e = let (l, g) = there f d ys n x e in (omega (arith, l), g)

-- a map in the table has the values of its pairs
pub map_is_some : (p : Parts) (n : ℕ) (type : Option ℕ) (pairs : List Pair) → slice_get p.nodes n ≡ Some (nodes.Map type pairs) → HasTextPairs (alternately pairs) → AreSome (shape_of p) (values.Node n)
map_is_some p n type pairs e (attachments, are) =
    let (within, same) = there (node_shape p.types p.classes) no_node p.nodes n (nodes.Map type pairs) e in
    (attachments, a_map n (type_of p.types type) attachments within (ap (λ (x : NodeShape). x.kind) same) (subst (λ vs. TextPairs vs attachments) (sym (ap (λ (x : NodeShape). x.values) same)) are))

same_node : (n m : ℕ) → values.Node n ≡ values.Node m → n ≡ m
same_node n m e = cc

-- what attachments that are a node say of it
record IsTextMap (g : Shape) (n : ℕ) : Type 0 where
  within : n < length g.nodes
  type : Option Text
  kind : kind_at g n ≡ MapKind type
  pairs : HasTextPairs (values_at g n)

text_map : (g : Shape) (n : ℕ) (v : Value) (attachments : List Attachment) → v ≡ values.Node n → AttachmentsOf g v attachments → IsTextMap g n
text_map g n v attachments e nothing = absurd cc
text_map g n v attachments e (a_map m type entries within kind are) = subst (IsTextMap g) (same_node m n e) (record { within = within; type = type; kind = kind; pairs = (entries, are) })

pub map_is_none : (p : Parts) (n : ℕ) (type : Option ℕ) (pairs : List Pair) → slice_get p.nodes n ≡ Some (nodes.Map type pairs) → (HasTextPairs (alternately pairs) → ⊥) → NoAttachments (shape_of p) (values.Node n)
map_is_none p n type pairs e not = λ attachments are.
    let m = text_map (shape_of p) n (values.Node n) attachments refl are in
    let (within, same) = there (node_shape p.types p.classes) no_node p.nodes n (nodes.Map type pairs) e in
    not (subst HasTextPairs (ap (λ (x : NodeShape). x.values) same) m.pairs)

pub list_is_none : (p : Parts) (n : ℕ) (type : Option ℕ) (items : List Value) → slice_get p.nodes n ≡ Some (nodes.List type items) → NoAttachments (shape_of p) (values.Node n)
list_is_none p n type items e = λ attachments are.
    let m = text_map (shape_of p) n (values.Node n) attachments refl are in
    let (within, same) = there (node_shape p.types p.classes) no_node p.nodes n (nodes.List type items) e in
    let kind : MapKind m.type ≡ ListKind (type_of p.types type) = sym m.kind ∙ ap (λ (x : NodeShape). x.kind) same in
    cc

pub object_is_none : (p : Parts) (n class : ℕ) (vs : List Value) → slice_get p.nodes n ≡ Some (nodes.Object class vs) → NoAttachments (shape_of p) (values.Node n)
object_is_none p n class vs e = λ attachments are.
    let m = text_map (shape_of p) n (values.Node n) attachments refl are in
    let (within, same) = there (node_shape p.types p.classes) no_node p.nodes n (nodes.Object class vs) e in
    let kind : MapKind m.type ≡ ObjectKind (get_or p.classes class no_class) = sym m.kind ∙ ap (λ (x : NodeShape). x.kind) same in
    cc

-- ---- the last root

record OneBefore (before : List Value) : Type 0 where
  root : Value
  is : before ≡ root ∷ []

one_before : (before : List Value) (last : Value) → length (before ++ last ∷ []) ≡ 2 → OneBefore before
one_before [] last e = absurd (omega (arith, e))
one_before (root ∷ []) last e = record { root = root; is = refl }
one_before (root ∷ next ∷ before) last e = absurd (let l = length-append before (last ∷ []) in omega (arith, e, l))

none_before : (before : List Value) (last : Value) → length (before ++ last ∷ []) ≡ 1 → before ≡ []
none_before [] last e = refl
none_before (root ∷ before) last e = absurd (let l = length-append before (last ∷ []) in omega (arith, e, l))

-- the same graph with its first root alone
first_shape : (p q : Parts) (root last : Value) → p.roots ≡ root ∷ last ∷ [] → DropsLast p q → shape_of q ≡ with_roots (root ∷ []) (shape_of p)
first_shape p q root last e d =
    let roots : q.roots ≡ root ∷ [] = d.roots ∙ ap (λ vs. take (length vs - 1) vs) e in
    let nodes : map (node_shape q.types q.classes) q.nodes ≡ map (node_shape p.types p.classes) p.nodes =
    ap (λ ts. map (node_shape ts q.classes) q.nodes) d.types ∙ ap (λ cs. map (node_shape p.types cs) q.nodes) d.classes ∙ ap (map (node_shape p.types p.classes)) d.nodes in
    ap (λ r. record { roots = r; nodes = map (node_shape q.types q.classes) q.nodes }) roots ∙ ap (λ ns. record { roots = root ∷ []; nodes = ns }) nodes

pub first_beside : (p q : Parts) (form : Shape) → length p.roots ≡ 2 → LastAreSome (shape_of p) → DropsLast p q → IsCanon (shape_of q) form → FirstBeside (shape_of p) form
first_beside p q form many l d canon =
    let one = one_before l.before l.last (sym (ap length l.roots) ∙ many) in
    let roots : p.roots ≡ one.root ∷ l.last ∷ [] = l.roots ∙ ap (λ vs. vs ++ l.last ∷ []) one.is in
    record { root = one.root; last = l.last; roots = roots; are = l.are; canonical = subst (λ g. IsCanon g form) (first_shape p q one.root l.last roots d) canon }

pub last_alone : (g : Shape) → length g.roots ≡ 1 → LastAreSome g → (last : Value) × (g.roots ≡ last ∷ []) × AreSome g last
last_alone g many l =
    let none = none_before l.before l.last (sym (ap length l.roots) ∙ many) in
    (l.last, l.roots ∙ ap (λ vs. vs ++ l.last ∷ []) none, l.are)

-- one root, or none
pub one_root : (vs : List Value) → length vs ≡ 1 → (root : Value) × (vs ≡ root ∷ [])
one_root [] e = absurd (omega (arith, e))
one_root (v ∷ []) e = (v, refl)
one_root (v ∷ w ∷ vs) e = absurd (omega (arith, e))

pub no_root : (vs : List Value) → length vs ≡ 0 → vs ≡ []
no_root [] e = refl
no_root (v ∷ vs) e = absurd (omega (arith, e))

-- ---- what the functions answer

pub item_there : (xs : List Node) (n : ℕ) (r : Option (Bor Node)) (x : Bor Node) → IsItemAt xs n r → r ≡ Some x → slice_get xs n ≡ Some x.now
item_there xs n r x h e =
    let item : IsItemAt xs n (Some x) = subst (IsItemAt xs n) e h in
    let within : n < length xs = item.3.0 in
    let is : x.now ≡ get_or xs n x.now = item.1 in
    slice_get-get_or xs n x.now within ∙ ap Some (sym is)

node_answer : (p : Parts) (n : ℕ) (node : Node) (b : Bool) → slice_get p.nodes n ≡ Some node → MatchBool b (IsTextNode node) (IsTextNode node → ⊥) → MatchBool b (AreSome (shape_of p) (values.Node n)) (NoAttachments (shape_of p) (values.Node n))
node_answer p n (nodes.Map type pairs) true at h = map_is_some p n type pairs at h
node_answer p n (nodes.Map type pairs) false at h = map_is_none p n type pairs at h
node_answer p n (nodes.List type items) true at h = absurd h
node_answer p n (nodes.List type items) false at h = list_is_none p n type items at
node_answer p n (nodes.Object class vs) true at h = absurd h
node_answer p n (nodes.Object class vs) false at h = object_is_none p n class vs at

pub value_answer : (p : Parts) (value : Value) (n : ℕ) (node : Node) (b : Bool) → value ≡ values.Node n → slice_get p.nodes n ≡ Some node → MatchBool b (IsTextNode node) (IsTextNode node → ⊥) → MatchBool b (AreSome (shape_of p) value) (NoAttachments (shape_of p) value)
value_answer p value n node b e at h = subst (λ v. MatchBool b (AreSome (shape_of p) v) (NoAttachments (shape_of p) v)) (sym e) (node_answer p n node b at h)

pub last_answer : (g : Shape) (last : Value) (b : Bool) → 1 ≤ length g.roots → last ≡ get_or g.roots (length g.roots - 1) last → MatchBool b (AreSome g last) (NoAttachments g last) → MatchBool b (LastAreSome g) (LastAreNone g)
last_answer g last b some is h = by_answer b h
  where
    roots : g.roots ≡ take (length g.roots - 1) g.roots ++ last ∷ []
    roots =
        let e : suc (length g.roots - 1) ≡ length g.roots = omega (arith, some) in
        sym (take_all (length g.roots) g.roots (omega arith)) ∙ ap (λ n. take n g.roots) (sym e) ∙ take-suc g.roots (length g.roots - 1) last (omega (arith, some)) ∙ ap (λ v. take (length g.roots - 1) g.roots ++ v ∷ []) (sym is)

    by_answer : (b : Bool) → MatchBool b (AreSome g last) (NoAttachments g last) → MatchBool b (LastAreSome g) (LastAreNone g)
    by_answer true h = record { before = take (length g.roots - 1) g.roots; last = last; roots = roots; are = h }
    by_answer false h = record { before = take (length g.roots - 1) g.roots; last = last; roots = roots; none = h }

-- ---- what each kind makes of the graph

exception_roots : (n : ℕ) (z : ℤ) → z ≡ pos 0 → HasRoots z n → n ≡ 1
exception_roots n z e r_exception = refl
exception_roots n z e r = absurd cc

value_roots : (n : ℕ) (z : ℤ) → z ≡ pos 1 → HasRoots z n → n ≡ 1
value_roots n z e r_value = refl
value_roots n z e r = absurd cc

null_roots : (n : ℕ) (z : ℤ) → z ≡ pos 2 → HasRoots z n → n ≡ 0
null_roots n z e r_null = refl
null_roots n z e r = absurd cc

pub an_exception : (g : Parts) (kind : Kinds) → kind ≡ kinds.Threw → HasRoots (number_of kind) (length g.roots) → IsCanon (shape_of g) (shape_of g) → Outcome (shape_of g) (number_of kind) (Threw g)
an_exception g kind e has canon =
    let one = one_root g.roots (exception_roots (length g.roots) (pos 0) refl (subst (λ k. HasRoots (number_of k) (length g.roots)) e has)) in
    subst (λ k. Outcome (shape_of g) (number_of k) (Threw g)) (sym e) (o_exception one.0 g one.1 canon)

pub a_value : (g : Parts) (kind : Kinds) → kind ≡ kinds.Value → HasRoots (number_of kind) (length g.roots) → IsCanon (shape_of g) (shape_of g) → Outcome (shape_of g) (number_of kind) (AValue g)
a_value g kind e has canon =
    let one = one_root g.roots (value_roots (length g.roots) (pos 1) refl (subst (λ k. HasRoots (number_of k) (length g.roots)) e has)) in
    subst (λ k. Outcome (shape_of g) (number_of k) (AValue g)) (sym e) (o_value one.0 g one.1 canon)

pub a_null : (g form : Parts) (kind : Kinds) → kind ≡ kinds.Null → HasRoots (number_of kind) (length g.roots) → shape_of form ≡ null_alone → Outcome (shape_of g) (number_of kind) (AValue form)
a_null g form kind e has is =
    let nothing_there = no_root g.roots (null_roots (length g.roots) (pos 2) refl (subst (λ k. HasRoots (number_of k) (length g.roots)) e has)) in
    subst (λ k. Outcome (shape_of g) (number_of k) (AValue form)) (sym e) (o_null form nothing_there is)

pub an_exception_beside : (g form : Parts) (kind : Kinds) → kind ≡ kinds.ThrewBeside → FirstBeside (shape_of g) (shape_of form) → Outcome (shape_of g) (number_of kind) (Threw form)
an_exception_beside g form kind e f = subst (λ k. Outcome (shape_of g) (number_of k) (Threw form)) (sym e) (o_exception_beside f.root f.last form f.roots f.are f.canonical)

pub a_value_beside : (g form : Parts) (kind : Kinds) → kind ≡ kinds.ValueBeside → FirstBeside (shape_of g) (shape_of form) → Outcome (shape_of g) (number_of kind) (AValue form)
a_value_beside g form kind e f = subst (λ k. Outcome (shape_of g) (number_of k) (AValue form)) (sym e) (o_value_beside f.root f.last form f.roots f.are f.canonical)

pub lacks_exception : (g : Shape) (kind : Kinds) → kind ≡ kinds.ThrewBeside → LacksAttachments g 1 → LacksBeside g (number_of kind)
lacks_exception g kind e l = subst (λ k. LacksBeside g (number_of k)) (sym e) (record { before = 1; beside = b_exception; lacks = l })

pub lacks_value : (g : Shape) (kind : Kinds) → kind ≡ kinds.ValueBeside → LacksAttachments g 1 → LacksBeside g (number_of kind)
lacks_value g kind e l = subst (λ k. LacksBeside g (number_of k)) (sym e) (record { before = 1; beside = b_value; lacks = l })

pub lacks_null : (g : Shape) (kind : Kinds) (result : Result Reply ReplyFault) → kind ≡ kinds.NullBeside → IfErr result (λ fault. fault ≢ answers.OutOfMemory → (fault ≡ answers.BadAttachments) × LacksAttachments g 0) → IfErr result (λ fault. fault ≢ answers.OutOfMemory → (fault ≡ answers.BadAttachments) × LacksBeside g (number_of kind))
lacks_null g kind (Ok reply) e l = tt
lacks_null g kind (Err fault) e l = λ some. let q = l some in (q.0, subst (λ k. LacksBeside g (number_of k)) (sym e) (record { before = 0; beside = b_null; lacks = q.1 }))
