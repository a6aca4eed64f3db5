-- The canonical form of a graph with attachments is the canonical form of the graph, with the attachments.
use Rattle.std.proofs.Common.{◌≡◌, ℕ, ◌<◌, List, [], ◌∷◌, ◌++◌, length, get_or, refl, sym, ap, ◌∙◌, subst, arith, append_assoc}
use Rattle.std.specs.Prelude.{map, None, All}
use Rattle.std.proofs.Math.Seq.{get_or-append_seam}
use Rattle.std.proofs.lemmas.Bool.{ne_eqb}
use Rattle.std.proofs.lemmas.List.{append-nil, length-map, map-append}
use Rattle.std.proofs.lemmas.List.Elements.{All-append, All-cons, All-nil, All-head, All-tail}
use Rattle.hessian_graph.specs.declared.value.Value.{Value}
use Rattle.hessian_graph.specs.declared.value.Value.TheVariants as values
use Rattle.hessian_graph.specs.Shape.{Shape, NodeShape, Kind, MapKind, values_at, kind_at, no_node}
use Rattle.hessian_graph.specs.Canon.{place_of, Visit, renumbered, moved, in_order, place_or_zero, IsCanon}
use Rattle.hessian_graph.specs.Canon.Visit.{done, plain, again, first}
use Rattle.hessian_graph.specs.Work.{NamesBelow, IsClosed}
use Rattle.hessian_graph.proofs.Places.{place_new, place_other}
use Rattle.dubbo_bodies.specs.declared.attachment.Attachment.{Attachment}
use Rattle.dubbo_bodies.specs.Attachments.{name_values, with_attachments}
use Rattle.dubbo_bodies.proofs.Wider.{IsWithin, values_stay, kind_stays}

-- numbers of nodes of a graph
abbrev pub AreBelow : ℕ → List ℕ → Type 0
AreBelow count ns = All (λ n. n < count) ns

-- a visit sees nodes of the graph alone
pub seen_within : {g : Shape} {seen out : List ℕ} {vs : List Value} → IsClosed g → Visit g seen vs out → All (NamesBelow (length g.nodes)) vs → AreBelow (length g.nodes) seen → AreBelow (length g.nodes) out
seen_within closed (done seen) below few = few
seen_within {g} closed (plain seen out v rest none visit) below few = seen_within closed visit (All-tail (NamesBelow (length g.nodes)) v rest below) few
seen_within {g} closed (again seen out v rest n k names has visit) below few = seen_within closed visit (All-tail (NamesBelow (length g.nodes)) v rest below) few
seen_within {g} closed (first seen out v rest n names fresh visit) below few =
    let count = length g.nodes in
    let head : NamesBelow count v = All-head (NamesBelow count) v rest below in
    let within : n < count = head n names in
    seen_within closed visit (All-append (NamesBelow count) (values_at g n) rest (closed.each n within) (All-tail (NamesBelow count) v rest below)) (All-append (λ m. m < count) seen (n ∷ []) few (All-cons (λ m. m < count) n [] within (All-nil (λ m. m < count))))

-- a number that is too great has no place
no_place : (n : ℕ) (xs : List ℕ) → AreBelow n xs → place_of n xs ≡ None
no_place n [] few = refl
no_place n (x ∷ xs) few =
    let head : x < n = All-head (λ m. m < n) x xs few in
    rw (ne_eqb n x (λ e. omega (arith, e, head)), no_place n xs (All-tail (λ m. m < n) x xs few)) refl

-- a visit goes the same way in a graph that has more nodes, and then on
pub visit_wider : {g h : Shape} {seen out last : List ℕ} {vs more : List Value} → IsClosed g → IsWithin g h → Visit g seen vs out → All (NamesBelow (length g.nodes)) vs → Visit h out more last → Visit h seen (vs ++ more) last
visit_wider closed w (done seen) below on = on
visit_wider {g} {last = last} {more = more} closed w (plain seen out v rest none visit) below on = plain seen last v (rest ++ more) none (visit_wider closed w visit (All-tail (NamesBelow (length g.nodes)) v rest below) on)
visit_wider {g} {last = last} {more = more} closed w (again seen out v rest n k names has visit) below on = again seen last v (rest ++ more) n k names has (visit_wider closed w visit (All-tail (NamesBelow (length g.nodes)) v rest below) on)
visit_wider {g} {h} {last = last} {more = more} closed w (first seen out v rest n names fresh visit) below on =
    let count = length g.nodes in
    let head : NamesBelow count v = All-head (NamesBelow count) v rest below in
    let within : n < count = head n names in
    let behind : Visit h (seen ++ n ∷ []) ((values_at g n ++ rest) ++ more) last = visit_wider closed w visit (All-append (NamesBelow count) (values_at g n) rest (closed.each n within) (All-tail (NamesBelow count) v rest below)) on in
    first seen last v (rest ++ more) n names fresh (subst (λ xs. Visit h (seen ++ n ∷ []) xs last) (append_assoc (values_at g n) rest more ∙ ap (λ xs. xs ++ (rest ++ more)) (values_stay g h n w within)) behind)

-- names and texts name no nodes
texts_visit : {h : Shape} (seen : List ℕ) (entries : List Attachment) → Visit h seen (name_values entries) seen
texts_visit {h} seen [] = done seen
texts_visit {h} seen (a ∷ rest) = plain seen seen (values.Text a.name) (values.Text a.value ∷ name_values rest) refl (plain seen seen (values.Text a.value) (name_values rest) refl (texts_visit seen rest))

texts_stay : (order : List ℕ) (entries : List Attachment) → map (renumbered order) (name_values entries) ≡ name_values entries
texts_stay order [] = refl
texts_stay order (a ∷ rest) = ap (λ xs. values.Text a.name ∷ values.Text a.value ∷ xs) (texts_stay order rest)

-- ---- the graph with attachments

pub within_attached : (g : Shape) (entries : List Attachment) → IsWithin g (with_attachments g entries)
within_attached g entries = record { more = record { kind = MapKind None; values = name_values entries } ∷ []; nodes = refl }

pub attached_node : (g : Shape) (entries : List Attachment) → get_or (with_attachments g entries).nodes (length g.nodes) no_node ≡ record { kind = MapKind None; values = name_values entries }
attached_node g entries = get_or-append_seam g.nodes (record { kind = MapKind None; values = name_values entries }) [] no_node

pub attached_values : (g : Shape) (entries : List Attachment) → values_at (with_attachments g entries) (length g.nodes) ≡ name_values entries
attached_values g entries = ap (λ (x : NodeShape). x.values) (attached_node g entries)

pub attached_kind : (g : Shape) (entries : List Attachment) → kind_at (with_attachments g entries) (length g.nodes) ≡ MapKind None
attached_kind g entries = ap (λ (x : NodeShape). x.kind) (attached_node g entries)

last_visit : (g : Shape) (entries : List Attachment) (order : List ℕ) → AreBelow (length g.nodes) order → Visit (with_attachments g entries) order (values.Node (length g.nodes) ∷ []) (order ++ length g.nodes ∷ [])
last_visit g entries order few =
    let h = with_attachments g entries in
    let n = length g.nodes in
    first order (order ++ n ∷ []) (values.Node n) [] n refl (no_place n order few)
    (subst (λ xs. Visit h (order ++ n ∷ []) xs (order ++ n ∷ [])) (sym (append-nil (values_at h n) ∙ attached_values g entries)) (texts_visit (order ++ n ∷ []) entries))

-- a value that names a node of the graph gets the same number
same_number : (n : ℕ) (order : List ℕ) (v : Value) → NamesBelow n v → renumbered (order ++ n ∷ []) v ≡ renumbered order v
same_number n order values.Null below = refl
same_number n order (values.Bool b) below = refl
same_number n order (values.Int i) below = refl
same_number n order (values.Long l) below = refl
same_number n order (values.Date d) below = refl
same_number n order (values.Text t) below = refl
same_number n order (values.Bytes bs) below = refl
same_number n order (values.Node m) below = let less : m < n = below m refl in ap (λ o. values.Node (place_or_zero o)) (place_other n m order (λ e. omega (arith, e, less)))

same_numbers : (n : ℕ) (order : List ℕ) (vs : List Value) → All (NamesBelow n) vs → map (renumbered (order ++ n ∷ [])) vs ≡ map (renumbered order) vs
same_numbers n order [] below = refl
same_numbers n order (v ∷ vs) below =
    ap (λ x. x ∷ map (renumbered (order ++ n ∷ [])) vs) (same_number n order v (All-head (NamesBelow n) v vs below))
    ∙ ap (λ xs. renumbered order v ∷ xs) (same_numbers n order vs (All-tail (NamesBelow n) v vs below))

-- a node of the graph is the same under the new numbers
same_moved : (g : Shape) (entries : List Attachment) (order : List ℕ) (m : ℕ) → IsClosed g → m < length g.nodes → moved (with_attachments g entries) (order ++ length g.nodes ∷ []) m ≡ moved g order m
same_moved g entries order m closed less =
    let h = with_attachments g entries in
    let n = length g.nodes in
    let w = within_attached g entries in
    let kinds : kind_at h m ≡ kind_at g m = kind_stays g h m w less in
    let vs : map (renumbered (order ++ n ∷ [])) (values_at h m) ≡ map (renumbered order) (values_at g m) = ap (map (renumbered (order ++ n ∷ []))) (sym (values_stay g h m w less)) ∙ same_numbers n order (values_at g m) (closed.each m less) in
    two_equal kinds vs
  where
    two_equal : {k k' : Kind} {vs vs' : List Value} → k ≡ k' → vs ≡ vs' → ◌≡◌ {A = NodeShape} (record { kind = k; values = vs }) (record { kind = k'; values = vs' })
    two_equal {k} {k'} {vs} {vs'} a b = ap (λ x. record { kind = x; values = vs }) a ∙ ap (λ xs. record { kind = k'; values = xs }) b

same_nodes : (g : Shape) (entries : List Attachment) (order ns : List ℕ) → IsClosed g → AreBelow (length g.nodes) ns → map (moved (with_attachments g entries) (order ++ length g.nodes ∷ [])) ns ≡ map (moved g order) ns
same_nodes g entries order [] closed few = refl
same_nodes g entries order (m ∷ ns) closed few =
    let f = moved (with_attachments g entries) (order ++ length g.nodes ∷ []) in
    ap (λ x. x ∷ map f ns) (same_moved g entries order m closed (All-head (λ k. k < length g.nodes) m ns few))
    ∙ ap (λ xs. moved g order m ∷ xs) (same_nodes g entries order ns closed (All-tail (λ k. k < length g.nodes) m ns few))

last_moved : (g : Shape) (entries : List Attachment) (order : List ℕ) → moved (with_attachments g entries) order (length g.nodes) ≡ record { kind = MapKind None; values = name_values entries }
last_moved g entries order =
    ap (λ (x : NodeShape). record { kind = x.kind; values = map (renumbered order) x.values }) (attached_node g entries)
    ∙ ap (λ xs. record { kind = MapKind None; values = xs }) (texts_stay order entries)

last_number : (n : ℕ) (order : List ℕ) → AreBelow n order → renumbered (order ++ n ∷ []) (values.Node n) ≡ values.Node (length order)
last_number n order few = ap (λ o. values.Node (place_or_zero o)) (place_new n order [] (no_place n order few))

-- the same nodes in order, and the attachments behind them
pub order_attached : (g : Shape) (entries : List Attachment) (order : List ℕ) → IsClosed g → AreBelow (length g.nodes) order → in_order (with_attachments g entries) (order ++ length g.nodes ∷ []) ≡ with_attachments (in_order g order) entries
order_attached g entries order closed few =
    let n = length g.nodes in
    let all = order ++ n ∷ [] in
    let h = with_attachments g entries in
    let long : length (map (moved g order) order) ≡ length order = length-map order (moved g order) in
    let roots : map (renumbered all) (g.roots ++ values.Node n ∷ []) ≡ map (renumbered order) g.roots ++ values.Node (length (map (moved g order) order)) ∷ [] =
    map-append (renumbered all) g.roots (values.Node n ∷ [])
    ∙ ap (λ xs. xs ++ renumbered all (values.Node n) ∷ []) (same_numbers n order g.roots closed.roots)
    ∙ ap (λ x. map (renumbered order) g.roots ++ x ∷ []) (last_number n order few ∙ ap (λ k. values.Node k) (sym long)) in
    let nodes : map (moved h all) (order ++ n ∷ []) ≡ map (moved g order) order ++ record { kind = MapKind None; values = name_values entries } ∷ [] =
    map-append (moved h all) order (n ∷ [])
    ∙ ap (λ xs. xs ++ moved h all n ∷ []) (same_nodes g entries order order closed few)
    ∙ ap (λ x. map (moved g order) order ++ x ∷ []) (last_moved g entries all) in
    two_parts roots nodes
  where
    two_parts : {rs rs' : List Value} {ns ns' : List NodeShape} → rs ≡ rs' → ns ≡ ns' → ◌≡◌ {A = Shape} (record { roots = rs; nodes = ns }) (record { roots = rs'; nodes = ns' })
    two_parts {rs} {rs'} {ns} {ns'} a b = ap (λ x. record { roots = x; nodes = ns }) a ∙ ap (λ xs. record { roots = rs'; nodes = xs }) b

-- the canonical form with attachments
pub canon_attached : (g form : Shape) (entries : List Attachment) → IsClosed g → IsCanon g form → IsCanon (with_attachments g entries) (with_attachments form entries)
canon_attached g form entries closed canon =
    let order = canon.0 in
    let n = length g.nodes in
    let few : AreBelow n order = seen_within closed canon.1 closed.roots (All-nil (λ m. m < n)) in
    let visit = visit_wider closed (within_attached g entries) canon.1 closed.roots (last_visit g entries order few) in
    (order ++ n ∷ [], visit, ap (λ x. with_attachments x entries) canon.2 ∙ sym (order_attached g entries order closed few))
