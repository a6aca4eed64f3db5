-- The canonical form of a graph: that it is one, that isomorphic graphs share it, its parts, and how many nodes it has.
use Rattle.std.proofs.Common.{◌≡◌, ℕ, ◌<◌, ◌≤◌, List, [], length, set, refl, ap, sym, ◌∙◌, arith}
use Rattle.std.specs.Prelude.{Option, Some, None, All, replicate}
use Rattle.std.proofs.lemmas.List.{length-map}
use Rattle.std.proofs.lemmas.List.Elements.{All-append, All-head, All-tail}
use Rattle.hessian_graph.specs.declared.value.Value.{Value}
use Rattle.hessian_graph.specs.Shape.{Shape, values_at}
use Rattle.hessian_graph.specs.Canon.{moved, in_order, Visit, IsCanon}
use Rattle.hessian_graph.specs.Canon.Visit.{done, plain, again, first}
use Rattle.hessian_graph.specs.Iso.{Iso}
use Rattle.hessian_graph.specs.Work.{NamesBelow, IsClosed, FineAt}
use Rattle.hessian_graph.proofs.Visits.{one_visit, some_visit}
use Rattle.hessian_graph.proofs.Back.{iso_exactly}
use Rattle.hessian_graph.proofs.Again.{form_stays}
use Rattle.hessian_graph.proofs.Walking.{open_fine, new_fine}

pub one_canon : (g a b : Shape) → IsCanon g a → IsCanon g b → a ≡ b
one_canon g a b p q = p.2 ∙ ap (in_order g) (one_visit p.1 q.1) ∙ sym q.2

pub some_canon : (g : Shape) → IsClosed g → (a : Shape) × IsCanon g a
some_canon g closed = let v = some_visit g closed in (in_order g v.0, (v.0, v.1, refl))

-- a graph is isomorphic to its canonical form
pub iso_form : (g a : Shape) → IsClosed g → IsClosed a → IsCanon g a → Iso g a
iso_form g a cg ca canon = (iso_exactly g a a a cg ca canon (form_stays g a cg ca canon)).1 refl

-- no more nodes are seen than there are
few_seen : {g : Shape} {seen out : List ℕ} {vs : List Value} (numbers : List (Option ℕ)) → IsClosed g → FineAt g numbers seen [] → All (NamesBelow (length g.nodes)) vs → Visit g seen vs out → length out ≤ length g.nodes
few_seen numbers closed fine names (done seen) = let count = fine.count in omega (arith, count)
few_seen {g = g} numbers closed fine names (plain seen out v rest none l) = few_seen numbers closed fine (All-tail (NamesBelow (length g.nodes)) v rest names) l
few_seen {g = g} numbers closed fine names (again seen out v rest n k is at l) = few_seen numbers closed fine (All-tail (NamesBelow (length g.nodes)) v rest names) l
few_seen {g = g} numbers closed fine names (first seen out v rest n is new l) =
    let within : n < length g.nodes = All-head (NamesBelow (length g.nodes)) v rest names n is in
    few_seen (set numbers n (Some (length seen))) closed (open_fine g numbers seen [] n fine within new)
    (All-append (NamesBelow (length g.nodes)) (values_at g n) rest (closed.each n within) (All-tail (NamesBelow (length g.nodes)) v rest names)) l

pub few_ordered : (g : Shape) (order : List ℕ) → IsClosed g → Visit g [] g.roots order → length order ≤ length g.nodes
few_ordered g order closed visit = few_seen (replicate (length g.nodes) None) closed (new_fine g (length g.nodes) refl) closed.roots visit

-- a canonical form has no more nodes than the graph
pub few_nodes : (g a : Shape) → IsClosed g → IsCanon g a → length a.nodes ≤ length g.nodes
few_nodes g a closed (order, visit, is) =
    let few = few_ordered g order closed visit in
    let count : length a.nodes ≡ length order = ap (λ (x : Shape). length x.nodes) is ∙ length-map order (moved g order) in
    omega (arith, few, count)
