-- Nodes whose numbers of items or fields an int counts.
use Rattle.std.proofs.Common.{◌≡◌, ℕ, ◌+◌, ◌<◌, ◌≤◌, ◌^◌, length, subst, sym, arith, inl, inr}
use Rattle.std.proofs.lemmas.Bool.{cases_lt}
use Rattle.hessian_graph.specs.declared.node.Node.{Node}
use Rattle.hessian_graph.specs.declared.parts.Parts.{Parts}
use Rattle.hessian_graph.specs.Shape.{shape_of, kind_of, kind_at, values_of, values_at, no_vertex}
use Rattle.hessian_writer.specs.Writable.{IsShortKind, IsWritable}
use Rattle.hessian_writer.proofs.Writers.{count_of, kind_here, values_here}
use Rattle.std.proofs.Common.{get_or}

pub short_at : (p : Parts) (n : ℕ) (node : Node) → node ≡ get_or p.nodes n no_vertex → IsShortKind (kind_of p.types p.classes node) (values_of node) → IsShortKind (kind_at (shape_of p) n) (values_at (shape_of p) n)
short_at p n node e s = subst (λ k. IsShortKind k (values_at (shape_of p) n)) (sym (kind_here p n node e)) (subst (IsShortKind (kind_of p.types p.classes node)) (sym (values_here p n node e)) s)

pub one_more_short : (p : Parts) (i : ℕ) (node : Node) → ((n : ℕ) → n < i → IsShortKind (kind_at (shape_of p) n) (values_at (shape_of p) n)) → node ≡ get_or p.nodes i no_vertex → IsShortKind (kind_of p.types p.classes node) (values_of node) → (n : ℕ) → n < i + 1 → IsShortKind (kind_at (shape_of p) n) (values_at (shape_of p) n)
one_more_short p i node before e s n h = elim (cases_lt n i) [
  | inl b ↦ before n b
  | inr past ↦
      let same : i ≡ n = omega (arith, h, past) in
      subst (λ x. IsShortKind (kind_at (shape_of p) x) (values_at (shape_of p) x)) same (short_at p i node e s)
]

pub all_short : (p : Parts) (i : ℕ) → length p.nodes < 2 ^ 31 → length p.nodes ≤ i → ((n : ℕ) → n < i → IsShortKind (kind_at (shape_of p) n) (values_at (shape_of p) n)) → IsWritable (shape_of p)
all_short p i few past each =
    let d = count_of p in
    record { few = omega (arith, few, d); each = λ n h. each n (omega (arith, h, d, past)) }

pub not_writable : (p : Parts) (i : ℕ) (node : Node) → i < length p.nodes → node ≡ get_or p.nodes i no_vertex → (IsShortKind (kind_of p.types p.classes node) (values_of node) → ⊥) → IsWritable (shape_of p) → ⊥
not_writable p i node h e long w =
    let d = count_of p in
    long (subst (λ k. IsShortKind k (values_of node)) (kind_here p i node e) (subst (IsShortKind (kind_at (shape_of p) i)) (values_here p i node e) (w.each i (omega (arith, h, d)))))
