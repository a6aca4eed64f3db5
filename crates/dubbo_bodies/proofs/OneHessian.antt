-- What the writer's laws call the spellings of Hessian is what the readers answer by.
use Rattle.std.proofs.Common.{◌≡◌, ◌≤◌, ℕ, List, length, refl, ap, subst, ◌∙◌}
use Rattle.std.proofs.Math.Path.{fun_ext}
use Rattle.std.proofs.lemmas.List.{length-map}
use Rattle.hessian_graph.specs.declared.value.Value.{Value}
use Rattle.hessian_graph.specs.declared.value.Value.TheVariants as values
use Rattle.hessian_graph.specs.Canon.{IsCanon, renumbered}
use Rattle.hessian_graph.specs.Forms.{Written}
use Rattle.hessian_graph.specs.Reading.{Leaves}
use Rattle.hessian_graph.specs.Shape.{Shape}
use Rattle.hessian_graph.specs.Spells.{Denotes}
use Rattle.hessian_text.specs.Spelling.{TextSpelling, BinarySpelling}
use Rattle.hessian_reader.specs.Leaves.{IsDenoted, node_limit, hessian as read_spellings, scalar_bytes as read_scalar}
use Rattle.hessian_writer.specs.Leaves.{hessian, hessian_forms, scalar_bytes}
use Rattle.hessian_writer.proofs.LeafLaws.{denoted}

abbrev with_scalars : (Value → List ℕ → Type 0) → Leaves
with_scalars scalar = record { scalar = scalar; text = TextSpelling; binary = BinarySpelling }

same_scalar : (v : Value) → scalar_bytes v ≡ read_scalar v
same_scalar values.Null = refl
same_scalar (values.Bool b) = refl
same_scalar (values.Int z) = refl
same_scalar (values.Long z) = refl
same_scalar (values.Date z) = refl
same_scalar (values.Text text) = refl
same_scalar (values.Bytes contents) = refl
same_scalar (values.Node n) = refl

pub one_hessian : hessian ≡ read_spellings
one_hessian = ap with_scalars (fun_ext same_scalar)

-- a graph's written bytes denote its canonical form, as readers have it
pub graph_read : (g form : Shape) (bytes : List ℕ) → Written hessian hessian_forms g bytes → IsCanon g form → length form.nodes ≤ node_limit → IsDenoted bytes form
graph_read g form bytes written canon few = subst (λ (l : Leaves). Denotes l node_limit bytes form) one_hessian (denoted node_limit g form bytes written canon few)

-- the canonical form has as many roots as the graph
pub as_many_roots : (g form : Shape) → IsCanon g form → length form.roots ≡ length g.roots
as_many_roots g form canon = ap (λ (x : Shape). length x.roots) canon.2 ∙ length-map g.roots (renumbered canon.0)
