-- The direct call may be made of each request that was read from the body of a frame.
use Rattle.std.proofs.Common.{◌≡◌, ℕ, ◌-◌, ◌<◌, ◌≤◌, ◌^◌, List, [], ◌∷◌, ◌++◌, length, get_or, refl, ap, sym, subst, ◌∙◌, arith, length-append}
use Rattle.std.specs.Prelude.{map}
use Rattle.std.specs.List.{All}
use Rattle.std.proofs.lemmas.List.{get_or-map, get_or_append_left, length-map}
use Rattle.std.proofs.lemmas.List.Elements.{All-nil, All-get_or, All-from_get_or}
use Rattle.hessian_graph.specs.declared.value.Value.{Value}
use Rattle.hessian_graph.specs.declared.value.Value.TheVariants as values
use Rattle.hessian_graph.specs.Shape.{Kind, ListKind, MapKind, ObjectKind, NodeShape, Shape, no_node, values_at, kind_at, shape_of}
use Rattle.hessian_graph.specs.Canon.{renumbered, moved, in_order, IsCanon}
use Rattle.hessian_graph.specs.Work.{NamesBelow, IsClosed}
use Rattle.hessian_reader.specs.Leaves.{hessian, node_limit}
use Rattle.hessian_scalars.proofs.Fronts.{has_code}
use Rattle.hessian_scalars.specs.declared.scalar.Scalar.TheVariants as scalars
use Rattle.hessian_text.specs.declared.stage.Kind.{Kind as ChunkKind}
use Rattle.hessian_text.specs.declared.stage.Part.{Part}
use Rattle.hessian_text.specs.ChunkHead.{ChunkHead}
use Rattle.hessian_text.specs.ChunkHead.ChunkHead.{text_short, text_middle, text_inner, text_final, binary_short, binary_middle, binary_inner, binary_final}
use Rattle.hessian_text.specs.Spelling.{Spelling}
use Rattle.hessian_text.specs.Spelling.Spelling.{last, chunk}
use Rattle.hessian_writer.specs.Writable.{IsShortKind, IsWritable}
use Rattle.dubbo_header.specs.declared.header.Header.{Header}
use Rattle.dubbo_bodies.specs.declared.message.Request.{Request}
use Rattle.dubbo_bodies.specs.Descriptor.{HasArgs}
use Rattle.dubbo_bodies.specs.RequestBody.{RequestOf, with_roots}
use Rattle.dubbo_bodies.proofs.Beside.{AreBelow, seen_within}
use Rattle.service_table.proofs.CanonForms.{few_nodes}
use Rattle.dubbo_bodies.specs.FedBody.{FedBody}
use Rattle.provider_pool.specs.Writes.{HoldsFrame}
use Rattle.provider_pool.proofs.SpelledBounds.{HasBytes, IsShortTo, GraphFits, graph_fits}

-- ---- nothing is spelled by no bytes

head_some : {kind : ChunkKind} {part : Part} {n : ℕ} {head : List ℕ} → ChunkHead kind part n head → 0 < length head
head_some (text_short code n is e) = omega arith
head_some (text_middle code b0 n is less e) = omega arith
head_some (text_inner b1 b0 n less less' e) = omega arith
head_some (text_final b1 b0 n less less' e) = omega arith
head_some (binary_short code n is e) = omega arith
head_some (binary_middle code b0 n is less e) = omega arith
head_some (binary_inner b1 b0 n less less' e) = omega arith
head_some (binary_final b1 b0 n less less' e) = omega arith

chunks_some : {kind : ChunkKind} {value bytes : List ℕ} → Spelling kind value bytes → 0 < length bytes
chunks_some (last value head forms units is contents) = let a = head_some is in omega (arith, a, length-append head forms)
chunks_some (chunk value more head forms rest units is contents later) = let a = head_some is in omega (arith, a, length-append head (forms ++ rest))

scalar_some : (v : Value) (bytes : List ℕ) → hessian.scalar v bytes → 0 < length bytes
scalar_some values.Null bytes is = has_code scalars.Null bytes is
scalar_some (values.Bool b) bytes is = has_code (scalars.Bool b) bytes is
scalar_some (values.Int z) bytes is = has_code (scalars.Int z) bytes is
scalar_some (values.Long z) bytes is = has_code (scalars.Long z) bytes is
scalar_some (values.Date z) bytes is = has_code (scalars.Date z) bytes is
scalar_some (values.Text text) bytes is = absurd is
scalar_some (values.Bytes contents) bytes is = absurd is
scalar_some (values.Node n) bytes is = absurd is

all_some : HasBytes hessian
all_some = record {
  scalar = scalar_some;
  text = λ text bytes is. chunks_some is;
  binary = λ contents bytes is. chunks_some is;
}

-- ---- the arguments alone

front_named : (count : ℕ) (front : List Value) (v : Value) → All (NamesBelow count) (front ++ v ∷ []) → All (NamesBelow count) front
front_named count front v all = All-from_get_or (NamesBelow count) front v (λ i less.
    let within : i < length (front ++ v ∷ []) = omega (arith, less, length-append front (v ∷ [])) in
    subst (NamesBelow count) (get_or_append_left front (v ∷ []) v i less) (All-get_or (NamesBelow count) (front ++ v ∷ []) i v within all))

args_closed : (g : Shape) (most : ℕ) (args : List Value) (v : Value) → GraphFits g most → g.roots ≡ args ++ v ∷ [] → length g.nodes < 2 ^ 32 → IsClosed (with_roots args g)
args_closed g most args v fits roots few = record {
  few = few;
  roots = front_named (length g.nodes) args v (subst (All (NamesBelow (length g.nodes))) roots fits.roots);
  each = fits.named;
}

short_moved : (most : ℕ) (order : List ℕ) (kind : Kind) (vs : List Value) → most < 2 ^ 31 → IsShortTo most kind vs → IsShortKind kind (map (renumbered order) vs)
short_moved most order (ListKind type) vs few short = omega (arith, few, short, length-map vs (renumbered order))
short_moved most order (MapKind type) vs few short = tt
short_moved most order (ObjectKind class) vs few short = omega (arith, few, short)

node_short : (g : Shape) (order : List ℕ) (most n : ℕ) → GraphFits g most → most < 2 ^ 31 → AreBelow (length g.nodes) order → n < length order → IsShortKind (kind_at (in_order g order) n) (values_at (in_order g order) n)
node_short g order most n fits few below less =
    let m : ℕ = get_or order n 0 in
    let within : m < length g.nodes = All-get_or (λ k. k < length g.nodes) order n 0 less below in
    let at : get_or (map (moved g order) order) n no_node ≡ moved g order m = get_or-map (moved g order) order n 0 no_node less in
    subst (λ (x : NodeShape). IsShortKind x.kind x.values) (sym at) (short_moved most order (kind_at g m) (values_at g m) few (fits.short m within))

args_writable : (g form : Shape) (most : ℕ) → GraphFits g most → most < 2 ^ 31 → IsClosed g → length g.nodes < 2 ^ 31 → IsCanon g form → IsWritable form
args_writable g form most fits few closed nodes canon =
    let order = canon.0 in
    let below : AreBelow (length g.nodes) order = seen_within closed canon.1 closed.roots (All-nil (λ m. m < length g.nodes)) in
    let count : length (in_order g order).nodes ≡ length order = length-map order (moved g order) in
    let fewer = few_nodes g (in_order g order) closed (order, canon.1, refl) in
    let is : IsWritable (in_order g order) = record {
      few = omega (arith, fewer, nodes);
      each = λ n less. node_short g order most n fits few below (omega (arith, less, count));
    } in
    subst IsWritable (sym canon.2) is

-- ---- a request that was read

pub record MayCall (r : Request) : Type 0 where
  pub args : HasArgs r.desc (length r.args.roots)
  pub writable : IsWritable (shape_of r.args)
  pub few : length r.args.nodes < 2 ^ 31 - 1

pub may_call : (header : Header) (body : List ℕ) (r : Request) → RequestOf hessian node_limit header body r → length body ≤ 8388608 → MayCall r
may_call header body r q short =
    let g = q.graph in
    let args = q.are.args in
    let alone : Shape = with_roots args g in
    let most = length q.values in
    let fits : GraphFits g most = graph_fits hessian g q.values all_some q.denotes.spelled in
    let here : GraphFits alone most = record { short = fits.short; named = fits.named; roots = (args_closed g most args q.are.last fits q.are.roots (omega (arith, q.denotes.limit))).roots } in
    let closed : IsClosed alone = args_closed g most args q.are.last fits q.are.roots (omega (arith, q.denotes.limit)) in
    let few : most < 2 ^ 31 = omega (arith, short, ap length q.begins.joined, length-append q.begins.front q.values) in
    let roots : length r.args.roots ≡ q.count = ap (λ (x : Shape). length x.roots) q.are.canonical.2 ∙ length-map args (renumbered q.are.canonical.0) ∙ q.are.each in
    let nodes : length r.args.nodes ≡ length (shape_of r.args).nodes = sym (length-map r.args.nodes _) in
    let fewer = few_nodes alone (shape_of r.args) closed q.are.canonical in
    record {
      args = subst (HasArgs r.desc) (sym roots) q.counted;
      writable = args_writable alone (shape_of r.args) most here few closed (omega (arith, q.denotes.limit)) q.are.canonical;
      few = omega (arith, fewer, nodes, q.denotes.limit);
    }

pub read_may_call : (body : FedBody) (header : Header) → HoldsFrame body header → (r : Request) → RequestOf hessian node_limit header body.fed r → MayCall r
read_may_call body header held r q = may_call header body.fed r q (omega (arith, held.whole.length, held.whole.header.length))
