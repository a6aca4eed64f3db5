-- Steps of a whole writer.
use Rattle.std.proofs.Common.{◌≡◌, ℕ, suc, ◌+◌, ◌-◌, ◌<◌, ◌≤◌, ◌^◌, List, [], ◌∷◌, ◌++◌, length, get_or, drop, refl, ap, sym, ◌∙◌, subst, arith, length-append, append_assoc}
use Rattle.std.specs.Prelude.{ℤ, pos, Option, Some, None, reverse, All}
use Rattle.std.proofs.lemmas.List.{append-nil, length-map, get_or_default}
use Rattle.hessian_scalars.specs.declared.scalar.Scalar.TheVariants as scalars
use Rattle.hessian_scalars.specs.Written.{Appends as AppendsScalar, IsShortest}
use Rattle.hessian_graph.specs.declared.value.Value.{Value}
use Rattle.hessian_graph.specs.declared.value.Value.TheVariants as values
use Rattle.hessian_graph.specs.declared.node.Node.{Node}
use Rattle.hessian_graph.specs.declared.node.Class.{Class}
use Rattle.hessian_graph.specs.declared.parts.Parts.{Parts}
use Rattle.hessian_graph.specs.Shape.{Shape, NodeShape, shape_of, node_shape, kind_of, kind_at, values_of, values_at, node_of, no_vertex}
use Rattle.hessian_graph.specs.Canon.{place_of}
use Rattle.hessian_graph.specs.Reading.{Tables}
use Rattle.hessian_graph.specs.Forms.{Written}
use Rattle.hessian_graph.proofs.Places.{place_within}
use Rattle.hessian_graph.specs.Faults.{IsSound}
use Rattle.hessian_graph.proofs.Closed.{closed_of}
use Rattle.hessian_graph.proofs.Rebuilding.{shape_at, there_of}
use Rattle.hessian_writer.specs.declared.writer.Step.{Step}
use Rattle.hessian_writer.specs.declared.writer.Writer.{Writer}
use Rattle.hessian_writer.specs.Leaves.{hessian, hessian_forms}
use Rattle.hessian_writer.specs.Writable.{IsShortKind, IsWritable}
use Rattle.hessian_writer.specs.Numbered.{Numbered}
use Rattle.hessian_writer.specs.Heads.{HeadForm}
use Rattle.hessian_writer.specs.Course.{Due, ValueOf, values_then, end_then, State, GoesOn}
use Rattle.hessian_writer.specs.Course.Course.{done}
use Rattle.hessian_writer.specs.Appending.{Appends, WritesPlain}
use Rattle.hessian_writer.specs.Progress.{tables_with, state_of, due_on, work, CanWrite, Fine, begun_state, WritesHead}
use Rattle.hessian_writer.specs.Running.{with_out, RunsToNode, WritesOver, end_bytes}
use Rattle.hessian_writer.proofs.LeafLaws.{forms_are_spellings}
use Rattle.hessian_writer.proofs.Steps.{both, leaf_goes, again_goes, first_goes, next_value, no_value, due_push, work_push, seen_work, pushed_below}
use Rattle.hessian_writer.proofs.Runs.{ended}
use Rattle.hessian_writer.proofs.Trees.{written}

pub count_of : (p : Parts) → length (shape_of p).nodes ≡ length p.nodes
count_of p = length-map p.nodes (node_shape p.types p.classes)

-- fewer nodes are seen than an int counts
pub few_seen : (p : Parts) (w : Writer) → CanWrite p → Fine p w → length w.nodes.order < 2 ^ 31
few_seen p w ready fine =
    let a = ready.writable.few in
    let b = fine.few_nodes in
    let c = fine.nodes_total in
    let d = count_of p in
    omega (arith, a, b, c, d)

pub small_place : (p : Parts) (w : Writer) (n k : ℕ) → CanWrite p → Fine p w → place_of n w.nodes.order ≡ Some k → k < 2 ^ 31
small_place p w n k ready fine e =
    let a = place_within n w.nodes.order k e in
    let b = few_seen p w ready fine in
    omega (arith, a, b)

-- the node of a number, as contracts see it
pub kind_here : (p : Parts) (n : ℕ) (node : Node) → node ≡ get_or p.nodes n no_vertex → kind_at (shape_of p) n ≡ kind_of p.types p.classes node
kind_here p n node e = ap (λ (x : NodeShape). x.kind) (shape_at p n) ∙ ap (kind_of p.types p.classes) (sym e)

pub values_here : (p : Parts) (n : ℕ) (node : Node) → node ≡ get_or p.nodes n no_vertex → values_at (shape_of p) n ≡ values_of node
values_here p n node e = ap (λ (x : NodeShape). x.values) (shape_at p n) ∙ ap values_of (sym e)

pub short_here : (p : Parts) (n : ℕ) (node : Node) → CanWrite p → n < length p.nodes → node ≡ get_or p.nodes n no_vertex → IsShortKind (kind_of p.types p.classes node) (values_of node)
short_here p n node ready h e =
    let d = count_of p in
    subst (λ k. IsShortKind k (values_of node)) (kind_here p n node e) (subst (IsShortKind (kind_at (shape_of p) n)) (values_here p n node e) (ready.writable.each n (omega (arith, h, d))))

pub indexed : (xs ys : List Node) (n : ℕ) (r : Node) → r ≡ get_or xs n r → xs ≡ ys → n < length ys → r ≡ get_or ys n no_vertex
indexed xs ys n r is e h = is ∙ get_or_default xs n r no_vertex (subst (λ (zs : List Node). n < length zs) (sym e) h) ∙ ap (λ (zs : List Node). get_or zs n no_vertex) e

-- a node that has begun is named by its number
pub refers : (g : Shape) (order : List ℕ) (t : Tables) (old mid new : List ℕ) (n k : ℕ) (z : ℤ) (ds : List Due) → place_of n order ≡ Some k → z ≡ pos k → mid ≡ old ++ 0x51 ∷ [] → AppendsScalar mid new (scalars.Int z) → GoesOn hessian_forms g (with_out order t old) (ValueOf (values.Node n) ∷ ds) (with_out order t new) ds
refers g order t old mid new n k z ds place e a b =
    again_goes order t old new b.spelling n k ds place (subst (λ x. IsShortest (scalars.Int x) b.spelling) e b.written) (b.joined ∙ ap (λ x. x ++ b.spelling) a ∙ append_assoc old (0x51 ∷ []) b.spelling)

-- a node begins
pub record Begun (p : Parts) (old new : Writer) (n : ℕ) : Type 0 where
  pub fine : Fine p new
  pub goes_on : (ds : List Due) → GoesOn hessian_forms (shape_of p) (state_of p old) (ValueOf (values.Node n) ∷ due_on (shape_of p) (reverse old.stack.items) ds) (state_of p new) (due_on (shape_of p) (reverse new.stack.items) ds)
  pub work_left : work p new ≤ work p old

pub begins : (p : Parts) (old mid new : Writer) (n : ℕ) (node : Node) → CanWrite p → Fine p old → n < length p.nodes → place_of n old.nodes.order ≡ None → length old.nodes.order < old.nodes.total → node ≡ get_or p.nodes n no_vertex → WritesHead p node old mid → new.nodes ≡ record mid.nodes { order = mid.nodes.order ++ n ∷ [] } → new.types ≡ mid.types → new.classes ≡ mid.classes → new.out ≡ mid.out → new.stack.items ≡ mid.stack.items ++ record { node = n; at = 0 } ∷ [] → Begun p old new n
begins p old mid new n node ready fine within none room e head nodes types classes out stack =
    let g : Shape = shape_of p in
    let t : Step = record { node = n; at = 0 } in
    let order : new.nodes.order ≡ old.nodes.order ++ n ∷ [] = ap (λ (x : Numbered). x.order) nodes ∙ ap (λ (x : Numbered). x.order ++ n ∷ []) head.nodes in
    let total : new.nodes.total ≡ old.nodes.total = ap (λ (x : Numbered). x.total) nodes ∙ ap (λ (x : Numbered). x.total) head.nodes in
    let longer : length new.nodes.order ≡ length old.nodes.order + 1 = ap length order ∙ rw length-append refl in
    let items : new.stack.items ≡ old.stack.items ++ t ∷ [] = stack ∙ ap (λ x. x.items ++ t ∷ []) head.stack in
    let a = head.written (length old.nodes.order) in
    let t_old = tables_with p (length old.nodes.order) old in
    let t_new = tables_with p (suc (length old.nodes.order)) mid in
    let form : HeadForm hessian_forms (kind_at g n) (length (values_at g n)) t_old t_new a.bytes =
    subst (λ k. HeadForm hessian_forms k (length (values_at g n)) t_old t_new a.bytes) (sym (kind_here p n node e)) (subst (λ vs. HeadForm hessian_forms (kind_of p.types p.classes node) (length vs) t_old t_new a.bytes) (sym (values_here p n node e)) a.is) in
    record {
      fine = record {
        nodes_total = total ∙ fine.nodes_total;
        few_nodes = omega (arith, longer, total, room);
        types = rw types head.types;
        classes = rw classes head.classes;
        few_types = rw types (let x = head.few_types in let y = fine.few_types in omega (arith, x, y, longer));
        few_classes = rw classes (let x = head.few_classes in let y = fine.few_classes in omega (arith, x, y, longer));
        within = subst (All (λ (x : Step). x.node < length p.nodes)) (sym items) (pushed_below (length p.nodes) old.stack.items t fine.within within);
      };
      goes_on = λ ds.
          let len : length (old.nodes.order ++ n ∷ []) ≡ suc (length old.nodes.order) = rw length-append (omega arith) in
          rw (order, types, classes, out, items, len, due_push g old.stack.items t ds)
          (first_goes old.nodes.order t_old t_new old.out.items mid.out.items a.bytes n (due_on g (reverse old.stack.items) ds) none form a.joined);
      work_left =
          let less = seen_work g old.nodes.order n (let d = count_of p in omega (arith, within, d)) none in
          rw (order, items, work_push g old.stack.items t) (omega (arith, less));
    }

-- the values that are left of a node are written, and its end
pub goes_end : (g : Shape) (types : List (List ℕ)) (classes : List Class) (node : Node) (n at : ℕ) (order : List ℕ) (t : Tables) (old mid new : List ℕ) (ds : List Due) → kind_at g n ≡ kind_of types classes node → values_at g n ≡ values_of node → WritesOver old (values_then (drop at (values_of node))) mid (λ ds. ds) → new ≡ mid ++ end_bytes node → GoesOn hessian_forms g (with_out order t old) (values_then (drop at (values_at g n)) (end_then (kind_at g n) ds)) (with_out order t new) ds
goes_end g types classes node n at order t old mid new ds kind vs over e =
    rw (kind, vs) (both (over.goes_on g order t (end_then (kind_of types classes node) ds)) (ended g types classes node order t mid new ds e))

-- what is due at a step, before what is due on a stack
abbrev pub due_at : Shape → Step → List Step → List Due → List Due
due_at g t stack ds = values_then (drop t.at (values_at g t.node)) (end_then (kind_at g t.node) (due_on g (reverse stack) ds))

-- the values are written up to a node, which is met then
pub goes_to_node : (g : Shape) (types : List (List ℕ)) (classes : List Class) (node : Node) (n at number behind : ℕ) (order : List ℕ) (t : Tables) (stack kept : List Step) (old mid : List ℕ) (s : State) (ds ds' : List Due) → kind_at g n ≡ kind_of types classes node → values_at g n ≡ values_of node → RunsToNode (values_of node) at number behind old mid → due_on g (reverse kept) ds ≡ due_at g (record { node = n; at = behind }) stack ds → GoesOn hessian_forms g (with_out order t mid) (ValueOf (values.Node number) ∷ due_on g (reverse kept) ds) s ds' → GoesOn hessian_forms g (with_out order t old) (values_then (drop at (values_at g n)) (end_then (kind_at g n) (due_on g (reverse stack) ds))) s ds'
goes_to_node g types classes node n at number behind order t stack kept old mid s ds ds' kind vs run due more =
    let rest : List Due = end_then (kind_at g n) (due_on g (reverse stack) ds) in
    let here : GoesOn hessian_forms g (with_out order t old) (values_then (drop at (values_at g n)) rest) (with_out order t mid) (ValueOf (values.Node number) ∷ values_then (drop behind (values_at g n)) rest) =
    subst (λ x. GoesOn hessian_forms g (with_out order t old) (values_then (drop at x) rest) (with_out order t mid) (ValueOf (values.Node number) ∷ values_then (drop behind x) rest)) (sym vs) (run.over.goes_on g order t rest) in
    both here (subst (λ x. GoesOn hessian_forms g (with_out order t mid) (ValueOf (values.Node number) ∷ x) s ds') due more)

-- a node among values is a node of the graph
pub node_below : (p : Parts) (n at number behind : ℕ) (node : Node) (old mid : List ℕ) → CanWrite p → n < length p.nodes → values_at (shape_of p) n ≡ values_of node → RunsToNode (values_of node) at number behind old mid → number < length p.nodes
node_below p n at number behind node old mid ready within e run =
    let d = count_of p in
    let after = run.after in
    let all = ready.closed.each n (omega (arith, within, d)) in
    let h : behind - 1 < length (values_at (shape_of p) n) = let w = subst (λ x. behind ≤ length x) (sym e) run.within in omega (arith, w, after) in
    let is : get_or (values_at (shape_of p) n) (behind - 1) values.Null ≡ values.Node number = subst (λ x. get_or x (behind - 1) values.Null ≡ values.Node number) (sym e) run.is_node in
    let below = all (behind - 1) values.Null h number (ap node_of is) in
    omega (arith, below, d)

-- what leads from the roots to their end is the writer's spelling
pub all_written : (g : Shape) (out new order : List ℕ) (last : Tables) → ((ds : List Due) → GoesOn hessian_forms g (begun_state out) (values_then g.roots ds) (record { order = order; tables = last; out = new }) ds) → Appends (Written hessian hessian_forms g) out new
all_written g out new order last goes =
    let l = (goes []).leads new order last (record { rest = []; joined = sym (append-nil new); course = done }) in
    record { bytes = l.rest; is = written g l.rest order last forms_are_spellings l.course; joined = l.joined }

-- a root that is a node
pub root_node : (g : Shape) (order : List ℕ) (t : Tables) (old mid : List ℕ) (stack : List Step) (root : Value) (n : ℕ) (node : Option ℕ) (ds ds' : List Due) (s : State) → WritesPlain root old mid node → node ≡ Some n → stack ≡ [] → GoesOn hessian_forms g (with_out order t mid) (ValueOf (values.Node n) ∷ due_on g (reverse stack) ds) s ds' → GoesOn hessian_forms g (with_out order t old) (ValueOf root ∷ ds) s ds'
root_node g order t old mid stack root n node ds ds' s w is empty more =
    let a = subst (WritesPlain root old mid) is w in
    subst (λ v. GoesOn hessian_forms g (with_out order t old) (ValueOf v ∷ ds) s ds') (sym a.0)
    (subst (λ x. GoesOn hessian_forms g (with_out order t x) (ValueOf (values.Node n) ∷ ds) s ds') a.1
    (subst (λ st. GoesOn hessian_forms g (with_out order t mid) (ValueOf (values.Node n) ∷ due_on g (reverse st) ds) s ds') empty more))

-- a root that is none
pub root_leaf : (g : Shape) (order : List ℕ) (t : Tables) (old new : List ℕ) (root : Value) (node : Option ℕ) (ds : List Due) → WritesPlain root old new node → node ≡ None → GoesOn hessian_forms g (with_out order t old) (ValueOf root ∷ ds) (with_out order t new) ds
root_leaf g order t old new root node ds w is = let a = subst (WritesPlain root old new) is w in leaf_goes order t old new a.bytes root ds a.is a.joined

-- one root more
pub next_root : (g : Shape) (roots : List Value) (i : ℕ) (root : Value) (first s s' : State) (ds ds' : List Due) → i < length roots → root ≡ get_or roots i values.Null → GoesOn hessian_forms g first ds' s (values_then (drop i roots) ds) → GoesOn hessian_forms g s (ValueOf root ∷ values_then (drop (i + 1) roots) ds) s' (values_then (drop (i + 1) roots) ds) → GoesOn hessian_forms g first ds' s' (values_then (drop (i + 1) roots) ds)
next_root g roots i root first s s' ds ds' h e a b =
    let cut : drop i roots ≡ root ∷ drop (i + 1) roots = next_value roots i h ∙ ap (λ v. v ∷ drop (i + 1) roots) (sym e) in
    both a (subst (λ vs. GoesOn hessian_forms g s (values_then vs ds) s' (values_then (drop (i + 1) roots) ds)) (sym cut) b)

pub no_root : (g : Shape) (roots : List Value) (i : ℕ) (first s : State) (ds ds' : List Due) → length roots ≤ i → GoesOn hessian_forms g first ds' s (values_then (drop i roots) ds) → GoesOn hessian_forms g first ds' s ds
no_root g roots i first s ds ds' h a = subst (λ vs. GoesOn hessian_forms g first ds' s (values_then vs ds)) (no_value roots i h) a

pub can_write : (p : Parts) → IsSound p → length p.nodes < 2 ^ 32 → IsWritable (shape_of p) → CanWrite p
can_write p sound few w = record { closed = closed_of p sound few; there = there_of p sound; writable = w }
