use Rattle.std.proofs.Common.{◌≡◌, ℕ, List, ◌∷◌, get_or, length, subst}
use Rattle.hessian_graph.specs.declared.value.Value.TheVariants as values
use Rattle.hessian_graph.specs.declared.parts.Parts.{Parts}
use Rattle.hessian_graph.specs.Reading.{Tables}
use Rattle.hessian_writer.specs.Leaves.{hessian_forms}
use Rattle.hessian_writer.specs.Course.{Due, ValueOf, State, GoesOn}
use Rattle.std.specs.Prelude.{reverse}
use Rattle.hessian_graph.specs.Shape.{Shape, shape_of, values_of, no_vertex}
use Rattle.hessian_writer.specs.Progress.{tables_with, state_of, due_on}
use Rattle.hessian_writer.specs.Running.{RunsTo}
use Rattle.hessian_writer.proofs.Writers.{indexed, kind_here, values_here, node_below, goes_end, goes_to_node}
use Rattle.hessian_writer.proofs.writer.Writer.go_on.Goals as goal

pub meet-requires-clause-within : goal.meet-requires-clause-within
meet-requires-clause-within c =
    let e : c.index-as_slice-top.result ≡ get_or c.args.parts.now.nodes c.args.top.node no_vertex = indexed c.as_slice.result.now c.args.parts.now.nodes c.args.top.node c.index-as_slice-top.result c.index-as_slice-top.is c.as_slice.ensures c.requires.top in
    let run = subst (λ s. RunsTo (values_of c.index-as_slice-top.result) c.args.top.at s c.args.self.now.out.items c.write_run.new.out.items) c.in-Node.is c.in_ok-write_run.ensures in
    node_below c.args.parts.now c.args.top.node c.args.top.at c.in-Node.number c.in-Node.behind c.index-as_slice-top.result c.args.self.now.out.items c.write_run.new.out.items c.requires.ready c.requires.top (values_here c.args.parts.now c.args.top.node c.index-as_slice-top.result e) run

pub returns-in_ok-write_end-in-End-clause-goes_on : goal.returns-in_ok-write_end-in-End-clause-goes_on
returns-in_ok-write_end-in-End-clause-goes_on c = λ ds.
    let e : c.index-as_slice-top.result ≡ get_or c.args.parts.now.nodes c.args.top.node no_vertex = indexed c.as_slice.result.now c.args.parts.now.nodes c.args.top.node c.index-as_slice-top.result c.index-as_slice-top.is c.as_slice.ensures c.requires.top in
    let run = subst (λ s. RunsTo (values_of c.index-as_slice-top.result) c.args.top.at s c.args.self.now.out.items c.write_run.new.out.items) c.in-End.is c.in_ok-write_run.ensures in
    goes_end (shape_of c.args.parts.now) c.args.parts.now.types c.args.parts.now.classes c.index-as_slice-top.result c.args.top.node c.args.top.at c.args.self.now.nodes.order (tables_with c.args.parts.now (length c.args.self.now.nodes.order) c.args.self.now) c.args.self.now.out.items c.write_run.new.out.items c.write_end.new.out.items (due_on (shape_of c.args.parts.now) (reverse c.args.self.now.stack.items) ds) (kind_here c.args.parts.now c.args.top.node c.index-as_slice-top.result e) (values_here c.args.parts.now c.args.top.node c.index-as_slice-top.result e) run c.in_ok-write_end-in-End.ensures

pub returns-in_ok-meet-in-Node-clause-goes_on : goal.returns-in_ok-meet-in-Node-clause-goes_on
returns-in_ok-meet-in-Node-clause-goes_on c = λ ds.
    let p : Parts = c.args.parts.now in
    let g : Shape = shape_of p in
    let n : ℕ = c.args.top.node in
    let e : c.index-as_slice-top.result ≡ get_or p.nodes n no_vertex = indexed c.as_slice.result.now p.nodes n c.index-as_slice-top.result c.index-as_slice-top.is c.as_slice.ensures c.requires.top in
    let run = subst (λ s. RunsTo (values_of c.index-as_slice-top.result) c.args.top.at s c.args.self.now.out.items c.write_run.new.out.items) c.in-Node.is c.in_ok-write_run.ensures in
    let order : List ℕ = c.args.self.now.nodes.order in
    let t : Tables = tables_with p (length order) c.args.self.now in
    let s : State = state_of p c.meet.new.self in
    let last : List Due = due_on g (reverse c.meet.new.self.stack.items) ds in
    goes_to_node g p.types p.classes c.index-as_slice-top.result n c.args.top.at c.in-Node.number c.in-Node.behind order t c.args.self.now.stack.items c.keep.new.self.stack.items c.args.self.now.out.items c.write_run.new.out.items s ds last (kind_here p n c.index-as_slice-top.result e) (values_here p n c.index-as_slice-top.result e) run (c.in_ok-keep-in-Node.ensures.due ds)
    (subst (λ (x : State). GoesOn hessian_forms g x (ValueOf (values.Node c.in-Node.number) ∷ due_on g (reverse c.keep.new.self.stack.items) ds) s last) c.in_ok-keep-in-Node.ensures.state (c.in_ok-meet-in-Node.ensures.goes_on ds))
