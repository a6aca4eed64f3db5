use Rattle.std.proofs.Common.{◌≡◌, ◌∙◌, ◌<◌, ◌≤◌, ◌+◌, ap, subst, get_or, length, drop, List}
use Rattle.std.proofs.lemmas.List.{get_or_default}
use Rattle.hessian_graph.specs.declared.value.Value.{Value}
use Rattle.hessian_graph.specs.declared.value.Value.TheVariants.{Null}
use Rattle.hessian_graph.specs.Shape.{shape_of}
use Rattle.hessian_writer.specs.Course.{values_then}
use Rattle.hessian_writer.specs.Progress.{tables_with, state_of, begun_state}
use Rattle.hessian_writer.proofs.Writers.{next_root, no_root, all_written}
use Rattle.hessian_writer.proofs.writing.write_parts.Goals as goal

pub loop-root-preserved : goal.loop-root-preserved
loop-root-preserved c = record {
  fine = c.in_ok-root.ensures.fine;
  empty = c.in_ok-root.ensures.empty;
  goes_on = λ ds.
      let within : c.loop-root.root-index < length c.args.parts.now.roots = subst (λ (vs : List Value). c.loop-root.root-index < length vs) c.as_slice-root-items.ensures c.loop-root-test.true in
      let root : c.root-item.result ≡ get_or c.args.parts.now.roots c.loop-root.root-index Null =
      c.root-item.is ∙ get_or_default c.as_slice-root-items.result.now c.loop-root.root-index c.root-item.result Null c.loop-root-test.true ∙ ap (λ (vs : List Value). get_or vs c.loop-root.root-index Null) c.as_slice-root-items.ensures in
      next_root (shape_of c.args.parts.now) c.args.parts.now.roots c.loop-root.root-index c.root-item.result (begun_state c.args.out.items) (state_of c.args.parts.now c.loop-root.writer) (state_of c.args.parts.now c.root.new.self) ds (values_then c.args.parts.now.roots ds) within root (c.loop-root.invariant.goes_on ds)
      (c.in_ok-root.ensures.goes_on (values_then (drop (c.loop-root.root-index + 1) c.args.parts.now.roots) ds));
}

pub returns : goal.returns
returns c =
    let past : length c.args.parts.now.roots ≤ c.loop-root.root-index = subst (λ (vs : List Value). length vs ≤ c.loop-root.root-index) c.as_slice-root-items.ensures c.loop-root-test.false in
    let w = c.loop-root.writer in
    all_written (shape_of c.args.parts.now) c.args.out.items w.out.items w.nodes.order (tables_with c.args.parts.now (length w.nodes.order) w) (λ ds. no_root (shape_of c.args.parts.now) c.args.parts.now.roots c.loop-root.root-index (begun_state c.args.out.items) (state_of c.args.parts.now w) ds (values_then c.args.parts.now.roots ds) past (c.loop-root.invariant.goes_on ds))
