use Rattle.std.proofs.Common.{◌≡◌, length, refl, sym, ap, subst, ◌∙◌, arith, Ok}
use Rattle.hessian_graph.specs.Shape.{shape_of}
use Rattle.dubbo_bodies.specs.Descriptor.{HasArgs}
use Rattle.call_plan.proofs.Arguing.{other_roots, no_notation}
use Rattle.call_plan.proofs.Sizing.{nodes_counted}
use Rattle.call_plan.proofs.Weighing.{notation_writable}
use Rattle.call_plan.specs.Pieces.{fields_in}
use Rattle.call_plan.proofs.scripts.arguments.arguments.Goals as goal

pub returns-then-as_slice-count-clause-says : goal.returns-then-as_slice-count-clause-says
returns-then-as_slice-count-clause-says c =
    let read = c.in-Ok-read_notation.ensures {u = tt} in (
      c.in-Ok.count,
      c.in-Some.notation.now,
      record {
        counted = subst (λ d. HasArgs d c.in-Ok.count) c.as_bytes.ensures.value (((c.in-Ok.ensures {u = tt}).ok c.in-Ok.count).0 refl);
        each = sym (ap length (c.as_slice.ensures ∙ ap (λ p. p.roots) c.parts.ensures.parts)) ∙ c.if-as_slice-count.true;
        written = read.ok.0;
        few = omega (arith, read.ok.1, nodes_counted c.in-Ok-read_notation.graph);
        sound = c.parts.ensures.sound;
        tables = read.tables;
      },
      (c.in-Some.ensures {u = tt}).field,
    )

pub returns-then-as_slice-count-clause-ready : goal.returns-then-as_slice-count-clause-ready
returns-then-as_slice-count-clause-ready c =
    let read = c.in-Ok-read_notation.ensures {u = tt} in
    (notation_writable c.in-Some.notation.now (shape_of c.in-Ok-read_notation.graph) read.ok.0 (c.in-Some.ensures {u = tt}).short read.ok.1, read.canonical)

pub returns-else-as_slice-count-clause-says : goal.returns-else-as_slice-count-clause-says
returns-else-as_slice-count-clause-says c =
    let read = c.in-Ok-read_notation.ensures {u = tt} in
    other_roots c.args.desc.now c.in-Ok.count c.in-Some.notation.now c.in-Ok-read_notation.graph (fields_in c.args.field)
    (λ n has. (let e : Ok c.in-Ok.count ≡ Ok n = ((c.in-Ok.ensures {u = tt}).ok n).1 (subst (λ d. HasArgs d n) (sym c.as_bytes.ensures.value) has) in cc))
    read.ok.0 (c.in-Some.ensures {u = tt}).field
    (λ e. c.if-as_slice-count.false (ap length (c.as_slice.ensures ∙ ap (λ p. p.roots) c.parts.ensures.parts) ∙ e))

pub returns-in_ok-unless_memory-in-Err-clause-says : goal.returns-in_ok-unless_memory-in-Err-clause-says
returns-in_ok-unless_memory-in-Err-clause-says c =
    no_notation c.args.desc.now c.in-Ok.count c.in-Some.notation.now c.in-Err.fault (fields_in c.args.field)
    ((c.in-Err.ensures {u = tt}).refused (c.in_ok-unless_memory-in-Err.ensures {u = tt})) (c.in-Some.ensures {u = tt}).field
