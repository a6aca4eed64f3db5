use Rattle.std.proofs.Common.{◌≡◌, ◌+◌, ◌<◌, ◌≤◌, List, [], ◌∷◌, get_or, length, subst, sym, arith}
use Rattle.std.specs.Prelude.{reverse}
use Rattle.hessian_graph.specs.declared.parts.Parts.{Parts}
use Rattle.hessian_graph.specs.declared.value.Value.{Value}
use Rattle.hessian_graph.specs.declared.value.Value.TheVariants as values
use Rattle.hessian_graph.specs.Shape.{Kind, Shape, shape_of, values_at, values_of, kind_at, kind_of}
use Rattle.graph_notation.specs.declared.press.Press.{Press}
use Rattle.graph_notation.specs.declared.press.Step.{Step}
use Rattle.graph_notation.specs.Pressing.{Prints, before, end_of}
use Rattle.graph_notation.proofs.Printing.{there_here, kind_here, values_here, step_fits, awaits_step, awaits_top, pressed_end, work_further}
use Rattle.graph_notation.proofs.press.Press.turn.Goals as goal

pub write_before-requires-clause-there : goal.write_before-requires-clause-there
write_before-requires-clause-there c =
    let p : Parts = c.args.parts.now in
    let g : Shape = shape_of p in
    let s : Press = c.args.self.now in
    let t : Step = c.args.step in
    there_here p t.node c.args.node.now c.requires.ready c.requires.below c.requires.here

pub value-requires-clause-awaits : goal.value-requires-clause-awaits
value-requires-clause-awaits c =
    let p : Parts = c.args.parts.now in
    let g : Shape = shape_of p in
    let s : Press = c.args.self.now in
    let t : Step = c.args.step in
    let vs : values_at g t.node ≡ values_of c.args.node.now = values_here p t.node c.args.node.now c.requires.here in
    let kind : kind_at g t.node ≡ kind_of p.types p.classes c.args.node.now = kind_here p t.node c.args.node.now c.requires.here in
    let within : t.at < length (values_at g t.node) = subst (λ (xs : List Value). t.at < length xs) (sym vs) c.in-Some.ensures.within in
    let some : c.in-Some.value.now ≡ get_or (values_at g t.node) t.at values.Null = subst (λ (xs : List Value). c.in-Some.value.now ≡ get_or xs t.at values.Null) (sym vs) c.in-Some.ensures.some in
    let prints = subst (λ (k : Kind). Prints s.out.items (before k t.at) c.write_before.new.out.items) (sym kind) c.in_ok-write_before-in-Some.ensures in
    awaits_top g c.in-Some.value.now c.write_before.new.out.items s.begun s.roots (record { node = t.node; at = t.at + 1 }) c.push.new.self.items s.stack.items c.in_ok-push-in-Some.ensures.items
    (awaits_step g s.out.items c.write_before.new.out.items s.begun s.roots t (reverse s.stack.items) c.in-Some.value.now (step_fits p s.out.items s.begun s.roots t (reverse s.stack.items) c.requires.ready c.requires.pressed) within some c.requires.pressed prints)

pub returns-in_ok-value-in-Some-clause-work : goal.returns-in_ok-value-in-Some-clause-work
returns-in_ok-value-in-Some-clause-work c =
    let p : Parts = c.args.parts.now in
    let g : Shape = shape_of p in
    let s : Press = c.args.self.now in
    let t : Step = c.args.step in
    let vs : values_at g t.node ≡ values_of c.args.node.now = values_here p t.node c.args.node.now c.requires.here in
    let kind : kind_at g t.node ≡ kind_of p.types p.classes c.args.node.now = kind_here p t.node c.args.node.now c.requires.here in
    let within : t.at < length (values_at g t.node) = subst (λ (xs : List Value). t.at < length xs) (sym vs) c.in-Some.ensures.within in
    let less = work_further g t s.stack.items c.push.new.self.items within c.in_ok-push-in-Some.ensures.items in
    let done = c.in_ok-value-in-Some.ensures.work in
    omega (arith, less, done)

pub returns-in_ok-write_end-in-None-clause-pressed : goal.returns-in_ok-write_end-in-None-clause-pressed
returns-in_ok-write_end-in-None-clause-pressed c =
    let p : Parts = c.args.parts.now in
    let g : Shape = shape_of p in
    let s : Press = c.args.self.now in
    let t : Step = c.args.step in
    let vs : values_at g t.node ≡ values_of c.args.node.now = values_here p t.node c.args.node.now c.requires.here in
    let kind : kind_at g t.node ≡ kind_of p.types p.classes c.args.node.now = kind_here p t.node c.args.node.now c.requires.here in
    let past : length (values_at g t.node) ≤ t.at = subst (λ (xs : List Value). length xs ≤ t.at) (sym vs) c.in-None.ensures.none in
    let prints = subst (λ (k : Kind). Prints s.out.items (end_of k ∷ []) c.write_end.new.out.items) (sym kind) c.in_ok-write_end-in-None.ensures in
    pressed_end g s.out.items c.write_end.new.out.items s.begun s.roots t (reverse s.stack.items) (step_fits p s.out.items s.begun s.roots t (reverse s.stack.items) c.requires.ready c.requires.pressed) past c.requires.pressed prints
