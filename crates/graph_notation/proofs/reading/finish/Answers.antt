use Rattle.std.proofs.Common.{◌≤◌, sym, subst, length, inr}
use Rattle.hessian_graph.specs.Canon.{IsCanon}
use Rattle.graph_notation.specs.Limit.{node_limit}
use Rattle.graph_notation.specs.Machine.{graph_of}
use Rattle.graph_notation.specs.Notation.{IsNotation}
use Rattle.hessian_graph.specs.Shape.{Shape}
use Rattle.graph_notation.specs.View.{state_of}
use Rattle.graph_notation.proofs.Forming.{is_canonical}
use Rattle.graph_notation.proofs.Verdict.{whole, ends_early}
use Rattle.graph_notation.proofs.reading.finish.Goals as goal

pub graph_of-requires-clause-spelled : goal.graph_of-requires-clause-spelled
graph_of-requires-clause-spelled c = let x = whole node_limit c.args.text.now (state_of c.args.reader) c.requires.read (sym c.if-is_whole.ensures) in (x.elements, x.spelled)

pub returns-in_ok-graph-clause-ok : goal.returns-in_ok-graph-clause-ok
returns-in_ok-graph-clause-ok c =
    let x = whole node_limit c.args.text.now (state_of c.args.reader) c.requires.read (sym c.if-is_whole.ensures) in
    let e = (c.in_ok-graph.ensures {u = tt}).shape in
    (subst (IsNotation c.args.text.now) (sym e) x.notation, subst (λ (g : Shape). length g.nodes ≤ node_limit) (sym e) x.limit)

pub returns-in_ok-graph-clause-canonical : goal.returns-in_ok-graph-clause-canonical
returns-in_ok-graph-clause-canonical c =
    let x = whole node_limit c.args.text.now (state_of c.args.reader) c.requires.read (sym c.if-is_whole.ensures) in
    subst (λ g. IsCanon g g) (sym (c.in_ok-graph.ensures {u = tt}).shape) (is_canonical (graph_of (state_of c.args.reader)) x.elements x.spelled)

pub returns-else-is_whole-clause-refused : goal.returns-else-is_whole-clause-refused
returns-else-is_whole-clause-refused c = λ never. inr (ends_early node_limit c.args.text.now (state_of c.args.reader) c.requires.read (sym c.if-is_whole.ensures))
