use Rattle.graph_notation.proofs.Closing.{closed_now}
use Rattle.graph_notation.proofs.reader.Reader.close.Goals as goal

pub returns-in-Some-clause-state : goal.returns-in-Some-clause-state
returns-in-Some-clause-state c =
    let h = closed_now c.args.self.now.nodes.items c.args.self.now.frame c.in-Some.outer c.args.self.now.under.items c.pop.new.self.items c.args.self.now.place (c.in-Some.ensures.items) in
    rw (c.keep.ensures.nodes, c.keep.ensures.frame, c.keep.ensures.under, c.keep.ensures.place, c.replace-whole.ensures.value, c.replace-whole.ensures.after) h
