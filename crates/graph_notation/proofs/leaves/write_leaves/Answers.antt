use Rattle.graph_notation.proofs.leaves.write_leaves.Goals as goal

pub returns-in-List-clause-written : goal.returns-in-List-clause-written
returns-in-List-clause-written c = rw c.in-List.is (rw c.as_slice.ensures at c.write_items.ensures.written)
