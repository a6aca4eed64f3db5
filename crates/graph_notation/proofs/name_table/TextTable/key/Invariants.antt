use Rattle.std.proofs.Common.{take, ◌∷◌}
use Rattle.hessian_graph.specs.Tables.{Spell, Extends}
use Rattle.graph_notation.specs.Naming.{TextsFit}
use Rattle.graph_notation.proofs.name_table.TextTable.key.Given as goal

-- the numbers so far are those of the name and the fields so far
abbrev pub invariant-loop-field : goal.invariant-loop-field
invariant-loop-field l = record {
  fits : TextsFit l.self;
  key : Spell l.self.texts.items l.key.items (l.class.name ∷ take l.field-index l.class.fields);
  grown : Extends l.fn.self.texts.items l.self.texts.items;
}
