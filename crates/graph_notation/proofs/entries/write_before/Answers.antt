use Rattle.graph_notation.proofs.Printing.{before_key, before_value}
use Rattle.graph_notation.proofs.entries.write_before.Goals as goal

pub returns-in_ok-write_comma-in-Map : goal.returns-in_ok-write_comma-in-Map
returns-in_ok-write_comma-in-Map c = before_key c.args.parts.now.types c.args.parts.now.classes c.args.node.now c.in-Map.type_name c.in-Map.pairs c.args.at c.args.out.now.items c.write_comma-then-at-eq0.new.out.items c.in-Map.is c.if-at-eq0.true c.in_ok-write_comma-in-Map.ensures

pub returns-in_ok-write_mark-in-Map : goal.returns-in_ok-write_mark-in-Map
returns-in_ok-write_mark-in-Map c = before_value c.args.parts.now.types c.args.parts.now.classes c.args.node.now c.in-Map.type_name c.in-Map.pairs c.args.at c.args.out.now.items c.write_mark.new.out.items c.in-Map.is c.if-at-eq0.false c.in_ok-write_mark-in-Map.ensures
