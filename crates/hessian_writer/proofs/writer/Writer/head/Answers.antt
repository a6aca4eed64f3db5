use Rattle.std.proofs.Common.{refl, arith, rules, subst, List, ℕ, []}
use Rattle.hessian_graph.specs.declared.node.Class.{Class}
use Rattle.hessian_graph.specs.Shape.{no_class}
use Rattle.hessian_writer.specs.Sharing.{NamesFit, listed}
use Rattle.hessian_writer.specs.Progress.{tables_with}
use Rattle.hessian_writer.proofs.NodeHeads.{list_head, typed_list_head, map_head, map_head_typed, object_head}
use Rattle.hessian_writer.proofs.writer.Writer.head.Goals as goal

pub returns-in_ok-write_list-in-List-None-default : goal.returns-in_ok-write_list-in-List-None-default
returns-in_ok-write_list-in-List-None-default c = record {
  head = record {
    nodes = refl;
    stack = refl;
    types = c.requires.types;
    classes = c.requires.classes;
    few_types = omega arith;
    few_classes = omega arith;
    written = λ begun. list_head c.args.parts.now c.args.node.now c.in-List-None-default.type_name c.in-List-None-default.items c.as_slice.result.now (tables_with c.args.parts.now begun c.args.self.now) c.args.self.now.out.items c.write_list.new.out.items c.in-List-None-default.is (search rules) c.as_slice.ensures c.in_ok-write_list-in-List-None-default.ensures;
  };
}

pub returns-in_ok-write_typed_list-in-List-Some-default : goal.returns-in_ok-write_typed_list-in-List-Some-default
returns-in_ok-write_typed_list-in-List-Some-default c = record {
  head = record {
    nodes = refl;
    stack = refl;
    types = subst (λ (ts : List (List ℕ)). NamesFit [] ts c.write_typed_list.new.names.firsts.items c.write_typed_list.new.names.used) c.as_slice-types.ensures c.in_ok-write_typed_list-in-List-Some-default.ensures.fit;
    classes = c.requires.classes;
    few_types = c.in_ok-write_typed_list-in-List-Some-default.ensures.few;
    few_classes = omega arith;
    written = λ begun. typed_list_head c.args.parts.now c.args.node.now c.in-List-Some-default.type_name c.in-List-Some-default.items c.as_slice-count.result.now c.in-List-Some-default.number begun c.as_slice-types.result.now c.args.self.now.types.used.order c.write_typed_list.new.names.used.order (listed no_class c.args.parts.now.classes c.args.self.now.classes.used.order) c.args.self.now.out.items c.write_typed_list.new.out.items c.in-List-Some-default.is (search rules) c.as_slice-count.ensures c.as_slice-types.ensures c.in_ok-write_typed_list-in-List-Some-default.ensures.written;
  };
}

pub returns-in_ok-push-in-Map-None-default : goal.returns-in_ok-push-in-Map-None-default
returns-in_ok-push-in-Map-None-default c = record {
  head = record {
    nodes = refl;
    stack = refl;
    types = c.requires.types;
    classes = c.requires.classes;
    few_types = omega arith;
    few_classes = omega arith;
    written = λ begun. map_head c.args.parts.now c.args.node.now c.in-Map-None-default.type_name c.in-Map-None-default.pairs (tables_with c.args.parts.now begun c.args.self.now) c.args.self.now.out.items c.push.new.self.items c.in-Map-None-default.is (search rules) c.in_ok-push-in-Map-None-default.ensures.items;
  };
}

pub returns-in_ok-write_type-in-Map-Some-default : goal.returns-in_ok-write_type-in-Map-Some-default
returns-in_ok-write_type-in-Map-Some-default c = record {
  head = record {
    nodes = refl;
    stack = refl;
    types = subst (λ (ts : List (List ℕ)). NamesFit [] ts c.write_type.new.names.firsts.items c.write_type.new.names.used) c.as_slice-types-in-Map-Some-default.ensures c.in_ok-write_type-in-Map-Some-default.ensures.fit;
    classes = c.requires.classes;
    few_types = c.in_ok-write_type-in-Map-Some-default.ensures.few;
    few_classes = omega arith;
    written = λ begun. map_head_typed c.args.parts.now c.args.node.now c.in-Map-Some-default.type_name c.in-Map-Some-default.pairs c.in-Map-Some-default.number begun c.as_slice-types-in-Map-Some-default.result.now c.args.self.now.types.used.order c.write_type.new.names.used.order (listed no_class c.args.parts.now.classes c.args.self.now.classes.used.order) c.args.self.now.out.items c.push-in-Map-Some-default.new.self.items c.write_type.new.out.items c.in-Map-Some-default.is (search rules) c.as_slice-types-in-Map-Some-default.ensures c.in_ok-push-in-Map-Some-default.ensures.items c.in_ok-write_type-in-Map-Some-default.ensures.written;
  };
}

pub returns-in_ok-write_object-in-Object : goal.returns-in_ok-write_object-in-Object
returns-in_ok-write_object-in-Object c = record {
  head = record {
    nodes = refl;
    stack = refl;
    types = c.requires.types;
    classes = subst (λ (cs : List Class). NamesFit no_class cs c.write_object.new.names.firsts.items c.write_object.new.names.used) c.as_slice-classes.ensures c.in_ok-write_object-in-Object.ensures.fit;
    few_types = omega arith;
    few_classes = c.in_ok-write_object-in-Object.ensures.few;
    written = λ begun. object_head c.args.parts.now c.args.node.now c.in-Object.values c.in-Object.class begun c.as_slice-classes.result.now c.args.self.now.classes.used.order c.write_object.new.names.used.order (listed [] c.args.parts.now.types c.args.self.now.types.used.order) c.args.self.now.out.items c.write_object.new.out.items c.in-Object.is c.requires.there c.as_slice-classes.ensures c.in_ok-write_object-in-Object.ensures.written;
  };
}
