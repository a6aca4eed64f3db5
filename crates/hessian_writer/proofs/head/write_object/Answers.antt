use Rattle.std.proofs.Common.{◌≡◌, ◌∙◌, sym, subst, ℕ, get_or, length, arith}
use Rattle.std.specs.Prelude.{None}
use Rattle.std.proofs.lemmas.List.{get_or_default}
use Rattle.hessian_graph.specs.declared.node.Class.{Class}
use Rattle.hessian_graph.specs.Shape.{no_class}
use Rattle.hessian_graph.specs.Canon.{place_of}
use Rattle.hessian_graph.proofs.Places.{place_within}
use Rattle.hessian_graph.specs.Shape.{ObjectKind}
use Rattle.hessian_graph.specs.Reading.{Tables, one_more}
use Rattle.hessian_graph.specs.Forms.{IsEarliest}
use Rattle.hessian_writer.specs.Appending.{AppendsClass, AppendsHead}
use Rattle.hessian_writer.proofs.Heading.{known_object, unknown_object}
use Rattle.hessian_writer.proofs.head.write_object.Goals as goal

pub write_known_object-requires : goal.write_known_object-requires
write_known_object-requires c =
    let within = place_within (get_or c.args.names.now.firsts.items c.args.class 0) c.args.names.now.used.order c.in-Some.place (sym c.in-Some.ensures) in
    let r = c.requires.room in
    omega (arith, within, r)

pub returns-in_ok-write_known_object-in-Some-clause-written : goal.returns-in_ok-write_known_object-in-Some-clause-written
returns-in_ok-write_known_object-in-Some-clause-written c =
    known_object c.args.classes.now c.args.names.now.firsts.items c.args.names.now.used c.requires.fit c.args.class c.in-Some.place c.requires.within (sym c.in-Some.ensures) c.args.out.now.items c.write_known_object.new.out.items c.in_ok-write_known_object-in-Some.ensures

pub returns-in_ok-write_known_object-in-None-clause-written : goal.returns-in_ok-write_known_object-in-None-clause-written
returns-in_ok-write_known_object-in-None-clause-written c =
    let none : place_of (get_or c.args.names.now.firsts.items c.args.class 0) c.args.names.now.used.order ≡ None = sym c.in-None.ensures in
    let class : c.index-classes-class.result ≡ get_or c.args.classes.now c.args.class no_class = c.index-classes-class.is ∙ get_or_default c.args.classes.now c.args.class c.index-classes-class.result no_class c.requires.within in
    let k : ℕ = length c.args.names.now.used.order in
    unknown_object c.args.classes.now c.args.names.now.firsts.items c.args.names.now.used c.give.new.self.used c.requires.fit c.args.class c.requires.within none c.in_ok-give-in-None.ensures.given c.args.out.now.items c.push.new.self.items c.write_class.new.out.items c.write_known_object-in-None.new.out.items c.in_ok-push-in-None.ensures.items
    (subst (λ (x : Class). AppendsClass x c.push.new.self.items c.write_class.new.out.items) class c.in_ok-write_class-in-None.ensures)
    (subst (λ (n : ℕ). (t : Tables) (class : Class) → IsEarliest no_class t.classes class n → AppendsHead (ObjectKind class) (length class.fields) t (one_more t) c.write_class.new.out.items c.write_known_object-in-None.new.out.items) c.count-place.ensures c.in_ok-write_known_object-in-None.ensures)
