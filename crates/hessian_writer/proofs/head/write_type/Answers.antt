use Rattle.std.proofs.Common.{◌≡◌, ◌∙◌, ◌<◌, sym, subst, List, ℕ, [], get_or, w32, rules, arith}
use Rattle.std.specs.Prelude.{None}
use Rattle.std.proofs.lemmas.Int.{to_z_pos}
use Rattle.std.proofs.lemmas.List.{get_or_default}
use Rattle.hessian_text.specs.Written.{AppendsText}
use Rattle.hessian_graph.specs.Canon.{place_of}
use Rattle.hessian_graph.proofs.Places.{place_within}
use Rattle.hessian_writer.proofs.Heading.{known_type, unknown_type}
use Rattle.hessian_writer.proofs.head.write_type.Goals as goal

pub overflow_cast-place : goal.overflow_cast-place
overflow_cast-place c =
    let within = place_within (get_or c.args.names.now.firsts.items c.args.number 0) c.args.names.now.used.order c.in-Some.place (sym c.in-Some.ensures) in
    let small : c.in-Some.place < 2147483648 = let r = c.requires.room in omega (arith, within, r) in
    search rules

pub returns-in_ok-write_int-in-Some-clause-written : goal.returns-in_ok-write_int-in-Some-clause-written
returns-in_ok-write_int-in-Some-clause-written c =
    let within = place_within (get_or c.args.names.now.firsts.items c.args.number 0) c.args.names.now.used.order c.in-Some.place (sym c.in-Some.ensures) in
    let small : c.in-Some.place < 2147483648 = let r = c.requires.room in omega (arith, within, r) in
    known_type c.args.types.now c.args.names.now.firsts.items c.args.names.now.used c.requires.fit c.args.number c.in-Some.place _ c.requires.within (sym c.in-Some.ensures) (to_z_pos w32 c.in-Some.place small) c.args.out.now.items c.write_int.new.out.items c.in_ok-write_int-in-Some.ensures.ok

pub returns-in_ok-write_text-in-None-clause-written : goal.returns-in_ok-write_text-in-None-clause-written
returns-in_ok-write_text-in-None-clause-written c =
    let none : place_of (get_or c.args.names.now.firsts.items c.args.number 0) c.args.names.now.used.order ≡ None = sym c.in-None.ensures in
    let text : c.as_str.result.now ≡ get_or c.args.types.now c.args.number [] = c.as_str.ensures ∙ c.index-types-number.is ∙ get_or_default c.args.types.now c.args.number c.index-types-number.result [] c.requires.within in
    unknown_type c.args.types.now c.args.names.now.firsts.items c.args.names.now.used c.give.new.self.used c.requires.fit c.args.number c.requires.within none c.in_ok-give-in-None.ensures.given c.args.out.now.items c.write_text.new.out.items
    (subst (λ (t : List ℕ). AppendsText c.args.out.now.items t c.write_text.new.out.items) text c.in_ok-write_text-in-None.ensures.ok)
