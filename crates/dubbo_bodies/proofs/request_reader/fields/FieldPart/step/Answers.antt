use Rattle.std.proofs.Common.{◌≡◌, ◌+◌, ◌-◌, ◌++◌, length, take, refl, sym, ap, subst, ◌∙◌, arith}
use Rattle.std.proofs.lemmas.List.{take_all}
use Rattle.hessian_text.specs.Reader.{Feeds}
use Rattle.hessian_text.specs.Spelling.{AreBytes}
use Rattle.dubbo_bodies.specs.declared.request_reader.fields.FieldPart.{FieldPart}
use Rattle.dubbo_bodies.specs.RequestStages.{InFields, Stands}
use Rattle.dubbo_bodies.proofs.FieldArms.{fields_go_on, text_ends, code_first, code_inside, item_inside}
use Rattle.dubbo_bodies.proofs.request_reader.fields.FieldPart.step.Goals as goal

pub returns-in-Ok-More-clause-stands : goal.returns-in-Ok-More-clause-stands
returns-in-Ok-More-clause-stands c = λ header fed here i.
    let piece = c.args.piece.now in
    let small : AreBytes piece = record { small = λ k h. omega (arith, c.type_inv.piece k) } in
    let fed_as = subst (Feeds c.args.self.text piece c.feed.new.self) c.in-Ok-More.field-0-is c.in-Ok-More.ensures in
    let p : FieldPart = record { texts = c.args.self.texts; text = c.feed.new.self; from = c.args.self.from } in
    subst (λ xs. InFields p header (fed ++ xs)) (sym (take_all (length piece) piece (omega arith))) (fields_go_on c.args.self p header fed piece small refl refl fed_as.0 i)

pub returns-in-Ok-Whole-clause-stands : goal.returns-in-Ok-Whole-clause-stands
returns-in-Ok-Whole-clause-stands c = λ header fed here i.
    let piece = c.args.piece.now in
    let used = c.in-Ok-Whole.used in
    let small : AreBytes piece = record { small = λ k h. omega (arith, c.type_inv.piece k) } in
    let fed_as = subst (Feeds c.args.self.text piece c.feed.new.self) c.in-Ok-Whole.field-0-is c.in-Ok-Whole.ensures in
    c.behind_text.ensures.stands header (fed ++ take used piece)
    (text_ends c.args.self c.feed.new.self header fed piece used c.args.at (c.args.at + used) c.from-whole.result small fed_as.0 here refl (c.from-whole.ensures ∙ c.into_text.ensures) fed_as.1 fed_as.2 i)

pub returns-then-at-used-clause-stands : goal.returns-then-at-used-clause-stands
returns-then-at-used-clause-stands c = λ header fed here i.
    let piece = c.args.piece.now in
    let used = c.in-Ok-NoCode.used in
    let small : AreBytes piece = record { small = λ k h. omega (arith, c.type_inv.piece k) } in
    let fed_as = subst (Feeds c.args.self.text piece c.feed.new.self) c.in-Ok-NoCode.field-0-is c.in-Ok-NoCode.ensures in
    let first = code_first c.args.self c.feed.new.self header fed piece used c.args.at small fed_as.0 here c.if-at-used.true c.requires.sound.kind fed_as.1 fed_as.2 i in
    c.behind_null.ensures.stands header (fed ++ take 1 piece) first.nothing first.begins

pub returns-else-at-used-clause-stands : goal.returns-else-at-used-clause-stands
returns-else-at-used-clause-stands c = λ header fed here i.
    let piece = c.args.piece.now in
    let used = c.in-Ok-NoCode.used in
    let small : AreBytes piece = record { small = λ k h. omega (arith, c.type_inv.piece k) } in
    let fed_as = subst (Feeds c.args.self.text piece c.feed.new.self) c.in-Ok-NoCode.field-0-is c.in-Ok-NoCode.ensures in
    let stays = code_inside c.args.self c.feed.new.self header fed piece used c.args.at small fed_as.0 here (λ e. absurd (omega (arith, c.if-at-used.false, e))) c.requires.sound.kind c.requires.sound.few fed_as.1 fed_as.2 i in
    let whole : fed ++ take (length piece) piece ≡ fed ++ piece = ap (λ xs. fed ++ xs) (take_all (length piece) piece (omega arith)) in
    subst (λ xs. Stands c.refused_code.result header xs) (sym whole) (subst (λ p. Stands p header (fed ++ piece)) (sym c.refused_code.ensures) stays)

pub returns-in-Ok-NoItem-clause-stands : goal.returns-in-Ok-NoItem-clause-stands
returns-in-Ok-NoItem-clause-stands c = λ header fed here i.
    let piece = c.args.piece.now in
    let used = c.in-Ok-NoItem.used in
    let begun = c.in-Ok-NoItem.begun in
    let place = c.saturating_sub.result in
    let there : place ≡ c.args.at + used - begun = omega (arith, c.saturating_sub.ensures) in
    let small : AreBytes piece = record { small = λ k h. omega (arith, c.type_inv.piece k) } in
    let fed_as = subst (Feeds c.args.self.text piece c.feed.new.self) c.in-Ok-NoItem.field-0-is c.in-Ok-NoItem.ensures in
    let stays = item_inside c.args.self c.feed.new.self header fed piece used begun c.args.at place small fed_as.0 here there c.requires.sound.kind c.requires.sound.few fed_as.1 fed_as.2 i in
    let whole : fed ++ take (length piece) piece ≡ fed ++ piece = ap (λ xs. fed ++ xs) (take_all (length piece) piece (omega arith)) in
    subst (λ xs. Stands c.refused_character.result header xs) (sym whole) (subst (λ p. Stands p header (fed ++ piece)) (sym c.refused_character.ensures) stays)
