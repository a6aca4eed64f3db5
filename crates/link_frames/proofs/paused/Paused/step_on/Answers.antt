use Rattle.std.proofs.Common.{◌++◌, Some, refl, inl, inr, ap, sym, subst, length-append, arith}
use Rattle.link_frames.specs.Paused.{HasEnded, Advances}
use Rattle.link_frames.specs.Steps.{GoesWith, Steps, EndsAt}
use Rattle.link_frames.specs.declared.next.Ending.{Ending}
use Rattle.link_frames.proofs.StepLemmas.{stands, open_holds, length-held, holds_more, advance_fits, step_held, step_more, end_fits, step_end, lost_fits}
use Rattle.link_frames.proofs.paused.Paused.step_on.Goals as goal

pub returns-in-Some-clause-fits : goal.returns-in-Some-clause-fits
returns-in-Some-clause-fits g c =
    let now = g.S.Source.state c.args.source.now in
    elim (stands c.args.self.now) as (λ _. GoesWith c.advance.new.self now) [
      | inl e ↦ subst (λ p. GoesWith p now) (sym (c.in-Some.ensures.ended e.0 e.1).1) c.requires
      | inr h ↦ advance_fits now c.args.self.now.place h.0 c.advance.new.self (Some c.in-Some.next) (omega (arith, c.requires.count, length-held c.args.self.now h.0 h.1)) (c.in-Some.ensures.advances h.0 h.1)
    ]

pub returns-in-Some-clause-steps : goal.returns-in-Some-clause-steps
returns-in-Some-clause-steps g c held holds =
    step_held _ c.args.self.now.place held c.advance.new.self c.in-Some.next (c.in-Some.ensures.advances held holds)

pub fill-requires : goal.fill-requires
fill-requires g c =
    let going : (e : Ending) → HasEnded c.args.self.now e → ⊥ = λ e has. let x = (c.in_default.ensures.ended e has).0 in absurd cc in
    let h = open_holds c.args.self.now going in
    (c.in_default.ensures.advances h.0 h.1).3

pub advance-requires-in-Bytes : goal.advance-requires-in-Bytes
advance-requires-in-Bytes g c =
    let going : (e : Ending) → HasEnded c.args.self.now e → ⊥ = λ e has. let x = (c.in_default.ensures.ended e has).0 in absurd cc in
    let h = open_holds c.args.self.now going in
    let a = c.in_default.ensures.advances h.0 h.1 in
    let mid = record c.advance.new.self { window = c.fill.new.self } in
    let more = holds_more c.advance.new.self mid h.0 c.fill.new.self a.1 a.3 refl refl in
    let sound = g.met.S.Source.sound c.fill.new.source in
    record { room = omega (arith, a.2, c.requires.count, length-held c.args.self.now h.0 h.1, length-held mid (h.0 ++ c.fill.new.self) more, length-append h.0 c.fill.new.self, c.in-Bytes.ensures.goes_on.count, sound.count) }

pub returns-in-Bytes-clause-fits : goal.returns-in-Bytes-clause-fits
returns-in-Bytes-clause-fits g c =
    let going : (e : Ending) → HasEnded c.args.self.now e → ⊥ = λ e has. let x = (c.in_default.ensures.ended e has).0 in absurd cc in
    let h = open_holds c.args.self.now going in
    let a = c.in_default.ensures.advances h.0 h.1 in
    let mid = record c.advance.new.self { window = c.fill.new.self } in
    let more = holds_more c.advance.new.self mid h.0 c.fill.new.self a.1 a.3 refl refl in
    advance_fits (g.S.Source.state c.fill.new.source) mid.place (h.0 ++ c.fill.new.self) _ _ (omega (arith, a.2, c.requires.count, length-held c.args.self.now h.0 h.1, length-append h.0 c.fill.new.self, c.in-Bytes.ensures.goes_on.count)) (c.advance-in-Bytes.ensures.advances _ more)

pub returns-in-Bytes-clause-steps : goal.returns-in-Bytes-clause-steps
returns-in-Bytes-clause-steps g c held holds =
    let a = c.in_default.ensures.advances held holds in
    let mid = record c.advance.new.self { window = c.fill.new.self } in
    let more = holds_more c.advance.new.self mid held c.fill.new.self a.1 a.3 refl refl in
    let answers = c.advance-in-Bytes.ensures.advances (held ++ c.fill.new.self) more in
    let placed = subst (λ n. Advances n (held ++ c.fill.new.self) c.advance-in-Bytes.new.self c.advance-in-Bytes.result) a.2 answers in
    step_more _ _ c.args.self.now.place held c.fill.new.self _ _ c.in-Bytes.ensures.goes_on c.in-Bytes.ensures.answer placed

pub returns-in-Bytes-clause-ended : goal.returns-in-Bytes-clause-ended
returns-in-Bytes-clause-ended g c e has = let x = (c.in_default.ensures.ended e has).0 in absurd cc

pub returns-in-Bytes-clause-quiet : goal.returns-in-Bytes-clause-quiet
returns-in-Bytes-clause-quiet g c (inl e) = let x = (c.in_default.ensures.ended e.0 e.1).0 in absurd cc
returns-in-Bytes-clause-quiet g c (inr h) = absurd (h.2 (c.in_default.ensures.advances h.0 h.1).0)

pub returns-in-End-clause-fits : goal.returns-in-End-clause-fits
returns-in-End-clause-fits g c =
    let going : (e : Ending) → HasEnded c.args.self.now e → ⊥ = λ e has. let x = (c.in_default.ensures.ended e has).0 in absurd cc in
    let h = open_holds c.args.self.now going in
    let a = c.in_default.ensures.advances h.0 h.1 in
    let mid = record c.advance.new.self { window = c.fill.new.self } in
    let more = holds_more c.advance.new.self mid h.0 c.fill.new.self a.1 a.3 refl refl in
    let ends = c.at_end-ending.ensures (h.0 ++ c.fill.new.self) more in
    let stays = ap (λ p. p.place) c.end_with.ensures.ended in
    end_fits _ mid.place _ _ _ ends (ap (λ p. p.part) c.end_with.ensures.ended) (omega (arith, stays, a.2, c.requires.count, c.in-End.ensures.goes_on.count)) c.in-End.ensures.answer.1

pub returns-in-End-clause-steps : goal.returns-in-End-clause-steps
returns-in-End-clause-steps g c held holds =
    let a = c.in_default.ensures.advances held holds in
    let came = c.fill.new.self in
    let mid = record c.advance.new.self { window = came } in
    let more = holds_more c.advance.new.self mid held came a.1 a.3 refl refl in
    let ends = subst (λ n. EndsAt n (held ++ came) c.at_end-ending.result) a.2 (c.at_end-ending.ensures (held ++ came) more) in
    let old = g.S.Source.state c.args.source.now in
    let new = g.S.Source.state c.fill.new.source in
    let step = step_end old new c.args.self.now.place held came c.end_with.new.self c.at_end-ending.result c.in-End.ensures.goes_on c.in-End.ensures.answer.0 a.0 ends (ap (λ p. p.part) c.end_with.ensures.ended) c.in-End.ensures.answer.1 in
    subst (λ answer. Steps old new c.args.self.now.place held c.end_with.new.self (Some answer)) (sym c.end_with.ensures.answer) step

pub returns-in-End-clause-ended : goal.returns-in-End-clause-ended
returns-in-End-clause-ended g c e has = let x = (c.in_default.ensures.ended e has).0 in absurd cc

pub returns-in-End-clause-quiet : goal.returns-in-End-clause-quiet
returns-in-End-clause-quiet g c (inl e) = let x = (c.in_default.ensures.ended e.0 e.1).0 in absurd cc
returns-in-End-clause-quiet g c (inr h) = absurd (h.2 (c.in_default.ensures.advances h.0 h.1).0)

pub returns-in-Failed-clause-fits : goal.returns-in-Failed-clause-fits
returns-in-Failed-clause-fits g c =
    let going : (e : Ending) → HasEnded c.args.self.now e → ⊥ = λ e has. let x = (c.in_default.ensures.ended e has).0 in absurd cc in
    let h = open_holds c.args.self.now going in
    let a = c.in_default.ensures.advances h.0 h.1 in
    let last = c.end_with-in-Failed in
    let stays = ap (λ p. p.place) last.ensures.ended in
    lost_fits (g.S.Source.state c.args.source.now) _ last.new.self (ap (λ p. p.part) last.ensures.ended) (omega (arith, stays, a.2, c.requires.count, c.in-Failed.ensures.goes_on.count)) c.in-Failed.ensures.answer.1

pub returns-in-Failed-clause-ended : goal.returns-in-Failed-clause-ended
returns-in-Failed-clause-ended g c e has = let x = (c.in_default.ensures.ended e has).0 in absurd cc

pub returns-in-Failed-clause-quiet : goal.returns-in-Failed-clause-quiet
returns-in-Failed-clause-quiet g c (inl e) = let x = (c.in_default.ensures.ended e.0 e.1).0 in absurd cc
returns-in-Failed-clause-quiet g c (inr h) = absurd (h.2 (c.in_default.ensures.advances h.0 h.1).0)
