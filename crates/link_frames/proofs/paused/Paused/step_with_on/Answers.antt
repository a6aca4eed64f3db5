use Rattle.std.proofs.Common.{◌++◌, Some, refl, inl, inr, ap, sym, subst, ◌∙◌, length-append, arith}
use Rattle.link_frames.specs.Paused.{HasEnded}
use Rattle.link_frames.specs.Steps.{GoesWith, EndsAt}
use Rattle.link_frames.specs.NextWith.{StandsFed, AdvancesFed, StepsFed, answer_fed}
use Rattle.link_frames.specs.declared.next.Ending.{Ending}
use Rattle.link_frames.proofs.StepLemmas.{holds_more, advance_fits, end_fits, lost_fits}
use Rattle.link_frames.proofs.FedSteps.{stands_fed, going_fed, length-fed, holds_more_fed, stands_same, stands_ended, not_ready, fed_held, fed_more, fed_end}
use Rattle.link_frames.proofs.paused.Paused.step_with_on.Goals as goal

pub returns-in-Some-clause-fits : goal.returns-in-Some-clause-fits
returns-in-Some-clause-fits g c =
    let now = g.S.Source.state c.args.source.now in
    elim (stands_fed _ _ _ c.requires.stands) as (λ _. GoesWith c.advance_with.new.self now) [
      | inl e ↦ subst (λ p. GoesWith p now) (sym (c.in-Some.ensures.ended e.0 e.1).1) c.requires.fits
      | inr h ↦ advance_fits now c.args.self.now.place h.0 c.advance_with.new.self (answer_fed (g.B.BodySink.fed c.advance_with.new.body) (Some c.in-Some.next)) (omega (arith, c.requires.fits.count, length-fed c.args.self.now _ h.0 h.1)) (c.in-Some.ensures.advances h.0 h.1).plain
    ]

pub returns-in-Some-clause-stands : goal.returns-in-Some-clause-stands
returns-in-Some-clause-stands g c =
    let started = g.B.BodySink.started c.advance_with.new.body in
    let fed = g.B.BodySink.fed c.advance_with.new.body in
    elim (stands_fed _ _ _ c.requires.stands) as (λ _. StandsFed c.advance_with.new.self started fed) [
      | inl e ↦ stands_ended c.advance_with.new.self e.0 started fed (ap (λ p. p.part) (c.in-Some.ensures.ended e.0 e.1).1 ∙ e.1)
      | inr h ↦ (c.in-Some.ensures.advances h.0 h.1).stands
    ]

pub returns-in-Some-clause-steps : goal.returns-in-Some-clause-steps
returns-in-Some-clause-steps g c held holds =
    fed_held _ c.args.self.now.place held c.advance_with.new.self _ _ c.in-Some.next (c.in-Some.ensures.advances held holds)

pub fill-requires : goal.fill-requires
fill-requires g c =
    let going : (e : Ending) → HasEnded c.args.self.now e → ⊥ = λ e has. let x = (c.in_default.ensures.ended e has).0 in absurd cc in
    let h = going_fed _ _ _ c.requires.stands going in
    (c.in_default.ensures.advances h.0 h.1).plain.3

pub advance_with-requires-in-Bytes-clause-room : goal.advance_with-requires-in-Bytes-clause-room
advance_with-requires-in-Bytes-clause-room g c =
    let going : (e : Ending) → HasEnded c.args.self.now e → ⊥ = λ e has. let x = (c.in_default.ensures.ended e has).0 in absurd cc in
    let h = going_fed _ _ _ c.requires.stands going in
    let a = c.in_default.ensures.advances h.0 h.1 in
    omega (arith, a.plain.2, c.requires.fits.count, (g.met.S.Source.sound c.args.source.now).count)

pub advance_with-requires-in-Bytes-clause-stands : goal.advance_with-requires-in-Bytes-clause-stands
advance_with-requires-in-Bytes-clause-stands g c =
    let going : (e : Ending) → HasEnded c.args.self.now e → ⊥ = λ e has. let x = (c.in_default.ensures.ended e has).0 in absurd cc in
    let h = going_fed _ _ _ c.requires.stands going in
    let a = c.in_default.ensures.advances h.0 h.1 in
    stands_same c.advance_with.new.self _ _ _ refl a.stands

pub returns-in-Bytes-clause-fits : goal.returns-in-Bytes-clause-fits
returns-in-Bytes-clause-fits g c =
    let going : (e : Ending) → HasEnded c.args.self.now e → ⊥ = λ e has. let x = (c.in_default.ensures.ended e has).0 in absurd cc in
    let h = going_fed _ _ _ c.requires.stands going in
    let a = c.in_default.ensures.advances h.0 h.1 in
    let mid = record c.advance_with.new.self { window = c.fill.new.self } in
    let more = holds_more_fed c.advance_with.new.self mid _ h.0 c.fill.new.self (a.holding refl) a.plain.3 refl refl in
    let answers = c.advance_with-in-Bytes.ensures.advances (h.0 ++ c.fill.new.self) more in
    advance_fits (g.S.Source.state c.fill.new.source) mid.place (h.0 ++ c.fill.new.self) _ (answer_fed (g.B.BodySink.fed c.advance_with-in-Bytes.new.body) c.advance_with-in-Bytes.result) (omega (arith, a.plain.2, c.requires.fits.count, length-fed c.args.self.now _ h.0 h.1, length-append h.0 c.fill.new.self, c.in-Bytes.ensures.goes_on.count)) answers.plain

pub returns-in-Bytes-clause-stands : goal.returns-in-Bytes-clause-stands
returns-in-Bytes-clause-stands g c =
    let going : (e : Ending) → HasEnded c.args.self.now e → ⊥ = λ e has. let x = (c.in_default.ensures.ended e has).0 in absurd cc in
    let h = going_fed _ _ _ c.requires.stands going in
    let a = c.in_default.ensures.advances h.0 h.1 in
    let mid = record c.advance_with.new.self { window = c.fill.new.self } in
    let more = holds_more_fed c.advance_with.new.self mid _ h.0 c.fill.new.self (a.holding refl) a.plain.3 refl refl in
    (c.advance_with-in-Bytes.ensures.advances (h.0 ++ c.fill.new.self) more).stands

pub returns-in-Bytes-clause-steps : goal.returns-in-Bytes-clause-steps
returns-in-Bytes-clause-steps g c held holds =
    let a = c.in_default.ensures.advances held holds in
    let mid = record c.advance_with.new.self { window = c.fill.new.self } in
    let more = holds_more_fed c.advance_with.new.self mid _ held c.fill.new.self (a.holding refl) a.plain.3 refl refl in
    let answers = c.advance_with-in-Bytes.ensures.advances (held ++ c.fill.new.self) more in
    let last = c.advance_with-in-Bytes in
    let placed = subst (λ n. AdvancesFed n (held ++ c.fill.new.self) last.new.self (g.B.BodySink.started last.new.body) (g.B.BodySink.fed last.new.body) last.result) a.plain.2 answers in
    fed_more _ _ c.args.self.now.place held c.fill.new.self _ _ _ last.result c.in-Bytes.ensures.goes_on c.in-Bytes.ensures.answer placed

pub returns-in-Bytes-clause-ended : goal.returns-in-Bytes-clause-ended
returns-in-Bytes-clause-ended g c e has = let x = (c.in_default.ensures.ended e has).0 in absurd cc

pub returns-in-Bytes-clause-quiet : goal.returns-in-Bytes-clause-quiet
returns-in-Bytes-clause-quiet g c ready =
    let going : (e : Ending) → HasEnded c.args.self.now e → ⊥ = λ e has. let x = (c.in_default.ensures.ended e has).0 in absurd cc in
    let h = going_fed _ _ _ c.requires.stands going in
    absurd (not_ready c.args.self.now _ h.0 h.1 (c.in_default.ensures.advances h.0 h.1).plain.0 going ready)

pub returns-in-End-clause-fits : goal.returns-in-End-clause-fits
returns-in-End-clause-fits g c =
    let going : (e : Ending) → HasEnded c.args.self.now e → ⊥ = λ e has. let x = (c.in_default.ensures.ended e has).0 in absurd cc in
    let h = going_fed _ _ _ c.requires.stands going in
    let a = c.in_default.ensures.advances h.0 h.1 in
    let mid = record c.advance_with.new.self { window = c.fill.new.self } in
    let more = holds_more c.advance_with.new.self mid h.0 c.fill.new.self a.plain.1 a.plain.3 refl refl in
    let ends = c.at_end-ending.ensures (h.0 ++ c.fill.new.self) more in
    let stays = ap (λ p. p.place) c.close.ensures.ended in
    end_fits _ mid.place _ _ _ ends (ap (λ p. p.part) c.close.ensures.ended) (omega (arith, stays, a.plain.2, c.requires.fits.count, c.in-End.ensures.goes_on.count)) c.in-End.ensures.answer.1

pub returns-in-End-clause-steps : goal.returns-in-End-clause-steps
returns-in-End-clause-steps g c held holds =
    let a = c.in_default.ensures.advances held holds in
    let came = c.fill.new.self in
    let mid = record c.advance_with.new.self { window = came } in
    let more = holds_more c.advance_with.new.self mid held came a.plain.1 a.plain.3 refl refl in
    let ends = subst (λ n. EndsAt n (held ++ came) c.at_end-ending.result) a.plain.2 (c.at_end-ending.ensures (held ++ came) more) in
    let old = g.S.Source.state c.args.source.now in
    let new = g.S.Source.state c.fill.new.source in
    let started = g.B.BodySink.started c.advance_with.new.body in
    let fed = g.B.BodySink.fed c.advance_with.new.body in
    let step = fed_end old new c.args.self.now.place held came c.close.new.self started fed c.at_end-ending.result c.in-End.ensures.goes_on c.in-End.ensures.answer.0 a.plain.0 ends (ap (λ p. p.part) c.close.ensures.ended) c.in-End.ensures.answer.1 in
    subst (λ answer. StepsFed old new c.args.self.now.place held c.close.new.self started fed (Some answer)) (sym c.close.ensures.answer) step

pub returns-in-End-clause-ended : goal.returns-in-End-clause-ended
returns-in-End-clause-ended g c e has = let x = (c.in_default.ensures.ended e has).0 in absurd cc

pub returns-in-End-clause-quiet : goal.returns-in-End-clause-quiet
returns-in-End-clause-quiet g c ready =
    let going : (e : Ending) → HasEnded c.args.self.now e → ⊥ = λ e has. let x = (c.in_default.ensures.ended e has).0 in absurd cc in
    let h = going_fed _ _ _ c.requires.stands going in
    absurd (not_ready c.args.self.now _ h.0 h.1 (c.in_default.ensures.advances h.0 h.1).plain.0 going ready)

pub returns-in-Failed-clause-fits : goal.returns-in-Failed-clause-fits
returns-in-Failed-clause-fits g c =
    let going : (e : Ending) → HasEnded c.args.self.now e → ⊥ = λ e has. let x = (c.in_default.ensures.ended e has).0 in absurd cc in
    let h = going_fed _ _ _ c.requires.stands going in
    let a = c.in_default.ensures.advances h.0 h.1 in
    let last = c.close-in-Failed in
    let stays = ap (λ p. p.place) last.ensures.ended in
    lost_fits (g.S.Source.state c.args.source.now) _ last.new.self (ap (λ p. p.part) last.ensures.ended) (omega (arith, stays, a.plain.2, c.requires.fits.count, c.in-Failed.ensures.goes_on.count)) c.in-Failed.ensures.answer.1

pub returns-in-Failed-clause-ended : goal.returns-in-Failed-clause-ended
returns-in-Failed-clause-ended g c e has = let x = (c.in_default.ensures.ended e has).0 in absurd cc

pub returns-in-Failed-clause-quiet : goal.returns-in-Failed-clause-quiet
returns-in-Failed-clause-quiet g c ready =
    let going : (e : Ending) → HasEnded c.args.self.now e → ⊥ = λ e has. let x = (c.in_default.ensures.ended e has).0 in absurd cc in
    let h = going_fed _ _ _ c.requires.stands going in
    absurd (not_ready c.args.self.now _ h.0 h.1 (c.in_default.ensures.advances h.0 h.1).plain.0 going ready)
