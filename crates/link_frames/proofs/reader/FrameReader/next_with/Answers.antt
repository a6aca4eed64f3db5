use Rattle.std.proofs.Common.{◌≡◌, inl, refl, sym, subst, ◌∙◌, arith}
use Rattle.link_frames.specs.NextWith.{with_of}
use Rattle.link_frames.specs.declared.next.Ending.{Ending}
use Rattle.link_frames.specs.Paused.{HasEnded}
use Rattle.link_frames.proofs.FedSteps.{going_fed}
use Rattle.link_frames.proofs.FedNext.{fed_none, fed_again, fed_answer, fed_some}
use Rattle.link_frames.proofs.reader.FrameReader.next_with.Goals as goal

pub loop-next-init : goal.loop-next-init
loop-next-init g c =
    (λ held holds. fed_none (g.S.Source.state c.args.self.now.source) c.args.self.now.paused (g.B.BodySink.fed c.args.body.now) held holds, λ e has. (refl, refl), c.requires)

pub returns-in-Some-clause-steps : goal.returns-in-Some-clause-steps
returns-in-Some-clause-steps g c held holds =
    let so_far = c.loop-next.invariant.0 held holds in
    fed_answer _ _ _ c.args.self.now.paused c.loop-next.self.paused _ _ held _ _ c.in-Some.next so_far (c.in-Some.ensures.steps _ so_far.holds)

pub returns-in-Some-clause-ended : goal.returns-in-Some-clause-ended
returns-in-Some-clause-ended g c e has =
    let same = c.loop-next.invariant.1 e has in
    let stays : HasEnded c.loop-next.self.paused e = subst (λ p. HasEnded p e) (sym same.0) has in
    let answer = c.in-Some.ensures.ended e stays in
    let is_next : c.in-Some.next ≡ with_of e = let x = answer.0 in cc in
    (is_next, answer.1 ∙ same.0, c.in-Some.ensures.quiet (inl (e, stays)) ∙ same.1)

pub loop-next-smaller : goal.loop-next-smaller
loop-next-smaller g c =
    let going : (e : Ending) → HasEnded c.loop-next.self.paused e → ⊥ = λ e has. let x = (c.in_default.ensures.ended e has).0 in absurd cc in
    let held = going_fed _ _ _ c.loop-next.invariant.2 going in
    let rose = fed_some _ _ _ held.0 _ _ _ (c.in_default.ensures.steps held.0 held.1) in
    omega (arith, rose, (g.met.S.Source.sound c.step_with.new.self.source).count)

pub loop-next-preserved : goal.loop-next-preserved
loop-next-preserved g c = (
  λ held holds.
      let so_far = c.loop-next.invariant.0 held holds in
      fed_again _ _ _ c.args.self.now.paused c.loop-next.self.paused _ _ held _ _ so_far (c.in_default.ensures.steps _ so_far.holds),
  λ e has.
      let same = c.loop-next.invariant.1 e has in
      let stays : HasEnded c.loop-next.self.paused e = subst (λ p. HasEnded p e) (sym same.0) has in
      absurd (let x = (c.in_default.ensures.ended e stays).0 in cc),
  c.in_default.ensures.stands,
)
