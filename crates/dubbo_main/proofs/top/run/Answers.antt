use Rattle.std.proofs.Common.{◌≡◌, map, refl, subst, arith, IsTrue, ◌∙◌}
use Rattle.std.proofs.lemmas.Grind.{common_steps}
use Rattle.std.specs.Prelude.{string_bytes}
use Rattle.dubbo_main.specs.Words.{IsPlay}
use Rattle.dubbo_main.specs.PlayStatuses.CallsFor.{played, other_words}
use Rattle.dubbo_main.specs.FaultLines.{words_line}
use Rattle.dubbo_main.specs.PlayFault.{status_of, line_of}
use Rattle.dubbo_play.specs.FirstTranscript.{transcript}
use Rattle.dubbo_main.proofs.OneStatus.{IsOneStatus-play}
use Rattle.dubbo_main.proofs.Statuses.{IsExact-Comes}
use Rattle.dubbo_main.proofs.StatusRows.{CallsFor-fault}
use Rattle.dubbo_main.proofs.top.run.Goals as goal

pub returns-then-not-are_play-clause-status : goal.returns-then-not-are_play-clause-status
returns-then-not-are_play-clause-status g c =
    let others : IsPlay (map string_bytes c.deref.result.now) → ⊥ = λ play. absurd (grind (arith, common_steps)) in
    (1, words_line, other_words (subst (λ words. IsPlay (map string_bytes words) → ⊥) c.deref.ensures.value others) refl, rw c.as_bytes.ensures.value at c.finish.ensures)

pub returns-in-Ok-clause-status : goal.returns-in-Ok-clause-status
returns-in-Ok-clause-status g c =
    let named : IsTrue c.are_play.result = grind (arith, common_steps) in
    let play = subst (λ words. IsPlay (map string_bytes words)) c.deref.ensures.value (c.are_play.ensures.0 named) in
    let done = c.in-Ok.ensures.ok in
    let script = done.2 in
    let text : c.deref-in-Ok.result.now ≡ transcript script.0 = c.deref-in-Ok.ensures.value ∙ script.2 in
    (0, transcript script.0, played done.0 script.0 play done.1 script.1, rw text at c.finish-in-Ok.ensures)

pub returns-in-Err-clause-status : goal.returns-in-Err-clause-status
returns-in-Err-clause-status g c =
    let named : IsTrue c.are_play.result = grind (arith, common_steps) in
    let play = subst (λ words. IsPlay (map string_bytes words)) c.deref.ensures.value (c.are_play.ensures.0 named) in
    let fault = c.in-Err.fault in
    (status_of fault, line_of fault, CallsFor-fault _ _ _ fault play c.in-Err.ensures.stops, c.tell.ensures)

pub returns-then-not-are_play-clause-exact : goal.returns-then-not-are_play-clause-exact
returns-then-not-are_play-clause-exact g c = λ told. IsExact-Comes _ _ _ _ (IsOneStatus-play _ _ _ told) (returns-then-not-are_play-clause-status g c)

pub returns-in-Ok-clause-exact : goal.returns-in-Ok-clause-exact
returns-in-Ok-clause-exact g c = λ told. IsExact-Comes _ _ _ _ (IsOneStatus-play _ _ _ told) (returns-in-Ok-clause-status g c)

pub returns-in-Err-clause-exact : goal.returns-in-Err-clause-exact
returns-in-Err-clause-exact g c = λ told. IsExact-Comes _ _ _ _ (IsOneStatus-play _ _ _ told) (returns-in-Err-clause-status g c)
