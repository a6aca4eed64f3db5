use Rattle.std.proofs.Common.{◌≡◌, ◌≤◌, ◌⊎◌, ◌↔◌, List, ℕ, [], ◌∷◌, ◌++◌, true, false, length, refl, subst, sym, ap, ◌∙◌, arith}
use Rattle.std.specs.List.{Contains}
use Rattle.dubbo_play.specs.Fields.{said}
use Rattle.dubbo_play.specs.FirstForm.{Says}
use Rattle.dubbo_play.specs.Reading.{AreRead}
use Rattle.std.specs.Int.{w32}
use Rattle.std.proofs.lemmas.Int.{to_z-of_z}
use Rattle.dubbo_play.proofs.Lines.{call_words}
use Rattle.dubbo_play.proofs.Scripts.{on_true, on_false, read_nothing, read_service, read_call, service_refused, call_refused}
use Rattle.dubbo_play.proofs.first_script.lines.take_line.Goals as goal
use Rattle.dubbo_play.proofs.first_script.lines.take_line.Goals.{then-not-known-via-then-not-known, then-not-known-via-else-not-known+then-len-ge-CALL_LIMIT}

pub returns-in-Some-Nothing-clause-taken : goal.returns-in-Some-Nothing-clause-taken
returns-in-Some-Nothing-clause-taken c = λ before read.
    let says = subst (λ f. Says c.args.line.now (said f)) c.in-Some-Nothing.field-0-is c.in-Some-Nothing.ensures in
    read_nothing before c.args.calls.now.items c.args.services.now c.args.line.now says read

pub returns-in_ok-fresh-in-Some-Service-clause-taken : goal.returns-in_ok-fresh-in-Some-Service-clause-taken
returns-in_ok-fresh-in-Some-Service-clause-taken c = on_true c.in_ok-fresh-in-Some-Service.fresh _ (λ new before read.
    let says = subst (λ f. Says c.args.line.now (said f)) c.in-Some-Service.field-0-is c.in-Some-Service.ensures in
    let same = c.in_ok-from_slice-in-Some-Service.ensures.items in
    read_service before c.args.calls.now.items c.args.services.now c.add.new.self c.args.line.now
    c.in-Some-Service.field-0-0.now c.in-Some-Service.field-0-1.now says
    (subst (λ text. ¬ Contains c.args.services.now text) same (c.in_ok-fresh-in-Some-Service.ensures.fresh.0 new))
    (subst (λ text. (other : List ℕ) → Contains c.add.new.self other ↔ (Contains c.args.services.now other ⊎ (text ≡ other))) same
    c.in_ok-fresh-in-Some-Service.ensures.lines)
    read)

pub returns-in_ok-fresh-in-Some-Service-clause-other : goal.returns-in_ok-fresh-in-Some-Service-clause-other
returns-in_ok-fresh-in-Some-Service-clause-other c = on_false c.in_ok-fresh-in-Some-Service.fresh _ (λ old before read.
    let says = subst (λ f. Says c.args.line.now (said f)) c.in-Some-Service.field-0-is c.in-Some-Service.ensures in
    let same = c.in_ok-from_slice-in-Some-Service.ensures.items in
    service_refused before c.args.calls.now.items c.args.services.now c.args.line.now
    c.in-Some-Service.field-0-0.now c.in-Some-Service.field-0-1.now says
    (λ none. let wrong : false ≡ true = sym old ∙ c.in_ok-fresh-in-Some-Service.ensures.fresh.1
    (subst (λ text. ¬ Contains c.args.services.now text) (sym same) none) in cc)
    read)

pub returns-then-not-known-clause-other : goal.returns-then-not-known-clause-other
returns-then-not-known-clause-other c = λ before read.
    let says = subst (λ f. Says c.args.line.now (said f)) c.in-Some-Call.field-0-is c.in-Some-Call.ensures in
    let text = c.as_slice.ensures.value ∙ c.in_ok-service_text-in-Some-Call.ensures in
    call_refused before c.args.calls.now.items c.args.services.now c.args.line.now _ says
    (λ there few. elim c.then-not-known.branch [
      | then-not-known-via-then-not-known w ↦
          let wrong : false ≡ true = sym w.if-not-known.true ∙ c.has-known.ensures.1 (subst (Contains c.args.services.now) (sym text) there) in cc
      | then-not-known-via-else-not-known+then-len-ge-CALL_LIMIT w ↦
          omega (arith, w.len.ensures, c.args.calls.now.ok, w.if-len-ge-CALL_LIMIT.true)
    ])
    read

pub returns-in_ok-push-in-Some-Call-clause-taken : goal.returns-in_ok-push-in-Some-Call-clause-taken
returns-in_ok-push-in-Some-Call-clause-taken c = λ before read.
    let says = subst (λ f. Says c.args.line.now (said f)) c.in-Some-Call.field-0-is c.in-Some-Call.ensures in
    let text = c.as_slice.ensures.value ∙ c.in_ok-service_text-in-Some-Call.ensures in
    let there = subst (Contains c.args.services.now) text (c.has-known.ensures.0 c.if-not-known.false) in
    let few : length c.args.calls.now.items ≤ 4095 = omega (arith, c.len.ensures, c.args.calls.now.ok, c.if-len-ge-CALL_LIMIT.false) in
    let words = call_words c.args.line.now _ _ says refl in
    let made = c.in_ok-new-in-Some-Call.ensures ∙ ap (λ argument. record
    { path = c.in-Some-Call.path.now; method = c.in-Some-Call.method.now; argument = argument })
    (to_z-of_z w32 c.in-Some-Call.argument words.argument) in
    subst (λ calls. AreRead (before ++ c.args.line.now ∷ []) calls c.args.services.now)
    (sym (c.in_ok-push-in-Some-Call.ensures.items ∙ ap (λ call. c.args.calls.now.items ++ call ∷ []) made))
    (read_call before c.args.calls.now.items c.args.services.now c.args.line.now _ says there few read)
