use Rattle.std.proofs.Common.{◌≡◌, ◌+◌, ◌∷◌, ◌++◌, [], take, drop, refl, sym, ap, subst, ◌∙◌, true, false, take-append-drop}
use Rattle.std.specs.Prelude.{All}
use Rattle.std.proofs.lemmas.List.{drop_more, take_more, take_all}
use Rattle.std.proofs.lemmas.List.Elements.{All-push}
use Rattle.call_plan.specs.Size.{IsSmall}
use Rattle.call_plan.proofs.scripts.sizes.first_too_large.Goals as goal

pub returns-then-branch : goal.returns-then-branch
returns-then-branch c =
    let i = c.loop-call.call-index in
    let calls = c.args.calls.now in
    record {
      before = take i calls;
      call = c.call-item.result;
      after = drop (i + 1) calls;
      cut = sym (take-append-drop i calls) ∙ ap (λ rest. take i calls ++ rest)
          (drop_more calls i c.call-item.result c.loop-call-test.true ∙ ap (λ x. x ∷ drop (i + 1) calls) (sym c.call-item.is));
      small = c.loop-call.invariant;
      large = (c.in_ok-is_too_large.ensures {u = tt}).0 c.if-branch.true;
      place = refl;
    }

pub loop-call-preserved : goal.loop-call-preserved
loop-call-preserved c =
    let i = c.loop-call.call-index in
    let calls = c.args.calls.now in
    let small : IsSmall c.call-item.result = λ large. (let no : false ≡ true = sym c.if-branch.false ∙ (c.in_ok-is_too_large.ensures {u = tt}).1 large in cc) in
    subst (All IsSmall) (sym (take_more calls i c.call-item.result c.loop-call-test.true ∙ ap (λ x. take i calls ++ x ∷ []) (sym c.call-item.is)))
    (All-push IsSmall (take i calls) c.call-item.result c.loop-call.invariant small)

pub returns : goal.returns
returns c = subst (All IsSmall) (take_all c.loop-call.call-index c.args.calls.now c.loop-call-test.false) c.loop-call.invariant
