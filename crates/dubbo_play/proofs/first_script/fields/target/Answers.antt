use Rattle.std.proofs.Common.{sym, ap, ◌∙◌, ◌++◌, ◌∷◌, codes}
use Rattle.std.proofs.lemmas.List.{append_cancel_left}
use Rattle.dubbo_play.proofs.Targets.{behind_path, behind_method, spread}
use Rattle.dubbo_play.proofs.first_script.fields.target.Goals as goal

pub returns-in_err-after : goal.returns-in_err-after
returns-in_err-after c = rw c.from_residual-in_err-after.ensures (λ p m r is ism same.
    let behind = behind_path c.args.bytes.now c.in_ok-path.path.now c.in_ok-path.rest.now p m r
    c.in_ok-path.ensures.0 is c.in_ok-path.ensures.1 same in
    c.in_err-after.ensures _ behind.1)

pub returns-in_err-method : goal.returns-in_err-method
returns-in_err-method c = rw c.from_residual-in_err-method.ensures (λ p m r is ism same.
    let behind = behind_path c.args.bytes.now c.in_ok-path.path.now c.in_ok-path.rest.now p m r
    c.in_ok-path.ensures.0 is c.in_ok-path.ensures.1 same in
    c.in_err-method.ensures m _ ism (append_cancel_left (codes "- ") _ _ (sym c.in_ok-after.ensures ∙ behind.1)))

pub returns-in_err-rest : goal.returns-in_err-rest
returns-in_err-rest c = rw c.from_residual-in_err-rest.ensures (λ p m r is ism same.
    let front = c.in_ok-path.ensures.1 ∙ ap (λ t. c.in_ok-path.path.now ++ 32 ∷ t)
    (c.in_ok-after.ensures ∙ ap (λ t. codes "- " ++ t) c.in_ok-method.ensures.1) in
    let behind = behind_method c.args.bytes.now c.in_ok-path.path.now c.in_ok-method.method.now c.in_ok-method.rest.now p m r
    c.in_ok-path.ensures.0 is c.in_ok-method.ensures.0 ism front same in
    c.in_err-rest.ensures r behind.2)

pub returns : goal.returns
returns c =
    let front = c.in_ok-path.ensures.1 ∙ ap (λ t. c.in_ok-path.path.now ++ 32 ∷ t)
    (c.in_ok-after.ensures ∙ ap (λ t. codes "- " ++ t)
    (c.in_ok-method.ensures.1 ∙ ap (λ t. c.in_ok-method.method.now ++ 32 ∷ t) c.in_ok-rest.ensures)) in (
      c.in_ok-path.ensures.0,
      c.in_ok-method.ensures.0,
      front ∙ sym (spread c.in_ok-path.path.now c.in_ok-method.method.now c.in_ok-rest.rest.now),
    )
