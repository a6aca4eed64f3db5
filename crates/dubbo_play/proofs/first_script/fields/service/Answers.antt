use Rattle.std.proofs.Common.{◌≡◌, true, false, sym, ◌∙◌, codes}
use Rattle.std.proofs.lemmas.List.{append_cancel_left}
use Rattle.std.proofs.lemmas.Slice.Eq.{bytes_eq-Decides}
use Rattle.dubbo_play.proofs.Targets.{target_once}
use Rattle.dubbo_play.proofs.first_script.fields.service.Goals as goal

pub returns-else-eq : goal.returns-else-eq
returns-else-eq c = λ p m is ism same.
    let front = append_cancel_left (codes "service ") _ _ (sym c.in_ok-after.ensures ∙ same) in
    let all = target_once c.in_ok-path.path.now c.in_ok-path.method.now c.in_ok-path.rest.now p m (codes "echo")
    c.in_ok-path.ensures.0 is c.in_ok-path.ensures.1 ism (sym c.in_ok-path.ensures.2 ∙ front) in
    let no : false ≡ true = c.if-eq.ensures ∙ (bytes_eq-Decides c.in_ok-path.rest.now c.as_slice.result.now).1 (all.2 ∙ sym c.as_slice.ensures) in
    cc
