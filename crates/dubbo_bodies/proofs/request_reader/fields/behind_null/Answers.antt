use Rattle.std.proofs.Common.{◌≡◌, ◌≢◌, ◌+◌, [], ◌∷◌, ◌++◌, length, refl, sym, ap, subst, ◌∙◌, arith}
use Rattle.hessian_graph.specs.Shape.{Text}
use Rattle.hessian_reader.specs.Leaves.{hessian}
use Rattle.dubbo_bodies.specs.declared.fault.RequestFault.TheVariants as faulty
use Rattle.dubbo_bodies.specs.Fields.{VERSION, NULL, BeginsWith}
use Rattle.dubbo_bodies.specs.RequestStages.{StaysRefused}
use Rattle.dubbo_bodies.proofs.FieldSteps.{one_begins, came_at, null_field, field_refused}
use Rattle.dubbo_bodies.proofs.request_reader.fields.behind_null.Goals as goal
use Rattle.dubbo_bodies.proofs.request_reader.fields.behind_null.Goals.{else-len-eq-VERSION-via-then-len-eq-VERSION+else-code-eq-NULL, else-len-eq-VERSION-via-else-len-eq-VERSION}

pub returns-then-code-eq-NULL-clause-stands : goal.returns-then-code-eq-NULL-clause-stands
returns-then-code-eq-NULL-clause-stands c = λ header fed never b.
    let size : length c.args.texts.items ≡ VERSION = omega (arith, c.args.texts.ok, c.len.ensures, c.if-len-eq-VERSION.true) in
    let code : c.args.code ∷ [] ≡ NULL ∷ [] = ap (λ x. x ∷ []) c.if-code-eq-NULL.true in
    let empty : c.from.result ≡ [] = c.from.ensures ∙ c.new.ensures.bytes in
    let long = came_at header b in
    let one = one_begins header [] (c.args.at + 1) b (null_field (length c.args.texts.items) (c.args.code ∷ []) size code) (omega (arith, long)) in
    c.behind_text.ensures.stands header fed (subst (λ (t : Text). BeginsWith hessian header fed (c.args.texts.items ++ t ∷ []) (c.args.at + 1) []) (sym empty) one)

pub returns-else-len-eq-VERSION-clause-stands : goal.returns-else-len-eq-VERSION-clause-stands
returns-else-len-eq-VERSION-clause-stands c = λ header fed never b.
    let size : length c.args.texts.items ≡ c.len-else-len-eq-VERSION.result = omega (arith, c.args.texts.ok, c.len-else-len-eq-VERSION.ensures) in
    let other : length c.args.texts.items ≡ VERSION → c.args.code ≢ NULL = elim c.else-len-eq-VERSION.branch [
      | else-len-eq-VERSION-via-then-len-eq-VERSION+else-code-eq-NULL w ↦ (λ p e. absurd (omega (arith, w.if-code-eq-NULL.false, e)))
      | else-len-eq-VERSION-via-else-len-eq-VERSION w ↦ (λ p e. absurd (omega (arith, c.args.texts.ok, c.len.ensures, w.if-len-eq-VERSION.false, p)))
    ] in
    subst (λ n. StaysRefused (faulty.NotText n) header fed) size (field_refused header c.args.code b refl c.requires.few never other)
