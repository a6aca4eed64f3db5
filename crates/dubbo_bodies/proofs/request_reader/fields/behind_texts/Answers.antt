use Rattle.std.proofs.Common.{◌≡◌, List, suc, [], take, refl, subst, ◌∙◌, arith, add-one}
use Rattle.std.specs.Prelude.{Err}
use Rattle.hessian_graph.specs.Shape.{Text}
use Rattle.hessian_reader.specs.Leaves.{hessian}
use Rattle.hessian_reader.specs.Reading.{HasRead}
use Rattle.dubbo_bodies.specs.Descriptor.{HasArgs, Tells}
use Rattle.dubbo_bodies.specs.Fields.{DESCRIPTOR, BeginsWith}
use Rattle.dubbo_bodies.proofs.FieldSteps.{desc_stays, desc_told}
use Rattle.dubbo_bodies.proofs.FieldArms.{values_begin, desc_last, four_texts}
use Rattle.dubbo_bodies.proofs.request_reader.fields.behind_texts.Goals as goal

pub overflow_add-count : goal.overflow_add-count
overflow_add-count c = let has = (c.in-Ok.ensures.ok c.in-Ok.count).0 refl in let few = has.few in omega (arith, few)

pub returns-in-Ok-clause-stands : goal.returns-in-Ok-clause-stands
returns-in-Ok-clause-stands c = λ header fed b.
    let texts : List Text = c.args.texts.items in
    let desc : Text = c.index.result.now in
    let bytes : c.as_bytes.result.now ≡ desc = c.as_bytes.ensures.value ∙ c.as_str.ensures in
    let counted : HasArgs desc c.in-Ok.count = subst (λ d. HasArgs d c.in-Ok.count) bytes ((c.in-Ok.ensures.ok c.in-Ok.count).0 refl) in
    let read : HasRead c.new.result (suc c.in-Ok.count) [] = subst (λ n. HasRead c.new.result n []) (add-one c.in-Ok.count) c.new.ensures.begins in
    values_begin (record { texts = c.args.texts; values = c.new.result; from = c.args.at }) header fed c.in-Ok.count (take DESCRIPTOR texts) desc (desc_last texts desc c.requires.all c.index.ensures) (four_texts texts c.requires.all) counted read c.new.ensures.serves b

pub returns-in-Err-clause-stands : goal.returns-in-Err-clause-stands
returns-in-Err-clause-stands c = λ header fed b.
    let texts : List Text = c.args.texts.items in
    let desc : Text = c.index.result.now in
    let bytes : c.as_bytes.result.now ≡ desc = c.as_bytes.ensures.value ∙ c.as_str.ensures in
    let told : Tells desc (Err c.in-Err.fault) = subst (λ d. Tells d (Err c.in-Err.fault)) bytes (desc_told c.as_bytes.result.now (Err c.in-Err.fault) c.in-Err.fault refl c.in-Err.ensures.bad c.in-Err.ensures.many) in
    desc_stays header (take DESCRIPTOR texts) desc c.in-Err.fault (subst (λ ts. BeginsWith hessian header fed ts c.args.at []) (desc_last texts desc c.requires.all c.index.ensures) b) (four_texts texts c.requires.all) told
