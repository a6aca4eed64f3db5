use Rattle.std.proofs.Common.{◌≡◌, ◌<◌, length, inr, ap, refl, arith, true, false, Err}
use Rattle.call_plan.specs.Size.{IsTooLarge}
use Rattle.call_plan.proofs.Sizing.{small_request}
use Rattle.call_plan.proofs.scripts.sizes.is_too_large.Goals as goal

pub returns-in-Ok : goal.returns-in-Ok
returns-in-Ok c =
    let few : length c.args.request.now.args.nodes < 999998
    = omega (arith, ap length c.as_slice.ensures, ap (λ p. length p.nodes) c.parts.ensures.parts) in (
      (λ no. absurd (let e : false ≡ true = no in cc)),
      (λ (large : IsTooLarge c.args.request.now). absurd (small_request c.args.request.now few (λ count long. (let e = ((c.in-Ok.ensures {u = tt}).long count (λ e. cc)).1 long in cc)) large)),
    )

pub returns-in-Err-TooLong : goal.returns-in-Err-TooLong
returns-in-Err-TooLong c = (
  (λ yes. inr (c.in-Err-TooLong.field-0-0, ((c.in-Err-TooLong.ensures {u = tt}).long c.in-Err-TooLong.field-0-0 (let is = c.in-Err-TooLong.field-0-is in λ e. cc)).0 (ap Err c.in-Err-TooLong.field-0-is))),
  (λ large. refl),
)
