use Rattle.std.proofs.Common.{◌≡◌, ℕ, List, refl, ◌∙◌, subst, arith}
use Rattle.dubbo_bodies.specs.Descriptor.{HasArgs}
use Rattle.service_table.proofs.services.check_args.Goals as goal

pub returns-in-Ok-2-clause-enough : goal.returns-in-Ok-2-clause-enough
returns-in-Ok-2-clause-enough c =
    let desc : c.as_bytes.result.now ≡ c.args.row.now.desc = c.as_bytes.ensures.value ∙ c.as_str.ensures in
    let needed = c.needs-needed.ensures in
    let least = c.if-count-needed.false in
    record {
      count = c.in-Ok.count;
      args = subst (λ (d : List ℕ). HasArgs d c.in-Ok.count) desc ((c.in-Ok.ensures.ok c.in-Ok.count).0 refl);
      enough = omega (arith, needed, least);
    }
