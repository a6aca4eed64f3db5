use Rattle.std.proofs.Common.{subst, List, ℕ}
use Rattle.hessian_text.specs.Written.{AppendsText}
use Rattle.dubbo_bodies.proofs.Written.{five_texts}
use Rattle.dubbo_bodies.proofs.pieces.field_bytes.Goals as goal

pub returns : goal.returns
returns c =
    let r = c.args.request.now in
    five_texts r.dubbo r.path r.version r.method r.desc c.new-out.result.items c.write_text.new.out.items c.write_text-2.new.out.items c.write_text-3.new.out.items c.write_text-4.new.out.items c.write_text-5.new.out.items c.new-out.ensures.items
    (subst (λ (t : List ℕ). AppendsText c.new-out.result.items t c.write_text.new.out.items) c.as_str.ensures c.in_ok-write_text.ensures.ok)
    (subst (λ (t : List ℕ). AppendsText c.write_text.new.out.items t c.write_text-2.new.out.items) c.as_str-2.ensures c.in_ok-write_text-2.ensures.ok)
    (subst (λ (t : List ℕ). AppendsText c.write_text-2.new.out.items t c.write_text-3.new.out.items) c.as_str-3.ensures c.in_ok-write_text-3.ensures.ok)
    (subst (λ (t : List ℕ). AppendsText c.write_text-3.new.out.items t c.write_text-4.new.out.items) c.as_str-4.ensures c.in_ok-write_text-4.ensures.ok)
    (subst (λ (t : List ℕ). AppendsText c.write_text-4.new.out.items t c.write_text-5.new.out.items) c.as_str-5.ensures c.in_ok-write_text-5.ensures.ok)
