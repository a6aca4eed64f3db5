use Rattle.std.proofs.Common.{◌≡◌, to_z, of_z, w32, w64, rules, subst}
use Rattle.hessian_scalars.specs.Written.{Appends as AppendsScalar}
use Rattle.hessian_scalars.specs.declared.scalar.Scalar.TheVariants as scalars
use Rattle.hessian_writer.proofs.Appended.{appends_null, appends_bool, appends_int, appends_long, appends_date, appends_text, appends_binary}
use Rattle.hessian_writer.proofs.leaf.write_plain.Goals as goal

pub returns-in_ok-write_scalar-in-Null : goal.returns-in_ok-write_scalar-in-Null
returns-in_ok-write_scalar-in-Null c = rw c.in-Null.is (appends_null c.args.out.now.items c.write_scalar.new.out.items c.in_ok-write_scalar-in-Null.ensures.ok)

pub returns-in_ok-write_scalar-in-Bool : goal.returns-in_ok-write_scalar-in-Bool
returns-in_ok-write_scalar-in-Bool c = rw c.in-Bool.is (appends_bool c.in-Bool.truth c.args.out.now.items c.write_scalar-in-Bool.new.out.items c.in_ok-write_scalar-in-Bool.ensures.ok)

pub returns-in_ok-write_int-in-Int : goal.returns-in_ok-write_int-in-Int
returns-in_ok-write_int-in-Int c =
    let same : to_z w32 (of_z w32 c.in-Int.number) ≡ c.in-Int.number = search rules in
    rw c.in-Int.is (appends_int c.in-Int.number c.args.out.now.items c.write_int.new.out.items (subst (λ z. AppendsScalar c.args.out.now.items c.write_int.new.out.items (scalars.Int z)) same c.in_ok-write_int-in-Int.ensures.ok))

pub returns-in_ok-write_scalar-in-Long : goal.returns-in_ok-write_scalar-in-Long
returns-in_ok-write_scalar-in-Long c =
    let same : to_z w64 (of_z w64 c.in-Long.number) ≡ c.in-Long.number = search rules in
    rw c.in-Long.is (appends_long c.in-Long.number c.args.out.now.items c.write_scalar-in-Long.new.out.items (subst (λ z. AppendsScalar c.args.out.now.items c.write_scalar-in-Long.new.out.items (scalars.Long z)) same c.in_ok-write_scalar-in-Long.ensures.ok))

pub returns-in_ok-write_scalar-in-Date : goal.returns-in_ok-write_scalar-in-Date
returns-in_ok-write_scalar-in-Date c =
    let same : to_z w64 (of_z w64 c.in-Date.millis) ≡ c.in-Date.millis = search rules in
    rw c.in-Date.is (appends_date c.in-Date.millis c.args.out.now.items c.write_scalar-in-Date.new.out.items (subst (λ z. AppendsScalar c.args.out.now.items c.write_scalar-in-Date.new.out.items (scalars.Date z)) same c.in_ok-write_scalar-in-Date.ensures.ok))

pub returns-in_ok-write_text-in-Text : goal.returns-in_ok-write_text-in-Text
returns-in_ok-write_text-in-Text c = rw (c.in-Text.is, ← c.as_str.ensures) (appends_text c.as_str.result.now c.args.out.now.items c.write_text.new.out.items c.in_ok-write_text-in-Text.ensures.ok)

pub returns-in_ok-write_contents-in-Bytes : goal.returns-in_ok-write_contents-in-Bytes
returns-in_ok-write_contents-in-Bytes c = rw (c.in-Bytes.is, ← c.as_slice.ensures) (appends_binary c.as_slice.result.now c.args.out.now.items c.write_contents.new.out.items c.in_ok-write_contents-in-Bytes.ensures)
