use Rattle.std.proofs.Common.{◌∙◌, arith, ap, refl, subst, sym, take}
use Rattle.std.specs.Prelude.{◌≡◌, slice_index}
use Rattle.hessian_text.specs.declared.stage.Kind.TheVariants.{Text}
use Rattle.hessian_text.specs.Items.{Contents}
use Rattle.hessian_text.specs.Steps.{letter_bytes, pair_code, quad_of}
use Rattle.hessian_text.proofs.ItemRuns.{pair_contents}
use Rattle.hessian_text.proofs.reader.pair_at.Goals as goal

pub returns-in-237-clause-pair : goal.returns-in-237-clause-pair
returns-in-237-clause-pair c =
    let piece = c.args.piece.now in
    let is : c.quad_of.result ≡ quad_of (pair_code (slice_index piece 1) (slice_index piece 2) (slice_index piece 4) (slice_index piece 5)) = c.quad_of.ensures ∙ ap quad_of c.pair_code.ensures.code in
    subst (λ x. Contents Text (letter_bytes x) 2 (take 6 piece)) (sym is) (pair_contents piece (slice_index piece 1) (slice_index piece 2) (slice_index piece 4) (slice_index piece 5) c.in-237.len_at_least (omega arith) refl refl (omega arith) refl refl (record { low = omega arith; high = omega arith }) (record { low = omega arith; high = omega arith }) (record { low = omega arith; high = omega arith }) (record { low = omega arith; high = omega arith }))
