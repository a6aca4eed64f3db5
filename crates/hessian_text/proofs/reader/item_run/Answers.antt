use Rattle.std.proofs.Common.{◌≡◌, arith, length, subst, sym, take}
use Rattle.std.proofs.lemmas.List.{length-take-le}
use Rattle.hessian_text.specs.declared.stage.Kind.TheVariants.{Binary}
use Rattle.hessian_text.specs.Items.{Contents}
use Rattle.hessian_text.specs.Spelling.{AreBytes}
use Rattle.hessian_text.proofs.Answering.{take_bytes}
use Rattle.hessian_text.proofs.ReadBack.{bytes_contents}
use Rattle.hessian_text.proofs.reader.item_run.Goals as goal

pub returns-in-Binary-clause-run : goal.returns-in-Binary-clause-run
returns-in-Binary-clause-run c =
    let piece = c.args.piece.now in
    let n = c.min-most.result in
    let small : AreBytes piece = record { small = λ i h. omega (arith, c.type_inv.piece i) } in
    let size : length (take n piece) ≡ n = length-take-le n piece (omega arith) in
    subst (λ k. Contents k (take n piece) n (take n piece)) (sym c.in-Binary.is) (subst (λ m. Contents Binary (take n piece) m (take n piece)) size (bytes_contents (take n piece) (take_bytes n piece small (omega arith))))
