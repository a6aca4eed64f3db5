use Rattle.std.proofs.Common.{◌≡◌, ◌∙◌, sym, subst, List, ℕ}
use Rattle.std.specs.Prelude.{Some}
use Rattle.hessian_writer.specs.Sharing.{find_key}
use Rattle.hessian_writer.proofs.Shared.{key_again}
use Rattle.hessian_writer.proofs.keys.Keys.add.Goals as goal

pub returns-in_ok-add_known-in-Some : goal.returns-in_ok-add_known-in-Some
returns-in_ok-add_known-in-Some c = λ keys fit.
    let found : find_key c.args.self.now c.args.key.items ≡ Some c.in-Some.first =
    subst (λ (k : List ℕ). find_key c.args.self.now k ≡ Some c.in-Some.first) c.as_slice.ensures.value (sym c.get.ensures.value ∙ sym c.in-Some.ensures) in
    key_again keys c.args.self.now c.add_known.new.self c.args.key.items c.in-Some.first fit found c.add_known.ensures.places c.in_ok-add_known-in-Some.ensures.firsts
