use Rattle.std.proofs.Common.{◌≡◌, ◌∙◌, sym, subst, List, ℕ, []}
use Rattle.std.specs.Prelude.{Some}
use Rattle.std.specs.BTreeMap.{get_by_text}
use Rattle.hessian_graph.proofs.TableSteps.{old_number}
use Rattle.graph_notation.proofs.name_table.TextTable.number.Goals as goal

pub returns-in-Some-clause-number : goal.returns-in-Some-clause-number
returns-in-Some-clause-number c =
    let e : get_by_text c.args.self.now.places c.args.text.now ≡ Some c.in-Some.number =
    subst (λ (t : List ℕ). get_by_text c.args.self.now.places t ≡ Some c.in-Some.number) c.as_str.ensures (sym c.get.ensures.value ∙ sym c.in-Some.ensures) in
    let f = c.requires.fits.found c.args.text.now c.in-Some.number e in
    old_number [] c.args.self.now.texts.items c.args.text.now c.in-Some.number f.0 f.1
