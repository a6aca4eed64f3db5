use Rattle.std.proofs.Common.{◌≡◌, ◌∙◌, sym, subst, List, ℕ, get_or}
use Rattle.std.specs.Prelude.{Some}
use Rattle.hessian_graph.specs.Shape.{no_class}
use Rattle.hessian_graph.specs.Tables.{words_of}
use Rattle.hessian_graph.proofs.TableSteps.{old_number}
use Rattle.hessian_graph.proofs.ClassSteps.{classes_longer, spell_longer, same_class}
use Rattle.graph_notation.specs.Naming.{find_key}
use Rattle.graph_notation.proofs.name_table.ClassTable.find.Goals as goal

pub add-requires-clause-fits : goal.add-requires-clause-fits
add-requires-clause-fits c = (c.in_ok-key.ensures.fits, classes_longer (find_key c.args.self.now) c.args.self.now.words.texts.items c.key.new.self.texts.items c.args.self.now.rows.items c.in_ok-key.ensures.grown c.requires.fits.1)

pub returns-in-Some-clause-fits : goal.returns-in-Some-clause-fits
returns-in-Some-clause-fits c = (c.in_ok-key.ensures.fits, classes_longer (find_key c.args.self.now) c.args.self.now.words.texts.items c.key.new.self.texts.items c.args.self.now.rows.items c.in_ok-key.ensures.grown c.requires.fits.1)

pub returns-in-Some-clause-number : goal.returns-in-Some-clause-number
returns-in-Some-clause-number c =
    let e : find_key c.args.self.now c.in_ok-key.key.items ≡ Some c.in-Some.number =
    subst (λ (t : List ℕ). find_key c.args.self.now t ≡ Some c.in-Some.number) c.as_slice.ensures.value (sym c.get.ensures.value ∙ sym c.in-Some.ensures) in
    let f = c.requires.fits.1.found c.in_ok-key.key.items c.in-Some.number e in
    let row = get_or c.args.self.now.rows.items c.in-Some.number no_class in
    let both = spell_longer c.args.self.now.words.texts.items c.key.new.self.texts.items c.in_ok-key.key.items (words_of row) c.in_ok-key.ensures.grown f.1 in
    old_number no_class c.args.self.now.rows.items c.args.class c.in-Some.number f.0 (same_class row c.args.class (sym both.is ∙ c.in_ok-key.ensures.key.is))
