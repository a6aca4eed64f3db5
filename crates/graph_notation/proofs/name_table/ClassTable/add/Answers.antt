use Rattle.std.proofs.Common.{rules, ◌≡◌, ◌∙◌, sym, ap, subst, cond, List, ℕ, length}
use Rattle.std.specs.Prelude.{Some}
use Rattle.std.specs.Str.{bytes_eq}
use Rattle.hessian_graph.specs.declared.node.Class.{Class}
use Rattle.hessian_graph.specs.Tables.{IsClassIndex}
use Rattle.hessian_graph.proofs.ClassSteps.{at_lists, classes_more}
use Rattle.graph_notation.specs.declared.name_table.ClassTable.{ClassTable}
use Rattle.graph_notation.specs.Naming.{find_key}
use Rattle.graph_notation.proofs.name_table.ClassTable.add.Goals as goal

pub returns-clause-fits : goal.returns-clause-fits
returns-clause-fits c =
    let t : ClassTable = c.args.self.now in
    let u : ClassTable = record { words = c.args.self.now.words; places = c.insert.new.self; rows = c.args.self.now.rows; last = c.args.self.now.last } in
    let count : c.len-number.result ≡ length c.args.self.now.rows.items = search rules in
    let step : (ns : List ℕ) → find_key u ns ≡ cond (bytes_eq c.args.key.items ns) (Some (length c.args.self.now.rows.items)) (find_key t ns) = λ ns.
    at_lists t.places u.places (λ k. k.items) c.args.key.items (Some c.len-number.result) c.in_ok-insert.ensures.updates ns
    ∙ ap (λ n. cond (bytes_eq c.args.key.items ns) (Some n) (find_key t ns)) count in (
      c.requires.fits.0,
      subst (λ (rs : List Class). IsClassIndex (find_key u) c.args.self.now.words.texts.items rs) (sym c.in_ok-push.ensures.items)
          (classes_more (find_key t) (find_key u) c.args.self.now.words.texts.items c.args.self.now.rows.items c.args.key.items c.args.class c.requires.fits.1 c.requires.absent c.requires.key step),
    )
