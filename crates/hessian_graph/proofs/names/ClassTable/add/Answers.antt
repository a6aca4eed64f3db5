use Rattle.std.proofs.Common.{rules, ◌≡◌, ◌∙◌, sym, ap, subst, cond, List, ◌∷◌, ◌++◌, [], ℕ, length}
use Rattle.std.specs.Prelude.{Some}
use Rattle.std.specs.Str.{bytes_eq}
use Rattle.hessian_graph.specs.declared.node.Class.{Class}
use Rattle.hessian_graph.specs.declared.names.ClassTable.{ClassTable}
use Rattle.hessian_graph.specs.Tables.{IsClassIndex, find_key}
use Rattle.hessian_graph.proofs.ClassSteps.{key_step, classes_more}
use Rattle.hessian_graph.proofs.names.ClassTable.add.Goals as goal

pub returns-clause-fits : goal.returns-clause-fits
returns-clause-fits c =
    let t : ClassTable = c.args.self.now in
    let u : ClassTable = record { words = c.args.self.now.words; places = c.insert.new.self; rows = c.args.self.now.rows; known = c.args.self.now.known } in
    let count : c.len-number.result ≡ length c.args.self.now.rows.items = search rules in
    let step : (ns : List ℕ) → find_key u ns ≡ cond (bytes_eq c.args.key.items ns) (Some (length c.args.self.now.rows.items)) (find_key t ns) = λ ns.
    key_step t u c.args.key.items c.len-number.result c.in_ok-insert.ensures.updates ns
    ∙ ap (λ n. cond (bytes_eq c.args.key.items ns) (Some n) (find_key t ns)) count in (
      c.requires.fits.0,
      subst (λ (rs : List Class). IsClassIndex (find_key u) c.args.self.now.words.texts.items rs) (sym (c.in_ok-push.ensures.items ∙ ap (λ (x : Class). c.args.self.now.rows.items ++ x ∷ []) c.in_ok-copy_class.ensures))
          (classes_more (find_key t) (find_key u) c.args.self.now.words.texts.items c.args.self.now.rows.items c.args.key.items c.args.class.now c.requires.fits.1 c.requires.absent c.requires.key step),
    )
