use Rattle.std.proofs.Common.{rules, ◌≡◌, ◌∙◌, ap, cond, List, ℕ, length}
use Rattle.std.specs.Prelude.{Some}
use Rattle.std.specs.Str.{bytes_eq}
use Rattle.std.specs.String.{string_bytes}
use Rattle.std.specs.BTreeMap.{get_by_text}
use Rattle.std.proofs.lemmas.Map.Text.{btree_map_updates_text}
use Rattle.hessian_graph.proofs.TableSteps.{index_more}
use Rattle.graph_notation.proofs.name_table.TextTable.add.Goals as goal

pub returns-clause-fits : goal.returns-clause-fits
returns-clause-fits c =
    let is : string_bytes c.in_ok-key.key ≡ c.args.text.now = c.in_ok-key.ensures.ok ∙ c.as_str.ensures in
    let count : c.len-number.result ≡ length c.args.self.now.texts.items = search rules in
    let step : (other : List ℕ) → get_by_text c.insert.new.self other ≡ cond (bytes_eq c.args.text.now other) (Some (length c.args.self.now.texts.items)) (get_by_text c.args.self.now.places other) = λ other.
    btree_map_updates_text (string_bytes c.in_ok-key.key) c.args.self.now.places c.insert.new.self (Some c.len-number.result) c.in_ok-insert.ensures.updates other
    ∙ ap (λ b. cond (bytes_eq b other) (Some c.len-number.result) (get_by_text c.args.self.now.places other)) is
    ∙ ap (λ n. cond (bytes_eq c.args.text.now other) (Some n) (get_by_text c.args.self.now.places other)) count in
    rw (c.in_ok-push.ensures.items, c.in_ok-copy_text.ensures)
    (index_more (get_by_text c.args.self.now.places) (get_by_text c.insert.new.self) c.args.self.now.texts.items c.args.text.now c.requires.fits c.requires.absent step)
