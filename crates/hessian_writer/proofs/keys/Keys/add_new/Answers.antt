use Rattle.std.proofs.Common.{rules, ◌≡◌, ◌∙◌, ap, cond, List, ◌∷◌, ◌++◌, [], ℕ, length}
use Rattle.std.specs.Prelude.{Some}
use Rattle.std.specs.Str.{bytes_eq}
use Rattle.hessian_graph.proofs.ClassSteps.{at_lists}
use Rattle.hessian_writer.specs.declared.keys.Keys.{Keys}
use Rattle.hessian_writer.specs.Sharing.{find_key}
use Rattle.hessian_writer.proofs.Shared.{key_new}
use Rattle.hessian_writer.proofs.keys.Keys.add_new.Goals as goal

pub returns : goal.returns
returns c = λ keys fit.
    let new : Keys = record { places = c.insert.new.self; firsts = c.push.new.self } in
    let count : c.len-next.result ≡ length c.args.self.now.firsts.items = search rules in
    let step : (other : List ℕ) → find_key new other ≡ cond (bytes_eq c.args.key.items other) (Some (length c.args.self.now.firsts.items)) (find_key c.args.self.now other) = λ other.
    at_lists c.args.self.now.places c.insert.new.self (λ k. k.items) c.args.key.items (Some c.len-next.result) c.in_ok-insert.ensures.updates other
    ∙ ap (λ n. cond (bytes_eq c.args.key.items other) (Some n) (find_key c.args.self.now other)) count in
    key_new keys c.args.self.now new c.args.key.items fit c.requires step (c.in_ok-push.ensures.items ∙ ap (λ n. c.args.self.now.firsts.items ++ n ∷ []) count)
