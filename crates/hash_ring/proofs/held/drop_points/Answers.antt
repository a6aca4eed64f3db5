use Rattle.std.proofs.Common.{not, rules}
use Rattle.std.specs.Str.{bytes_eq}
use Rattle.std.specs.String.{string_bytes}
use Rattle.std.proofs.lemmas.Fn.{filter_same}
use Rattle.hash_ring.specs.declared.point.Point.{Point}
use Rattle.hash_ring.proofs.Pointing.{lost_by_filter}
use Rattle.hash_ring.proofs.held.drop_points.Goals as goal

pub returns : goal.returns
returns c = lost_by_filter c.args.name.now c.args.points.now.keys c.retain.new.self.keys
    (filter_same _ (λ (p : Point). not (bytes_eq (string_bytes p.name) c.args.name.now)) _ (λ x b f' k. search rules) _ _ c.retain.ensures.filtered)
