use Rattle.std.proofs.Common.{rules, ◌≡◌, [], sym, subst, ◌∙◌}
use Rattle.std.specs.String.{string_bytes}
use Rattle.hash_ring.specs.Choice.{IsChosen}
use Rattle.hash_ring.specs.Held.{pair_of, pairs, spelled, IsFirstFrom}
use Rattle.hash_ring.proofs.Holding.{no_point_no_name, some_point_some_name, first_is_held, chosen_by}
use Rattle.hash_ring.proofs.ring.Ring.choose.Goals as goal

pub returns-in_err-point-clause-none : goal.returns-in_err-point-clause-none
returns-in_err-point-clause-none c = let none : pairs c.self.inside.points ≡ [] = rw c.in_err-point.was at c.first_from.ensures in
    ((λ h. sym c.self.view_is ∙ no_point_no_name (spelled c.self.inside.names) (pairs c.self.inside.points) c.self.invariant.points none), (λ h. search rules))

pub returns-clause-none : goal.returns-clause-none
returns-clause-none c = let first : IsFirstFrom (pairs c.self.inside.points) c.key_number.result (pair_of c.in_ok-point.point.now) = c.in_ok-point.ensures in (
  (λ h. cc),
  (λ h. absurd (some_point_some_name (spelled c.self.inside.names) (pairs c.self.inside.points) (pair_of c.in_ok-point.point.now) c.self.invariant.points
      (first_is_held (pairs c.self.inside.points) c.key_number.result (pair_of c.in_ok-point.point.now) first) (c.self.view_is ∙ h))),
)

pub returns-clause-chosen : goal.returns-clause-chosen
returns-clause-chosen c = let first : IsFirstFrom (pairs c.self.inside.points) c.key_number.result (pair_of c.in_ok-point.point.now) = c.in_ok-point.ensures in
    let chosen : IsChosen (spelled c.self.inside.names) c.args.key.now (string_bytes c.in_ok-point.point.now.name) =
    chosen_by (spelled c.self.inside.names) (pairs c.self.inside.points) c.args.key.now (pair_of c.in_ok-point.point.now) c.self.invariant.points
    (subst (λ n. IsFirstFrom (pairs c.self.inside.points) n (pair_of c.in_ok-point.point.now)) c.key_number.ensures first) in
    subst (λ names. IsChosen names c.args.key.now c.as_str.result.now) c.self.view_is
    (subst (λ text. IsChosen (spelled c.self.inside.names) c.args.key.now text) (sym c.as_str.ensures.value) chosen)
