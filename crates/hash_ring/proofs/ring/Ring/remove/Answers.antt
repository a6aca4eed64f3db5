use Rattle.std.proofs.Common.{rules, ◌≡◌, true, false, refl, sym, subst}
use Rattle.std.specs.String.{string_bytes}
use Rattle.hash_ring.specs.Names.{AreNames, without}
use Rattle.hash_ring.specs.Held.{HoldsPointsOf, spelled, pairs}
use Rattle.hash_ring.proofs.Ordered.{had_as, removed_as}
use Rattle.hash_ring.proofs.Holding.{names_without, points_without}
use Rattle.hash_ring.proofs.ring.Ring.remove.Goals as goal

pub returns-then-not-remove-clause-had : goal.returns-then-not-remove-clause-had
returns-then-not-remove-clause-had c = had_as string_bytes c.args.name.now c.self.inside.names.keys c.remove.result false c.args.self.now c.remove.ensures.test (search rules) c.self.view_is

pub returns-then-not-remove-clause-rest : goal.returns-then-not-remove-clause-rest
returns-then-not-remove-clause-rest c = removed_as string_bytes c.args.name.now c.self.inside.names.keys c.remove.new.self.keys c.args.self.now c.remove.ensures.keys c.self.invariant.names.ordered c.self.view_is

pub invariant_of-self-2 : goal.invariant_of-self-2
invariant_of-self-2 c = let e : spelled c.remove.new.self ≡ without c.args.name.now (spelled c.self.inside.names) = removed_as string_bytes c.args.name.now c.self.inside.names.keys c.remove.new.self.keys _ c.remove.ensures.keys c.self.invariant.names.ordered refl in record {
  names = subst AreNames (sym e) (names_without c.args.name.now (spelled c.self.inside.names) c.self.invariant.names);
  points = subst (λ zs. HoldsPointsOf zs (pairs c.drop_points.new.points)) (sym e)
      (points_without c.args.name.now (spelled c.self.inside.names) (pairs c.self.inside.points) (pairs c.drop_points.new.points) c.self.invariant.points c.drop_points.ensures);
}

pub returns-clause-had : goal.returns-clause-had
returns-clause-had c = had_as string_bytes c.args.name.now c.self.inside.names.keys c.remove.result true c.args.self.now c.remove.ensures.test (search rules) c.self.view_is

pub returns-clause-rest : goal.returns-clause-rest
returns-clause-rest c = removed_as string_bytes c.args.name.now c.self.inside.names.keys c.remove.new.self.keys c.args.self.now c.remove.ensures.keys c.self.invariant.names.ordered c.self.view_is
