use Rattle.std.proofs.Common.{◌≡◌, ◌<◌, length, true, refl, sym, subst, arith}
use Rattle.std.specs.String.{string_bytes}
use Rattle.std.specs.List.Sorted.{IsStrictlySortedBy}
use Rattle.std.specs.Ordering.{nat_cmp}
use Rattle.std.specs.Cmp.Lexicographic.{slice_cmp}
use Rattle.hash_ring.specs.Names.{IsName, IsBadAt, AreNames, with_name}
use Rattle.hash_ring.specs.Held.{HoldsPointsOf, spelled, pairs}
use Rattle.hash_ring.proofs.Ordered.{had_as, hadnt_as, counted_as}
use Rattle.hash_ring.proofs.Holding.{apart, names_with, points_with, same_points}
use Rattle.hash_ring.proofs.ring.Ring.add.Goals as goal

pub returns-in-Some-clause-refused : goal.returns-in-Some-clause-refused
returns-in-Some-clause-refused c = subst (λ bytes. IsBadAt bytes c.in-Some.at) c.as_bytes.ensures.value c.in-Some.ensures

pub returns-then-contains-clause-refused : goal.returns-then-contains-clause-refused
returns-then-contains-clause-refused c = (
  subst IsName c.as_bytes.ensures.value c.in_default.ensures,
  (had_as string_bytes c.args.name.now c.self.inside.names.keys c.contains.result true c.args.self.now c.contains.ensures (sym c.if-contains.true) c.self.view_is).0 refl,
)

pub returns-then-len-ge-RING_LIMIT-clause-refused : goal.returns-then-len-ge-RING_LIMIT-clause-refused
returns-then-len-ge-RING_LIMIT-clause-refused c = (
  record {
    is_name = subst IsName c.as_bytes.ensures.value c.in_default.ensures;
    absent = hadnt_as string_bytes c.args.name.now c.self.inside.names.keys c.contains.result c.args.self.now c.contains.ensures c.self.view_is c.if-contains.false;
  },
  (let count = counted_as c.self.inside.names.keys c.args.self.now c.len.result c.len.ensures.len c.self.view_is in
      let same = counted_as c.self.inside.names.keys (spelled c.self.inside.names) c.len.result c.len.ensures.len refl in
      let few = c.self.invariant.names.few in omega arith),
)

pub put_name-requires : goal.put_name-requires
put_name-requires c = apart c.args.name.now (spelled c.self.inside.names) (pairs c.self.inside.points) c.self.invariant.points
    (hadnt_as string_bytes c.args.name.now c.self.inside.names.keys c.contains.result (spelled c.self.inside.names) c.contains.ensures refl c.if-contains.false)

pub invariant_of-self : goal.invariant_of-self
invariant_of-self c = record {
  names = subst AreNames (sym c.in_default-put_name.ensures.no_name) c.self.invariant.names;
  points = subst (λ zs. HoldsPointsOf zs (pairs c.put_name.new.points)) (sym c.in_default-put_name.ensures.no_name)
      (same_points (spelled c.self.inside.names) (pairs c.self.inside.points) (pairs c.put_name.new.points) c.self.invariant.points c.in_default-put_name.ensures.no_points);
}

pub returns-in_default-put_name-clause-refused : goal.returns-in_default-put_name-clause-refused
returns-in_default-put_name-clause-refused c = record {
  new = record {
    is_name = subst IsName c.as_bytes.ensures.value c.in_default.ensures;
    absent = hadnt_as string_bytes c.args.name.now c.self.inside.names.keys c.contains.result c.args.self.now c.contains.ensures c.self.view_is c.if-contains.false;
  };
  room = let count = counted_as c.self.inside.names.keys c.args.self.now c.len.result c.len.ensures.len c.self.view_is in omega arith;
}

pub invariant_of-self-2 : goal.invariant_of-self-2
invariant_of-self-2 c = let put : spelled c.put_name.new.names ≡ with_name c.args.name.now (spelled c.self.inside.names) = c.in-Ok.ensures.name in
    let is_name : IsName c.args.name.now = subst IsName c.as_bytes.ensures.value c.in_default.ensures in
    let room : length (spelled c.self.inside.names) < 1024 = (let count = counted_as c.self.inside.names.keys (spelled c.self.inside.names) c.len.result c.len.ensures.len refl in omega arith) in record {
      names = subst AreNames (sym put) (names_with c.args.name.now (spelled c.self.inside.names) c.self.invariant.names is_name room
          (subst (IsStrictlySortedBy (slice_cmp nat_cmp)) put c.in-Ok.ensures.ordered));
      points = subst (λ zs. HoldsPointsOf zs (pairs c.put_name.new.points)) (sym put)
          (points_with c.args.name.now (spelled c.self.inside.names) (pairs c.self.inside.points) (pairs c.put_name.new.points) c.self.invariant.points c.in-Ok.ensures.points);
    }

pub returns-clause-room : goal.returns-clause-room
returns-clause-room c = record {
  new = record {
    is_name = subst IsName c.as_bytes.ensures.value c.in_default.ensures;
    absent = hadnt_as string_bytes c.args.name.now c.self.inside.names.keys c.contains.result c.args.self.now c.contains.ensures c.self.view_is c.if-contains.false;
  };
  room = let count = counted_as c.self.inside.names.keys c.args.self.now c.len.result c.len.ensures.len c.self.view_is in omega arith;
}
