-- That a ring holds the points of its names, through each change, and what its first points choose.
use Rattle.std.proofs.Common.{◌≡◌, ℕ, ◌<◌, inl, inr, not, List, [], ◌∷◌, ◌++◌, length, refl, sym, subst, arith, lit<, lit≤}
use Rattle.std.specs.List.{Contains}
use Rattle.std.specs.List.Sorted.{IsStrictlySortedBy}
use Rattle.std.specs.Ordering.{nat_cmp}
use Rattle.std.specs.Fmt.{decimal}
use Rattle.std.specs.Cmp.Lexicographic.{slice_cmp}
use Rattle.std.specs.Str.{bytes_eq}
use Rattle.std.proofs.lemmas.List.Elements.{All-nil, All-filter}
use Rattle.std.proofs.lemmas.List.Kept.{IsStrictlySortedBy-filter}
use Rattle.std.proofs.lemmas.Map.Views.{All-insert_key}
use Rattle.hash_ring.specs.Names.{IsName, AreNames, with_name, without, MOST}
use Rattle.hash_ring.specs.Points.{Pair, IsPoint, IsPointOf, IsNumberOf, part}
use Rattle.hash_ring.specs.Choice.{IsReached, IsChosen}
use Rattle.hash_ring.specs.Held.{HoldsPointsOf, GrewByAll, LostName, HaveSamePairs, IsApart, IsFirstFrom}
use Rattle.hash_ring.proofs.Members.{in_front, nowhere, was_or_inserted, kept_by_insert, name_inserted}
use Rattle.hash_ring.proofs.Ordered.{length-insert_key, length-filter-le}
use Rattle.hash_ring.proofs.Choosing.{more_points, stays_without, was_without}

-- ---- the names

pub no_names : AreNames []
unfolding IsStrictlySortedBy
no_names = record { ordered = tt; each = All-nil IsName; few = lit≤ tt }

pub names_with : (name : List ℕ) (names : List (List ℕ)) → AreNames names → IsName name → length names < MOST
    → IsStrictlySortedBy (slice_cmp nat_cmp) (with_name name names) → AreNames (with_name name names)
names_with name names are is room ordered = record {
  ordered = ordered;
  each = All-insert_key (slice_cmp nat_cmp) name IsName names are.each is;
  few = let longer = length-insert_key (slice_cmp nat_cmp) name names in omega arith;
}

pub names_without : (name : List ℕ) (names : List (List ℕ)) → AreNames names → AreNames (without name names)
names_without name names are = record {
  ordered = IsStrictlySortedBy-filter (slice_cmp nat_cmp) (λ other. not (bytes_eq other name)) names are.ordered;
  each = All-filter (λ other. not (bytes_eq other name)) IsName names are.each;
  few = let shorter = length-filter-le (λ other. not (bytes_eq other name)) names in let few = are.few in omega arith;
}

-- ---- the points

pub no_points : HoldsPointsOf [] []
no_points = record {
  all = λ pair point. absurd (nowhere pair.name point.named);
  only = λ pair there. absurd (nowhere pair there);
}

pub points_with : (name : List ℕ) (names : List (List ℕ)) (old new : List Pair) → HoldsPointsOf names old
    → GrewByAll (IsPointOf name) old new → HoldsPointsOf (with_name name names) new
points_with name names old new holds grew = record {
  all = λ pair point. elim (was_or_inserted (slice_cmp nat_cmp) name names pair.name point.named) [
    | inl there ↦ grew.grew.stayed pair (holds.all pair (record { named = there; number = point.number }))
    | inr same ↦ grew.came pair (sym same, subst (λ z. IsNumberOf z pair.number) (sym same) point.number)
  ];
  only = λ pair there. elim (grew.grew.other pair there) [
    | inl before ↦ more_points names (with_name name names) (λ other has. kept_by_insert (slice_cmp nat_cmp) name names other has) pair (holds.only pair before)
    | inr came ↦ record {
      named = subst (λ z. Contains (with_name name names) z) (sym came.0) (name_inserted name names);
      number = subst (λ z. IsNumberOf z pair.number) (sym came.0) came.1;
    }
  ];
}

pub points_without : (name : List ℕ) (names : List (List ℕ)) (old new : List Pair) → HoldsPointsOf names old
    → LostName name old new → HoldsPointsOf (without name names) new
points_without name names old new holds lost = record {
  all = λ pair point. let was = was_without names name pair.name point.named in
      lost.stayed pair (holds.all pair (record { named = was.0; number = point.number })) was.1;
  only = λ pair there. let point = holds.only pair (lost.was pair there) in
      record { named = stays_without names name pair.name point.named (lost.went pair there); number = point.number };
}

pub same_points : (names : List (List ℕ)) (old new : List Pair) → HoldsPointsOf names old → HaveSamePairs old new → HoldsPointsOf names new
same_points names old new holds same = record {
  all = λ pair point. same.stayed pair (holds.all pair point);
  only = λ pair there. holds.only pair (same.was pair there);
}

-- a name that the ring hasn't has no point there
pub apart : (name : List ℕ) (names : List (List ℕ)) (held : List Pair) → HoldsPointsOf names held → (Contains names name → ⊥) → IsApart name held
apart name names held holds absent pair there same = absent (subst (λ z. Contains names z) same (holds.only pair there).named)

-- ---- the choice

-- each name has points, so a ring with none has no name
pub no_point_no_name : (names : List (List ℕ)) (held : List Pair) → HoldsPointsOf names held → held ≡ [] → names ≡ []
no_point_no_name [] held holds none = refl
no_point_no_name (name ∷ names) held holds none = absurd (nowhere first (subst (λ zs. Contains zs first) none (holds.all first point)))
  where
    first : Pair
    first = record { number = part (name ++ decimal 0) 0; name = name }

    point : IsPoint (name ∷ names) first
    point = record {
      named = in_front name names;
      number = record { round = 0; quarter = 0; in_rounds = lit< tt; in_quarters = lit< tt; is = refl };
    }

-- the first stored point from a number on is the point that the number comes to
pub reached : (names : List (List ℕ)) (held : List Pair) (number : ℕ) (pair : Pair) → HoldsPointsOf names held → IsFirstFrom held number pair → IsReached names number pair
reached names held number pair holds first = elim first [
  | inl from ↦ inl (record {
    is = record { point = holds.only pair from.is.is; from = from.is.from };
    least = λ other kind. from.least other (record { is = holds.all other kind.point; from = kind.from });
  })
  | inr past ↦ inr (
    (λ other point. past.0 other (holds.all other point)),
    record {
      is = holds.only pair past.1.is;
      least = λ other point. past.1.least other (holds.all other point);
    },
  )
]

pub chosen_by : (names : List (List ℕ)) (held : List Pair) (key : List ℕ) (pair : Pair) → HoldsPointsOf names held → IsFirstFrom held (part key 0) pair → IsChosen names key pair.name
chosen_by names held key pair holds first = record { number = pair.number; reached = reached names held (part key 0) pair holds first }

pub first_is_held : (held : List Pair) (number : ℕ) (pair : Pair) → IsFirstFrom held number pair → Contains held pair
first_is_held held number pair first = elim first [ inl from ↦ from.is.is | inr past ↦ past.1.is ]

-- a ring with a point has a name
pub some_point_some_name : (names : List (List ℕ)) (held : List Pair) (pair : Pair) → HoldsPointsOf names held → Contains held pair → names ≡ [] → ⊥
some_point_some_name names held pair holds there none = nowhere pair.name (subst (λ zs. Contains zs pair.name) none (holds.only pair there).named)
