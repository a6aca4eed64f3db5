-- How the stored points grow by those of a name, and lose them again.
use Rattle.std.proofs.Common.{◌≡◌, ℕ, ◌+◌, ◌<◌, ◌≤◌, ◌⊎◌, inl, inr, List, ◌++◌, sym, ◌∙◌, ap, subst, arith}
use Rattle.std.specs.Prelude.{Result, Ok, Err, OnErr}
use Rattle.std.specs.Fmt.{decimal}
use Rattle.std.proofs.lemmas.Bool.{cases_lt}
use Rattle.hash_ring.specs.Points.{Pair, IsPointOf, QUARTERS, part}
use Rattle.hash_ring.specs.Held.{GrewBy, GrewByAll, LostName, HaveSamePairs, IsApart, IsPointIn}

-- the pair is a point that one of the first rounds gives
pub record IsPointBelow (name : List ℕ) (rounds : ℕ) (pair : Pair) : Type 0 where
  pub round : ℕ
  pub in_rounds : round < rounds
  pub point : IsPointIn name round QUARTERS pair

-- one kind came after another
pub grew_twice : (First Then Kind : Pair → Type 0) (old middle new : List Pair)
    → ((pair : Pair) → First pair → Kind pair) → ((pair : Pair) → Then pair → Kind pair)
    → GrewBy First old middle → GrewBy Then middle new → GrewBy Kind old new
grew_twice First Then Kind old middle new one two a b = record {
  stayed = λ pair there. b.stayed pair (a.stayed pair there);
  other = λ pair there. elim (b.other pair there) [
    | inl before ↦ elim (a.other pair before) [ inl first ↦ inl first | inr kind ↦ inr (one pair kind) ]
    | inr kind ↦ inr (two pair kind)
  ];
}

pub grew_by_all_twice : (First Then Kind : Pair → Type 0) (old middle new : List Pair)
    → ((pair : Pair) → First pair → Kind pair) → ((pair : Pair) → Then pair → Kind pair)
    → ((pair : Pair) → Kind pair → First pair ⊎ Then pair)
    → GrewByAll First old middle → GrewByAll Then middle new → GrewByAll Kind old new
grew_by_all_twice First Then Kind old middle new one two each a b = record {
  grew = grew_twice First Then Kind old middle new one two a.grew b.grew;
  came = λ pair kind. elim (each pair kind) [
    | inl first ↦ b.grew.stayed pair (a.came pair first)
    | inr then ↦ b.came pair then
  ];
}

-- the same pairs, of a kind that is said otherwise
pub grew_as : (Kind Other : Pair → Type 0) (old new : List Pair) → ((pair : Pair) → Kind pair → Other pair) → GrewBy Kind old new → GrewBy Other old new
grew_as Kind Other old new as_other g = record {
  stayed = g.stayed;
  other = λ pair there. elim (g.other pair there) [ inl before ↦ inl before | inr kind ↦ inr (as_other pair kind) ];
}

pub grew_by_all_as : (Kind Other : Pair → Type 0) (old new : List Pair) → ((pair : Pair) → Kind pair → Other pair) → ((pair : Pair) → Other pair → Kind pair) → GrewByAll Kind old new → GrewByAll Other old new
grew_by_all_as Kind Other old new there back g = record {
  grew = grew_as Kind Other old new there g.grew;
  came = λ pair kind. g.came pair (back pair kind);
}

-- ---- the quarters of one round

-- the pair that one quarter gives
abbrev pub IsAt : Pair → Pair → Type 0
IsAt one pair = one ≡ pair

pub in_more : (name : List ℕ) (round quarters more : ℕ) → quarters ≤ more → (pair : Pair) → IsPointIn name round quarters pair → IsPointIn name round more pair
in_more name round quarters more le pair point = record {
  named = point.named;
  quarter = point.quarter;
  in_quarters = (let below = point.in_quarters in omega arith);
  is = point.is;
}

pub in_last : (name : List ℕ) (round quarter number : ℕ) → number ≡ part (name ++ decimal round) quarter → (pair : Pair) → IsAt (record { number = number; name = name }) pair → IsPointIn name round (quarter + 1) pair
in_last name round quarter number is pair same = record {
  named = sym (ap (λ p. p.name) same);
  quarter = quarter;
  in_quarters = omega arith;
  is = sym (ap (λ p. p.number) same) ∙ is;
}

pub in_each : (name : List ℕ) (round quarter number : ℕ) → number ≡ part (name ++ decimal round) quarter → (pair : Pair) → IsPointIn name round (quarter + 1) pair → IsPointIn name round quarter pair ⊎ IsAt (record { number = number; name = name }) pair
in_each name round quarter number is pair point = elim (cases_lt point.quarter quarter) [
  | inl below ↦ inl (record { named = point.named; quarter = point.quarter; in_quarters = below; is = point.is })
  | inr last ↦ inr (pair_is (let e : point.quarter ≡ quarter = (let below = point.in_quarters in omega arith) in is ∙ ap (λ q. part (name ++ decimal round) q) (sym e) ∙ sym point.is) (sym point.named))
]
  where
    pair_is : number ≡ pair.number → name ≡ pair.name → record { number = number; name = name } ≡ pair
    pair_is e f = (ap (λ n. record { number = n; name = name }) e) ∙ (ap (λ t. record { number = pair.number; name = t }) f)

-- ---- the rounds

pub below_more : (name : List ℕ) (rounds more : ℕ) → rounds ≤ more → (pair : Pair) → IsPointBelow name rounds pair → IsPointBelow name more pair
below_more name rounds more le pair point = record { round = point.round; in_rounds = (let below = point.in_rounds in omega arith); point = point.point }

pub below_last : (name : List ℕ) (round : ℕ) (pair : Pair) → IsPointIn name round 4 pair → IsPointBelow name (round + 1) pair
below_last name round pair point = record { round = round; in_rounds = omega arith; point = point }

pub below_each : (name : List ℕ) (round : ℕ) (pair : Pair) → IsPointBelow name (round + 1) pair → IsPointBelow name round pair ⊎ IsPointIn name round 4 pair
below_each name round pair point = elim (cases_lt point.round round) [
  | inl below ↦ inl (record { round = point.round; in_rounds = below; point = point.point })
  | inr last ↦ inr (let e : point.round ≡ round = (let below = point.in_rounds in omega arith) in subst (λ r. IsPointIn name r 4 pair) e point.point)
]

pub points_of_below : (name : List ℕ) (pair : Pair) → IsPointBelow name 40 pair → IsPointOf name pair
points_of_below name pair point = (
  point.point.named,
  record {
    round = point.round;
    quarter = point.point.quarter;
    in_rounds = point.in_rounds;
    in_quarters = point.point.in_quarters;
    is = point.point.is;
  },
)

pub below_of_points : (name : List ℕ) (pair : Pair) → IsPointOf name pair → IsPointBelow name 40 pair
below_of_points name pair point = record {
  round = point.1.round;
  in_rounds = point.1.in_rounds;
  point = record { named = point.0; quarter = point.1.quarter; in_quarters = point.1.in_quarters; is = point.1.is };
}

-- some rounds came before one was cut off
pub rounds_partly : (name : List ℕ) (round : ℕ) (start middle new : List Pair) → round < 40
    → GrewByAll (IsPointBelow name round) start middle → GrewBy (IsPointIn name round 4) middle new → GrewBy (IsPointOf name) start new
rounds_partly name round start middle new below a b = grew_as (IsPointBelow name 40) (IsPointOf name) start new (points_of_below name)
    (grew_twice (IsPointBelow name round) (IsPointIn name round 4) (IsPointBelow name 40) start middle new
    (below_more name round 40 (omega arith))
    (λ pair point. below_more name (round + 1) 40 (omega arith) pair (below_last name round pair point)) a.grew b)

-- one more round came
pub rounds_more : (name : List ℕ) (round : ℕ) (start middle new : List Pair)
    → GrewByAll (IsPointBelow name round) start middle → GrewByAll (IsPointIn name round 4) middle new → GrewByAll (IsPointBelow name (round + 1)) start new
rounds_more name round start middle new a b = grew_by_all_twice (IsPointBelow name round) (IsPointIn name round 4) (IsPointBelow name (round + 1)) start middle new
    (below_more name round (round + 1) (omega arith)) (below_last name round) (below_each name round) a b

-- all rounds came
pub rounds_all : (name : List ℕ) (round : ℕ) (start new : List Pair) → round ≡ 40
    → GrewByAll (IsPointBelow name round) start new → GrewByAll (IsPointOf name) start new
rounds_all name round start new all grew = grew_by_all_as (IsPointBelow name 40) (IsPointOf name) start new (points_of_below name) (below_of_points name)
    (subst (λ r. GrewByAll (IsPointBelow name r) start new) all grew)

-- ---- taking out

-- what a refused name left is taken out again
pub undone : (name : List ℕ) (old middle new : List Pair) → IsApart name old → GrewBy (IsPointOf name) old middle → LostName name middle new → HaveSamePairs old new
undone name old middle new apart grew lost = record {
  stayed = λ pair there. lost.stayed pair (grew.stayed pair there) (apart pair there);
  was = λ pair there. elim (grew.other pair (lost.was pair there)) [
    | inl before ↦ before
    | inr point ↦ absurd (lost.went pair there point.0)
  ];
}

-- what holds holds after an error too
pub on_error : {T E P : Type 0} (r : Result T E) → P → OnErr r P
on_error (Ok x) p = tt
on_error (Err e) p = p
