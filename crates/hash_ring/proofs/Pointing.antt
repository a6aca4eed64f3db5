-- The stored points in their order, and the first of them from a number on.
use Rattle.std.proofs.Common.{◌≡◌, ℕ, ◌≢◌, ◌+◌, ◌<◌, ◌≤◌, ◌&&◌, inl, inr, Bool, true, false, not, List, [], ◌∷◌, ◌++◌, length, map, refl, sym, ◌∙◌, ap, subst, arith}
use Rattle.std.specs.Prelude.{slice_get, Option, Some, None, filter, MatchOption, IfSome, IsSome}
use denote.Ref.{Bor}
use Rattle.std.specs.Str.{bytes_eq}
use Rattle.std.specs.Fmt.{decimal}
use Rattle.std.specs.BTreeSet.{insert_key}
use Rattle.md5.specs.Md5.{md5}
use Rattle.std.specs.List.{Contains, All}
use Rattle.std.specs.List.Sorted.{IsStrictlySortedBy}
use Rattle.std.specs.String.{string_bytes}
use Rattle.std.specs.Ordering.{nat_cmp, ordering_then, is_gt, is_le}
use Rattle.std.specs.declared.cmp.Ordering.{Ordering}
use Rattle.std.specs.declared.cmp.Ordering.TheVariants.{Less, Equal, Greater}
use Rattle.std.specs.declared.ops.Bound.TheVariants.{Included, Unbounded}
use Rattle.std.specs.Cmp.{IsTotalOrder, then_total, on_total}
use Rattle.std.specs.Cmp.Lexicographic.{slice_cmp}
use Rattle.std.specs.BTreeMap.Range.{range_contains, IsLeBy}
use Rattle.std.proofs.lemmas.Bool.{cases_lt}
use Rattle.std.proofs.lemmas.Cmp.{nat_cmp_total, nat_list_cmp_total, ranked}
use Rattle.std.proofs.lemmas.Map.Lookups.{exact_bytes}
use Rattle.std.proofs.lemmas.List.Elements.{All-contains}
use Rattle.std.proofs.lemmas.Slice.Eq.{bytes_eq-Decides}
use Rattle.hash_ring.specs.declared.point.Point.{Point}
use Rattle.hash_ring.specs.Points.{Pair, IsUpTo, number_at, part}
use Rattle.hash_ring.specs.Choice.{IsLeast}
use Rattle.hash_ring.specs.Held.{pair_of, IsFirstFrom, GrewBy, GrewByAll, LostName, IsPointIn}
use Rattle.hash_ring.proofs.Members.{in_front_as, mapped, was_mapped, filtered, was_filtered, kept_by_insert, was_or_inserted, inserted}
use Rattle.hash_ring.proofs.Growing.{IsAt, in_more, in_last, in_each, grew_by_all_twice, grew_as}
use Rattle.hash_ring.proofs.Ordered.{first_is_least, none_passes}

-- the order in which points are stored
abbrev pub point_cmp : Point → Point → Ordering
point_cmp x y = ordering_then (nat_cmp x.number y.number) (slice_cmp nat_cmp (string_bytes x.name) (string_bytes y.name))

pub point_cmp_total : IsTotalOrder point_cmp
point_cmp_total = then_total (on_total (λ (p : Point). p.number) nat_cmp_total) (on_total (λ (p : Point). string_bytes p.name) nat_list_cmp_total)

-- points that tie are the same pair
pub tied_pairs : (x y : Point) → point_cmp x y ≡ Equal → pair_of y ≡ pair_of x
tied_pairs x y tie = by (nat_cmp x.number y.number) refl tie
  where
    by : (o : Ordering) → o ≡ nat_cmp x.number y.number → ordering_then o (slice_cmp nat_cmp (string_bytes x.name) (string_bytes y.name)) ≡ Equal → pair_of y ≡ pair_of x
    by Less is e = cc
    by Equal is e = let number : x.number ≡ y.number = ranked x.number y.number Equal is in let name : string_bytes x.name ≡ string_bytes y.name = exact_bytes _ _ e in cc
    by Greater is e = cc

-- a point that isn't behind another is up to it as a pair
pub pairs_up_to : (x y : Point) → is_gt (point_cmp x y) ≡ false → IsUpTo (pair_of x) (pair_of y)
pairs_up_to x y up = by (nat_cmp x.number y.number) refl up
  where
    by : (o : Ordering) → o ≡ nat_cmp x.number y.number → is_gt (ordering_then o (slice_cmp nat_cmp (string_bytes x.name) (string_bytes y.name))) ≡ false → IsUpTo (pair_of x) (pair_of y)
    by Less is e = inl (ranked x.number y.number Less is)
    by Equal is e = inr (ranked x.number y.number Equal is, e)
    by Greater is e = let bad : true ≡ false = e in cc

-- ---- the points from a number on

-- no text is before the one with no bytes
none_before : (name : List ℕ) → is_le (slice_cmp nat_cmp [] name) ≡ true
none_before [] = refl
none_before (byte ∷ bytes) = refl

-- the start from which points are looked for: a number, with no name
abbrev IsStart : Point → ℕ → Type 0
IsStart start number = (start.number ≡ number) × (string_bytes start.name ≡ [])

from_passes : (start point : Point) → string_bytes start.name ≡ [] → start.number ≤ point.number → is_le (point_cmp start point) ≡ true
from_passes start point bare from = by (nat_cmp start.number point.number) refl
  where
    by : (o : Ordering) → o ≡ nat_cmp start.number point.number → is_le (ordering_then o (slice_cmp nat_cmp (string_bytes start.name) (string_bytes point.name))) ≡ true
    by Less is = refl
    by Equal is = subst (λ b. is_le (slice_cmp nat_cmp b (string_bytes point.name)) ≡ true) (sym bare) (none_before (string_bytes point.name))
    by Greater is = let above : point.number < start.number = ranked start.number point.number Greater is in absurd (omega arith)

passes_from : (start point : Point) → is_le (point_cmp start point) ≡ true → start.number ≤ point.number
passes_from start point passes = by (nat_cmp start.number point.number) refl passes
  where
    by : (o : Ordering) → o ≡ nat_cmp start.number point.number → is_le (ordering_then o (slice_cmp nat_cmp (string_bytes start.name) (string_bytes point.name))) ≡ true → start.number ≤ point.number
    by Less is e = let below : start.number < point.number = ranked start.number point.number Less is in omega arith
    by Equal is e = let same : start.number ≡ point.number = ranked start.number point.number Equal is in omega arith
    by Greater is e = let bad : false ≡ true = e in cc

and_true : (b : Bool) → b ≡ true → (b && true) ≡ true
and_true b e = ap (λ c. c && true) e

true_and : (b : Bool) → (b && true) ≡ true → b ≡ true
true_and true e = refl
true_and false e = e

-- the points from a start on
abbrev pub from_start : Point → Point → Bool
from_start start point = range_contains point_cmp (Included start) Unbounded point

pub first_of_range : (number : ℕ) (start : Point) (keys : List Point) → IsStart start number → IsStrictlySortedBy point_cmp keys
    → (found : List Point) → found ≡ filter (from_start start) keys → (first : Point) (rest : List Point) → found ≡ first ∷ rest
    → IsFirstFrom (map pair_of keys) number (pair_of first)
first_of_range number start keys at ordered found between first rest steps = inl (record {
  is = record { is = mapped pair_of keys first was.0; from = from };
  least = λ other kind. let q = was_mapped pair_of keys other kind.is in
      let number_is : q.0.number ≡ other.number = ap (λ p. p.number) q.2 in
      let enough : start.number ≤ q.0.number = (let low = kind.from in let same = at.0 in omega arith) in
      subst (λ z. IsUpTo (pair_of first) z) q.2
      (pairs_up_to first q.0 (first_is_least point_cmp point_cmp_total (from_start start) keys ordered first rest is q.0 q.1
      (and_true _ (from_passes start q.0 at.1 enough))));
})
  where
    is : filter (from_start start) keys ≡ first ∷ rest
    is = sym between ∙ steps

    was : Contains keys first × (from_start start first ≡ true)
    was = was_filtered (from_start start) keys first (subst (λ zs. Contains zs first) (sym is) (in_front_as first rest first refl))

    from : number ≤ first.number
    from = subst (λ n. n ≤ first.number) at.0 (passes_from start first (true_and _ was.1))

-- ---- all points

head_is_there : (keys : List Point) (first : Point) → slice_get keys 0 ≡ Some first → Contains keys first
head_is_there [] first is = absurd cc
head_is_there (key ∷ keys) first is = in_front_as key keys first cc

least_of_all : (keys : List Point) (first : Point) → slice_get keys 0 ≡ Some first → All (IsLeBy point_cmp first) keys → IsLeast (Contains (map pair_of keys)) (pair_of first)
least_of_all keys first is all = record {
  is = mapped pair_of keys first (head_is_there keys first is);
  least = λ other there. let q = was_mapped pair_of keys other there in
      subst (λ z. IsUpTo (pair_of first) z) q.2 (pairs_up_to first q.0 (All-contains (IsLeBy point_cmp first) keys q.0 all q.1));
}

pub first_of_all : (number : ℕ) (start : Point) (keys : List Point) → IsStart start number
    → (found : List Point) → found ≡ filter (from_start start) keys → found ≡ []
    → (first : Point) → slice_get keys 0 ≡ Some first → All (IsLeBy point_cmp first) keys
    → IsFirstFrom (map pair_of keys) number (pair_of first)
first_of_all number start keys at found between none first is all = inr (below, least_of_all keys first is all)
  where
    below : (other : Pair) → Contains (map pair_of keys) other → other.number < number
    below other there = let q = was_mapped pair_of keys other there in
        let fails : from_start start q.0 ≡ false = none_passes (from_start start) keys (sym between ∙ none) q.0 q.1 in
        let number_is : q.0.number ≡ other.number = ap (λ p. p.number) q.2 in
        elim (cases_lt other.number number) [
          | inl less ↦ less
          | inr from ↦ let enough : start.number ≤ q.0.number = (let same = at.0 in omega arith) in
              let bad : true ≡ false = sym (and_true _ (from_passes start q.0 at.1 enough)) ∙ fails in cc
        ]

-- what the set's own first point is, where no point is found from the start on
pub first_or_none : (number : ℕ) (start : Point) (keys : List Point) → IsStart start number
    → (found : List Point) → found ≡ filter (from_start start) keys → found ≡ []
    → (first : Option (Bor Point)) → (0 < length keys → IsSome first) → IfSome first (λ k. slice_get keys 0 ≡ Some k.now) → IfSome first (λ k. All (IsLeBy point_cmp k.now) keys)
    → MatchOption first (map pair_of keys ≡ []) (λ point. IsFirstFrom (map pair_of keys) number (pair_of point.now))
first_or_none number start [] at found between none None some is all = refl
first_or_none number start (key ∷ keys) at found between none None some is all = let bad : false ≡ true = some (omega arith) in cc
first_or_none number start keys at found between none (Some first) some is all = first_of_all number start keys at found between none first.now is all

-- ---- points put in and taken out

pub inserted_pairs : (point : Point) (old new : List Point) → new ≡ insert_key point_cmp old point → GrewByAll (IsAt (pair_of point)) (map pair_of old) (map pair_of new)
inserted_pairs point old new is = record {
  grew = record {
    stayed = λ pair there. let q = was_mapped pair_of old pair there in
        subst (λ z. Contains (map pair_of new) z) q.2 (mapped pair_of new q.0 (subst (λ zs. Contains zs q.0) (sym is) (kept_by_insert point_cmp point old q.0 q.1)));
    other = λ pair there. let q = was_mapped pair_of new pair there in
        elim (was_or_inserted point_cmp point old q.0 (subst (λ zs. Contains zs q.0) is q.1)) [
          | inl before ↦ inl (subst (λ z. Contains (map pair_of old) z) q.2 (mapped pair_of old q.0 before))
          | inr same ↦ inr (ap pair_of same ∙ q.2)
        ];
  };
  came = λ pair same. subst (λ z. Contains (map pair_of new) z) same
      (subst (λ zs. Contains (map pair_of zs) (pair_of point)) (sym is) (inserted point_cmp point pair_of (tied_pairs point) old));
}

-- a part of the MD5 of bytes, from their digest
pub part_is : (digest bytes : List ℕ) (quarter number : ℕ) → number ≡ number_at digest quarter → digest ≡ md5 bytes → number ≡ part bytes quarter
unfolding part
part_is digest bytes quarter number is of = is ∙ ap (λ d. number_at d quarter) of

-- one more quarter of a round
pub round_more : (name : List ℕ) (round quarter : ℕ) (digest : List ℕ) (point : Point) (start : List Pair) (old new : List Point)
    → point.number ≡ number_at digest quarter → digest ≡ md5 (name ++ decimal round) → string_bytes point.name ≡ name
    → new ≡ insert_key point_cmp old point → GrewByAll (IsPointIn name round quarter) start (map pair_of old)
    → GrewByAll (IsPointIn name round (quarter + 1)) start (map pair_of new)
round_more name round quarter digest point start old new number of named is grew =
    grew_by_all_twice (IsPointIn name round quarter) (IsAt (record { number = point.number; name = name })) (IsPointIn name round (quarter + 1)) start (map pair_of old) (map pair_of new)
    (in_more name round quarter (quarter + 1) (omega arith)) (in_last name round quarter point.number part_of) (in_each name round quarter point.number part_of) grew
    (subst (λ b. GrewByAll (IsAt (record { number = point.number; name = b })) (map pair_of old) (map pair_of new)) named (inserted_pairs point old new is))
  where
    part_of : point.number ≡ part (name ++ decimal round) quarter
    part_of = part_is digest (name ++ decimal round) quarter point.number number of

-- some quarters of a round came before it was cut off
pub round_partly : (name : List ℕ) (round quarter : ℕ) (start : List Pair) (old new : List Point) → quarter ≤ 4 → new ≡ old
    → GrewByAll (IsPointIn name round quarter) start (map pair_of old) → GrewBy (IsPointIn name round 4) start (map pair_of new)
round_partly name round quarter start old new few same grew = subst (λ zs. GrewBy (IsPointIn name round 4) start (map pair_of zs)) (sym same)
    (grew_as (IsPointIn name round quarter) (IsPointIn name round 4) start (map pair_of old) (in_more name round quarter 4 few) grew.grew)

pub lost_by_filter : (name : List ℕ) (old new : List Point) → new ≡ filter (λ p. not (bytes_eq (string_bytes p.name) name)) old → LostName name (map pair_of old) (map pair_of new)
lost_by_filter name old new is = record {
  stayed = λ pair there other. let q = was_mapped pair_of old pair there in
      subst (λ z. Contains (map pair_of new) z) q.2 (mapped pair_of new q.0 (subst (λ zs. Contains zs q.0) (sym is)
      (filtered keep old q.0 q.1 (other_name (string_bytes q.0.name) (λ same. other (sym (ap (λ p. p.name) q.2) ∙ same)) (bytes_eq (string_bytes q.0.name) name) refl))));
  was = λ pair there. let q = was_mapped pair_of new pair there in
      subst (λ z. Contains (map pair_of old) z) q.2 (mapped pair_of old q.0 (was_filtered keep old q.0 (subst (λ zs. Contains zs q.0) is q.1)).0);
  went = λ pair there same. let q = was_mapped pair_of new pair there in
      let kept : not (bytes_eq (string_bytes q.0.name) name) ≡ true = (was_filtered keep old q.0 (subst (λ zs. Contains zs q.0) is q.1)).1 in
      let tie : bytes_eq (string_bytes q.0.name) name ≡ true = (bytes_eq-Decides (string_bytes q.0.name) name).1 (ap (λ p. p.name) q.2 ∙ same) in
      let bad : not true ≡ true = ap not (sym tie) ∙ kept in cc;
}
  where
    keep : Point → Bool
    keep = λ p. not (bytes_eq (string_bytes p.name) name)

    other_name : (text : List ℕ) → text ≢ name → (b : Bool) → bytes_eq text name ≡ b → not b ≡ true
    other_name text differs true tie = absurd (differs ((bytes_eq-Decides text name).0 tie))
    other_name text differs false tie = refl
