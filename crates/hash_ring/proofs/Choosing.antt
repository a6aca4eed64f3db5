-- The order of points, and what follows of a choice.
use Rattle.std.proofs.Common.{◌≡◌, ◌≢◌, ℕ, ◌⊎◌, inl, inr, Bool, true, false, not, List, refl, sym, ◌∙◌, ap, arith}
use Rattle.std.specs.List.{Contains}
use Rattle.std.specs.Str.{bytes_eq}
use Rattle.std.specs.Ordering.{nat_cmp, is_gt, ordering_reverse}
use Rattle.std.specs.declared.cmp.Ordering.{Ordering}
use Rattle.std.specs.declared.cmp.Ordering.TheVariants.{Less, Equal, Greater}
use Rattle.std.specs.Cmp.Lexicographic.{slice_cmp}
use Rattle.std.proofs.lemmas.Cmp.{nat_list_cmp_total}
use Rattle.std.proofs.lemmas.Map.Lookups.{exact_bytes}
use Rattle.std.proofs.lemmas.Slice.Eq.{bytes_eq-Decides}
use Rattle.hash_ring.specs.Names.{with_name, without}
use Rattle.hash_ring.specs.Points.{Pair, IsPoint, IsUpTo, part}
use Rattle.hash_ring.specs.Choice.{IsLeast, IsPointFrom, IsReached, IsChosen, HaveSameNames}
use Rattle.hash_ring.proofs.Members.{filtered, was_filtered, was_or_inserted, kept_by_insert}

-- two texts of which neither is behind the other are the same
same_text : (a b : List ℕ) → is_gt (slice_cmp nat_cmp a b) ≡ false → is_gt (slice_cmp nat_cmp b a) ≡ false → a ≡ b
same_text a b up down = by (slice_cmp nat_cmp a b) refl up
  where
    back : (o : Ordering) → slice_cmp nat_cmp a b ≡ o → slice_cmp nat_cmp b a ≡ ordering_reverse o
    back o is = nat_list_cmp_total.antisymm b a ∙ ap ordering_reverse is

    by : (o : Ordering) → slice_cmp nat_cmp a b ≡ o → is_gt o ≡ false → a ≡ b
    by Less is h = let bad : true ≡ false = sym (ap is_gt (back Less is)) ∙ down in cc
    by Equal is h = exact_bytes a b is
    by Greater is h = cc

-- two pairs of which each is up to the other have the same name
same_name : (one other : Pair) → IsUpTo one other → IsUpTo other one → one.name ≡ other.name
same_name one other up down = elim up [
  | inl less ↦ elim down [ inl more ↦ absurd (omega arith) | inr tie ↦ absurd (let e = tie.0 in omega arith) ]
  | inr tie ↦ elim down [ inl more ↦ absurd (let e = tie.0 in omega arith) | inr back ↦ same_text one.name other.name tie.1 back.1 ]
]

-- two least pairs of a kind have the same name
one_least : (Kind : Pair → Type 0) (one other : Pair) → IsLeast Kind one → IsLeast Kind other → one.name ≡ other.name
one_least Kind one other a b = same_name one other (a.least other b.is) (b.least one a.is)

one_reached : (names : List (List ℕ)) (number : ℕ) (one other : Pair) → IsReached names number one → IsReached names number other → one.name ≡ other.name
one_reached names number one other a b = elim a [
  | inl from ↦ elim b [
    | inl too ↦ one_least (IsPointFrom names number) one other from too
    | inr past ↦ absurd (let below = past.0 one from.is.point in let above = from.is.from in omega arith)
  ]
  | inr past ↦ elim b [
    | inl from ↦ absurd (let below = past.0 other from.is.point in let above = from.is.from in omega arith)
    | inr too ↦ one_least (IsPoint names) one other past.1 too.1
  ]
]

-- a key gets one name at most
pub chosen_once : (names : List (List ℕ)) (key one other : List ℕ) → IsChosen names key one → IsChosen names key other → one ≡ other
chosen_once names key one other a b = one_reached names (part key 0) (record { number = a.number; name = one }) (record { number = b.number; name = other }) a.reached b.reached

-- a point among fewer names is one among more
pub more_points : (fewer more : List (List ℕ)) → ((name : List ℕ) → Contains fewer name → Contains more name) → (pair : Pair) → IsPoint fewer pair → IsPoint more pair
more_points fewer more sub pair point = record { named = sub pair.name point.named; number = point.number }

-- what is chosen among more names is chosen among fewer that have it
pub chosen_among_fewer : (fewer more : List (List ℕ)) (key name : List ℕ) → ((other : List ℕ) → Contains fewer other → Contains more other) → Contains fewer name → IsChosen more key name → IsChosen fewer key name
chosen_among_fewer fewer more key name sub has chosen = record { number = chosen.number; reached = reached }
  where
    at : Pair
    at = record { number = chosen.number; name = name }

    reached : IsReached fewer (part key 0) (record { number = chosen.number; name = name })
    reached = elim chosen.reached [
      | inl from ↦ inl (record {
        is = record { point = record { named = has; number = from.is.point.number }; from = from.is.from };
        least = λ other kind. from.least other (record { point = more_points fewer more sub other kind.point; from = kind.from });
      })
      | inr past ↦ inr (
        (λ other point. past.0 other (more_points fewer more sub other point)),
        record {
          is = record { named = has; number = past.1.is.number };
          least = λ other point. past.1.least other (more_points fewer more sub other point);
        },
      )
    ]

-- the chosen name is one of the names
pub chosen_is_there : (names : List (List ℕ)) (key name : List ℕ) → IsChosen names key name → Contains names name
chosen_is_there names key name chosen = elim chosen.reached [
  | inl from ↦ from.is.point.named
  | inr past ↦ past.1.is.named
]

pub chosen_in_any_order : (names others : List (List ℕ)) (key chosen : List ℕ) → HaveSameNames names others → IsChosen names key chosen → IsChosen others key chosen
chosen_in_any_order names others key chosen same is = chosen_among_fewer others names key chosen same.1 (same.0 chosen (chosen_is_there names key chosen is)) is

-- a name that isn't this one stays when this one is taken out
pub stays_without : (names : List (List ℕ)) (gone name : List ℕ) → Contains names name → name ≢ gone → Contains (without gone names) name
stays_without names gone name has apart = filtered (λ other. not (bytes_eq other gone)) names name has (by (bytes_eq name gone) refl)
  where
    by : (b : Bool) → bytes_eq name gone ≡ b → not b ≡ true
    by true is = absurd (apart ((bytes_eq-Decides name gone).0 is))
    by false is = refl

-- what is left without a name was there, and isn't that name
pub was_without : (names : List (List ℕ)) (gone name : List ℕ) → Contains (without gone names) name → Contains names name × (name ≢ gone)
was_without names gone name has = let r = was_filtered (λ other. not (bytes_eq other gone)) names name has in
    (r.0, λ same. let bad : bytes_eq name gone ≡ true = (bytes_eq-Decides name gone).1 same in let worse : not true ≡ true = ap not (sym bad) ∙ r.1 in cc)

pub chosen_after_taking : (names : List (List ℕ)) (gone key chosen : List ℕ) → IsChosen names key chosen → chosen ≢ gone → IsChosen (without gone names) key chosen
chosen_after_taking names gone key chosen is apart = chosen_among_fewer (without gone names) names key chosen
    (λ other has. (was_without names gone other has).0) (stays_without names gone chosen (chosen_is_there names key chosen is) apart) is

pub chosen_after_putting : (names : List (List ℕ)) (come key chosen after : List ℕ) → IsChosen names key chosen → IsChosen (with_name come names) key after → (after ≡ chosen) ⊎ (after ≡ come)
chosen_after_putting names come key chosen after is then = elim (was_or_inserted (slice_cmp nat_cmp) come names after (chosen_is_there (with_name come names) key after then)) [
  | inl old ↦ inl (chosen_once names key after chosen (chosen_among_fewer names (with_name come names) key after (λ other has. kept_by_insert (slice_cmp nat_cmp) come names other has) old then) is)
  | inr same ↦ inr (sym same)
]
