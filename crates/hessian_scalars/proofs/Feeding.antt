-- A scalar that comes in pieces.
use Rattle.std.proofs.Common.{◌≡◌, ℕ, ◌-◌, ◌<◌, ◌≤◌, Bool, true, false, ltb, List, [], ◌∷◌, ◌++◌, length, take, min, refl, sym, ap, subst, ◌∙◌, arith}
use Rattle.std.proofs.lemmas.Bool.{le-ltb, lt-ltb, ltb-true, ltb-false}
use Rattle.std.proofs.lemmas.List.{length-append, length-take, take-take, take_all}
use Rattle.hessian_scalars.specs.declared.scalar.Scalar.{Scalar}
use Rattle.hessian_scalars.specs.declared.scalar.Scalar.TheVariants as scalars
use Rattle.hessian_scalars.specs.declared.code.Opening.{Opening}
use Rattle.hessian_scalars.specs.declared.code.Opening.TheVariants as openings
use Rattle.hessian_scalars.specs.declared.front.Front.{Front}
use Rattle.hessian_scalars.specs.declared.front.Front.TheVariants as fronts
use Rattle.hessian_scalars.specs.ScalarSpelling.ScalarSpelling.{null}
use Rattle.hessian_scalars.specs.Read.{IsProperPrefix}
use Rattle.hessian_scalars.specs.Codes.{opening_of, value_of, front_by, front_of}
use Rattle.hessian_scalars.specs.Feeding.{counted_behind, fed, kept_of, kept}
use Rattle.hessian_scalars.proofs.Rows.{complete}
use Rattle.hessian_scalars.proofs.Whole.{IsBytes, length_opened}
use Rattle.hessian_scalars.proofs.Fronts.{front_behind, Shows, shown}
use Rattle.hessian_scalars.proofs.Bytes.{IsBytes-append, IsBytes-front, IsBytes-spelled, take-behind, take_room}

-- ---- what came

pub nothing_came : IsProperPrefix []
nothing_came = record { value = scalars.Null; more = 0x4e ∷ []; lacks = λ e. absurd cc; spells = null }

pub came_bytes : (came : List ℕ) → IsProperPrefix came → IsBytes came
came_bytes came p = IsBytes-front came p.more (IsBytes-spelled p.value (came ++ p.more) p.spells)

-- what is found where a scalar has begun
data Begun (n : ℕ) : Front → Type 0 where
  goes : Begun n fronts.Part
  ends : (v : Scalar) (len : ℕ) → n ≤ len → Begun n (fronts.Whole v len)

begun_by : (n c len : ℕ) (bytes : List ℕ) → n ≤ len → Begun n (front_by (openings.Spelling len) c bytes)
begun_by n c len bytes l = by_room (ltb (length bytes) len) refl
  where
    by_room : (b : Bool) → ltb (length bytes) len ≡ b → Begun n (front_by (openings.Spelling len) c bytes)
    by_room true e = rw e goes
    by_room false e = rw e (ends _ len l)

begun : (c : ℕ) (bs piece : List ℕ) → IsProperPrefix (c ∷ bs) → Begun (length (c ∷ bs)) (front_of (c ∷ (bs ++ piece)))
begun c bs piece p =
    let w = complete p.value (c ∷ (bs ++ p.more)) p.spells in
    rw (front_behind c (bs ++ piece), w.opens) (begun_by _ c _ (c ∷ (bs ++ piece)) (omega (arith, length-append bs p.more)))

begun_end : (n len : ℕ) (v : Scalar) → Begun n (fronts.Whole v len) → n ≤ len
begun_end n len v (ends w k l) = l

-- what came is no longer than the whole
pub came_ends : (came piece : List ℕ) (v : Scalar) (len : ℕ) → IsProperPrefix came → front_of (came ++ piece) ≡ fronts.Whole v len → length came ≤ len
came_ends [] piece v len p e = omega arith
came_ends (c ∷ bs) piece v len p e = begun_end _ len v (subst (Begun (length (c ∷ bs))) e (begun c bs piece p))

-- what has begun is not refused
pub not_double : (came piece : List ℕ) (d : ℕ) → IsProperPrefix came → front_of (came ++ piece) ≡ fronts.Double d → came ≡ []
not_double [] piece d p e = refl
not_double (c ∷ bs) piece d p e = let b : Begun (length (c ∷ bs)) (fronts.Double d) = subst (Begun (length (c ∷ bs))) e (begun c bs piece p) in elim b [ ]

pub not_other : (came piece : List ℕ) (d : ℕ) → IsProperPrefix came → front_of (came ++ piece) ≡ fronts.Other d → came ≡ []
not_other [] piece d p e = refl
not_other (c ∷ bs) piece d p e = let b : Begun (length (c ∷ bs)) (fronts.Other d) = subst (Begun (length (c ∷ bs))) e (begun c bs piece p) in elim b [ ]

-- ---- nine bytes show all

front_by-take : (c : ℕ) (bs : List ℕ) (o : Opening) → opening_of c ≡ o → front_by o c (take 9 (c ∷ bs)) ≡ front_by o c (c ∷ bs)
front_by-take c bs openings.Double e = refl
front_by-take c bs openings.Nothing e = refl
front_by-take c bs (openings.Spelling len) e = by_room (ltb (length (c ∷ bs)) len) refl
  where
    most : len ≤ 9
    most = (length_opened c len e).most

    by_room : (b : Bool) → ltb (length (c ∷ bs)) len ≡ b → front_by (openings.Spelling len) c (take 9 (c ∷ bs)) ≡ front_by (openings.Spelling len) c (c ∷ bs)
    by_room true h =
        let few : ltb (length (take 9 (c ∷ bs))) len ≡ true = lt-ltb _ _ (omega (arith, most, ltb-true _ _ h, length-take 9 (c ∷ bs))) in
        rw (few, h) refl
    by_room false h =
        let enough : ltb (length (take 9 (c ∷ bs))) len ≡ false = le-ltb _ _ (omega (arith, most, ltb-false _ _ h, length-take 9 (c ∷ bs))) in
        let same : take len (take 9 (c ∷ bs)) ≡ take len (c ∷ bs) = take-take len 9 (c ∷ bs) most in
        rw (enough, h) (ap (λ (l : List ℕ). fronts.Whole (value_of l) len) same)

front_of-take : (bytes : List ℕ) → front_of (take 9 bytes) ≡ front_of bytes
front_of-take [] = refl
front_of-take (c ∷ bs) = front_behind c (take 8 bs) ∙ front_by-take c bs (opening_of c) refl ∙ sym (front_behind c bs)

-- so much of a piece as there is room for shows all
pub seen : (came piece : List ℕ) (n : ℕ) → length came ≤ 9 → n ≡ min (length piece) (9 - length came) → front_of (came ++ take n piece) ≡ front_of (came ++ piece)
seen came piece n l e =
    let same : take 9 (came ++ take n piece) ≡ take 9 (came ++ piece) =
    take-behind 9 came (take n piece) l ∙ ap (λ (k : List ℕ). came ++ k) (take_room (9 - length came) n piece e) ∙ sym (take-behind 9 came piece l) in
    sym (front_of-take (came ++ take n piece)) ∙ ap front_of same ∙ front_of-take (came ++ piece)

part_by : (c : ℕ) (bs : List ℕ) (o : Opening) → opening_of c ≡ o → front_by o c (c ∷ bs) ≡ fronts.Part → length (c ∷ bs) < 9
part_by c bs openings.Double e h = absurd cc
part_by c bs openings.Nothing e h = absurd cc
part_by c bs (openings.Spelling len) e h = by_room (ltb (length (c ∷ bs)) len) refl h
  where
    by_room : (b : Bool) → ltb (length (c ∷ bs)) len ≡ b → front_by (openings.Spelling len) c (c ∷ bs) ≡ fronts.Part → length (c ∷ bs) < 9
    by_room true r h = omega (arith, ltb-true _ _ r, (length_opened c len e).most)
    by_room false r h = absurd (cc (rw r at h))

-- where more is wanted, there are less than nine bytes
pub part_length : (bytes : List ℕ) → front_of bytes ≡ fronts.Part → length bytes < 9
part_length [] e = omega arith
part_length (c ∷ bs) e = part_by c bs (opening_of c) refl (sym (front_behind c bs) ∙ e)

-- so a whole piece was taken
pub all_taken : (came piece : List ℕ) (n : ℕ) → n ≡ min (length piece) (9 - length came) → front_of (came ++ take n piece) ≡ fronts.Part → take n piece ≡ piece
all_taken came piece n e h =
    let short = part_length (came ++ take n piece) h in
    take_all n piece (omega (arith, short, length-append came (take n piece), length-take n piece))

-- what came and more of it, where more is wanted
pub part_came : (came piece : List ℕ) → IsProperPrefix came → IsBytes piece → front_of (came ++ piece) ≡ fronts.Part → IsProperPrefix (came ++ piece)
part_came came piece p fits e = subst (Shows (came ++ piece)) e (shown (came ++ piece) (IsBytes-append came piece (came_bytes came p) fits))

-- ---- what a piece makes of what came

pub fed_is : (came piece : List ℕ) (f : Front) → front_of (came ++ piece) ≡ f → fed came piece ≡ counted_behind (length came) f
unfolding fed
fed_is came piece f e = ap (counted_behind (length came)) e

pub kept_is : (came piece : List ℕ) (f : Front) → front_of (came ++ piece) ≡ f → kept came piece ≡ kept_of f (came ++ piece)
unfolding kept
kept_is came piece f e = ap (λ (x : Front). kept_of x (came ++ piece)) e

pub fed-fresh : (piece : List ℕ) → fed [] piece ≡ front_of piece
unfolding fed
fed-fresh piece = uncounted (front_of piece)
  where
    uncounted : (f : Front) → counted_behind 0 f ≡ f
    uncounted (fronts.Whole v len) = let e : len - 0 ≡ len = omega arith in rw e refl
    uncounted fronts.Part = refl
    uncounted (fronts.Double c) = refl
    uncounted (fronts.Other c) = refl
