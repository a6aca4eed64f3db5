-- The number of a kind, piece by piece.
use Rattle.std.proofs.Common.{◌≡◌, ℕ, ◌-◌, ◌<◌, true, List, [], ◌∷◌, ◌++◌, length, take, drop, refl, ap, sym, ◌∙◌, subst, arith, append_assoc, inl, inr}
use Rattle.std.specs.Prelude.{ℤ, pos, Bool, MatchBool, Some, slice_get, slice_index}
use Rattle.std.proofs.lemmas.Bool.Decides.{nat_tests}
use Rattle.std.proofs.lemmas.List.{take-append-drop}
use Rattle.hessian_graph.specs.Refusal.{BeginsNoInt, BadCode}
use Rattle.hessian_graph.specs.Reading.{IntSpelling}
use Rattle.hessian_scalars.specs.declared.scalar.Scalar.{Scalar}
use Rattle.hessian_scalars.specs.declared.scalar.Scalar.TheVariants as scalars
use Rattle.hessian_scalars.specs.ScalarSpelling.{ScalarSpelling, IsDoubleCode}
use Rattle.hessian_scalars.specs.ScalarSpelling.ScalarSpelling.{int_in_code}
use Rattle.hessian_scalars.specs.Read.{BeginsInt, BeginsNothing, IsInt, IsProperPrefix}
use Rattle.hessian_scalars.specs.Codes.{is_int_code}
use Rattle.hessian_scalars.specs.Feeding.{Completes}
use Rattle.hessian_scalars.proofs.Ints.{only_ints, begins_int_iff}
use Rattle.hessian_scalars.proofs.Fronts.{has_code}
use Rattle.hessian_text.proofs.Advancing.{rest_is}
use Rattle.hessian_reader.specs.declared.fault.HessianFault.TheVariants as told
use Rattle.hessian_reader.specs.Leaves.{hessian}
use Rattle.dubbo_header.specs.declared.header.Header.{Header}
use Rattle.dubbo_bodies.specs.declared.reply_fault.ReplyFault.TheVariants as answers
use Rattle.dubbo_bodies.specs.declared.reply_reader.stage.Stage.{Stage}
use Rattle.dubbo_bodies.specs.declared.reply_reader.stage.Stage.TheVariants as stages
use Rattle.dubbo_bodies.specs.Refusals.{Hessian, BadKind, EndsInside, IsInt as IsSomeInt}
use Rattle.dubbo_bodies.specs.Refusals.ReplyRefusal.{kind as refusal_kind, no_int as refusal_no_int}
use Rattle.dubbo_bodies.specs.ReplyBody.{BeginsWithKind}
use Rattle.dubbo_bodies.specs.ReplyKinds.{IsNoKind}
use Rattle.dubbo_bodies.specs.ReplyStages.{IsOutcome, AtKind, StaysRefused, Stands}

-- ---- the first byte

pub first_of : (piece : List ℕ) → 0 < length piece → (rest : List ℕ) × (piece ≡ slice_index piece 0 ∷ rest)
first_of [] h = absurd (omega (arith, h))
first_of (c ∷ rest) h = (rest, refl)

no_int : (code : ℕ) → (BeginsInt code → ⊥) → BeginsNoInt hessian code
no_int code none = λ z more s. none (record { number = z; more = more; spells = s })

pub kind_no_int : (header : Header) (bytes came piece : List ℕ) → AtKind header bytes came → came ≡ [] → 0 < length piece → (BeginsInt (slice_index piece 0) → ⊥) → StaysRefused header (bytes ++ piece) (answers.Hessian (told.BadCode 0 (slice_index piece 0)))
kind_no_int header bytes came piece a e some none = λ other more.
    let (rest, is) = first_of piece some in
    let nothing : bytes ≡ [] = sym a.all ∙ e in
    let all : (bytes ++ piece) ++ more ≡ slice_index piece 0 ∷ (rest ++ more) = ap (λ b. (b ++ piece) ++ more) nothing ∙ ap (λ b. b ++ more) is in
    (Hessian (BadCode 0 (slice_index piece 0)), refl, refusal_no_int (slice_index piece 0) (rest ++ more) a.outcome.serial a.outcome.status all (no_int (slice_index piece 0) none))

-- ---- the number goes on

first_same : (c d : ℕ) (xs ys : List ℕ) → c ∷ xs ≡ d ∷ ys → c ≡ d
first_same c d xs ys e = cc

-- an int begins with the first byte of what came and comes
pub kind_begun : (header : Header) (bytes came piece : List ℕ) → AtKind header bytes came → 0 < length piece → (came ≡ [] → BeginsInt (slice_index piece 0)) → (code : ℕ) (rest : List ℕ) → came ++ piece ≡ code ∷ rest → BeginsInt code
kind_begun header bytes [] piece a some begins code rest e =
    let q = first_of piece some in
    subst BeginsInt (first_same (slice_index piece 0) code q.0 rest (sym q.1 ∙ e)) (begins refl)
kind_begun header bytes (c ∷ cs) piece a some begins code rest e = subst BeginsInt (first_same c code (cs ++ piece) rest e) (a.begun c cs refl)

pub kind_whole : (header : Header) (bytes came piece : List ℕ) (z : ℤ) (used : ℕ) → AtKind header bytes came → Completes came (scalars.Int z) (take used piece) → IntSpelling hessian z (bytes ++ take used piece)
kind_whole header bytes came piece z used a s = subst (λ b. ScalarSpelling (scalars.Int z) (b ++ take used piece)) a.all s

-- ---- nothing but an int stands there

some_taken : (came piece : List ℕ) (used : ℕ) (v : Scalar) → ScalarSpelling v (came ++ take used piece) → (code : ℕ) × (rest : List ℕ) × (came ++ take used piece ≡ code ∷ rest)
some_taken came piece used v s = split (came ++ take used piece) (has_code v (came ++ take used piece) s)
  where
    split : (xs : List ℕ) → 0 < length xs → (code : ℕ) × (rest : List ℕ) × (xs ≡ code ∷ rest)
    split [] h = absurd (omega (arith, h))
    split (c ∷ rest) h = (c, rest, refl)

pub kind_is_int : (header : Header) (bytes came piece : List ℕ) (v : Scalar) (used : ℕ) → AtKind header bytes came → 0 < length piece → (came ≡ [] → BeginsInt (slice_index piece 0)) → Completes came v (take used piece) → IsInt v
kind_is_int header bytes came piece v used a some begins s =
    let (code, rest, is) = some_taken came piece used v s in
    let whole : came ++ piece ≡ code ∷ (rest ++ drop used piece) = ap (λ p. came ++ p) (sym (take-append-drop used piece)) ∙ sym (append_assoc came (take used piece) (drop used piece)) ∙ ap (λ xs. xs ++ drop used piece) is in
    only_ints v code rest (kind_begun header bytes came piece a some begins code (rest ++ drop used piece) whole) (subst (ScalarSpelling v) is s)

double_no_int : (code : ℕ) → IsDoubleCode code → is_int_code code ≡ true → ⊥
double_no_int code (inl is) e = let f : is_int_code 0x44 ≡ true = subst (λ c. is_int_code c ≡ true) is e in cc
double_no_int code (inr is) e = grind (arith, nat_tests, is.above, is.below)

pub kind_no_double : (code : ℕ) → BeginsInt code → IsDoubleCode code → ⊥
kind_no_double code begins is = double_no_int code is ((begins_int_iff code).1 begins)

pub kind_no_other : (code : ℕ) → BeginsInt code → BeginsNothing code → ⊥
kind_no_other code begins none = none.no_scalar (scalars.Int begins.number) begins.more begins.spells

-- ---- behind the number

pub kind_cut : (header : Header) (bytes piece more : List ℕ) (z : ℤ) (used : ℕ) → IsOutcome header → IntSpelling hessian z (bytes ++ take used piece) → BeginsWithKind hessian header ((bytes ++ piece) ++ more) z (length (bytes ++ take used piece)) (drop used piece ++ more)
kind_cut header bytes piece more z used o s = record {
  serial = o.serial;
  status = o.status;
  front = bytes ++ take used piece;
  is_kind = s;
  place = refl;
  joined = ap (λ p. (bytes ++ p) ++ more) (sym (take-append-drop used piece)) ∙ ap (λ xs. xs ++ more) (sym (append_assoc bytes (take used piece) (drop used piece))) ∙ append_assoc (bytes ++ take used piece) (drop used piece) more;
}

pub kind_bad : (header : Header) (bytes piece : List ℕ) (z : ℤ) (used : ℕ) → IsOutcome header → IntSpelling hessian z (bytes ++ take used piece) → IsNoKind z → StaysRefused header (bytes ++ piece) (answers.BadKind z)
kind_bad header bytes piece z used o s none = λ other more. (BadKind z, refl, refusal_kind z (length (bytes ++ take used piece)) (drop used piece ++ more) (kind_cut header bytes piece more z used o s) none)

pub rejoined : (bytes piece : List ℕ) (used : ℕ) → (bytes ++ take used piece) ++ drop used piece ≡ bytes ++ piece
rejoined bytes piece used = append_assoc bytes (take used piece) (drop used piece) ∙ ap (λ p. bytes ++ p) (take-append-drop used piece)

-- ---- the number is cut short

zero_int : ScalarSpelling (scalars.Int (pos 0)) (0x90 ∷ [])
zero_int = int_in_code 0x90 (pos 0) (record { above = omega arith; below = omega arith }) refl

pub kind_short : (header : Header) (bytes came : List ℕ) → AtKind header bytes came → EndsInside (IsSomeInt hessian) bytes
kind_short header bytes [] a = record { more = 0x90 ∷ []; lacks = λ e. cc; whole = (pos 0, subst (λ b. ScalarSpelling (scalars.Int (pos 0)) (b ++ 0x90 ∷ [])) a.all zero_int) }
kind_short header bytes (c ∷ cs) a =
    let p = a.part in
    let i = only_ints p.value c (cs ++ p.more) (a.begun c cs refl) p.spells in
    record { more = p.more; lacks = p.lacks; whole = (i.number, subst (λ b. ScalarSpelling (scalars.Int i.number) (b ++ p.more)) a.all (subst (λ v. ScalarSpelling v (c ∷ (cs ++ p.more))) i.is p.spells)) }

-- before the first byte
pub kind_new : (header : Header) (came : List ℕ) → IsOutcome header → came ≡ [] → AtKind header [] came
kind_new header came o e = record { outcome = o; all = e; begun = λ code rest f. absurd (let g : [] ≡ code ∷ rest = sym e ∙ f in cc); part = subst IsProperPrefix (sym e) (record { value = scalars.Int (pos 0); more = 0x90 ∷ []; lacks = λ f. cc; spells = zero_int }) }

pub kind_refused : (header : Header) (bytes came piece : List ℕ) (b : Bool) (stage : Stage) → AtKind header bytes came → 0 < length piece → b ≡ true → MatchBool b ((came ≡ []) × (BeginsInt (slice_index piece 0) → ⊥)) (came ≡ [] → BeginsInt (slice_index piece 0)) → stage ≡ stages.Refused (answers.Hessian (told.BadCode 0 (slice_index piece 0))) → Stands header (bytes ++ piece) stage
kind_refused header bytes came piece b stage a some e h is =
    let (empty, none) = subst (λ x. MatchBool x ((came ≡ []) × (BeginsInt (slice_index piece 0) → ⊥)) (came ≡ [] → BeginsInt (slice_index piece 0))) e h in
    subst (Stands header (bytes ++ piece)) (sym is) (kind_no_int header bytes came piece a empty some none)

first_index : (piece : List ℕ) (code : ℕ) → slice_get piece 0 ≡ Some code → slice_index piece 0 ≡ code
first_index [] code e = absurd cc
first_index (c ∷ rest) code e = cc

pub never_double : (came piece : List ℕ) (code : ℕ) → (came ≡ [] → BeginsInt (slice_index piece 0)) → ((came ≡ []) × (slice_get piece 0 ≡ Some code) × IsDoubleCode code) → ⊥
never_double came piece code begins (empty, first, is) = kind_no_double code (subst BeginsInt (first_index piece code first) (begins empty)) is

pub never_other : (came piece : List ℕ) (code : ℕ) → (came ≡ [] → BeginsInt (slice_index piece 0)) → ((came ≡ []) × (slice_get piece 0 ≡ Some code) × BeginsNothing code) → ⊥
never_other came piece code begins (empty, first, is) = kind_no_other code (subst BeginsInt (first_index piece code first) (begins empty)) is

-- what the cut of a piece holds, the rest counted as a slice counts it
pub cut_joined : (bytes front piece : List ℕ) (used : ℕ) → front ≡ bytes ++ take used piece → front ++ take (length piece - used) (drop used piece) ≡ bytes ++ piece
cut_joined bytes front piece used e = ap (λ d. front ++ d) (rest_is used piece) ∙ ap (λ f. f ++ drop used piece) e ∙ rejoined bytes piece used
