-- Bytes begin with the number of one kind at most.
use Rattle.std.proofs.Common.{◌≡◌, ℕ, List, [], ◌++◌, ap, sym, ◌∙◌, subst}
use Rattle.std.specs.Prelude.{ℤ}
use Rattle.std.proofs.lemmas.List.{append-nil}
use Rattle.hessian_graph.specs.Reading.{IntSpelling}
use Rattle.hessian_scalars.specs.declared.scalar.Scalar.TheVariants as scalars
use Rattle.hessian_scalars.specs.ScalarSpelling.{ScalarSpelling}
use Rattle.hessian_scalars.proofs.Laws.{goes_on, one_value}
use Rattle.hessian_reader.specs.Leaves.{hessian}
use Rattle.hessian_reader.proofs.OneWay.{Fronts, fronts}
use Rattle.hessian_reader.proofs.OneWay.Fronts.{first_shorter, second_shorter}
use Rattle.dubbo_header.specs.declared.header.Header.{Header}
use Rattle.dubbo_bodies.specs.ReplyBody.{BeginsWithKind}

-- two ints at the front of the same bytes
pub record SameInt (z w : ℤ) (front rest front' rest' : List ℕ) : Type 0 where
  pub number : z ≡ w
  pub same_front : front ≡ front'
  pub same_rest : rest ≡ rest'

same_value : (z w : ℤ) → scalars.Int z ≡ scalars.Int w → z ≡ w
same_value z w e = cc

same_by : (z w : ℤ) (a b a' b' : List ℕ) → IntSpelling hessian z a → IntSpelling hessian w a' → Fronts a b a' b' → SameInt z w a b a' b'
same_by z w a b a' b' s t (first_shorter k x y) =
    let t' : ScalarSpelling (scalars.Int w) (a ++ k) = subst (ScalarSpelling (scalars.Int w)) x t in
    let none : k ≡ [] = goes_on (scalars.Int z) (scalars.Int w) a k s t' in
    let same : a ≡ a' = sym (x ∙ ap (λ l. a ++ l) none ∙ append-nil a) in
    record { number = same_value z w (one_value (scalars.Int z) (scalars.Int w) a' (subst (ScalarSpelling (scalars.Int z)) same s) t); same_front = same; same_rest = y ∙ ap (λ l. l ++ b') none }
same_by z w a b a' b' s t (second_shorter k x y) =
    let s' : ScalarSpelling (scalars.Int z) (a' ++ k) = subst (ScalarSpelling (scalars.Int z)) x s in
    let none : k ≡ [] = goes_on (scalars.Int w) (scalars.Int z) a' k t s' in
    let same : a ≡ a' = x ∙ ap (λ l. a' ++ l) none ∙ append-nil a' in
    record { number = same_value z w (one_value (scalars.Int z) (scalars.Int w) a' (subst (ScalarSpelling (scalars.Int z)) same s) t); same_front = same; same_rest = sym (y ∙ ap (λ l. l ++ b) none) }

pub same_int : (z w : ℤ) (a b a' b' : List ℕ) → IntSpelling hessian z a → IntSpelling hessian w a' → a ++ b ≡ a' ++ b' → SameInt z w a b a' b'
same_int z w a b a' b' s t e = same_by z w a b a' b' s t (fronts a b a' b' e)

pub record SameKind (z w : ℤ) (rest rest' : List ℕ) : Type 0 where
  pub number : z ≡ w
  pub same_rest : rest ≡ rest'

pub same_kind : (header : Header) (body : List ℕ) (z w : ℤ) (at at' : ℕ) (rest rest' : List ℕ) → BeginsWithKind hessian header body z at rest → BeginsWithKind hessian header body w at' rest' → SameKind z w rest rest'
same_kind header body z w at at' rest rest' b c =
    let q = same_int z w b.front rest c.front rest' b.is_kind c.is_kind (sym b.joined ∙ c.joined) in
    record { number = q.number; same_rest = q.same_rest }
