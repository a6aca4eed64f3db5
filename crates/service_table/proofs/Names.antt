-- Rows that are found by the name of their service.
use Rattle.std.proofs.Common.{◌≡◌, ℕ, zero, suc, ◌<◌, Bool, true, false, cond, List, [], ◌∷◌, length, get_or, refl, ap, sym, ◌∙◌, subst, arith, inl, inr, true≢false}
use Rattle.std.specs.Prelude.{Option, Some, None, MatchOption, is_some}
use Rattle.std.specs.Map.{keys_of, lookup}
use Rattle.std.specs.List.{IsDistinct, position}
use Rattle.std.proofs.lemmas.Bool.{cases_Bool, cases_order}
use Rattle.std.proofs.lemmas.List.Quantifiers.{position-Some}
use Rattle.std.proofs.lemmas.Map.Keys.{apart_from_distinct}
use Rattle.dubbo_bodies.specs.declared.message.Request.{Request}
use Rattle.service_table.specs.declared.kind.Kind.{Kind}
use Rattle.service_table.specs.declared.name.ServiceName.{ServiceName}
use Rattle.service_table.specs.declared.row.Row.{Row}
use Rattle.service_table.specs.Rows.{service_of, asked_by, no_row, NoneServes, ServesAs, AreApart}
use Rattle.service_table.specs.Table.{service_named, row_of, rows_of}

abbrev pub Entry : Type 0
Entry = ServiceName × Kind

rest_none : (b : Bool) (kind : Kind) (o : Option Kind) → cond b (Some kind) o ≡ None → o ≡ None
rest_none true kind o e = let bad : ◌≡◌ {A = Option Kind} (Some kind) None = e in cc
rest_none false kind o e = e

pub none_is : (o : Option Kind) → false ≡ is_some o → o ≡ None
none_is None e = refl
none_is (Some kind) e = absurd (true≢false (sym e))

-- a row and a key at one place
at_place : (es : List Entry) (i : ℕ) (d : ServiceName) → i < length (rows_of es) → service_of (get_or (rows_of es) i no_row) ≡ service_named (get_or (keys_of es) i d)
at_place [] i d h = absurd (omega (arith, h))
at_place (e ∷ es) zero d h = refl
at_place (e ∷ es) (suc i) d h = at_place es i d (omega (arith, h))

key_count : (es : List Entry) → length (keys_of es) ≡ length (rows_of es)
key_count [] = refl
key_count (e ∷ es) = ap suc (key_count es)

module _ (eq : ServiceName → ServiceName → Bool) (tells : (a b : ServiceName) → eq a b ≡ true → service_named a ≡ service_named b) (own : (a b : ServiceName) → service_named a ≡ service_named b → eq a b ≡ true) where
  -- the first row has another name than the one that is looked for
  not_first : (name : ServiceName) (r : Request) (e : Entry) (es : List Entry) → service_named name ≡ asked_by r → eq name e.0 ≡ false → NoneServes (rows_of es) r → (row : Row) → service_of row ≡ asked_by r → (k : ℕ) → k < length (rows_of (e ∷ es)) → get_or (rows_of (e ∷ es)) k row ≡ row → ⊥
  not_first name r e es asked other none row same zero h is = true≢false (sym (own name e.0 (asked ∙ sym same ∙ sym (ap service_of is))) ∙ other)
  not_first name r e es asked other none row same (suc k) h is = none row (record { there = (k, omega (arith, h), is); same = same })

  later : (name : ServiceName) (r : Request) (e : Entry) (es : List Entry) → service_named name ≡ asked_by r → eq name e.0 ≡ false → (o : Option Kind) → MatchOption o (NoneServes (rows_of es) r) (ServesAs (rows_of es) r) → MatchOption o (NoneServes (rows_of (e ∷ es)) r) (ServesAs (rows_of (e ∷ es)) r)
  later name r e es asked other None none = λ row s. not_first name r e es asked other none row s.same s.there.0 s.there.1 s.there.2
  later name r e es asked other (Some kind) (row, s, is) =
      let h = s.there.1 in
      (row, record { there = (suc s.there.0, omega (arith, h), s.there.2); same = s.same }, is)

  -- what is found by the name that a request asks for is the kind of the row that serves it
  pub found : (name : ServiceName) (r : Request) (es : List Entry) → service_named name ≡ asked_by r → MatchOption (lookup (eq name) es) (NoneServes (rows_of es) r) (ServesAs (rows_of es) r)
  found name r [] asked = λ row s. let h = s.there.1 in absurd (omega (arith, h))
  found name r (e ∷ es) asked = elim (cases_Bool (eq name e.0)) [
    | inl alike ↦ subst (λ b. MatchOption (cond b (Some e.1) (lookup (eq name) es)) (NoneServes (rows_of (e ∷ es)) r) (ServesAs (rows_of (e ∷ es)) r)) (sym alike)
        (row_of e, record { there = (0, omega arith, refl); same = sym (tells name e.0 alike) ∙ asked }, refl)
    | inr differs ↦ subst (λ b. MatchOption (cond b (Some e.1) (lookup (eq name) es)) (NoneServes (rows_of (e ∷ es)) r) (ServesAs (rows_of (e ∷ es)) r)) (sym differs)
        (later name r e es asked differs (lookup (eq name) es) (found name r es asked))
  ]

  -- a name that isn't found is that of no row
  pub fresh : (name : ServiceName) (es : List Entry) → lookup (eq name) es ≡ None → (n : ℕ) → n < length (rows_of es) → service_of (get_or (rows_of es) n no_row) ≡ service_named name → ⊥
  fresh name [] none n h same = absurd (omega (arith, h))
  fresh name (e ∷ es) none zero h same =
      let bad : ◌≡◌ {A = Option Kind} (Some e.1) None = subst (λ b. cond b (Some e.1) (lookup (eq name) es) ≡ None) (own name e.0 (sym same)) none in cc
  fresh name (e ∷ es) none (suc n) h same = fresh name es (rest_none (eq name e.0) e.1 (lookup (eq name) es) none) n (omega (arith, h)) same

  -- keys that differ are those of rows that do
  pub apart : (es : List Entry) → IsDistinct eq (keys_of es) → AreApart (rows_of es)
  apart [] distinct i j h l same = absurd (omega (arith, h))
  apart (e ∷ es) distinct i j h l same =
      let keys : List ServiceName = keys_of (e ∷ es) in
      let named : service_named (get_or keys i e.0) ≡ service_named (get_or keys j e.0) = sym (at_place (e ∷ es) i e.0 h) ∙ same ∙ at_place (e ∷ es) j e.0 l in
      let count = key_count (e ∷ es) in
      elim (cases_order i j) [
        | inl is ↦ is
        | inr other ↦ elim other [
          | inl low ↦ absurd (true≢false (sym (own (get_or keys i e.0) (get_or keys j e.0) named) ∙ apart_from_distinct eq keys i j e.0 distinct low (omega (arith, l, count))))
          | inr high ↦ absurd (true≢false (sym (own (get_or keys j e.0) (get_or keys i e.0) (sym named)) ∙ apart_from_distinct eq keys j i e.0 distinct high (omega (arith, h, count))))
        ]
      ]

  -- the place at which a name is found is that of a row of this name
  pub repeated : (name : ServiceName) (es : List Entry) (i : ℕ) → i < length es → Some i ≡ position (eq name) (keys_of es) → service_of (get_or (rows_of es) i no_row) ≡ service_named name
  repeated name [] i h at = absurd (omega (arith, h))
  repeated name (e ∷ es) i h at =
      let there = position-Some (eq name) (keys_of (e ∷ es)) i e.0 (sym at) in
      let count = key_count (e ∷ es) in
      let within : i < length (rows_of (e ∷ es)) = let k = there.0 in omega (arith, k, count) in
      at_place (e ∷ es) i e.0 within ∙ sym (tells name (get_or (keys_of (e ∷ es)) i e.0) there.1)
