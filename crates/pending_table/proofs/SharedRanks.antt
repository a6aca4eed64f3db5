-- How many ids below 2 ^ 60 the desks of a table can open: all of them together fewer than 2 ^ 61.
use Rattle.std.proofs.Common.{◌≡◌, ℕ, zero, suc, ◌+◌, ◌*◌, ◌/◌, ◌%◌, ◌<◌, ◌≤◌, ◌^◌, ⊎_elim, Some, List, [], ◌∷◌, length, slice_get, sym, refl, ◌∙◌, subst, arith}
use Rattle.std.proofs.Math.Nat.{div-add-mod, div-mul-le_self, mul-div-le, suc-mul}
use Rattle.std.proofs.lemmas.List.Sums.{sum_by-cons}
use Rattle.std.proofs.lemmas.Nat.{le-div}
use Rattle.pending_table.specs.Closing.{opened_by}
use Rattle.pending_table.specs.SharedRule.{Phase, Sits}
use Rattle.pending_table.specs.Words.{slot_of}
use Rattle.pending_table.proofs.Scanning.{same_or}
use Rattle.pending_table.proofs.SharedShows.{get_inside, get_there}
use Rattle.pending_table.specs.declared.logs.DeskLog.{DeskLog}
use Rattle.pending_table.specs.declared.logs.Opened.{Opened}
use Rattle.pending_table.specs.declared.shared.parts.DeskPart.{DeskPart}
use Rattle.pending_table.specs.declared.shared.parts.WindowPart.{WindowPart}

div_rises : (s a b : ℕ) → 0 < s → a ≤ b → a / s ≤ b / s
div_rises s a b some up = le-div (a / s) b s some (let low = div-mul-le_self a s in omega arith)

-- two numbers with the same quotient and the same remainder are one
by_parts : (s a b : ℕ) → a / s ≡ b / s → a % s ≡ b % s → a ≡ b
by_parts s a b quotient remainder = sym (div-add-mod a s) ∙ ((λ i. s * quotient i + remainder i) ∙ div-add-mod b s)

-- how many ids of the same slot are less
pub rank : ℕ → ℕ → ℕ
rank slots id = 16 * (id / 16 / slots) + id % 16

rank_is : (slots id : ℕ) → rank slots id ≡ 16 * (id / 16 / slots) + id % 16
unfolding rank
rank_is slots id = refl

rest_low : (id : ℕ) → id % 16 < 16
rest_low id = grind arith

rank_rises : (slots p q : ℕ) → 0 < slots → p < q → slot_of slots p ≡ slot_of slots q → rank slots p + 1 ≤ rank slots q
rank_rises slots p q some less same =
    let a : ℕ = p / 16 in
    let b : ℕ = q / 16 in
    let up : a ≤ b = div_rises 16 p q (omega arith) (omega arith) in
    let rows : a / slots ≤ b / slots = div_rises slots a b some up in
    let split_p : 16 * a + p % 16 ≡ p = div-add-mod p 16 in
    let split_q : 16 * b + q % 16 ≡ q = div-add-mod q 16 in
    let low : p % 16 < 16 = rest_low p in
    let at_p = rank_is slots p in
    let at_q = rank_is slots q in
    ⊎_elim
    (λ one. let call : a ≡ b = by_parts slots a b one same in omega arith)
    (λ other. let row : a / slots < b / slots = below (a / slots) (b / slots) rows other in omega arith)
    (same_or (a / slots) (b / slots))
  where
    below : (x y : ℕ) → x ≤ y → (x ≡ y → ⊥) → x < y
    below x y up other = grind arith

module _ {R K : Type 0} (fits : K → ℕ → R → Type 0) (key : K) (slots : ℕ) (some : 0 < slots) (windows : List (WindowPart R)) (lost slot : ℕ) (d : DeskPart R) (p : Phase R) (sits : Sits fits key slots windows lost slot d p) where
  ranked : (i : ℕ) (o : Opened) → slice_get d.log.opened i ≡ Some o → i ≤ rank slots o.id
  ranked zero o at = omega arith
  ranked (suc i) o at =
      let inside : suc i < length d.log.opened = get_inside d.log.opened (suc i) o at in
      let b = get_there d.log.opened i (omega arith) in
      let before = ranked i b.0 b.1 in
      let less = sits.rising i (suc i) b.0 o (omega arith) b.1 at in
      let up = rank_rises slots b.0.id o.id some less ((sits.own i b.0 b.1).1 ∙ sym (sits.own (suc i) o at).1) in
      omega arith

  -- the ids of one slot below 2 ^ 60
  pub few : length d.log.opened ≤ 16 * (2 ^ 56 / slots) + 16
  few = by_count (length d.log.opened) refl
    where
      by_count : (n : ℕ) → n ≡ length d.log.opened → n ≤ 16 * (2 ^ 56 / slots) + 16
      by_count zero is = omega arith
      by_count (suc n) is =
          let last = get_there d.log.opened n (omega arith) in
          let below = ranked n last.0 last.1 in
          let own = (sits.own n last.0 last.1).0 in
          let small = sits.small in
          let call : last.0.id / 16 ≤ 2 ^ 56 = let parts = div-add-mod last.0.id 16 in omega arith in
          let row = div_rises slots (last.0.id / 16) (2 ^ 56) some call in
          let low : last.0.id % 16 < 16 = rest_low last.0.id in
          let at = rank_is slots last.0.id in
          omega arith

module _ {R : Type 0} where
  few_each : (q : ℕ) (logs : List (DeskLog R)) → ((i : ℕ) (log : DeskLog R) → slice_get logs i ≡ Some log → length log.opened ≤ 16 * q + 16) → opened_by logs ≤ 16 * (length logs * q) + 16 * length logs
  few_each q [] each = omega arith
  few_each q (log ∷ logs) each =
      let here = each 0 log refl in
      let there = few_each q logs (λ i l at. each (suc i) l at) in
      let step = suc-mul (length logs) q in
      let sum_is : opened_by (log ∷ logs) ≡ length log.opened + opened_by logs = sum_by-cons (λ (l : DeskLog R). length l.opened) log logs in
      omega arith

  -- all desks together
  pub few_opened : (slots : ℕ) (logs : List (DeskLog R)) → length logs ≡ slots → slots < 2 ^ 32 → ((i : ℕ) (log : DeskLog R) → slice_get logs i ≡ Some log → length log.opened ≤ 16 * (2 ^ 56 / slots) + 16) → opened_by logs < 2 ^ 64
  few_opened slots logs count small each =
      let all = few_each (2 ^ 56 / slots) logs each in
      let whole : length logs * (2 ^ 56 / slots) ≤ 2 ^ 56 = subst (λ (n : ℕ). n * (2 ^ 56 / slots) ≤ 2 ^ 56) (sym count) (mul-div-le (2 ^ 56) slots) in
      omega arith
