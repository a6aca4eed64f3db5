-- From what a reading did to what the definitions say of its bytes.
use Rattle.std.proofs.Common.{◌≡◌, ◌≢◌, ℕ, suc, ◌+◌, ◌-◌, ◌<◌, ◌≤◌, List, [], ◌∷◌, ◌++◌, length, get_or, take, drop, refl, sym, ap, ◌∙◌, subst, arith, append_assoc, length-append}
use Rattle.std.specs.Prelude.{◌↔◌, Some, None, slice_index, slice_range}
use Rattle.std.proofs.lemmas.List.{append-nil, length-take-le, length-drop, get_or-drop, take-append-drop, drop-drop}
use Rattle.std.proofs.Math.Seq.{drop-cons, take-append_seam, drop-append_seam}
use Rattle.hessian_text.specs.declared.stage.Kind.{Kind}
use Rattle.hessian_text.specs.declared.stage.Kind.TheVariants.{Text, Binary}
use Rattle.hessian_text.specs.declared.stage.Begun.{Begun}
use Rattle.hessian_text.specs.declared.stage.Stage.TheVariants.{Code, Inside, Ended}
use Rattle.hessian_text.specs.declared.step.Item.TheVariants.{Grows, Whole, Wrong}
use Rattle.hessian_text.specs.Spelling.{AreBytes, Spelling, IsSpelledAt}
use Rattle.hessian_text.specs.Refusal.{InnerChunks, IsBeforeItem, BeginsNothing, BeginsNoItem, IsShort, IsBadCode, IsBadText}
use Rattle.hessian_text.specs.Refusal.InnerChunks.{none as no_chunks}
use Rattle.hessian_text.specs.Residual.{Completes, begun_bytes}
use Rattle.hessian_text.specs.Sound.{SoundBegun, SoundStage}
use Rattle.hessian_text.specs.Steps.{after_code, arrived, item_step, step, Runs}
use Rattle.hessian_text.specs.Reader.{Reading, Spells, Advances, RefusesCode, RefusesItem}
use Rattle.hessian_text.proofs.Characters.{Goes, item_forward}
use Rattle.hessian_text.proofs.Characters.Goes.{grown, ended}
use Rattle.hessian_text.proofs.Stages.{Ahead, stage_forward}
use Rattle.hessian_text.proofs.Running.{Later, runs_forward, runs_back, runs_sound, cut_short}
use Rattle.hessian_text.proofs.Came.{HasCome, IsInItem, runs_come}

pub take_bytes : (n : ℕ) (xs : List ℕ) → AreBytes xs → n ≤ length xs → AreBytes (take n xs)
take_bytes n xs h within = record { small = λ i k. taken_small i (let len : length (take n xs) ≡ n = length-take-le n xs within in omega (arith, len)) }
  where
    taken_small : (i : ℕ) → i < n → get_or (take n xs) i 0 < 256
    taken_small i k = subst (λ x. x < 256) (sym (Rattle.std.proofs.lemmas.List.get_or-take n xs i 0 k)) (h.small i (omega arith))

pub drop_bytes : (n : ℕ) (xs : List ℕ) → AreBytes xs → AreBytes (drop n xs)
drop_bytes n xs h = record { small = λ i k. subst (λ x. x < 256) (sym (get_or-drop n xs i 0)) (h.small (n + i) (let len : length (drop n xs) ≡ length xs - n = length-drop n xs in omega (arith, len))) }

rest_within : (at n : ℕ) (bytes : List ℕ) → at ≤ length bytes → n ≤ length (drop at bytes) → at + n ≤ length bytes
rest_within at n bytes h k = let len : length (drop at bytes) ≡ length bytes - at = length-drop at bytes in omega (arith, len)

rest_inside : (at n : ℕ) (bytes : List ℕ) → at ≤ length bytes → n < length (drop at bytes) → at + n < length bytes
rest_inside at n bytes h k = let len : length (drop at bytes) ≡ length bytes - at = length-drop at bytes in omega (arith, len)

front_is : (at n : ℕ) (bytes : List ℕ) → take n (drop at bytes) ≡ slice_range bytes at (at + n)
front_is at n bytes = ap (λ m. take m (drop at bytes)) (let e : n ≡ at + n - at = omega arith in e)

-- ---- the value is whole

pub whole_at : (kind : Kind) (bytes : List ℕ) (at n : ℕ) (after : Reading) → at ≤ length bytes → AreBytes bytes → n ≤ length (drop at bytes) → Advances (record { kind = kind; done = []; stage = Code }) (take n (drop at bytes)) after → after.stage ≡ Ended → IsSpelledAt kind bytes at after.done (at + n)
whole_at kind bytes at n after start small within a e = record {
  after = omega arith;
  within = rest_within at n bytes start within;
  spells = subst (λ x. Spelling kind after.done x) (front_is at n bytes) (spelled (take n (drop at bytes)) (take_bytes n (drop at bytes) (drop_bytes at bytes small) within) a.runs);
}
  where
    spelled : (xs : List ℕ) → AreBytes xs → Runs kind Code xs after.stage a.gained → Spelling kind after.done xs
    spelled xs low r =
        let r' : Runs kind Code xs Ended a.gained = subst (λ s. Runs kind Code xs s a.gained) e r in
        let c : Spelling kind (a.gained ++ []) (xs ++ []) = runs_back kind Code Ended xs [] a.gained [] r' tt low (refl, refl) in
        let d : Spelling kind (a.gained ++ []) xs = subst (λ x. Spelling kind (a.gained ++ []) x) (append-nil xs) c in
        subst (λ v. Spelling kind v xs) (append-nil a.gained ∙ sym a.done) d

-- ---- the bytes end

pub short_at : (kind : Kind) (bytes : List ℕ) (at : ℕ) (after : Reading) → at ≤ length bytes → AreBytes bytes → Advances (record { kind = kind; done = []; stage = Code }) (drop at bytes) after → after.stage ≢ Ended → IsShort kind bytes at (length bytes)
short_at kind bytes at after start small a n = record { at_end = refl; cut = cut_short kind after.stage (drop at bytes) a.gained (drop_bytes at bytes small) a.runs n }

-- ---- no code

no_chunk : (kind : Kind) (code : ℕ) → after_code kind code ≡ None → BeginsNothing kind code
no_chunk kind code e value more s = refused (stage_forward kind Code code value more tt s)
  where
    refused : Ahead kind (step kind Code code) value more → ⊥
    refused a = let k : arrived (after_code kind code) ≡ arrived None = ap arrived e in let m : arrived (after_code kind code) ≡ Some (a.next, a.gained) = a.is in cc

come_to : (kind : Kind) (bytes : List ℕ) (at n : ℕ) (after : Reading) → AreBytes bytes → n ≤ length (drop at bytes) → Advances (record { kind = kind; done = []; stage = Code }) (take n (drop at bytes)) after → HasCome kind after.stage (take n (drop at bytes))
come_to kind bytes at n after small within a = runs_come kind Code after.stage (take n (drop at bytes)) a.gained [] a.runs tt (take_bytes n (drop at bytes) (drop_bytes at bytes small) within) no_chunks

pub code_at : (kind : Kind) (bytes : List ℕ) (at n : ℕ) (after : Reading) → at ≤ length bytes → AreBytes bytes → n < length (drop at bytes) → Advances (record { kind = kind; done = []; stage = Code }) (take n (drop at bytes)) after → RefusesCode kind after.stage (slice_index (drop at bytes) n) → IsBadCode kind bytes at (at + n) (slice_index bytes (at + n))
code_at kind bytes at n after start small within a r = record {
  after = omega arith;
  within = rest_inside at n bytes start within;
  behind = subst (λ x. InnerChunks kind x) (front_is at n bytes) (subst (λ s. HasCome kind s (take n (drop at bytes))) r.at_code (come_to kind bytes at n after small (omega arith) a));
  code_is = refl;
  begins = no_chunk kind (slice_index bytes (at + n)) (subst (λ b. after_code kind b ≡ None) (get_or-drop at bytes n 0) r.no_code);
}

-- ---- no character

pub no_item : (kind : Kind) (left : ℕ) (begun : Begun) (b : ℕ) (rest : List ℕ) → SoundBegun kind left begun → item_step kind left begun b ≡ Wrong → BeginsNoItem kind left (begun_bytes begun ++ b ∷ rest)
no_item kind left begun b rest s e value form more after units i fits same = refused (item_forward kind left begun b units value form after (rest ++ more) i s fits (sym same ∙ append_assoc (begun_bytes begun) (b ∷ rest) more))
  where
    refused : Goes (item_step kind left begun b) begun b (rest ++ more) value units after → ⊥
    refused (grown p is g) = let k : Grows p ≡ Wrong = sym is ∙ e in cc
    refused (ended w is x y z) = let k : Whole w ≡ Wrong = sym is ∙ e in cc

-- the parts of the bytes at a character that is refused
pub record IsParted (bytes : List ℕ) (at n : ℕ) (before begun : List ℕ) (b : ℕ) : Type 0 where
  pub rest : List ℕ
  pub parts : drop at bytes ≡ before ++ (begun ++ b ∷ rest)
  pub place : at + n - length begun ≡ at + length before

parted : (bytes : List ℕ) (at n : ℕ) (before begun : List ℕ) → n < length (drop at bytes) → take n (drop at bytes) ≡ before ++ begun → IsParted bytes at n before begun (slice_index (drop at bytes) n)
parted bytes at n before begun within e =
    let rest = drop at bytes in
    let tail : drop n rest ≡ get_or rest n 0 ∷ drop (suc n) rest = drop-cons rest n 0 within in
    let len : length (take n rest) ≡ n = length-take-le n rest (omega arith) in
    let both : length (take n rest) ≡ length before + length begun = ap length e ∙ length-append before begun in
    record {
      rest = drop (suc n) rest;
      parts = sym (take-append-drop n rest) ∙ ap (λ x. take n rest ++ x) tail ∙ ap (λ x. x ++ (get_or rest n 0 ∷ drop (suc n) rest)) e ∙ append_assoc before begun (get_or rest n 0 ∷ drop (suc n) rest);
      place = omega (arith, len, both);
    }

pub begun_within : (kind : Kind) (bytes : List ℕ) (at n k : ℕ) (after : Reading) → AreBytes bytes → n < length (drop at bytes) → Advances (record { kind = kind; done = []; stage = Code }) (take n (drop at bytes)) after → RefusesItem kind after.stage (slice_index (drop at bytes) n) k → k ≤ n
begun_within kind bytes at n k after small within a r =
    let c : IsInItem kind r.part r.left r.begun (take n (drop at bytes)) = subst (λ s. HasCome kind s (take n (drop at bytes))) r.inside (come_to kind bytes at n after small (omega arith) a) in
    let len : length (take n (drop at bytes)) ≡ n = length-take-le n (drop at bytes) (omega arith) in
    let both : length (take n (drop at bytes)) ≡ length c.before + length (begun_bytes r.begun) = ap length c.bytes_are ∙ length-append c.before (begun_bytes r.begun) in
    let is : k ≡ length (begun_bytes r.begun) = r.len_is in
    omega (arith, len, both, is)

text_at : (bytes : List ℕ) (at n k : ℕ) (after : Reading) → at ≤ length bytes → AreBytes bytes → n < length (drop at bytes) → Advances (record { kind = Text; done = []; stage = Code }) (take n (drop at bytes)) after → RefusesItem Text after.stage (slice_index (drop at bytes) n) k → IsBadText bytes at (at + n - k)
text_at bytes at n k after start small within a r =
    let came = take n (drop at bytes) in
    let c : IsInItem Text r.part r.left r.begun came = subst (λ s. HasCome Text s came) r.inside (come_to Text bytes at n after small (omega arith) a) in
    let sound : SoundStage Text (Inside r.part r.left r.begun) = subst (λ s. SoundStage Text s) r.inside (runs_sound Text Code after.stage came a.gained a.runs tt (take_bytes n (drop at bytes) (drop_bytes at bytes small) (omega arith))) in
    let p = parted bytes at n c.before (begun_bytes r.begun) within c.bytes_are in
    let place : at + n - k ≡ at + length c.before = ap (λ x. at + n - x) r.len_is ∙ p.place in
    let most = begun_within Text bytes at n k after small within a r in
    let inside = rest_inside at n bytes start within in
    record {
      after = omega (arith, place);
      within = omega (arith, most, inside);
      part = r.part;
      left = r.left;
      behind = subst (λ x. IsBeforeItem Text r.part r.left x) (before_is c.before (begun_bytes r.begun ++ slice_index (drop at bytes) n ∷ p.rest) (at + n - k) p.parts place) c.place;
      begins = subst (λ x. BeginsNoItem Text r.left x) (sym (behind_is c.before (begun_bytes r.begun ++ slice_index (drop at bytes) n ∷ p.rest) (at + n - k) p.parts place)) (no_item Text r.left r.begun (slice_index (drop at bytes) n) p.rest sound.2 r.wrong);
    }
  where
    before_is : (before rest : List ℕ) (q : ℕ) → drop at bytes ≡ before ++ rest → q ≡ at + length before → before ≡ slice_range bytes at q
    before_is before rest q e f = sym (ap (λ x. take (x - at) (drop at bytes)) f ∙ ap (λ x. take x (drop at bytes)) (let m : at + length before - at ≡ length before = omega arith in m) ∙ ap (take (length before)) e ∙ take-append_seam before rest)

    behind_is : (before rest : List ℕ) (q : ℕ) → drop at bytes ≡ before ++ rest → q ≡ at + length before → drop q bytes ≡ rest
    behind_is before rest q e f = ap (λ x. drop x bytes) f ∙ sym (drop-drop (length before) at bytes) ∙ ap (drop (length before)) e ∙ drop-append_seam before rest

pub item_at : (kind : Kind) (bytes : List ℕ) (at n k : ℕ) (after : Reading) → at ≤ length bytes → AreBytes bytes → n < length (drop at bytes) → Advances (record { kind = kind; done = []; stage = Code }) (take n (drop at bytes)) after → RefusesItem kind after.stage (slice_index (drop at bytes) n) k → (kind ≡ Text) × IsBadText bytes at (at + n - k)
item_at Text bytes at n k after start small within a r = (refl, text_at bytes at n k after start small within a r)
item_at Binary bytes at n k after start small within a r = absurd (let e : item_step Binary r.left r.begun (slice_index (drop at bytes) n) ≡ Wrong = r.wrong in cc)

-- a fresh reading led here
pub from_start : (kind : Kind) (start after : Reading) (xs : List ℕ) → start ≡ record { kind = kind; done = []; stage = Code } → Advances start xs after → Advances (record { kind = kind; done = []; stage = Code }) xs after
from_start kind start after xs e a = subst (λ r. Advances r xs after) e a

pub same_kind : (kind : Kind) (start : Reading) → start ≡ record { kind = kind; done = []; stage = Code } → start.kind ≡ kind
same_kind kind start e = ap (λ r. r.kind) e

-- ---- what came, and what is to come

pub goes_on : (kind : Kind) (after : Reading) (bytes value rest : List ℕ) → AreBytes bytes → Advances (record { kind = kind; done = []; stage = Code }) bytes after → Spelling kind value (bytes ++ rest) ↔ Spells after value rest
goes_on kind after bytes value rest small a = (λ s. forth (runs_forward kind Code after.stage bytes rest a.gained value a.runs tt small s), λ s. back s)
  where
    forth : Later kind after.stage a.gained value rest → Spells after value rest
    forth l = record { more = l.more; value_is = l.value_is ∙ ap (λ x. x ++ l.more) (sym a.done); completes = subst (λ k. Completes k after.stage l.more rest) (sym a.kind) l.completes }

    back : Spells after value rest → Spelling kind value (bytes ++ rest)
    back s = subst (λ v. Spelling kind v (bytes ++ rest)) (sym (s.value_is ∙ ap (λ x. x ++ s.more) a.done)) (runs_back kind Code after.stage bytes rest a.gained s.more a.runs tt small (subst (λ k. Completes k after.stage s.more rest) a.kind s.completes))
