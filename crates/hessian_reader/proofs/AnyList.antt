-- A refusal inside a text or a binary stands in the bytes before the first number that is no byte, or at it.
use Rattle.std.proofs.Common.{◌≡◌, ℕ, zero, suc, ◌-◌, ◌<◌, ◌≤◌, List, [], ◌∷◌, ◌++◌, length, take, drop, refl, sym, ap, ◌∙◌, subst, arith, append_assoc, length-append, ◌⊎◌, inl, inr}
use Rattle.std.specs.Prelude.{Some, None, slice_index, slice_range}
use Rattle.std.proofs.lemmas.Bool.{cases_lt}
use Rattle.std.proofs.lemmas.List.{append-nil, take-append-drop, length-take-le}
use Rattle.std.proofs.Math.Seq.{take-append_seam, get_or-append_seam}
use Rattle.hessian_text.specs.declared.stage.Kind.{Kind}
use Rattle.hessian_text.specs.declared.stage.Kind.TheVariants as kinds
use Rattle.hessian_text.specs.declared.stage.Part.{Part}
use Rattle.hessian_text.specs.Spelling.{AreBytes}
use Rattle.hessian_text.specs.Refusal.{InnerChunks, IsBeforeItem, BeginsNothing, BeginsNoItem, IsBadCode, IsBadText}
use Rattle.hessian_text.specs.Refusal.InnerChunks.{none as i_none, chunk as i_chunk}
use Rattle.hessian_text.proofs.Shapes.{Shape, to_shape}
use Rattle.hessian_text.proofs.Shapes.Shape.{one, two, three, four, surrogates}
use Rattle.hessian_reader.proofs.LeafCodes.{chunk_kind}
use Rattle.hessian_reader.proofs.LexChunks.{small_more}
use Rattle.hessian_reader.proofs.LeafBytes.{no_bytes, cons_bytes, contents_bytes, head_bytes}
use Rattle.hessian_reader.proofs.OneWay.{Fronts, fronts, bytes_rest}
use Rattle.hessian_reader.proofs.OneWay.Fronts.{first_shorter, second_shorter}

-- ---- the first number that is no byte

pub record HasOdd (numbers : List ℕ) : Type 0 where
  pub front : List ℕ
  pub odd : ℕ
  pub behind : List ℕ
  pub parts : numbers ≡ front ++ (odd ∷ behind)
  pub small : AreBytes front
  pub large : 256 ≤ odd

pub bytes_or_odd : (numbers : List ℕ) → AreBytes numbers ⊎ HasOdd numbers
bytes_or_odd [] = inl no_bytes
bytes_or_odd (x ∷ xs) = by_first (cases_lt x 256) (bytes_or_odd xs)
  where
    by_first : (x < 256) ⊎ (256 ≤ x) → AreBytes xs ⊎ HasOdd xs → AreBytes (x ∷ xs) ⊎ HasOdd (x ∷ xs)
    by_first (inr h) more = inr (record { front = []; odd = x; behind = xs; parts = refl; small = no_bytes; large = h })
    by_first (inl h) (inl more) = inl (cons_bytes x xs h more)
    by_first (inl h) (inr o) = inr (record { front = x ∷ o.front; odd = o.odd; behind = o.behind; parts = ap (λ l. x ∷ l) o.parts; small = cons_bytes x o.front h o.small; large = o.large })

-- bytes at the front end before it
pub record IsBefore (s d front : List ℕ) (b : ℕ) (rest : List ℕ) : Type 0 where
  pub between : List ℕ
  pub front_is : front ≡ s ++ between
  pub behind_is : d ≡ between ++ (b ∷ rest)

head_same : (x y : ℕ) (xs ys : List ℕ) → x ∷ xs ≡ y ∷ ys → x ≡ y
head_same x y xs ys e = cc

first_small : (x : ℕ) (xs : List ℕ) → AreBytes (x ∷ xs) → x < 256
first_small x xs small = small.small 0 (omega arith)

pub ends_before : (s d front : List ℕ) (b : ℕ) (rest : List ℕ) → s ++ d ≡ front ++ (b ∷ rest) → AreBytes s → 256 ≤ b → IsBefore s d front b rest
ends_before s d front b rest e small large = by_fronts (fronts s d front (b ∷ rest) e)
  where
    by_fronts : Fronts s d front (b ∷ rest) → IsBefore s d front b rest
    by_fronts (first_shorter k x y) = record { between = k; front_is = x; behind_is = y }
    by_fronts (second_shorter [] x y) = record { between = []; front_is = sym (append-nil front) ∙ sym x ∙ sym (append-nil s); behind_is = sym y }
    by_fronts (second_shorter (c ∷ k) x y) = absurd (let low = first_small c k (bytes_rest front (c ∷ k) (subst AreBytes x small)) in let same = head_same b c rest (k ++ d) y in omega (arith, low, same, large))

-- ---- what stands before a refusal is bytes

inner_bytes : (kind : Kind) (bytes : List ℕ) → InnerChunks kind bytes → AreBytes bytes
inner_bytes kind bytes i_none = no_bytes
inner_bytes kind bytes (i_chunk value head forms rest units h c more) = small_more head (forms ++ rest) (head_bytes kind _ units head h) (small_more forms rest (contents_bytes kind value units forms c) (inner_bytes kind rest more))

item_front_bytes : {part : Part} (left : ℕ) (bytes : List ℕ) → IsBeforeItem kinds.Text part left bytes → AreBytes bytes
item_front_bytes left bytes b = subst AreBytes (sym b.bytes_are) (small_more b.chunks (b.head ++ b.forms) (inner_bytes kinds.Text b.chunks b.earlier) (small_more b.head b.forms (head_bytes kinds.Text _ b.stated b.head b.begins) (contents_bytes kinds.Text b.value b.units b.forms b.contents)))

-- ---- 255 begins nothing, and stands in no character

nothing_begins : (kind : Kind) → BeginsNothing kind 255
nothing_begins kind value more s = let k = chunk_kind kind value more 255 s in let e : None ≡ Some kind = k in cc

abbrev AreBelow : List ℕ → Type 0
AreBelow [] = Unit {0}
AreBelow (x ∷ xs) = (x < 255) × AreBelow xs

shape_below : (value : List ℕ) (units : ℕ) (form : List ℕ) → Shape value units form → AreBelow form
shape_below value units form (one a h) = (omega (arith, h), tt)
shape_below value units form (two a b i j) = (omega (arith, i.high), (omega (arith, j.high), tt))
shape_below value units form (three a b c t) = (omega (arith, t.first.high), (omega (arith, t.second.high), (omega (arith, t.third.high), tt)))
shape_below value units form (four a b c d t) = (omega (arith, t.first.high), (omega (arith, t.second.high), (omega (arith, t.third.high), (omega (arith, t.fourth.high), tt))))
shape_below value units form (surrogates a b c d e f v t is) = (omega (arith, t.first), (omega (arith, t.second.high), (omega (arith, t.third.high), (omega (arith, t.fourth), (omega (arith, t.fifth.high), (omega (arith, t.sixth.high), tt))))))

not_below : (g k : List ℕ) → AreBelow (g ++ (255 ∷ k)) → ⊥
not_below [] k b = let h = b.0 in omega (arith, h)
not_below (x ∷ g) k b = not_below g k b.1

-- ---- the refusal stands also where 255 stands in place of the number and of what follows

less_none : (n : ℕ) → n - 0 ≡ n
less_none n = omega arith

module _ (front : List ℕ) (b : ℕ) (rest : List ℕ) (p : ℕ) (large : 256 ≤ b) (within : p < length (front ++ (b ∷ rest))) (small : AreBytes (slice_range (front ++ (b ∷ rest)) 0 p)) where
  abbrev old : List ℕ
  old = front ++ (b ∷ rest)

  abbrev new : List ℕ
  new = front ++ (255 ∷ [])

  abbrev slice : List ℕ
  slice = slice_range (front ++ (b ∷ rest)) 0 p

  q : IsBefore (slice_range (front ++ (b ∷ rest)) 0 p) (drop (p - 0) (front ++ (b ∷ rest))) front b rest
  q = ends_before slice (drop (p - 0) old) front b rest (take-append-drop (p - 0) old) small large

  slice_length : length slice ≡ p
  slice_length = let k : length (take (p - 0) old) ≡ p - 0 = length-take-le (p - 0) old (omega (arith, within)) in omega (arith, k)

  new_is : new ≡ slice ++ (q.between ++ (255 ∷ []))
  new_is = ap (λ x. x ++ (255 ∷ [])) q.front_is ∙ append_assoc slice q.between (255 ∷ [])

  old_is : old ≡ slice ++ (q.between ++ (b ∷ rest))
  old_is = ap (λ x. x ++ (b ∷ rest)) q.front_is ∙ append_assoc slice q.between (b ∷ rest)

  pub within_new : p < length new
  within_new =
      let n = ap length new_is in
      let m = length-append slice (q.between ++ (255 ∷ [])) in
      let k = length-append q.between (255 ∷ []) in
      let s = slice_length in
      omega (arith, n, m, k, s)

  pub same_slice : slice_range new 0 p ≡ slice
  same_slice = ap (λ n. take n new) (less_none p ∙ sym slice_length) ∙ ap (take (length slice)) new_is ∙ take-append_seam slice (q.between ++ (255 ∷ []))

  drop_seam : (ys : List ℕ) → drop p (slice ++ ys) ≡ ys
  drop_seam ys = drop_by slice ys p slice_length
    where
      drop_by : (xs zs : List ℕ) (n : ℕ) → length xs ≡ n → drop n (xs ++ zs) ≡ zs
      drop_by [] zs zero e = refl
      drop_by [] zs (suc n) e = absurd (omega (arith, e))
      drop_by (x ∷ xs) zs zero e = absurd (omega (arith, e))
      drop_by (x ∷ xs) zs (suc n) e = drop_by xs zs n (omega (arith, e))

  index_seam : (x : ℕ) (ys : List ℕ) → slice_index (slice ++ (x ∷ ys)) p ≡ x
  index_seam x ys = ap (slice_index (slice ++ (x ∷ ys))) (sym slice_length) ∙ get_or-append_seam slice x ys 0

  pub new_code : (kind : Kind) (c : ℕ) → c ≡ slice_index old p → BeginsNothing kind c → BeginsNothing kind (slice_index new p)
  new_code kind c e n = by_between q.between new_is old_is
    where
      by_between : (k : List ℕ) → new ≡ slice ++ (k ++ (255 ∷ [])) → old ≡ slice ++ (k ++ (b ∷ rest)) → BeginsNothing kind (slice_index new p)
      by_between [] f g = subst (BeginsNothing kind) (sym (ap (λ l. slice_index l p) f ∙ index_seam 255 [])) (nothing_begins kind)
      by_between (x ∷ k) f g = subst (BeginsNothing kind) (e ∙ ap (λ l. slice_index l p) g ∙ index_seam x (k ++ (b ∷ rest)) ∙ sym (index_seam x (k ++ (255 ∷ []))) ∙ sym (ap (λ l. slice_index l p) f)) n

  pub new_item : (left : ℕ) → BeginsNoItem kinds.Text left (drop p old) → BeginsNoItem kinds.Text left (drop p new)
  new_item left none value form more after units item fits e = by_fronts (fronts q.between (255 ∷ more) form after (sym (append_assoc q.between (255 ∷ []) more) ∙ ap (λ x. x ++ more) (sym (ap (drop p) new_is ∙ drop_seam (q.between ++ (255 ∷ [])))) ∙ e))
    where
      old_drop : drop p old ≡ q.between ++ (b ∷ rest)
      old_drop = ap (drop p) old_is ∙ drop_seam (q.between ++ (b ∷ rest))

      item_below : AreBelow form
      item_below = shape_below value units form (to_shape value units form item)

      refused : (k : List ℕ) → q.between ≡ form ++ k → ⊥
      refused k f = none value form [] (k ++ (b ∷ rest)) units item fits (append-nil (drop p old) ∙ old_drop ∙ ap (λ x. x ++ (b ∷ rest)) f ∙ append_assoc form k (b ∷ rest))

      by_fronts : Fronts q.between (255 ∷ more) form after → ⊥
      by_fronts (second_shorter k f g) = refused k f
      by_fronts (first_shorter [] f g) = refused [] (sym (append-nil q.between) ∙ sym f ∙ sym (append-nil form))
      by_fronts (first_shorter (x ∷ k) f g) = not_below q.between k (subst AreBelow (f ∙ ap (λ y. q.between ++ (y ∷ k)) (sym (head_same 255 x more (k ++ after) g))) item_below)

pub code_moves : (kind : Kind) (front : List ℕ) (b : ℕ) (rest : List ℕ) (p c : ℕ) → 256 ≤ b → IsBadCode kind (front ++ (b ∷ rest)) 0 p c → IsBadCode kind (front ++ (255 ∷ [])) 0 p (slice_index (front ++ (255 ∷ [])) p)
code_moves kind front b rest p c large h =
    let small = inner_bytes kind (slice_range (front ++ (b ∷ rest)) 0 p) h.behind in
    record {
      after = h.after;
      within = within_new front b rest p large h.within small;
      behind = subst (InnerChunks kind) (sym (same_slice front b rest p large h.within small)) h.behind;
      code_is = refl;
      begins = new_code front b rest p large h.within small kind c h.code_is h.begins;
    }

pub character_moves : (front : List ℕ) (b : ℕ) (rest : List ℕ) (p : ℕ) → 256 ≤ b → IsBadText (front ++ (b ∷ rest)) 0 p → IsBadText (front ++ (255 ∷ [])) 0 p
character_moves front b rest p large h =
    let small = item_front_bytes h.left (slice_range (front ++ (b ∷ rest)) 0 p) h.behind in
    record {
      after = h.after;
      within = within_new front b rest p large h.within small;
      part = h.part;
      left = h.left;
      behind = subst (IsBeforeItem kinds.Text h.part h.left) (sym (same_slice front b rest p large h.within small)) h.behind;
      begins = new_item front b rest p large h.within small h.left h.begins;
    }
