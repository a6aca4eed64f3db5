-- What stands at a place of bytes, what stands behind it, and how far it reaches.
use Rattle.std.proofs.Common.{◌≡◌, ◌↔◌, ℕ, ℤ, ◌+◌, ◌-◌, ◌<◌, ◌≤◌, Result, Ok, Err, true, false, IsErr, IfOk, IfSome, List, ◌++◌, length, take, drop, Option, Some, None, refl, sym, ap, subst, ◌∙◌, append_assoc, length-append, length-drop, drop-drop, arith}
use Rattle.std.proofs.Math.Seq.{drop-append_seam, take-append_seam}
use Rattle.std.specs.Result.{result_ok}
use Rattle.hessian_scalars.specs.declared.fault.ScalarFault.{ScalarFault}
use Rattle.hessian_scalars.specs.declared.scalar.Scalar.{Scalar}
use Rattle.hessian_scalars.specs.declared.scalar.Scalar.TheVariants as scalars
use Rattle.hessian_scalars.specs.ScalarSpelling.{ScalarSpelling}
use Rattle.hessian_scalars.specs.ScalarSpelling.ScalarSpelling.{null, no, yes, int_in_code, int_and_byte, int_and_two, int_whole, long_in_code, long_and_byte, long_and_two, long_as_int, long_whole, date_in_millis, date_in_minutes}
use Rattle.hessian_scalars.specs.Read.{IsSpelledAt}
use Rattle.hessian_text.specs.declared.stage.Kind.TheVariants.{Text}
use Rattle.hessian_text.specs.Spelling.{Spelling, IsSpelledAt as IsTextAt}
use Rattle.hessian_text.specs.Written.{WrittenText}
use Rattle.hessian_text.proofs.TextBack.{text_spells}
use Rattle.dubbo_play.specs.FirstFrames.{WrittenTexts}
use Rattle.dubbo_play.specs.FirstFrames.WrittenTexts.{none, more}
use Rattle.dubbo_play.specs.FirstRun.{SkipsText, SkipsTexts}

pub behind : (bytes a b : List ℕ) (at : ℕ) → drop at bytes ≡ a ++ b → drop (at + length a) bytes ≡ b
behind bytes a b at e = sym (drop-drop (length a) at bytes) ∙ ap (drop (length a)) e ∙ drop-append_seam a b

pub reaches : (bytes a b : List ℕ) (at : ℕ) → at ≤ length bytes → drop at bytes ≡ a ++ b → at + length a ≤ length bytes
reaches bytes a b at l e = omega (arith, length-drop at bytes, ap length e, length-append a b)

taken : (xs s rest : List ℕ) (at : ℕ) → xs ≡ s ++ rest → take (at + length s - at) xs ≡ s
taken xs s rest at e =
    let n : at + length s - at ≡ length s = omega arith in
    rw (n, e) (take-append_seam s rest)

pub spelled_at : (bytes s rest : List ℕ) (at : ℕ) (v : Scalar) → at ≤ length bytes → drop at bytes ≡ s ++ rest →
    ScalarSpelling v s → IsSpelledAt bytes at v (at + length s)
spelled_at bytes s rest at v l e p = record {
  within = reaches bytes s rest at l e;
  spells = subst (λ (x : List ℕ). ScalarSpelling v x) (sym (taken (drop at bytes) s rest at e)) p;
}

-- a spelling has at most nine bytes
pub spelling_short : (v : Scalar) (s : List ℕ) → ScalarSpelling v s → length s ≤ 9
spelling_short v s null = omega arith
spelling_short v s no = omega arith
spelling_short v s yes = omega arith
spelling_short v s (int_in_code code z i e) = omega arith
spelling_short v s (int_and_byte code b0 z i l e) = omega arith
spelling_short v s (int_and_two code b1 b0 z i l k e) = omega arith
spelling_short v s (int_whole b3 b2 b1 b0 z f e) = omega arith
spelling_short v s (long_in_code code z i e) = omega arith
spelling_short v s (long_and_byte code b0 z i l e) = omega arith
spelling_short v s (long_and_two code b1 b0 z i l k e) = omega arith
spelling_short v s (long_as_int b3 b2 b1 b0 z f e) = omega arith
spelling_short v s (long_whole b7 b6 b5 b4 b3 b2 b1 b0 z g f e) = omega arith
spelling_short v s (date_in_millis b7 b6 b5 b4 b3 b2 b1 b0 z g f e) = omega arith
spelling_short v s (date_in_minutes b3 b2 b1 b0 z f e) = omega arith

-- texts

pub text_there : (bytes text written rest : List ℕ) (at : ℕ) → at ≤ length bytes → WrittenText text written → drop at bytes ≡ written ++ rest →
    IsTextAt Text bytes at text (at + length written)
text_there bytes text written rest at l w e = record {
  after = omega arith;
  within = reaches bytes written rest at l e;
  spells = subst (λ (x : List ℕ). Spelling Text text x) (sym (taken (drop at bytes) written rest at e)) (text_spells text written w);
}

-- where texts are left, one is there, and the others behind it
pub some_texts : (bytes : List ℕ) (at count : ℕ) (texts : List (List ℕ)) (written rest : List ℕ) (found all : Option ℕ) → 0 < count → length texts ≡ count → WrittenTexts texts written →
    drop at bytes ≡ written ++ rest → SkipsText bytes at found →
    ((place : ℕ) → found ≡ Some place → SkipsTexts (count - 1) bytes place all) → (found ≡ None → ⊥) × (all ≡ Some (at + length written))
some_texts bytes at count texts written rest found all l n none e f g = absurd (omega arith)
some_texts bytes at count texts written rest found all l n (more text others first later w ws) e f g =
    let ahead : drop at bytes ≡ first ++ (later ++ rest) = e ∙ append_assoc first later rest in
    let is : found ≡ Some (at + length first) = f text first (later ++ rest) w ahead in
    let next : all ≡ Some (at + length first + length later) =
    g (at + length first) is others later rest (omega arith) ws (behind bytes first (later ++ rest) at ahead) in
    let sum : at + length first + length later ≡ at + length (first ++ later) = omega (arith, length-append first later) in
    ((λ (no : found ≡ None). cc), next ∙ ap Some sum)

-- what the reader of one text gives where it refuses
pub refused_text : {E : Type 0} (bytes : List ℕ) (at : ℕ) (r : Result (Option ℕ) E) →
    ((text written rest : List ℕ) → WrittenText text written → drop at bytes ≡ written ++ rest → IsErr r) → IfOk r (SkipsText bytes at)
refused_text bytes at (Ok found) f = λ text written rest w e. (let no : false ≡ true = f text written rest w e in cc)
refused_text bytes at (Err fault) f = tt

pub texts_go : {E : Type 0} (bytes : List ℕ) (at count place : ℕ) (found : Option ℕ) (r : Result (Option ℕ) E) → 0 < count → SkipsText bytes at found → found ≡ Some place →
    IfOk r (SkipsTexts (count - 1) bytes place) → IfOk r (SkipsTexts count bytes at)
texts_go bytes at count place found (Ok all) l f is g = λ texts written rest n w e.
    (some_texts bytes at count texts written rest found all l n w e f (λ (p : ℕ) (there : found ≡ Some p).
    (let same : place ≡ p = cc in subst (λ (x : ℕ). SkipsTexts (count - 1) bytes x all) same g))).1
texts_go bytes at count place found (Err fault) l f is g = tt

pub texts_stop : (bytes : List ℕ) (at count : ℕ) (found : Option ℕ) → 0 < count → SkipsText bytes at found → found ≡ None → SkipsTexts count bytes at None
texts_stop bytes at count found l f is = λ texts written rest n w e.
    absurd ((some_texts bytes at count texts written rest found None l n w e f (λ (p : ℕ) (there : found ≡ Some p). absurd (let no : None ≡ Some p = sym is ∙ there in cc))).0 is)

-- an int that was read ends within the bytes
pub int_within : (bytes : List ℕ) (at : ℕ) (read : Result (ℤ × ℕ) ScalarFault) →
    ((v : ℤ) (end : ℕ) → (read ≡ Ok (v, end)) ↔ IsSpelledAt bytes at (scalars.Int v) end) →
    IfSome (result_ok read) (λ found. found.1 ≤ length bytes)
int_within bytes at (Ok p) f = ((f p.0 p.1).0 refl).within
int_within bytes at (Err e) f = tt
