-- Inside a text or a binary one byte is refused at most, and none where a whole one stands.
use Rattle.std.proofs.Common.{◌≡◌, ℕ, ◌+◌, ◌-◌, List, [], ◌∷◌, ◌++◌, length, take, refl, sym, ap, ◌∙◌, subst, arith, length-append, append_assoc, ◌⊎◌, inl, inr}
use Rattle.std.specs.Prelude.{slice_index}
use Rattle.std.proofs.Math.Seq.{take-append_seam}
use Rattle.hessian_graph.specs.Refusal.{Cause, BadCode, BadText}
use Rattle.hessian_text.specs.declared.stage.Kind.{Kind}
use Rattle.hessian_text.specs.declared.stage.Kind.TheVariants as kinds
use Rattle.hessian_text.specs.declared.fault.TextFault.TheVariants as texts
use Rattle.hessian_text.specs.declared.fault.BinaryFault.TheVariants as binaries
use Rattle.hessian_text.specs.Spelling.{AreBytes, Spelling, IsSpelledAt}
use Rattle.hessian_text.specs.Refusal.{IsBadCode, IsBadText}
use Rattle.hessian_text.proofs.OneAnswer.{one_text_fault, one_binary_fault, text_or_fault, binary_or_fault}
use Rattle.hessian_reader.proofs.LexChunks.{small_more}
use Rattle.hessian_reader.proofs.LeafBytes.{no_bytes, cons_bytes, spelling_bytes}
use Rattle.hessian_reader.proofs.AnyList.{HasOdd, bytes_or_odd, code_moves, character_moves}
use Rattle.hessian_reader.proofs.InsideLeaf.{Inside}
use Rattle.hessian_reader.proofs.InsideLeaf.Inside.{in_code, in_character}

-- ---- one fault

odd_bytes : (front : List ℕ) → AreBytes front → AreBytes (front ++ (255 ∷ []))
odd_bytes front small = small_more front (255 ∷ []) small (cons_bytes 255 [] (omega arith) no_bytes)

code_place_is : (p q c d : ℕ) → texts.BadCode p c ≡ texts.BadCode q d → p ≡ q
code_place_is p q c d e = cc

binary_place_is : (p q c d : ℕ) → binaries.BadCode p c ≡ binaries.BadCode q d → p ≡ q
binary_place_is p q c d e = cc

character_place_is : (p q : ℕ) → texts.BadText p ≡ texts.BadText q → p ≡ q
character_place_is p q e = cc

code_places : (kind : Kind) (element : List ℕ) (p q c d : ℕ) → AreBytes element → IsBadCode kind element 0 p c → IsBadCode kind element 0 q d → p ≡ q
code_places kinds.Text element p q c d small r s = code_place_is p q c d (one_text_fault element 0 (texts.BadCode p c) (texts.BadCode q d) small r s (λ e. cc) (λ e. cc))
code_places kinds.Binary element p q c d small r s = binary_place_is p q c d (one_binary_fault element 0 (binaries.BadCode p c) (binaries.BadCode q d) small r s (λ e. cc) (λ e. cc))

any_code_places : (kind : Kind) (element : List ℕ) (p q c d : ℕ) → IsBadCode kind element 0 p c → IsBadCode kind element 0 q d → p ≡ q
any_code_places kind element p q c d r s = by_bytes (bytes_or_odd element)
  where
    by_bytes : AreBytes element ⊎ HasOdd element → p ≡ q
    by_bytes (inl small) = code_places kind element p q c d small r s
    by_bytes (inr o) =
        code_places kind (o.front ++ (255 ∷ [])) p q _ _ (odd_bytes o.front o.small)
        (code_moves kind o.front o.odd o.behind p c o.large (subst (λ l. IsBadCode kind l 0 p c) o.parts r))
        (code_moves kind o.front o.odd o.behind q d o.large (subst (λ l. IsBadCode kind l 0 q d) o.parts s))

any_character_places : (element : List ℕ) (p q : ℕ) → IsBadText element 0 p → IsBadText element 0 q → p ≡ q
any_character_places element p q r s = by_bytes (bytes_or_odd element)
  where
    places : (bytes : List ℕ) → AreBytes bytes → IsBadText bytes 0 p → IsBadText bytes 0 q → p ≡ q
    places bytes small x y = character_place_is p q (one_text_fault bytes 0 (texts.BadText p) (texts.BadText q) small x y (λ e. cc) (λ e. cc))

    by_bytes : AreBytes element ⊎ HasOdd element → p ≡ q
    by_bytes (inl small) = places element small r s
    by_bytes (inr o) =
        places (o.front ++ (255 ∷ [])) (odd_bytes o.front o.small)
        (character_moves o.front o.odd o.behind p o.large (subst (λ l. IsBadText l 0 p) o.parts r))
        (character_moves o.front o.odd o.behind q o.large (subst (λ l. IsBadText l 0 q) o.parts s))

code_no_character : (element : List ℕ) (p q c : ℕ) → IsBadCode kinds.Text element 0 p c → IsBadText element 0 q → ⊥
code_no_character element p q c r s = by_bytes (bytes_or_odd element)
  where
    apart : (bytes : List ℕ) (d : ℕ) → AreBytes bytes → IsBadCode kinds.Text bytes 0 p d → IsBadText bytes 0 q → ⊥
    apart bytes d small x y = let e : texts.BadCode p d ≡ texts.BadText q = one_text_fault bytes 0 (texts.BadCode p d) (texts.BadText q) small x y (λ e. cc) (λ e. cc) in cc

    by_bytes : AreBytes element ⊎ HasOdd element → ⊥
    by_bytes (inl small) = apart element c small r s
    by_bytes (inr o) =
        apart (o.front ++ (255 ∷ [])) _ (odd_bytes o.front o.small)
        (code_moves kinds.Text o.front o.odd o.behind p c o.large (subst (λ l. IsBadCode kinds.Text l 0 p c) o.parts r))
        (character_moves o.front o.odd o.behind q o.large (subst (λ l. IsBadText l 0 q) o.parts s))

code_causes : (start : ℕ) (element : List ℕ) (kind : Kind) (p q a b : ℕ) → IsBadCode kind element 0 p a → IsBadCode kind element 0 q b → BadCode (start + p) a ≡ BadCode (start + q) b
code_causes start element kind p q a b r s =
    let same = any_code_places kind element p q a b r s in
    let codes : a ≡ b = r.code_is ∙ ap (slice_index element) same ∙ sym s.code_is in
    rw (same, codes) refl

pub one_inside : (start : ℕ) (element : List ℕ) (kind other : Kind) (c d : Cause) → kind ≡ other → Inside start element kind c → Inside start element other d → c ≡ d
one_inside start element kind other c d same (in_code k p a c1 r e) (in_code l q b d1 s h) = e ∙ code_causes start element k p q a b r (subst (λ x. IsBadCode x element 0 q b) (sym same) s) ∙ sym h
one_inside start element kind other c d same (in_code k p a c1 r e) (in_character q d1 s h) = absurd (code_no_character element p q a (subst (λ x. IsBadCode x element 0 p a) same r) s)
one_inside start element kind other c d same (in_character p c1 r e) (in_code l q b d1 s h) = absurd (code_no_character element q p b (subst (λ x. IsBadCode x element 0 q b) (sym same) s) r)
one_inside start element kind other c d same (in_character p c1 r e) (in_character q d1 s h) = e ∙ ap (λ n. BadText (start + n)) (any_character_places element p q r s) ∙ sym h

-- ---- none where a leaf stands

less_none : (n : ℕ) → n - 0 ≡ n
less_none n = omega arith

spelled_front : (kind : Kind) (value el m : List ℕ) → Spelling kind value el → IsSpelledAt kind (el ++ m) 0 value (length el)
spelled_front kind value el m s = record {
  after = omega arith;
  within = let k = length-append el m in omega (arith, k);
  spells = subst (Spelling kind value) (sym (ap (λ n. take n (el ++ m)) (less_none (length el)) ∙ take-append_seam el m)) s;
}

no_code_there : (kind : Kind) (value el m : List ℕ) (p c : ℕ) → AreBytes (el ++ m) → Spelling kind value el → IsBadCode kind (el ++ m) 0 p c → ⊥
no_code_there kinds.Text value el m p c small s r = let e : texts.BadCode p c ≡ texts.OutOfMemory = text_or_fault (el ++ m) value 0 (length el) (texts.BadCode p c) small (spelled_front kinds.Text value el m s) r in cc
no_code_there kinds.Binary value el m p c small s r = let e : binaries.BadCode p c ≡ binaries.OutOfMemory = binary_or_fault (el ++ m) value 0 (length el) (binaries.BadCode p c) small (spelled_front kinds.Binary value el m s) r in cc

no_character_there : (value el m : List ℕ) (p : ℕ) → AreBytes (el ++ m) → Spelling kinds.Text value el → IsBadText (el ++ m) 0 p → ⊥
no_character_there value el m p small s r = let e : texts.BadText p ≡ texts.OutOfMemory = text_or_fault (el ++ m) value 0 (length el) (texts.BadText p) small (spelled_front kinds.Text value el m s) r in cc

module _ (kind : Kind) (value el m : List ℕ) (small : AreBytes el) (s : Spelling kind value el) (o : HasOdd m) where
  abbrev front : List ℕ
  front = el ++ o.front

  parted : el ++ m ≡ front ++ (o.odd ∷ o.behind)
  parted = ap (λ x. el ++ x) o.parts ∙ sym (append_assoc el o.front (o.odd ∷ o.behind))

  joined : front ++ (255 ∷ []) ≡ el ++ (o.front ++ (255 ∷ []))
  joined = append_assoc el o.front (255 ∷ [])

  all_small : AreBytes (el ++ (o.front ++ (255 ∷ [])))
  all_small = small_more el (o.front ++ (255 ∷ [])) small (odd_bytes o.front o.small)

  no_code_before : (p c : ℕ) → IsBadCode kind (el ++ m) 0 p c → ⊥
  no_code_before p c r = no_code_there kind value el (o.front ++ (255 ∷ [])) p _ all_small s (subst (λ l. IsBadCode kind l 0 p (slice_index (front ++ (255 ∷ [])) p)) joined (code_moves kind front o.odd o.behind p c o.large (subst (λ l. IsBadCode kind l 0 p c) parted r)))

  no_character_before : kind ≡ kinds.Text → (p : ℕ) → IsBadText (el ++ m) 0 p → ⊥
  no_character_before e p r = no_character_there value el (o.front ++ (255 ∷ [])) p all_small (subst (λ k. Spelling k value el) e s) (subst (λ l. IsBadText l 0 p) joined (character_moves front o.odd o.behind p o.large (subst (λ l. IsBadText l 0 p) parted r)))

not_inside_by : (start : ℕ) (kind : Kind) (value el m element : List ℕ) (c : Cause) → element ≡ el ++ m → AreBytes el → Spelling kind value el → AreBytes m ⊎ HasOdd m → Inside start element kind c → ⊥
not_inside_by start kind value el m element c joined low s (inl small) (in_code k p a c1 r e) = no_code_there k value el m p a (small_more el m low small) s (subst (λ l. IsBadCode k l 0 p a) joined r)
not_inside_by start kind value el m element c joined low s (inr o) (in_code k p a c1 r e) = no_code_before k value el m low s o p a (subst (λ l. IsBadCode k l 0 p a) joined r)
not_inside_by start kind value el m element c joined low s (inl small) (in_character p c1 r e) = no_character_there value el m p (small_more el m low small) s (subst (λ l. IsBadText l 0 p) joined r)
not_inside_by start kind value el m element c joined low s (inr o) (in_character p c1 r e) = no_character_before kinds.Text value el m low s o refl p (subst (λ l. IsBadText l 0 p) joined r)

-- no leaf of the kind is a front of such bytes
pub not_inside : (start : ℕ) (kind : Kind) (value el m : List ℕ) (c : Cause) → Spelling kind value el → Inside start (el ++ m) kind c → ⊥
not_inside start kind value el m c s r = not_inside_by start kind value el m (el ++ m) c refl (spelling_bytes kind value el s) s (bytes_or_odd m) r
