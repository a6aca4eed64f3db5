-- The words of a line and what follows them are determined by its bytes.
use Rattle.std.proofs.Common.{◌≡◌, ◌≢◌, ℕ, List, ◌∷◌, ◌++◌, length, get_or, IsUtf8, inl, inr, sym, ap, ◌∙◌, arith, append_assoc, codes}
use Rattle.std.specs.Int.{IsInRange}
use Rattle.std.specs.List.{All}
use Rattle.std.proofs.lemmas.Bool.{cases_lt}
use Rattle.std.proofs.lemmas.List.{append_cancel_left, get_or_past}
use Rattle.std.proofs.lemmas.Str.{IsUtf8-from_ascii}
use Rattle.dubbo_play.proofs.Cuts.{cut_once}
use Rattle.dubbo_play.specs.FirstForm.{IsWord, target_text}

-- a word has no space
pub unspaced : (word : List ℕ) → IsWord word → All (λ byte. byte ≢ 32) word
unspaced word is = λ k d within same.
    let shown : IsInRange 0x21 0x7e (get_or word k d) = is.shown k d within in
    omega (arith, shown.0, same)

-- a word is a text
pub word_is_text : (word : List ℕ) → IsWord word → IsUtf8 word
word_is_text word is = IsUtf8-from_ascii word (λ i. elim (cases_lt i (length word)) [
  | inl within ↦ (let shown : IsInRange 0x21 0x7e (get_or word i 0) = is.shown i 0 within in omega (arith, shown.1))
  | inr past ↦ rw (get_or_past word i 0 past) (omega arith)
])

-- two words that end at a space are the same
pub word_once : (word word' rest rest' : List ℕ) → IsWord word → IsWord word' → word ++ 32 ∷ rest ≡ word' ++ 32 ∷ rest'
    → (word ≡ word') × (rest ≡ rest')
word_once word word' rest rest' is is' same = cut_once 32 word word' rest rest' (unspaced word is) (unspaced word' is') same

-- the text of a target and what follows it, as it is cut from the front
pub spread : (path method rest : List ℕ) → target_text path method ++ rest
    ≡ path ++ 32 ∷ (codes "- " ++ (method ++ 32 ∷ (codes "Ljava/lang/Object; " ++ rest)))
spread path method rest = append_assoc path _ rest ∙ ap (λ t. path ++ (codes " - " ++ t)) (append_assoc method _ rest)

-- what follows the path
pub behind_path : (bytes path rest p m r : List ℕ) → IsWord path → IsWord p → bytes ≡ path ++ 32 ∷ rest → bytes ≡ target_text p m ++ r
    → (p ≡ path) × (rest ≡ codes "- " ++ (m ++ 32 ∷ (codes "Ljava/lang/Object; " ++ r)))
behind_path bytes path rest p m r is is' here there =
    let both = word_once p path _ rest is' is (sym (spread p m r) ∙ sym there ∙ here) in (both.0, sym both.1)

-- what follows the path and the method
pub behind_method : (bytes path method last p m r : List ℕ) → IsWord path → IsWord p → IsWord method → IsWord m
    → bytes ≡ path ++ 32 ∷ (codes "- " ++ (method ++ 32 ∷ last)) → bytes ≡ target_text p m ++ r
    → (p ≡ path) × (m ≡ method) × (last ≡ codes "Ljava/lang/Object; " ++ r)
behind_method bytes path method last p m r is is' ism ism' here there =
    let front = behind_path bytes path _ p m r is is' here there in
    let both = word_once m method _ last ism' ism (append_cancel_left (codes "- ") _ _ (sym front.1)) in
    (front.0, both.0, sym both.1)

-- two targets at the front of the same bytes are the same
pub target_once : (path method rest p m r : List ℕ) → IsWord path → IsWord p → IsWord method → IsWord m
    → target_text path method ++ rest ≡ target_text p m ++ r → (path ≡ p) × (method ≡ m) × (rest ≡ r)
target_once path method rest p m r is is' ism ism' same =
    let all = behind_method (target_text path method ++ rest) path method _ p m r is is' ism ism' (spread path method rest) same in
    (sym all.0, sym all.1, append_cancel_left (codes "Ljava/lang/Object; ") _ _ all.2)
