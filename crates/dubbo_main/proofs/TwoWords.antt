-- The second word of a command line.
use Rattle.std.proofs.Common.{◌≡◌, ℕ, ◌≤◌, List, [], ◌∷◌, map, length, codes, ap, sym, ◌∙◌, arith, Global, get_or}
use Rattle.std.specs.Prelude.{String, string_bytes}
use Rattle.dubbo_main.specs.Words.{HasSecond, IsPlay}

second_of : (first second word : List ℕ) → (name : List ℕ) × (first ∷ second ∷ [] ≡ name ∷ word ∷ []) → second ≡ word
second_of first second word same = ap (λ words. get_or words 1 []) same.1

-- two words are the program's name and `play` exactly where the second is `play`
pub IsPlay-two : (words : List (String Global)) (second : String Global) → length words ≡ 2 → second ≡ get_or words 1 second → (IsPlay (map string_bytes words) → string_bytes second ≡ codes "play") × (string_bytes second ≡ codes "play" → IsPlay (map string_bytes words))
IsPlay-two [] second two is = absurd (omega (arith, two))
IsPlay-two (a ∷ []) second two is = absurd (omega (arith, two))
IsPlay-two (a ∷ b ∷ c ∷ more) second two is = absurd (omega (arith, two))
IsPlay-two (a ∷ b ∷ []) second two is = (
  λ play. ap string_bytes is ∙ second_of (string_bytes a) (string_bytes b) (codes "play") play,
  λ same. (string_bytes a, ap (λ w. string_bytes a ∷ w ∷ []) (sym (ap string_bytes is) ∙ same)),
)

second_is : (first second word : List ℕ) (more : List (List ℕ)) → HasSecond word (first ∷ second ∷ more) → second ≡ word
second_is first second word more has = ap (λ words. get_or words 1 []) has.2

-- the second of two words or more is this one exactly where they have it as their second
pub HasSecond-up : (words : List (String Global)) (second : String Global) (word : List ℕ) → 2 ≤ length words → second ≡ get_or words 1 second → (HasSecond word (map string_bytes words) → string_bytes second ≡ word) × (string_bytes second ≡ word → HasSecond word (map string_bytes words))
HasSecond-up [] second word two is = absurd (omega (arith, two))
HasSecond-up (a ∷ []) second word two is = absurd (omega (arith, two))
HasSecond-up (a ∷ b ∷ more) second word two is = (
  λ has. ap string_bytes is ∙ second_is (string_bytes a) (string_bytes b) word (map string_bytes more) has,
  λ same. (string_bytes a, map string_bytes more, ap (λ w. string_bytes a ∷ w ∷ map string_bytes more) (sym (ap string_bytes is) ∙ same)),
)
