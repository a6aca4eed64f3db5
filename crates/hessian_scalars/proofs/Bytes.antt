-- Lists of bytes, and their fronts.
use Rattle.std.proofs.Common.{◌≡◌, ℕ, zero, suc, ◌-◌, ◌<◌, ◌≤◌, List, [], ◌∷◌, ◌++◌, length, take, min, refl, ap, ◌∙◌, arith}
use Rattle.std.proofs.lemmas.List.{take-take, take_min}
use Rattle.hessian_scalars.specs.declared.scalar.Scalar.{Scalar}
use Rattle.hessian_scalars.specs.ScalarSpelling.{AreBytes, ScalarSpelling}
use Rattle.hessian_scalars.specs.ScalarSpelling.ScalarSpelling.{null, no, yes, int_in_code, int_and_byte, int_and_two, int_whole, long_in_code, long_and_byte, long_and_two, long_as_int, long_whole, date_in_millis, date_in_minutes}
use Rattle.hessian_scalars.proofs.Whole.{IsBytes}

pub IsBytes-nil : IsBytes []
IsBytes-nil i = omega arith

IsBytes-cons : (b : ℕ) (bs : List ℕ) → b < 256 → IsBytes bs → IsBytes (b ∷ bs)
IsBytes-cons b bs l fits zero = l
IsBytes-cons b bs l fits (suc i) = fits i

pub IsBytes-append : (a b : List ℕ) → IsBytes a → IsBytes b → IsBytes (a ++ b)
IsBytes-append [] b f g i = g i
IsBytes-append (x ∷ a) b f g zero = f 0
IsBytes-append (x ∷ a) b f g (suc i) = IsBytes-append a b (λ j. f (suc j)) g i

pub IsBytes-front : (a b : List ℕ) → IsBytes (a ++ b) → IsBytes a
IsBytes-front [] b f i = omega arith
IsBytes-front (x ∷ a) b f zero = f 0
IsBytes-front (x ∷ a) b f (suc i) = IsBytes-front a b (λ j. f (suc j)) i

IsBytes-one : (b : ℕ) → b < 256 → IsBytes (b ∷ [])
IsBytes-one b l = IsBytes-cons b [] l IsBytes-nil

pub IsBytes-four : (b3 b2 b1 b0 : ℕ) (bs : List ℕ) → AreBytes b3 b2 b1 b0 → IsBytes bs → IsBytes (b3 ∷ b2 ∷ b1 ∷ b0 ∷ bs)
IsBytes-four b3 b2 b1 b0 bs f fits = IsBytes-cons b3 (b2 ∷ b1 ∷ b0 ∷ bs) f.highest (IsBytes-cons b2 (b1 ∷ b0 ∷ bs) f.high (IsBytes-cons b1 (b0 ∷ bs) f.low (IsBytes-cons b0 bs f.lowest fits)))

-- a spelling is of bytes
pub IsBytes-spelled : (v : Scalar) (s : List ℕ) → ScalarSpelling v s → IsBytes s
IsBytes-spelled v s null = IsBytes-one 0x4e (omega arith)
IsBytes-spelled v s no = IsBytes-one 0x46 (omega arith)
IsBytes-spelled v s yes = IsBytes-one 0x54 (omega arith)
IsBytes-spelled v s (int_in_code c z i e) = IsBytes-one c (omega (arith, i.below))
IsBytes-spelled v s (int_and_byte c b0 z i l e) = IsBytes-cons c (b0 ∷ []) (omega (arith, i.below)) (IsBytes-one b0 l)
IsBytes-spelled v s (int_and_two c b1 b0 z i k l e) = IsBytes-cons c (b1 ∷ b0 ∷ []) (omega (arith, i.below)) (IsBytes-cons b1 (b0 ∷ []) k (IsBytes-one b0 l))
IsBytes-spelled v s (int_whole b3 b2 b1 b0 z f e) = IsBytes-cons 0x49 (b3 ∷ b2 ∷ b1 ∷ b0 ∷ []) (omega arith) (IsBytes-four b3 b2 b1 b0 [] f IsBytes-nil)
IsBytes-spelled v s (long_in_code c z i e) = IsBytes-one c (omega (arith, i.below))
IsBytes-spelled v s (long_and_byte c b0 z i l e) = IsBytes-cons c (b0 ∷ []) (omega (arith, i.below)) (IsBytes-one b0 l)
IsBytes-spelled v s (long_and_two c b1 b0 z i k l e) = IsBytes-cons c (b1 ∷ b0 ∷ []) (omega (arith, i.below)) (IsBytes-cons b1 (b0 ∷ []) k (IsBytes-one b0 l))
IsBytes-spelled v s (long_as_int b3 b2 b1 b0 z f e) = IsBytes-cons 0x59 (b3 ∷ b2 ∷ b1 ∷ b0 ∷ []) (omega arith) (IsBytes-four b3 b2 b1 b0 [] f IsBytes-nil)
IsBytes-spelled v s (long_whole b7 b6 b5 b4 b3 b2 b1 b0 z g f e) = IsBytes-cons 0x4c (b7 ∷ b6 ∷ b5 ∷ b4 ∷ b3 ∷ b2 ∷ b1 ∷ b0 ∷ []) (omega arith) (IsBytes-four b7 b6 b5 b4 (b3 ∷ b2 ∷ b1 ∷ b0 ∷ []) g (IsBytes-four b3 b2 b1 b0 [] f IsBytes-nil))
IsBytes-spelled v s (date_in_millis b7 b6 b5 b4 b3 b2 b1 b0 z g f e) = IsBytes-cons 0x4a (b7 ∷ b6 ∷ b5 ∷ b4 ∷ b3 ∷ b2 ∷ b1 ∷ b0 ∷ []) (omega arith) (IsBytes-four b7 b6 b5 b4 (b3 ∷ b2 ∷ b1 ∷ b0 ∷ []) g (IsBytes-four b3 b2 b1 b0 [] f IsBytes-nil))
IsBytes-spelled v s (date_in_minutes b3 b2 b1 b0 z f e) = IsBytes-cons 0x4b (b3 ∷ b2 ∷ b1 ∷ b0 ∷ []) (omega arith) (IsBytes-four b3 b2 b1 b0 [] f IsBytes-nil)

-- ---- a front that reaches behind a first part

pub take-behind : (n : ℕ) (a b : List ℕ) → length a ≤ n → take n (a ++ b) ≡ a ++ take (n - length a) b
take-behind n [] b l = let e : n - 0 ≡ n = omega arith in rw e refl
take-behind zero (x ∷ a) b l = absurd (omega arith)
take-behind (suc n) (x ∷ a) b l =
    let e : suc n - suc (length a) ≡ n - length a = omega arith in
    rw e (ap (λ (k : List ℕ). x ∷ k) (take-behind n a b (omega arith)))

-- the room that is left takes as much of a piece as all of it would
pub take_room : (k n : ℕ) (piece : List ℕ) → n ≡ min (length piece) k → take k (take n piece) ≡ take k piece
take_room k n piece e =
    let least : n ≡ min k (length piece) = omega arith in
    let taken : take n piece ≡ take k piece = ap (λ (m : ℕ). take m piece) least ∙ take_min k piece in
    ap (take k) taken ∙ take-take k k piece (omega arith)
