-- One byte of a character: what it is where a character goes on, and which characters go on with it.
use Rattle.std.proofs.Common.{◌≡◌, ℕ, ◌<◌, ◌≤◌, arith}
use Rattle.std.proofs.lemmas.Bool.Decides.{nat_tests}
use Rattle.hessian_text.specs.declared.stage.Begun.{Begun}
use Rattle.hessian_text.specs.declared.stage.Begun.TheVariants.{One, Two, Three, Four, Five}
use Rattle.hessian_text.specs.declared.stage.Letter.{Letter}
use Rattle.hessian_text.specs.declared.stage.Letter.TheVariants.{Single, Pair, Triple, Quad}
use Rattle.hessian_text.specs.declared.step.Item.TheVariants.{Grows, Whole}
use Rattle.hessian_text.specs.ChunkHead.{IsCode}
use Rattle.hessian_text.specs.Sound.{IsLead, IsLeadTwo, IsLeadThree, IsLeadFour, IsLeadFive}
use Rattle.hessian_text.specs.Steps.{within, pair_code, quad_of, first_byte, second_byte, third_byte, fourth_byte}
use Rattle.hessian_text.proofs.Shapes.{IsThree, IsFour, IsPair}

-- ---- a form, byte by byte

pub ahead_one : (left a : ℕ) → a < 0x80 → first_byte left a ≡ Whole (Single a)
ahead_one left a h = grind (arith, nat_tests)

pub ahead_lead : (left a : ℕ) → IsCode 0xc2 0xef a → first_byte left a ≡ Grows (One a)
ahead_lead left a h = grind (arith, nat_tests)

pub ahead_high_lead : (left a : ℕ) → IsCode 0xf0 0xf4 a → 2 ≤ left → first_byte left a ≡ Grows (One a)
ahead_high_lead left a h two = grind (arith, nat_tests)

pub ahead_two : (left a b : ℕ) → IsCode 0xc2 0xdf a → IsCode 0x80 0xbf b → second_byte left a b ≡ Whole (Pair a b)
ahead_two left a b h k = grind (arith, nat_tests)

pub ahead_three_second : (left a b c : ℕ) → IsThree a b c → second_byte left a b ≡ Grows (Two a b)
ahead_three_second left a b c t = grind (arith, nat_tests)

pub ahead_three : (a b c : ℕ) → IsThree a b c → third_byte a b c ≡ Whole (Triple a b c)
ahead_three a b c t = grind (arith, nat_tests)

pub ahead_four_second : (left a b c d : ℕ) → IsFour a b c d → second_byte left a b ≡ Grows (Two a b)
ahead_four_second left a b c d t = grind (arith, nat_tests)

pub ahead_four_third : (a b c d : ℕ) → IsFour a b c d → third_byte a b c ≡ Grows (Three a b c)
ahead_four_third a b c d t = grind (arith, nat_tests)

pub ahead_four : (a b c d : ℕ) → IsFour a b c d → fourth_byte a b c d ≡ Whole (Quad a b c d)
ahead_four a b c d t = grind (arith, nat_tests)

pub ahead_pair_second : (left a b c d e f : ℕ) → IsPair a b c d e f → 2 ≤ left → second_byte left a b ≡ Grows (Two a b)
ahead_pair_second left a b c d e f t two = grind (arith, nat_tests)

pub ahead_pair_third : (a b c d e f : ℕ) → IsPair a b c d e f → third_byte a b c ≡ Grows (Three a b c)
ahead_pair_third a b c d e f t = grind (arith, nat_tests)

pub ahead_pair_fourth : (a b c d e f : ℕ) → IsPair a b c d e f → fourth_byte a b c d ≡ Grows (Four a b c d)
ahead_pair_fourth a b c d e f t = grind (arith, nat_tests)

pub ahead_pair_fifth : (a b c d e f : ℕ) → IsPair a b c d e f → within 0xb0 0xbf e (Grows (Five a b c d e)) ≡ Grows (Five a b c d e)
ahead_pair_fifth a b c d e f t = grind (arith, nat_tests)

pub ahead_pair : (a b c d e f : ℕ) → IsPair a b c d e f → within 0x80 0xbf f (Whole (quad_of (pair_code b c e f))) ≡ Whole (quad_of (pair_code b c e f))
ahead_pair a b c d e f t = grind (arith, nat_tests)

-- ---- what a byte makes of the first bytes of a character

pub whole_first : (left a : ℕ) (w : Letter) → first_byte left a ≡ Whole w → w ≡ Single a
whole_first left a w e = grind (arith, nat_tests)

pub whole_first_range : (left a : ℕ) (w : Letter) → first_byte left a ≡ Whole w → a < 0x80
whole_first_range left a w e = grind (arith, nat_tests)

pub grows_first : (left a : ℕ) (p : Begun) → first_byte left a ≡ Grows p → p ≡ One a
grows_first left a p e = grind (arith, nat_tests)

pub grows_first_low : (left a : ℕ) (p : Begun) → first_byte left a ≡ Grows p → 0xc2 ≤ a
grows_first_low left a p e = grind (arith, nat_tests)

pub grows_first_high : (left a : ℕ) (p : Begun) → first_byte left a ≡ Grows p → a ≤ 0xf4
grows_first_high left a p e = grind (arith, nat_tests)

pub grows_first_fits : (left a : ℕ) (p : Begun) → first_byte left a ≡ Grows p → 0xf0 ≤ a → 2 ≤ left
grows_first_fits left a p e h = grind (arith, nat_tests)

pub whole_second : (left a b : ℕ) (w : Letter) → second_byte left a b ≡ Whole w → w ≡ Pair a b
whole_second left a b w e = grind (arith, nat_tests)

pub whole_second_range : (left a b : ℕ) (w : Letter) → second_byte left a b ≡ Whole w → a ≤ 0xdf
whole_second_range left a b w e = grind (arith, nat_tests)

pub whole_second_low : (left a b : ℕ) (w : Letter) → second_byte left a b ≡ Whole w → 0x80 ≤ b
whole_second_low left a b w e = grind (arith, nat_tests)

pub whole_second_high : (left a b : ℕ) (w : Letter) → second_byte left a b ≡ Whole w → b ≤ 0xbf
whole_second_high left a b w e = grind (arith, nat_tests)

pub grows_second : (left a b : ℕ) (p : Begun) → second_byte left a b ≡ Grows p → p ≡ Two a b
grows_second left a b p e = grind (arith, nat_tests)

pub second_two : (left a b : ℕ) (p : Begun) → IsLead left a → second_byte left a b ≡ Grows p → IsLeadTwo left a b
second_two left a b p l e = record {
  range = record { low = grind (arith, nat_tests); high = grind (arith, nat_tests) };
  second = record { low = grind (arith, nat_tests); high = grind (arith, nat_tests) };
  fits = l.fits;
  least = λ h. grind (arith, nat_tests);
  most = λ h. grind (arith, nat_tests);
  pair = λ h k. grind (arith, nat_tests);
  least_four = λ h. grind (arith, nat_tests);
  most_four = λ h. grind (arith, nat_tests);
}

pub grows_third : (a b c : ℕ) (p : Begun) → third_byte a b c ≡ Grows p → p ≡ Three a b c
grows_third a b c p e = grind (arith, nat_tests)

pub third_three : (left a b c : ℕ) (p : Begun) → IsLeadTwo left a b → third_byte a b c ≡ Grows p → IsLeadThree left a b c
third_three left a b c p l e = record {
  two = l;
  third = record { low = grind (arith, nat_tests); high = grind (arith, nat_tests) };
  longer = λ h. grind (arith, nat_tests);
  high = λ h. grind (arith, nat_tests);
}

pub whole_third : (a b c : ℕ) (w : Letter) → third_byte a b c ≡ Whole w → w ≡ Triple a b c
whole_third a b c w e = grind (arith, nat_tests)

pub third_whole : (left a b c : ℕ) (w : Letter) → IsLeadTwo left a b → third_byte a b c ≡ Whole w → IsThree a b c
third_whole left a b c w l e = record {
  first = record { low = l.range.low; high = grind (arith, nat_tests) };
  second = l.second;
  third = record { low = grind (arith, nat_tests); high = grind (arith, nat_tests) };
  least = l.least;
  no_surrogate = λ h. grind (arith, nat_tests);
}

pub grows_fourth : (a b c d : ℕ) (p : Begun) → fourth_byte a b c d ≡ Grows p → p ≡ Four a b c d
grows_fourth a b c d p e = grind (arith, nat_tests)

pub fourth_four : (left a b c d : ℕ) (p : Begun) → IsLeadThree left a b c → fourth_byte a b c d ≡ Grows p → IsLeadFour left a b c d
fourth_four left a b c d p l e = record { three = l; first = grind (arith, nat_tests); fourth = grind (arith, nat_tests) }

pub whole_fourth : (a b c d : ℕ) (w : Letter) → fourth_byte a b c d ≡ Whole w → w ≡ Quad a b c d
whole_fourth a b c d w e = grind (arith, nat_tests)

pub fourth_whole : (left a b c d : ℕ) (w : Letter) → IsLeadThree left a b c → fourth_byte a b c d ≡ Whole w → IsFour a b c d
fourth_whole left a b c d w l e = record {
  first = record { low = grind (arith, nat_tests); high = l.two.range.high };
  second = l.two.second;
  third = l.third;
  fourth = record { low = grind (arith, nat_tests); high = grind (arith, nat_tests) };
  least = l.two.least_four;
  most = l.two.most_four;
}

pub grows_fifth : (a b c d e : ℕ) (p : Begun) → within 0xb0 0xbf e (Grows (Five a b c d e)) ≡ Grows p → p ≡ Five a b c d e
grows_fifth a b c d e p h = grind (arith, nat_tests)

pub fifth_five : (left a b c d e : ℕ) (p : Begun) → IsLeadFour left a b c d → within 0xb0 0xbf e (Grows (Five a b c d e)) ≡ Grows p → IsLeadFive left a b c d e
fifth_five left a b c d e p l h = record { four = l; fifth = record { low = grind (arith, nat_tests); high = grind (arith, nat_tests) } }

pub whole_fifth : (a b c d e : ℕ) (w : Letter) → within 0xb0 0xbf e (Grows (Five a b c d e)) ≡ Whole w → ⊥
whole_fifth a b c d e w h = grind (arith, nat_tests)

pub grows_sixth : (b c e f : ℕ) (p : Begun) → within 0x80 0xbf f (Whole (quad_of (pair_code b c e f))) ≡ Grows p → ⊥
grows_sixth b c e f p h = grind (arith, nat_tests)

pub whole_sixth : (b c e f : ℕ) (w : Letter) → within 0x80 0xbf f (Whole (quad_of (pair_code b c e f))) ≡ Whole w → w ≡ quad_of (pair_code b c e f)
whole_sixth b c e f w h = grind (arith, nat_tests)

pub sixth_whole : (left a b c d e f : ℕ) (w : Letter) → IsLeadFive left a b c d e → within 0x80 0xbf f (Whole (quad_of (pair_code b c e f))) ≡ Whole w → IsPair a b c d e f
sixth_whole left a b c d e f w l h = record {
  first = l.four.first;
  second = record { low = pair_low l.four.three; high = l.four.three.two.most l.four.first };
  third = l.four.three.third;
  fourth = l.four.fourth;
  fifth = l.fifth;
  sixth = record { low = grind (arith, nat_tests); high = grind (arith, nat_tests) };
}
  where
    pair_low : IsLeadThree left a b c → 0xa0 ≤ b
    pair_low t = t.high (let k : a ≡ 0xed = l.four.first in omega arith)

pub five_fits : (left a b c d e : ℕ) → IsLeadFive left a b c d e → 2 ≤ left
five_fits left a b c d e l = l.four.three.two.pair l.four.first (l.four.three.high (let k : a ≡ 0xed = l.four.first in omega arith))

pub three_fits : (left a b c : ℕ) → IsLeadThree left a b c → 2 ≤ left
three_fits left a b c l = grind arith
