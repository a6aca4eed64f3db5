-- One byte of an item, forwards and back.
use Rattle.std.proofs.Common.{◌≡◌, ℕ, ◌<◌, ◌≤◌, List, [], ◌∷◌, ◌++◌, refl, sym, ap, ◌∙◌, subst, arith, inl, inr}
use lib.Utf8.{encode}
use Rattle.std.proofs.lemmas.Bool.{cases_lt}
use Rattle.std.proofs.lemmas.Bool.Decides.{nat_tests}
use Rattle.hessian_text.specs.declared.stage.Kind.{Kind}
use Rattle.hessian_text.specs.declared.stage.Kind.TheVariants.{Text, Binary}
use Rattle.hessian_text.specs.declared.stage.Begun.{Begun}
use Rattle.hessian_text.specs.declared.stage.Begun.TheVariants.{Nothing, One, Two, Three, Four, Five}
use Rattle.hessian_text.specs.declared.stage.Letter.{Letter}
use Rattle.hessian_text.specs.declared.stage.Letter.TheVariants.{Single, Pair, Triple, Quad}
use Rattle.hessian_text.specs.declared.step.Item.{Item}
use Rattle.hessian_text.specs.declared.step.Item.TheVariants.{Grows, Whole, Wrong}
use Rattle.hessian_text.specs.ChunkHead.{IsCode}
use Rattle.hessian_text.specs.Items.{IsItem, IsCharacter, IsByte}
use Rattle.hessian_text.specs.Residual.{begun_bytes}
use Rattle.hessian_text.specs.Sound.{SoundBegun, IsLead, IsLeadTwo, IsLeadThree, IsLeadFour, IsLeadFive}
use Rattle.hessian_text.specs.Steps.{within, pair_code, quad_of, letter_bytes, letter_units, first_byte, second_byte, third_byte, fourth_byte, item_step}
use Rattle.hessian_text.proofs.Shapes.{IsThree, IsFour, IsPair, Shape, to_shape, encode_four, of_one, of_two, of_three, of_four, of_pair}
use Rattle.hessian_text.proofs.Shapes.Shape.{one, two, three, four, surrogates}
use Rattle.hessian_text.proofs.ItemSteps.{ahead_one, ahead_lead, ahead_high_lead, ahead_two, ahead_three_second, ahead_three, ahead_four_second, ahead_four_third, ahead_four, ahead_pair_second, ahead_pair_third, ahead_pair_fourth, ahead_pair_fifth, ahead_pair, whole_first, whole_first_range, grows_first, grows_first_low, grows_first_high, grows_first_fits, whole_second, whole_second_range, whole_second_low, whole_second_high, grows_second, second_two, grows_third, third_three, whole_third, third_whole, grows_fourth, fourth_four, whole_fourth, fourth_whole, grows_fifth, fifth_five, whole_fifth, grows_sixth, whole_sixth, sixth_whole, five_fits, three_fits}

-- ---- forwards: an item that goes on with b

pub data Goes (item : Item) (begun : Begun) (b : ℕ) (bs value : List ℕ) (units : ℕ) (rest : List ℕ) : Type 0 where
  grown : (p : Begun) → item ≡ Grows p → begun_bytes p ≡ begun_bytes begun ++ b ∷ [] → Goes item begun b bs value units rest
  ended : (w : Letter) → item ≡ Whole w → letter_bytes w ≡ value → letter_units w ≡ units → rest ≡ bs → Goes item begun b bs value units rest

head_is : (x y : ℕ) (xs ys : List ℕ) → x ∷ xs ≡ y ∷ ys → x ≡ y
head_is x y xs ys e = cc

tail_is : (x y : ℕ) (xs ys : List ℕ) → x ∷ xs ≡ y ∷ ys → xs ≡ ys
tail_is x y xs ys e = cc

same_one : (left a x : ℕ) (t bs : List ℕ) → a < 0x80 → a ∷ t ≡ x ∷ bs → Goes (first_byte left x) Nothing x bs (a ∷ []) 1 t
same_one left a x t bs h e = subst (λ y. Goes (first_byte left y) Nothing y bs (a ∷ []) 1 t) (head_is a x t bs e) (ended (Single a) (ahead_one left a h) refl refl (tail_is a x t bs e))

lead : (left a x : ℕ) (t bs value rest : List ℕ) (units : ℕ) → first_byte left a ≡ Grows (One a) → a ∷ t ≡ x ∷ bs → Goes (first_byte left x) Nothing x bs value units rest
lead left a x t bs value rest units h e = subst (λ y. Goes (first_byte left y) Nothing y bs value units rest) (head_is a x t bs e) (grown (One a) h refl)

-- two lists that begin alike
pub record SameTwo (a b x y : ℕ) (t u : List ℕ) : Type 0 where
  pub first : a ≡ x
  pub second : b ≡ y
  pub rest : t ≡ u

same_two : (a b x y : ℕ) (t u : List ℕ) → a ∷ b ∷ t ≡ x ∷ y ∷ u → SameTwo a b x y t u
same_two a b x y t u e = record { first = cc; second = cc; rest = cc }

second_goes : (left a b x y : ℕ) (t bs value rest : List ℕ) (units : ℕ) → second_byte left a b ≡ Grows (Two a b) → a ∷ b ∷ t ≡ x ∷ y ∷ bs → Goes (second_byte left x y) (One x) y bs value units rest
second_goes left a b x y t bs value rest units h e = let s = same_two a b x y t bs e in subst (λ z. Goes (second_byte left z y) (One z) y bs value units rest) s.first (subst (λ z. Goes (second_byte left a z) (One a) z bs value units rest) s.second (grown (Two a b) h refl))

second_ends : (left a b x y : ℕ) (t bs : List ℕ) → second_byte left a b ≡ Whole (Pair a b) → a ∷ b ∷ t ≡ x ∷ y ∷ bs → Goes (second_byte left x y) (One x) y bs (a ∷ b ∷ []) 1 t
second_ends left a b x y t bs h e = let s = same_two a b x y t bs e in subst (λ z. Goes (second_byte left z y) (One z) y bs (a ∷ b ∷ []) 1 t) s.first (subst (λ z. Goes (second_byte left a z) (One a) z bs (a ∷ b ∷ []) 1 t) s.second (ended (Pair a b) h refl refl s.rest))

pub record SameThree (a b c x y z : ℕ) (t u : List ℕ) : Type 0 where
  pub first : a ≡ x
  pub second : b ≡ y
  pub third : c ≡ z
  pub rest : t ≡ u

same_three : (a b c x y z : ℕ) (t u : List ℕ) → a ∷ b ∷ c ∷ t ≡ x ∷ y ∷ z ∷ u → SameThree a b c x y z t u
same_three a b c x y z t u e = record { first = cc; second = cc; third = cc; rest = cc }

third_goes : (a b c x y z : ℕ) (t bs value rest : List ℕ) (units : ℕ) → third_byte a b c ≡ Grows (Three a b c) → a ∷ b ∷ c ∷ t ≡ x ∷ y ∷ z ∷ bs → Goes (third_byte x y z) (Two x y) z bs value units rest
third_goes a b c x y z t bs value rest units h e = let s = same_three a b c x y z t bs e in rw (sym s.first, sym s.second, sym s.third) (grown (Three a b c) h refl)

third_ends : (a b c x y z : ℕ) (t bs : List ℕ) → third_byte a b c ≡ Whole (Triple a b c) → a ∷ b ∷ c ∷ t ≡ x ∷ y ∷ z ∷ bs → Goes (third_byte x y z) (Two x y) z bs (a ∷ b ∷ c ∷ []) 1 t
third_ends a b c x y z t bs h e = let s = same_three a b c x y z t bs e in rw (sym s.first, sym s.second, sym s.third) (ended (Triple a b c) h refl refl s.rest)

pub record SameFour (a b c d x y z w : ℕ) (t u : List ℕ) : Type 0 where
  pub first : a ≡ x
  pub second : b ≡ y
  pub third : c ≡ z
  pub fourth : d ≡ w
  pub rest : t ≡ u

same_four : (a b c d x y z w : ℕ) (t u : List ℕ) → a ∷ b ∷ c ∷ d ∷ t ≡ x ∷ y ∷ z ∷ w ∷ u → SameFour a b c d x y z w t u
same_four a b c d x y z w t u e = record { first = cc; second = cc; third = cc; fourth = cc; rest = cc }

fourth_goes : (a b c d x y z w : ℕ) (t bs value rest : List ℕ) (units : ℕ) → fourth_byte a b c d ≡ Grows (Four a b c d) → a ∷ b ∷ c ∷ d ∷ t ≡ x ∷ y ∷ z ∷ w ∷ bs → Goes (fourth_byte x y z w) (Three x y z) w bs value units rest
fourth_goes a b c d x y z w t bs value rest units h e = let s = same_four a b c d x y z w t bs e in rw (sym s.first, sym s.second, sym s.third, sym s.fourth) (grown (Four a b c d) h refl)

fourth_ends : (a b c d x y z w : ℕ) (t bs : List ℕ) → fourth_byte a b c d ≡ Whole (Quad a b c d) → a ∷ b ∷ c ∷ d ∷ t ≡ x ∷ y ∷ z ∷ w ∷ bs → Goes (fourth_byte x y z w) (Three x y z) w bs (a ∷ b ∷ c ∷ d ∷ []) 2 t
fourth_ends a b c d x y z w t bs h e = let s = same_four a b c d x y z w t bs e in rw (sym s.first, sym s.second, sym s.third, sym s.fourth) (ended (Quad a b c d) h refl refl s.rest)

fifth_goes : (a b c d e x y z w v : ℕ) (t bs value rest : List ℕ) (units : ℕ) → within 0xb0 0xbf e (Grows (Five a b c d e)) ≡ Grows (Five a b c d e) → a ∷ b ∷ c ∷ d ∷ e ∷ t ≡ x ∷ y ∷ z ∷ w ∷ v ∷ bs → Goes (within 0xb0 0xbf v (Grows (Five x y z w v))) (Four x y z w) v bs value units rest
fifth_goes a b c d e x y z w v t bs value rest units h k =
    let first : a ≡ x = cc in let second : b ≡ y = cc in let third : c ≡ z = cc in let fourth : d ≡ w = cc in let fifth : e ≡ v = cc in
    rw (sym first, sym second, sym third, sym fourth, sym fifth) (grown (Five a b c d e) h refl)

quad_pair : (b c e f : ℕ) → letter_bytes (quad_of (pair_code b c e f)) ≡ encode (pair_code b c e f)
quad_pair b c e f = sym (encode_four (pair_code b c e f) (omega arith))

sixth_ends : (a b c d e f x y z w v u : ℕ) (t bs value : List ℕ) → within 0x80 0xbf f (Whole (quad_of (pair_code b c e f))) ≡ Whole (quad_of (pair_code b c e f)) → a ∷ b ∷ c ∷ d ∷ e ∷ f ∷ t ≡ x ∷ y ∷ z ∷ w ∷ v ∷ u ∷ bs → value ≡ encode (pair_code b c e f) → Goes (within 0x80 0xbf u (Whole (quad_of (pair_code y z v u)))) (Five x y z w v) u bs value 2 t
sixth_ends a b c d e f x y z w v u t bs value h k is =
    let second : b ≡ y = cc in let third : c ≡ z = cc in let fifth : e ≡ v = cc in let sixth : f ≡ u = cc in let rest : t ≡ bs = cc in
    rw (sym second, sym third, sym fifth, sym sixth) (ended (quad_of (pair_code b c e f)) h (quad_pair b c e f ∙ sym is) refl rest)

-- a first byte that does not fit what came
not_first : (a x : ℕ) (xs ys : List ℕ) → a ∷ xs ≡ x ∷ ys → (a ≡ x → ⊥) → ⊥
not_first a x xs ys e n = n (head_is a x xs ys e)

second_is : (a b x y : ℕ) (xs ys : List ℕ) → a ∷ b ∷ xs ≡ x ∷ y ∷ ys → b ≡ y
second_is a b x y xs ys e = cc

text_forward : (left : ℕ) (begun : Begun) (b units : ℕ) (value form rest bs : List ℕ) → Shape value units form → SoundBegun Text left begun → units ≤ left → form ++ rest ≡ begun_bytes begun ++ b ∷ bs → Goes (item_step Text left begun b) begun b bs value units rest
text_forward left Nothing x units value form rest bs (one a h) s fit e = same_one left a x rest bs h e
text_forward left (One y) x units value form rest bs (one a h) s fit e = absurd (not_first a y _ _ e (λ k. omega (arith, s.range.low)))
text_forward left (Two y z) x units value form rest bs (one a h) s fit e = absurd (not_first a y _ _ e (λ k. omega (arith, s.range.low)))
text_forward left (Three y z w) x units value form rest bs (one a h) s fit e = absurd (not_first a y _ _ e (λ k. omega (arith, s.two.range.low)))
text_forward left (Four y z w v) x units value form rest bs (one a h) s fit e = absurd (not_first a y _ _ e (λ k. omega (arith, s.first)))
text_forward left (Five y z w v u) x units value form rest bs (one a h) s fit e = absurd (not_first a y _ _ e (λ k. omega (arith, s.four.first)))
text_forward left Nothing x units value form rest bs (two a b h k) s fit e = lead left a x _ bs _ _ _ (ahead_lead left a (record { low = h.low; high = omega arith })) e
text_forward left (One y) x units value form rest bs (two a b h k) s fit e = second_ends left a b y x rest bs (ahead_two left a b h k) e
text_forward left (Two y z) x units value form rest bs (two a b h k) s fit e = absurd (not_first a y _ _ e (λ k. omega (arith, s.range.low)))
text_forward left (Three y z w) x units value form rest bs (two a b h k) s fit e = absurd (not_first a y _ _ e (λ k. omega (arith, s.two.range.low)))
text_forward left (Four y z w v) x units value form rest bs (two a b h k) s fit e = absurd (not_first a y _ _ e (λ k. omega (arith, s.first)))
text_forward left (Five y z w v u) x units value form rest bs (two a b h k) s fit e = absurd (not_first a y _ _ e (λ k. omega (arith, s.four.first)))
text_forward left Nothing x units value form rest bs (three a b c h) s fit e = lead left a x _ bs _ _ _ (ahead_lead left a (record { low = omega (arith, h.first.low); high = h.first.high })) e
text_forward left (One y) x units value form rest bs (three a b c h) s fit e = second_goes left a b y x _ bs _ _ _ (ahead_three_second left a b c h) e
text_forward left (Two y z) x units value form rest bs (three a b c h) s fit e = third_ends a b c y z x rest bs (ahead_three a b c h) e
text_forward left (Three y z w) x units value form rest bs (three a b c h) s fit e = absurd (not_three a b c y z w left h s (head_is a y _ _ e) (second_is a b y z _ _ e))
  where
    not_three : (a b c y z w left : ℕ) → IsThree a b c → IsLeadThree left y z w → a ≡ y → b ≡ z → ⊥
    not_three a b c y z w left h s p q = grind arith
text_forward left (Four y z w v) x units value form rest bs (three a b c h) s fit e = absurd (not_four a b c y z w v left h s (head_is a y _ _ e) (second_is a b y z _ _ e))
  where
    not_four : (a b c y z w v left : ℕ) → IsThree a b c → IsLeadFour left y z w v → a ≡ y → b ≡ z → ⊥
    not_four a b c y z w v left h s p q = grind arith
text_forward left (Five y z w v u) x units value form rest bs (three a b c h) s fit e = absurd (not_five a b c y z w v u left h s (head_is a y _ _ e) (second_is a b y z _ _ e))
  where
    not_five : (a b c y z w v u left : ℕ) → IsThree a b c → IsLeadFive left y z w v u → a ≡ y → b ≡ z → ⊥
    not_five a b c y z w v u left h s p q = grind arith
text_forward left Nothing x units value form rest bs (four a b c d h) s fit e = lead left a x _ bs _ _ _ (ahead_high_lead left a h.first fit) e
text_forward left (One y) x units value form rest bs (four a b c d h) s fit e = second_goes left a b y x _ bs _ _ _ (ahead_four_second left a b c d h) e
text_forward left (Two y z) x units value form rest bs (four a b c d h) s fit e = third_goes a b c y z x _ bs _ _ _ (ahead_four_third a b c d h) e
text_forward left (Three y z w) x units value form rest bs (four a b c d h) s fit e = fourth_ends a b c d y z w x rest bs (ahead_four a b c d h) e
text_forward left (Four y z w v) x units value form rest bs (four a b c d h) s fit e = absurd (not_first a y _ _ e (λ k. omega (arith, s.first, h.first.low)))
text_forward left (Five y z w v u) x units value form rest bs (four a b c d h) s fit e = absurd (not_first a y _ _ e (λ k. omega (arith, s.four.first, h.first.low)))
text_forward left Nothing x units value form rest bs (surrogates a b c d f g v h is) s fit e = lead left a x _ bs _ _ _ (ahead_lead left a (record { low = omega (arith, h.first); high = omega (arith, h.first) })) e
text_forward left (One y) x units value form rest bs (surrogates a b c d f g v h is) s fit e = second_goes left a b y x _ bs _ _ _ (ahead_pair_second left a b c d f g h fit) e
text_forward left (Two y z) x units value form rest bs (surrogates a b c d f g v h is) s fit e = third_goes a b c y z x _ bs _ _ _ (ahead_pair_third a b c d f g h) e
text_forward left (Three y z w) x units value form rest bs (surrogates a b c d f g v h is) s fit e = fourth_goes a b c d y z w x _ bs _ _ _ (ahead_pair_fourth a b c d f g h) e
text_forward left (Four y z w v') x units value form rest bs (surrogates a b c d f g v h is) s fit e = fifth_goes a b c d f y z w v' x _ bs _ _ _ (ahead_pair_fifth a b c d f g h) e
text_forward left (Five y z w v' u) x units value form rest bs (surrogates a b c d f g v h is) s fit e = sixth_ends a b c d f g y z w v' u x rest bs v (ahead_pair a b c d f g h) e is

byte_forward : (left : ℕ) (begun : Begun) (b units : ℕ) (value form rest bs : List ℕ) → IsByte value units form → SoundBegun Binary left begun → form ++ rest ≡ begun_bytes begun ++ b ∷ bs → Goes (item_step Binary left begun b) begun b bs value units rest
byte_forward left Nothing b units value form rest bs i s e =
    let k : i.byte ∷ rest ≡ b ∷ bs = sym (ap (λ x. x ++ rest) i.form_is) ∙ e in
    ended (Single b) refl (ap (λ x. x ∷ []) (sym (head_is i.byte b rest bs k)) ∙ sym i.value_is) (sym i.units_are) (tail_is i.byte b rest bs k)
byte_forward left (One a) b units value form rest bs i s e = absurd s
byte_forward left (Two a c) b units value form rest bs i s e = absurd s
byte_forward left (Three a c d) b units value form rest bs i s e = absurd s
byte_forward left (Four a c d f) b units value form rest bs i s e = absurd s
byte_forward left (Five a c d f g) b units value form rest bs i s e = absurd s

pub item_forward : (kind : Kind) (left : ℕ) (begun : Begun) (b units : ℕ) (value form rest bs : List ℕ) → IsItem kind value units form → SoundBegun kind left begun → units ≤ left → form ++ rest ≡ begun_bytes begun ++ b ∷ bs → Goes (item_step kind left begun b) begun b bs value units rest
item_forward Text left begun b units value form rest bs i s fit e = text_forward left begun b units value form rest bs (to_shape value units form i) s fit e
item_forward Binary left begun b units value form rest bs i s fit e = byte_forward left begun b units value form rest bs i s e

-- ---- back: what a byte that is taken makes

-- the item is whole
pub record IsEnded (kind : Kind) (left : ℕ) (begun : Begun) (b : ℕ) (w : Letter) : Type 0 where
  pub item : IsItem kind (letter_bytes w) (letter_units w) (begun_bytes begun ++ b ∷ [])
  pub fits : letter_units w ≤ left

-- the item has grown
pub record IsGrown (kind : Kind) (left : ℕ) (begun : Begun) (b : ℕ) (p : Begun) : Type 0 where
  pub sound : SoundBegun kind left p
  pub grown : begun_bytes p ≡ begun_bytes begun ++ b ∷ []

ended_by : (left : ℕ) (begun : Begun) (b : ℕ) (w w' : Letter) → w ≡ w' → IsCharacter (letter_bytes w') (letter_units w') (begun_bytes begun ++ b ∷ []) → letter_units w' ≤ left → IsEnded Text left begun b w
ended_by left begun b w w' e i fits = rw e (record { item = i; fits = fits })

grown_to : (left : ℕ) (begun : Begun) (b : ℕ) (p q : Begun) → p ≡ q → SoundBegun Text left q → begun_bytes q ≡ begun_bytes begun ++ b ∷ [] → IsGrown Text left begun b p
grown_to left begun b p q e s g = rw e (record { sound = s; grown = g })

pub pair_character : (a b c d e f : ℕ) → IsPair a b c d e f → IsCharacter (letter_bytes (quad_of (pair_code b c e f))) 2 (a ∷ b ∷ c ∷ d ∷ e ∷ f ∷ [])
pair_character a b c d e f t = rw (quad_pair b c e f) (of_pair a b c d e f t)

pub item_ended : (kind : Kind) (left : ℕ) (begun : Begun) (b : ℕ) (w : Letter) → 0 < left → b < 256 → SoundBegun kind left begun → item_step kind left begun b ≡ Whole w → IsEnded kind left begun b w
item_ended Binary left Nothing b w some small s e = byte_ended (whole_is (Single b) w e)
  where
    whole_is : (x y : Letter) → Whole x ≡ Whole y → y ≡ x
    whole_is x y e = cc

    byte_ended : w ≡ Single b → IsEnded Binary left Nothing b w
    byte_ended k = rw k (record { item = record { byte = b; small = small; value_is = refl; units_are = refl; form_is = refl }; fits = omega arith })
item_ended Binary left (One a) b w some small s e = absurd s
item_ended Binary left (Two a c) b w some small s e = absurd s
item_ended Binary left (Three a c d) b w some small s e = absurd s
item_ended Binary left (Four a c d f) b w some small s e = absurd s
item_ended Binary left (Five a c d f g) b w some small s e = absurd s
item_ended Text left Nothing a w some small s e = ended_by left Nothing a w (Single a) (whole_first left a w e) (of_one a (whole_first_range left a w e)) (omega arith)
item_ended Text left (One a) b w some small s e = ended_by left (One a) b w (Pair a b) (whole_second left a b w e) (of_two a b (record { low = s.range.low; high = whole_second_range left a b w e }) (record { low = whole_second_low left a b w e; high = whole_second_high left a b w e })) (omega arith)
item_ended Text left (Two a b) c w some small s e = ended_by left (Two a b) c w (Triple a b c) (whole_third a b c w e) (of_three a b c (third_whole left a b c w s e)) (omega arith)
item_ended Text left (Three a b c) d w some small s e = ended_by left (Three a b c) d w (Quad a b c d) (whole_fourth a b c d w e) (of_four a b c d (fourth_whole left a b c d w s e)) (three_fits left a b c s)
item_ended Text left (Four a b c d) f w some small s e = absurd (whole_fifth a b c d f w e)
item_ended Text left (Five a b c d f) g w some small s e = ended_by left (Five a b c d f) g w (quad_of (pair_code b c f g)) (whole_sixth b c f g w e) (pair_character a b c d f g (sixth_whole left a b c d f g w s e)) (five_fits left a b c d f s)

pub item_grown : (kind : Kind) (left : ℕ) (begun : Begun) (b : ℕ) (p : Begun) → SoundBegun kind left begun → item_step kind left begun b ≡ Grows p → IsGrown kind left begun b p
item_grown Binary left Nothing b p s e = cc
item_grown Binary left (One a) b p s e = absurd s
item_grown Binary left (Two a c) b p s e = absurd s
item_grown Binary left (Three a c d) b p s e = absurd s
item_grown Binary left (Four a c d f) b p s e = absurd s
item_grown Binary left (Five a c d f g) b p s e = absurd s
item_grown Text left Nothing a p s e = grown_to left Nothing a p (One a) (grows_first left a p e) (record { range = record { low = grows_first_low left a p e; high = grows_first_high left a p e }; fits = λ h. grows_first_fits left a p e h }) refl
item_grown Text left (One a) b p s e = grown_to left (One a) b p (Two a b) (grows_second left a b p e) (second_two left a b p s e) refl
item_grown Text left (Two a b) c p s e = grown_to left (Two a b) c p (Three a b c) (grows_third a b c p e) (third_three left a b c p s e) refl
item_grown Text left (Three a b c) d p s e = grown_to left (Three a b c) d p (Four a b c d) (grows_fourth a b c d p e) (fourth_four left a b c d p s e) refl
item_grown Text left (Four a b c d) f p s e = grown_to left (Four a b c d) f p (Five a b c d f) (grows_fifth a b c d f p e) (fifth_five left a b c d f p s e) refl
item_grown Text left (Five a b c d f) g p s e = absurd (grows_sixth b c f g p e)

-- ---- what has begun can become whole

pub record IsLive (kind : Kind) (left : ℕ) (begun : Begun) : Type 0 where
  pub value : List ℕ
  pub units : ℕ
  pub first : ℕ
  pub more : List ℕ
  pub item : IsItem kind value units (begun_bytes begun ++ first ∷ more)
  pub fits : units ≤ left

code_at : (low high n : ℕ) → low ≤ n → n ≤ high → IsCode low high n
code_at low high n l h = record { low = l; high = h }

live_three : (left a b c : ℕ) (begun : Begun) (first : ℕ) (more : List ℕ) → 0 < left → IsThree a b c → begun_bytes begun ++ first ∷ more ≡ a ∷ b ∷ c ∷ [] → IsLive Text left begun
live_three left a b c begun first more some t e = record { value = a ∷ b ∷ c ∷ []; units = 1; first = first; more = more; item = rw e (of_three a b c t); fits = omega arith }

live_four : (left a b c d : ℕ) (begun : Begun) (first : ℕ) (more : List ℕ) → 2 ≤ left → IsFour a b c d → begun_bytes begun ++ first ∷ more ≡ a ∷ b ∷ c ∷ d ∷ [] → IsLive Text left begun
live_four left a b c d begun first more fit t e = record { value = a ∷ b ∷ c ∷ d ∷ []; units = 2; first = first; more = more; item = rw e (of_four a b c d t); fits = fit }

live_pair : (left a b c d f g : ℕ) (begun : Begun) (first : ℕ) (more : List ℕ) → 2 ≤ left → IsPair a b c d f g → begun_bytes begun ++ first ∷ more ≡ a ∷ b ∷ c ∷ d ∷ f ∷ g ∷ [] → IsLive Text left begun
live_pair left a b c d f g begun first more fit t e = record { value = encode (pair_code b c f g); units = 2; first = first; more = more; item = rw e (of_pair a b c d f g t); fits = fit }

three_of : (a b : ℕ) → IsCode 0xe0 0xef a → IsCode 0x80 0xbf b → (a ≡ 0xe0 → 0xa0 ≤ b) → (a ≡ 0xed → b ≤ 0x9f) → IsThree a b 0x80
three_of a b h k least low = record { first = h; second = k; third = code_at 0x80 0xbf 0x80 (omega arith) (omega arith); least = least; no_surrogate = low }

four_of : (a b c : ℕ) → IsCode 0xf0 0xf4 a → IsCode 0x80 0xbf b → IsCode 0x80 0xbf c → (a ≡ 0xf0 → 0x90 ≤ b) → (a ≡ 0xf4 → b ≤ 0x8f) → IsFour a b c 0x80
four_of a b c h k m least most = record { first = h; second = k; third = m; fourth = code_at 0x80 0xbf 0x80 (omega arith) (omega arith); least = least; most = most }

pair_of : (a b c f : ℕ) → a ≡ 0xed → IsCode 0xa0 0xaf b → IsCode 0x80 0xbf c → IsCode 0xb0 0xbf f → IsPair a b c 0xed f 0x80
pair_of a b c f e h k m = record { first = e; second = h; third = k; fourth = refl; fifth = m; sixth = code_at 0x80 0xbf 0x80 (omega arith) (omega arith) }

lead_live : (left a : ℕ) → 0 < left → IsLead left a → IsLive Text left (One a)
lead_live left a some l = elim (cases_lt a 0xe0) [
  | inl h ↦ record { value = _; units = 1; first = 0x80; more = []; item = of_two a 0x80 (code_at 0xc2 0xdf a l.range.low (omega arith)) (code_at 0x80 0xbf 0x80 (omega arith) (omega arith)); fits = omega arith }
  | inr h ↦ elim (cases_lt a 0xe1) [
    | inl k ↦ live_three left a 0xa0 0x80 (One a) 0xa0 (0x80 ∷ []) some (three_of a 0xa0 (code_at 0xe0 0xef a h (omega arith)) (code_at 0x80 0xbf 0xa0 (omega arith) (omega arith)) (λ e. omega arith) (λ e. omega arith)) refl
    | inr k ↦ elim (cases_lt a 0xf0) [
      | inl m ↦ live_three left a 0x80 0x80 (One a) 0x80 (0x80 ∷ []) some (three_of a 0x80 (code_at 0xe0 0xef a h (omega arith)) (code_at 0x80 0xbf 0x80 (omega arith) (omega arith)) (λ e. omega arith) (λ e. omega arith)) refl
      | inr m ↦ elim (cases_lt a 0xf1) [
        | inl n ↦ live_four left a 0x90 0x80 0x80 (One a) 0x90 (0x80 ∷ 0x80 ∷ []) (l.fits m) (four_of a 0x90 0x80 (code_at 0xf0 0xf4 a m l.range.high) (code_at 0x80 0xbf 0x90 (omega arith) (omega arith)) (code_at 0x80 0xbf 0x80 (omega arith) (omega arith)) (λ e. omega arith) (λ e. omega arith)) refl
        | inr n ↦ live_four left a 0x80 0x80 0x80 (One a) 0x80 (0x80 ∷ 0x80 ∷ []) (l.fits m) (four_of a 0x80 0x80 (code_at 0xf0 0xf4 a m l.range.high) (code_at 0x80 0xbf 0x80 (omega arith) (omega arith)) (code_at 0x80 0xbf 0x80 (omega arith) (omega arith)) (λ e. omega arith) (λ e. omega arith)) refl
      ]
    ]
  ]
]

two_low : (left a b : ℕ) → 0 < left → IsLeadTwo left a b → a < 0xf0 → (a ≡ 0xed → b ≤ 0x9f) → IsLive Text left (Two a b)
two_low left a b some l h low = live_three left a b 0x80 (Two a b) 0x80 [] some (three_of a b (code_at 0xe0 0xef a l.range.low (omega arith)) l.second l.least low) refl

two_pair : (left a b : ℕ) → IsLeadTwo left a b → a ≡ 0xed → 0xa0 ≤ b → IsLive Text left (Two a b)
two_pair left a b l e h = live_pair left a b 0x80 0xed 0xb0 0x80 (Two a b) 0x80 (0xed ∷ 0xb0 ∷ 0x80 ∷ []) (l.pair e h) (pair_of a b 0x80 0xb0 e (code_at 0xa0 0xaf b h (l.most e)) (code_at 0x80 0xbf 0x80 (omega arith) (omega arith)) (code_at 0xb0 0xbf 0xb0 (omega arith) (omega arith))) refl

two_live : (left a b : ℕ) → 0 < left → IsLeadTwo left a b → IsLive Text left (Two a b)
two_live left a b some l = elim (cases_lt a 0xf0) [
  | inr h ↦ live_four left a b 0x80 0x80 (Two a b) 0x80 (0x80 ∷ []) (l.fits h) (four_of a b 0x80 (code_at 0xf0 0xf4 a h l.range.high) l.second (code_at 0x80 0xbf 0x80 (omega arith) (omega arith)) l.least_four l.most_four) refl
  | inl h ↦ elim (cases_lt a 0xed) [
    | inl k ↦ two_low left a b some l h (λ e. omega arith)
    | inr k ↦ elim (cases_lt a 0xee) [
      | inr m ↦ two_low left a b some l h (λ e. omega arith)
      | inl m ↦ elim (cases_lt b 0xa0) [
        | inl n ↦ two_low left a b some l h (λ e. omega arith)
        | inr n ↦ two_pair left a b l (omega arith) n
      ]
    ]
  ]
]

three_live : (left a b c : ℕ) → IsLeadThree left a b c → IsLive Text left (Three a b c)
three_live left a b c l = elim (cases_lt a 0xf0) [
  | inr h ↦ live_four left a b c 0x80 (Three a b c) 0x80 [] (l.two.fits h) (four_of a b c (code_at 0xf0 0xf4 a h l.two.range.high) l.two.second l.third l.two.least_four l.two.most_four) refl
  | inl h ↦ live_pair left a b c 0xed 0xb0 0x80 (Three a b c) 0xed (0xb0 ∷ 0x80 ∷ []) (three_fits left a b c l) (pair_of a b c 0xb0 (l.longer h) (code_at 0xa0 0xaf b (l.high h) (l.two.most (l.longer h))) l.third (code_at 0xb0 0xbf 0xb0 (omega arith) (omega arith))) refl
]

four_high : (left a b c d : ℕ) → IsLeadFour left a b c d → 0xa0 ≤ b
four_high left a b c d l = l.three.high (let k : a ≡ 0xed = l.first in omega arith)

four_live : (left a b c d : ℕ) → IsLeadFour left a b c d → IsLive Text left (Four a b c d)
four_live left a b c d l = live_pair left a b c 0xed 0xb0 0x80 (Four a b c d) 0xb0 (0x80 ∷ []) (l.three.two.pair l.first (four_high left a b c d l)) (pair_of a b c 0xb0 l.first (code_at 0xa0 0xaf b (four_high left a b c d l) (l.three.two.most l.first)) l.three.third (code_at 0xb0 0xbf 0xb0 (omega arith) (omega arith))) (ap (λ x. a ∷ b ∷ c ∷ x ∷ 0xb0 ∷ 0x80 ∷ []) l.fourth)

five_live : (left a b c d f : ℕ) → IsLeadFive left a b c d f → IsLive Text left (Five a b c d f)
five_live left a b c d f l = live_pair left a b c 0xed f 0x80 (Five a b c d f) 0x80 [] (five_fits left a b c d f l) (pair_of a b c f l.four.first (code_at 0xa0 0xaf b (four_high left a b c d l.four) (l.four.three.two.most l.four.first)) l.four.three.third l.fifth) (ap (λ x. a ∷ b ∷ c ∷ x ∷ f ∷ 0x80 ∷ []) l.four.fourth)

pub item_live : (kind : Kind) (left : ℕ) (begun : Begun) → 0 < left → SoundBegun kind left begun → IsLive kind left begun
item_live Binary left Nothing some s = record { value = 0 ∷ []; units = 1; first = 0; more = []; item = record { byte = 0; small = omega arith; value_is = refl; units_are = refl; form_is = refl }; fits = omega arith }
item_live Binary left (One a) some s = absurd s
item_live Binary left (Two a c) some s = absurd s
item_live Binary left (Three a c d) some s = absurd s
item_live Binary left (Four a c d f) some s = absurd s
item_live Binary left (Five a c d f g) some s = absurd s
item_live Text left Nothing some s = record { value = 0 ∷ []; units = 1; first = 0; more = []; item = of_one 0 (omega arith); fits = omega arith }
item_live Text left (One a) some s = lead_live left a some s
item_live Text left (Two a b) some s = two_live left a b some s
item_live Text left (Three a b c) some s = three_live left a b c s
item_live Text left (Four a b c d) some s = four_live left a b c d s
item_live Text left (Five a b c d f) some s = five_live left a b c d f s

shape_some : (value : List ℕ) (units : ℕ) (form : List ℕ) → Shape value units form → 0 < units
shape_some value units form (one a h) = omega arith
shape_some value units form (two a b h k) = omega arith
shape_some value units form (three a b c h) = omega arith
shape_some value units form (four a b c d h) = omega arith
shape_some value units form (surrogates a b c d e f v h is) = omega arith

-- an item has a unit
pub item_some : (kind : Kind) (value : List ℕ) (units : ℕ) (form : List ℕ) → IsItem kind value units form → 0 < units
item_some Text value units form i = shape_some value units form (to_shape value units form i)
item_some Binary value units form i = let e : units ≡ 1 = i.units_are in omega arith

-- no character goes on with xff
pub wrong_ff : (left : ℕ) (begun : Begun) → item_step Text left begun 0xff ≡ Wrong
wrong_ff left Nothing = first_ff left
  where
    first_ff : (left : ℕ) → first_byte left 0xff ≡ Wrong
    first_ff left = grind (arith, nat_tests)
wrong_ff left (One a) = second_ff left a
  where
    second_ff : (left a : ℕ) → second_byte left a 0xff ≡ Wrong
    second_ff left a = grind (arith, nat_tests)
wrong_ff left (Two a b) = refl
wrong_ff left (Three a b c) = fourth_ff a b c
  where
    fourth_ff : (a b c : ℕ) → fourth_byte a b c 0xff ≡ Wrong
    fourth_ff a b c = grind (arith, nat_tests)
wrong_ff left (Four a b c d) = refl
wrong_ff left (Five a b c d f) = refl
