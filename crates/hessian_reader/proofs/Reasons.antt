-- Why an element is refused, in three forms: its only byte, a whole int, or a byte inside a text or a binary.
use Rattle.std.proofs.Common.{◌≡◌, ℕ, ◌-◌, ◌<◌, ◌≤◌, List, [], ◌∷◌, refl, arith, inl, inr}
use Rattle.std.specs.Prelude.{ℤ, pos}
use Rattle.hessian_graph.specs.declared.value.Value.TheVariants as values
use Rattle.hessian_graph.specs.Reading.{Tables, IsCode}
use Rattle.hessian_graph.specs.Loose.{LooseForm, Slot, AType as TypeSlot}
use Rattle.hessian_graph.specs.Refusal.{Cause, Double, BadCode, BadClass, TooManyNodes, Trailing, BeginsNode, WantsValue, WantsInt, WantsName, RefusedInt, Refused}
use Rattle.hessian_graph.specs.Refusal.WantsValue.{one as w_one, item as w_item, key as w_key}
use Rattle.hessian_graph.specs.Refusal.WantsInt.{of_reference, of_length, of_class as int_of_class, of_count}
use Rattle.hessian_graph.specs.Refusal.WantsName.{of_class as name_of_class, of_field}
use Rattle.hessian_graph.specs.Refusal.BeginsNode.{map as b_map, typed_map as b_typed_map, long_object as b_long_object, open_typed_list as b_open_typed_list, long_typed_list as b_long_typed_list, open_list as b_open_list, long_list as b_long_list, short_object as b_short_object, short_typed_list as b_short_typed_list, short_list as b_short_list}
use Rattle.hessian_graph.specs.Refusal.Refused.{double as f_double, no_value as f_no_value, no_end as f_no_end, too_many as f_too_many, no_such_class as f_no_such_class, no_int as f_no_int, int as f_int, no_text as f_no_text, no_type as f_no_type, text_code as f_text_code, text_character as f_text_character, binary_code as f_binary_code, trailing as f_trailing}
use Rattle.hessian_scalars.specs.ScalarSpelling.{IsDoubleCode}
use Rattle.hessian_reader.specs.Leaves.{hessian, scalar_bytes, node_limit}
use Rattle.hessian_reader.specs.Elements.{TakesInt}
use Rattle.hessian_reader.specs.Faults.{faults}
use Rattle.hessian_reader.proofs.LooseOnce.{want_of}
use Rattle.hessian_reader.proofs.InsideLeaf.{InLeaf, in_text_code, in_binary_code, in_text_character}

-- ---- the forms

-- the only byte of an element, where these slots are to come
pub data ByteReason (t : Tables) (start : ℕ) (slots : List Slot) (c : ℕ) (cause : Cause) : Type 0 where
  is_double : (s : Slot) (ss : List Slot) → slots ≡ s ∷ ss → WantsValue s → IsDoubleCode c → cause ≡ Double start c → ByteReason t start slots c cause
  is_bad : (s : Slot) (ss : List Slot) → slots ≡ s ∷ ss → (WantsValue s → BeginsNode c → ⊥) → (WantsValue s → IsDoubleCode c → ⊥) → ((z : ℤ) → TakesInt (want_of s) → scalar_bytes (values.Int z) (c ∷ []) → ⊥) → cause ≡ BadCode start c → ByteReason t start slots c cause
  is_full : (s : Slot) (ss : List Slot) → slots ≡ s ∷ ss → WantsValue s → BeginsNode c → node_limit ≤ t.begun → cause ≡ TooManyNodes start → ByteReason t start slots c cause
  is_no_class : (s : Slot) (ss : List Slot) → slots ≡ s ∷ ss → WantsValue s → IsCode 0x60 0x6f c → t.begun < node_limit → cause ≡ BadClass start (pos (c - 0x60)) → ByteReason t start slots c cause
  is_trailing : slots ≡ [] → cause ≡ Trailing start → ByteReason t start slots c cause

pub data Reason (t : Tables) (start : ℕ) (slots : List Slot) (element : List ℕ) (cause : Cause) : Type 0 where
  of_byte : (c : ℕ) → element ≡ c ∷ [] → ByteReason t start slots c cause → Reason t start slots element cause
  of_number : (s : Slot) (ss : List Slot) (z : ℤ) → slots ≡ s ∷ ss → scalar_bytes (values.Int z) element → RefusedInt t start z s cause → Reason t start slots element cause
  of_leaf : (s : Slot) (ss : List Slot) → slots ≡ s ∷ ss → InLeaf start element cause → Reason t start slots element cause

-- ---- places of one kind

pub value_no_int : (s : Slot) → WantsValue s → TakesInt (want_of s) → ⊥
value_no_int s w_one t = elim t [ ]
value_no_int s w_item t = elim t [ ]
value_no_int s w_key t = elim t [ ]

int_no_value : (s : Slot) → WantsInt s → WantsValue s → ⊥
int_no_value s of_reference v = elim v [ ]
int_no_value s of_length v = elim v [ ]
int_no_value s int_of_class v = elim v [ ]
int_no_value s (of_count name) v = elim v [ ]

name_no_value : (s : Slot) → WantsName s → WantsValue s → ⊥
name_no_value s name_of_class v = elim v [ ]
name_no_value s (of_field class k) v = elim v [ ]

name_no_int : (s : Slot) → WantsName s → TakesInt (want_of s) → ⊥
name_no_int s name_of_class t = elim t [ ]
name_no_int s (of_field class k) t = elim t [ ]

type_no_value : (form : LooseForm) → WantsValue (TypeSlot form) → ⊥
type_no_value form v = elim v [ ]

-- ---- codes of one kind

-- the codes of doubles are 0x44 and those from 0x5b to 0x5f
no_low : (c : ℕ) → 0x44 < c → c < 0x5b → IsDoubleCode c → ⊥
no_low c l h (inl x) = omega (arith, l, h, x)
no_low c l h (inr i) = let a = i.above in omega (arith, l, h, a)

no_high : (c : ℕ) → 0x5f < c → IsDoubleCode c → ⊥
no_high c h (inl x) = omega (arith, h, x)
no_high c h (inr i) = let b = i.below in omega (arith, h, b)

pub node_no_double : (c : ℕ) → BeginsNode c → IsDoubleCode c → ⊥
node_no_double c b_map d = no_low 0x48 (omega arith) (omega arith) d
node_no_double c b_typed_map d = no_low 0x4d (omega arith) (omega arith) d
node_no_double c b_long_object d = no_low 0x4f (omega arith) (omega arith) d
node_no_double c b_open_typed_list d = no_low 0x55 (omega arith) (omega arith) d
node_no_double c b_long_typed_list d = no_low 0x56 (omega arith) (omega arith) d
node_no_double c b_open_list d = no_low 0x57 (omega arith) (omega arith) d
node_no_double c b_long_list d = no_low 0x58 (omega arith) (omega arith) d
node_no_double c (b_short_object code i) d = no_high code (let a = i.above in omega (arith, a)) d
node_no_double c (b_short_typed_list code i) d = no_high code (let a = i.above in omega (arith, a)) d
node_no_double c (b_short_list code i) d = no_high code (let a = i.above in omega (arith, a)) d

-- ---- each refusal

end_no_node : (c : ℕ) → BeginsNode c → c ≡ 0x5a → ⊥
end_no_node c b_map e = omega (arith, e)
end_no_node c b_typed_map e = omega (arith, e)
end_no_node c b_long_object e = omega (arith, e)
end_no_node c b_open_typed_list e = omega (arith, e)
end_no_node c b_long_typed_list e = omega (arith, e)
end_no_node c b_open_list e = omega (arith, e)
end_no_node c b_long_list e = omega (arith, e)
end_no_node c (b_short_object code i) e = let a = i.above in omega (arith, a, e)
end_no_node c (b_short_typed_list code i) e = let a = i.above in omega (arith, a, e)
end_no_node c (b_short_list code i) e = let a = i.above in omega (arith, a, e)

pub reason_of : {t : Tables} {start : ℕ} {slots : List Slot} {element : List ℕ} {cause : Cause} → Refused hessian faults node_limit t start slots element cause → Reason t start slots element cause
reason_of (f_double s ss c w d) = of_byte c refl (is_double s ss refl w d refl)
reason_of (f_no_value s ss c w n) = of_byte c refl (is_bad s ss refl (λ v b. n.no_node b) (λ v d. n.no_double d) (λ z t is. value_no_int s w t) refl)
reason_of (f_no_end ss) = of_byte 0x5a refl (is_bad _ ss refl (λ v b. end_no_node 0x5a b refl) (λ v d. no_low 0x5a (omega arith) (omega arith) d) (λ z t is. elim t [ ]) refl)
reason_of (f_too_many s ss c w b full) = of_byte c refl (is_full s ss refl w b full refl)
reason_of (f_no_such_class s ss c w row room high) = of_byte c refl (is_no_class s ss refl w row room refl)
reason_of (f_no_int s ss c w n) = of_byte c refl (is_bad s ss refl (λ v b. int_no_value s w v) (λ v d. int_no_value s w v) (λ z t is. n z [] is) refl)
reason_of (f_int s ss z element cause is refused) = of_number s ss z refl is refused
reason_of (f_no_text s ss c w n) = of_byte c refl (is_bad s ss refl (λ v b. name_no_value s w v) (λ v d. name_no_value s w v) (λ z t is. name_no_int s w t) refl)
reason_of (f_no_type form ss c n m) = of_byte c refl (is_bad (TypeSlot form) ss refl (λ v b. type_no_value form v) (λ v d. type_no_value form v) (λ z t is. m z [] is) refl)
reason_of {start = start} (f_text_code s ss element p code may some bad) = of_leaf s ss refl (in_text_code start element p code some bad)
reason_of {start = start} (f_text_character s ss element p may bad) = of_leaf s ss refl (in_text_character start element p bad)
reason_of {start = start} (f_binary_code s ss element p code w some bad) = of_leaf s ss refl (in_binary_code start element p code some bad)
reason_of (f_trailing c) = of_byte c refl (is_trailing refl refl)
