-- Attachments, descriptors and roots: each is one.
use Rattle.std.proofs.Common.{◌≡◌, ℕ, ◌<◌, List, [], ◌∷◌, ◌++◌, length, refl, ap, ◌∙◌, arith}
use Rattle.std.specs.Prelude.{All, Ok, Err, Result}
use Rattle.std.proofs.lemmas.List.Elements.{All-nil, All-cons, All-tail, All-head}
use Rattle.hessian_graph.specs.declared.value.Value.{Value}
use Rattle.hessian_graph.specs.Shape.{Text, Shape}
use Rattle.dubbo_bodies.specs.declared.attachment.Attachment.{Attachment}
use Rattle.dubbo_bodies.specs.declared.fault.DescFault.{DescFault}
use Rattle.dubbo_bodies.specs.Attachments.{TextPairs, AttachmentsOf}
use Rattle.dubbo_bodies.specs.Attachments.AttachmentsOf.{nothing, map as a_map}
use Rattle.dubbo_bodies.specs.Attachments.TextPairs.{none as no_pairs, kept, dropped}
use Rattle.dubbo_bodies.specs.Descriptor.{IsPrimitive, IsNameByte, Parameter, Parameters, HasArgs, Tells}
use Rattle.dubbo_bodies.specs.Descriptor.IsPrimitive.{boolean, byte, char, short, int, long, float, double}
use Rattle.dubbo_bodies.specs.Descriptor.Parameter.{primitive, class, array}
use Rattle.dubbo_bodies.specs.Descriptor.Parameters.{none as no_parameters, more as one_parameter}
use Rattle.dubbo_bodies.proofs.Running.{AreBytes}
use Rattle.dubbo_bodies.proofs.Counting.{one_answer}

-- ---- the last of the roots

pub record SameLast {A : Type 0} (xs ys : List A) (x y : A) : Type 0 where
  pub front : xs ≡ ys
  pub last : x ≡ y

pub same_last : {A : Type 0} (xs ys : List A) (x y : A) → xs ++ x ∷ [] ≡ ys ++ y ∷ [] → length xs ≡ length ys → SameLast xs ys x y
same_last [] [] x y e h = record { front = refl; last = cc }
same_last [] (z ∷ ys) x y e h = absurd (omega (arith, h))
same_last (z ∷ xs) [] x y e h = absurd (omega (arith, h))
same_last (z ∷ xs) (w ∷ ys) x y e h =
    let first : z ≡ w = cc in
    let rest : xs ++ x ∷ [] ≡ ys ++ y ∷ [] = cc in
    let s = same_last xs ys x y rest (omega (arith, h)) in
    record { front = ap (λ v. v ∷ xs) first ∙ ap (λ vs. w ∷ vs) s.front; last = s.last }

-- ---- attachments

-- the values of a map make one list of attachments
pub one_pairs : {vs : List Value} {a b : List Attachment} → TextPairs vs a → TextPairs vs b → a ≡ b
one_pairs no_pairs no_pairs = refl
one_pairs (kept name value vs rest p) (kept name' value' vs' rest' q) = ap (λ xs. record { name = name; value = value } ∷ xs) (one_pairs p q)
one_pairs (kept name value vs rest p) (dropped name' v vs' rest' never q) = absurd (never value refl)
one_pairs (dropped name v vs rest never p) (kept name' value vs' rest' q) = absurd (never value refl)
one_pairs (dropped name v vs rest never p) (dropped name' v' vs' rest' never' q) = one_pairs p q

-- a value is one list of attachments
pub one_list : {g : Shape} {v : Value} {a b : List Attachment} → AttachmentsOf g v a → AttachmentsOf g v b → a ≡ b
one_list nothing nothing = refl
one_list (a_map n type a within kind p) (a_map n' type' b within' kind' q) = one_pairs p q

-- ---- descriptors

primitive_small : (code : ℕ) → IsPrimitive code → code < 256
primitive_small code boolean = omega arith
primitive_small code byte = omega arith
primitive_small code char = omega arith
primitive_small code short = omega arith
primitive_small code int = omega arith
primitive_small code long = omega arith
primitive_small code float = omega arith
primitive_small code double = omega arith

name_small : (name : List ℕ) → All IsNameByte name → AreBytes name
name_small [] h = All-nil (λ b. b < 256)
name_small (b ∷ bs) h = All-cons (λ b. b < 256) b bs (All-head IsNameByte b bs h).small (name_small bs (All-tail IsNameByte b bs h))

name_ended : (name : List ℕ) → AreBytes name → AreBytes (name ++ 0x3b ∷ [])
name_ended [] h = All-cons (λ b. b < 256) 0x3b [] (omega arith) (All-nil (λ b. b < 256))
name_ended (b ∷ bs) h = All-cons (λ b. b < 256) b (bs ++ 0x3b ∷ []) (All-head (λ b. b < 256) b bs h) (name_ended bs (All-tail (λ b. b < 256) b bs h))

parameter_small : {bytes : List ℕ} → Parameter bytes → AreBytes bytes
parameter_small (primitive code is) = All-cons (λ b. b < 256) code [] (primitive_small code is) (All-nil (λ b. b < 256))
parameter_small (class first name are) = All-cons (λ b. b < 256) 0x4c (first ∷ (name ++ 0x3b ∷ [])) (omega arith) (name_ended (first ∷ name) (name_small (first ∷ name) are))
parameter_small (array element is) = All-cons (λ b. b < 256) 0x5b element (omega arith) (parameter_small is)

joined_small : (xs ys : List ℕ) → AreBytes xs → AreBytes ys → AreBytes (xs ++ ys)
joined_small [] ys a b = b
joined_small (x ∷ xs) ys a b = All-cons (λ b. b < 256) x (xs ++ ys) (All-head (λ b. b < 256) x xs a) (joined_small xs ys (All-tail (λ b. b < 256) x xs a) b)

pub parameters_small : {count : ℕ} {bytes : List ℕ} → Parameters count bytes → AreBytes bytes
parameters_small no_parameters = All-nil (λ b. b < 256)
parameters_small (one_parameter count front rest one others) = joined_small front rest (parameter_small one) (parameters_small others)

-- a descriptor has one number of parameters
pub one_count : (desc : Text) (n m : ℕ) → HasArgs desc n → HasArgs desc m → n ≡ m
one_count desc n m a b = let e : ◌≡◌ {A = Result ℕ DescFault} (Ok n) (Ok m) = one_answer desc (Ok n) (Ok m) (parameters_small a.are) a b in cc

-- and isn't refused
pub no_desc_fault : (desc : Text) (n : ℕ) (fault : DescFault) → HasArgs desc n → Tells desc (Err fault) → ⊥
no_desc_fault desc n fault a b = let e : ◌≡◌ {A = Result ℕ DescFault} (Ok n) (Err fault) = one_answer desc (Ok n) (Err fault) (parameters_small a.are) a b in cc
