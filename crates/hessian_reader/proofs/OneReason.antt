-- An element has one reason to be refused in its place, and no whole element stands at its front.
use Rattle.std.proofs.Common.{◌≡◌, ◌≢◌, ℕ, List, [], ◌∷◌, ◌++◌, length, refl, sym, ap, ◌∙◌, subst, arith}
use Rattle.std.specs.Prelude.{Some, None, ℤ}
use Rattle.std.proofs.lemmas.List.{append-nil}
use Rattle.hessian_graph.specs.declared.value.Value.TheVariants as values
use Rattle.hessian_graph.specs.Reading.{Tables}
use Rattle.hessian_graph.specs.Loose.{Slot, AReference, AType as TypeSlot, AClass as ClassSlot}
use Rattle.hessian_graph.specs.Refusal.{Cause, BadRef, BadType, BadClass, BadLength, WantsValue, RefusedInt}
use Rattle.hessian_graph.specs.Refusal.BeginsNode.{short_object as b_short_object}
use Rattle.hessian_graph.specs.Refusal.RefusedInt.{bad_length, bad_count, bad_reference, bad_type, bad_class}
use Rattle.hessian_text.specs.declared.stage.Kind.{Kind}
use Rattle.hessian_text.specs.Spelling.{Spelling}
use Rattle.hessian_reader.specs.declared.element.Element.{Element}
use Rattle.hessian_reader.specs.declared.element.Element.TheVariants as elements
use Rattle.hessian_reader.specs.declared.element.Want.{Want}
use Rattle.hessian_reader.specs.Codes.{kind_of}
use Rattle.hessian_reader.specs.Leaves.{scalar_bytes}
use Rattle.hessian_reader.specs.Elements.{TakesInt, IsElement}
use Rattle.hessian_reader.specs.Elements.IsElement.{number as e_number}
use Rattle.hessian_reader.proofs.LeafCodes.{scalar_apart, chunk_kind, head_no_kind}
use Rattle.hessian_reader.proofs.Elements.{Formed, formed, element_some, one_element}
use Rattle.hessian_reader.proofs.Elements.Formed.{a_scalar, chunks, head as a_head}
use Rattle.hessian_reader.proofs.LeafBytes.{element_bytes}
use Rattle.hessian_reader.proofs.LooseOnce.{want_of}
use Rattle.hessian_reader.proofs.Stopping.{int_slot}
use Rattle.hessian_reader.proofs.InsideLeaf.{InLeaf}
use Rattle.hessian_reader.proofs.OneInside.{one_inside, not_inside}
use Rattle.hessian_reader.proofs.Reasons.{ByteReason, Reason, value_no_int, node_no_double}
use Rattle.hessian_reader.proofs.Reasons.ByteReason.{is_double, is_bad, is_full, is_no_class, is_trailing}
use Rattle.hessian_reader.proofs.Reasons.Reason.{of_byte, of_number, of_leaf}

-- ---- the same place and bytes

slot_same : (s r : Slot) (ss rs xs : List Slot) → xs ≡ s ∷ ss → xs ≡ r ∷ rs → r ≡ s
slot_same s r ss rs xs e h = let k : r ∷ rs ≡ s ∷ ss = sym h ∙ e in cc

none_there : (s : Slot) (ss xs : List Slot) → xs ≡ s ∷ ss → xs ≡ [] → ⊥
none_there s ss xs e h = let k : s ∷ ss ≡ [] = sym e ∙ h in cc

byte_same : (c d : ℕ) (xs ys element : List ℕ) → element ≡ c ∷ xs → element ≡ d ∷ ys → d ≡ c
byte_same c d xs ys element e h = let k : d ∷ ys ≡ c ∷ xs = sym h ∙ e in cc

two_kinds : (k l : Kind) (c : ℕ) → kind_of c ≡ Some k → kind_of c ≡ Some l → k ≡ l
two_kinds k l c p q = let e : Some k ≡ Some l = sym p ∙ q in cc

no_kind : (k : Kind) (c : ℕ) → kind_of c ≡ None → kind_of c ≡ Some k → ⊥
no_kind k c p q = let e : None ≡ Some k = sym p ∙ q in cc

-- ---- one byte

two_bytes : {t : Tables} {start : ℕ} {slots : List Slot} {c : ℕ} {one other : Cause} → ByteReason t start slots c one → ByteReason t start slots c other → one ≡ other
two_bytes (is_double s ss e w d p) (is_double r rs h v f q) = p ∙ sym q
two_bytes {slots = slots} (is_double s ss e w d p) (is_bad r rs h n m k q) = absurd (m (subst WantsValue (sym (slot_same s r ss rs slots e h)) w) d)
two_bytes {c = c} (is_double s ss e w d p) (is_full r rs h v b l q) = absurd (node_no_double c b d)
two_bytes {c = c} (is_double s ss e w d p) (is_no_class r rs h v row l q) = absurd (node_no_double c (b_short_object c row) d)
two_bytes {slots = slots} (is_double s ss e w d p) (is_trailing h q) = absurd (none_there s ss slots e h)
two_bytes {slots = slots} (is_bad s ss e n m k p) (is_double r rs h v d q) = absurd (m (subst WantsValue (slot_same s r ss rs slots e h) v) d)
two_bytes (is_bad s ss e n m k p) (is_bad r rs h n1 m1 k1 q) = p ∙ sym q
two_bytes {slots = slots} (is_bad s ss e n m k p) (is_full r rs h v b l q) = absurd (n (subst WantsValue (slot_same s r ss rs slots e h) v) b)
two_bytes {slots = slots} {c = c} (is_bad s ss e n m k p) (is_no_class r rs h v row l q) = absurd (n (subst WantsValue (slot_same s r ss rs slots e h) v) (b_short_object c row))
two_bytes {slots = slots} (is_bad s ss e n m k p) (is_trailing h q) = absurd (none_there s ss slots e h)
two_bytes {c = c} (is_full s ss e w b l p) (is_double r rs h v d q) = absurd (node_no_double c b d)
two_bytes {slots = slots} (is_full s ss e w b l p) (is_bad r rs h n m k q) = absurd (n (subst WantsValue (sym (slot_same s r ss rs slots e h)) w) b)
two_bytes (is_full s ss e w b l p) (is_full r rs h v b1 l1 q) = p ∙ sym q
two_bytes (is_full s ss e w b l p) (is_no_class r rs h v row l1 q) = absurd (omega (arith, l, l1))
two_bytes {slots = slots} (is_full s ss e w b l p) (is_trailing h q) = absurd (none_there s ss slots e h)
two_bytes {c = c} (is_no_class s ss e w row l p) (is_double r rs h v d q) = absurd (node_no_double c (b_short_object c row) d)
two_bytes {slots = slots} {c = c} (is_no_class s ss e w row l p) (is_bad r rs h n m k q) = absurd (n (subst WantsValue (sym (slot_same s r ss rs slots e h)) w) (b_short_object c row))
two_bytes (is_no_class s ss e w row l p) (is_full r rs h v b l1 q) = absurd (omega (arith, l, l1))
two_bytes (is_no_class s ss e w row l p) (is_no_class r rs h v row1 l1 q) = p ∙ sym q
two_bytes {slots = slots} (is_no_class s ss e w row l p) (is_trailing h q) = absurd (none_there s ss slots e h)
two_bytes {slots = slots} (is_trailing e p) (is_double r rs h v d q) = absurd (none_there r rs slots h e)
two_bytes {slots = slots} (is_trailing e p) (is_bad r rs h n m k q) = absurd (none_there r rs slots h e)
two_bytes {slots = slots} (is_trailing e p) (is_full r rs h v b l q) = absurd (none_there r rs slots h e)
two_bytes {slots = slots} (is_trailing e p) (is_no_class r rs h v row l q) = absurd (none_there r rs slots h e)
two_bytes (is_trailing e p) (is_trailing h q) = p ∙ sym q

-- a refused byte is no int
byte_no_int : {t : Tables} {start : ℕ} {slots : List Slot} {c : ℕ} {cause : Cause} (s : Slot) (ss : List Slot) (z : ℤ) → slots ≡ s ∷ ss → TakesInt (want_of s) → scalar_bytes (values.Int z) (c ∷ []) → ByteReason t start slots c cause → ⊥
byte_no_int {slots = slots} s ss z e takes is (is_double r rs h v d q) = value_no_int s (subst WantsValue (slot_same s r ss rs slots e h) v) takes
byte_no_int {slots = slots} s ss z e takes is (is_bad r rs h n m k q) = k z (subst (λ x. TakesInt (want_of x)) (sym (slot_same s r ss rs slots e h)) takes) is
byte_no_int {slots = slots} s ss z e takes is (is_full r rs h v b l q) = value_no_int s (subst WantsValue (slot_same s r ss rs slots e h) v) takes
byte_no_int {slots = slots} s ss z e takes is (is_no_class r rs h v row l q) = value_no_int s (subst WantsValue (slot_same s r ss rs slots e h) v) takes
byte_no_int {slots = slots} s ss z e takes is (is_trailing h q) = none_there s ss slots e h

-- ---- a whole int

number_of : (s : Slot) (z : ℤ) (element : List ℕ) → TakesInt (want_of s) → scalar_bytes (values.Int z) element → IsElement (want_of s) element (elements.Number z)
number_of s z element takes is = e_number (want_of s) z element takes is

number_is : (z w : ℤ) → elements.Number z ≡ elements.Number w → z ≡ w
number_is z w e = cc

-- the cause of a refused int in each place
abbrev int_cause : Slot → ℕ → ℤ → Cause
int_cause AReference start z = BadRef start z
int_cause (TypeSlot form) start z = BadType start z
int_cause ClassSlot start z = BadClass start z
int_cause s start z = BadLength start z

int_cause_is : {t : Tables} {start : ℕ} {z : ℤ} {s : Slot} {cause : Cause} → RefusedInt t start z s cause → cause ≡ int_cause s start z
int_cause_is (bad_length n) = refl
int_cause_is (bad_count name n) = refl
int_cause_is (bad_reference n) = refl
int_cause_is (bad_type form n) = refl
int_cause_is (bad_class n) = refl

two_numbers : {t : Tables} {start : ℕ} {one other : Cause} (s r : Slot) (z w : ℤ) (element : List ℕ) → r ≡ s → scalar_bytes (values.Int z) element → scalar_bytes (values.Int w) element → RefusedInt t start z s one → RefusedInt t start w r other → one ≡ other
two_numbers {start = start} s r z w element same is too p q =
    let a = number_of s z element (int_slot p) is in
    let b = number_of s w element (int_slot p) too in
    let n = (one_element (want_of s) element [] (elements.Number z) (elements.Number w) (element_bytes (want_of s) element (elements.Number z) a) a (subst (λ x. IsElement (want_of s) x (elements.Number w)) (sym (append-nil element)) b)).1 in
    int_cause_is p ∙ ap (int_cause s start) (sym (number_is w z n)) ∙ ap (λ x. int_cause x start w) (sym same) ∙ sym (int_cause_is q)

-- ---- a whole element isn't refused inside

leaf_by : (w : Want) (start : ℕ) (el m : List ℕ) (x : Element) (cause : Cause) → IsElement w el x → Formed w el x → InLeaf start (el ++ m) cause → ⊥
leaf_by w start [] m x cause is f l = element_some w [] x is refl
leaf_by w start (d ∷ el) m x cause is (a_scalar v t s e) l =
    let same = byte_same l.opens.code d l.opens.more (el ++ m) ((d ∷ el) ++ m) l.opens.bytes_are refl in
    let a = scalar_apart v d el s in
    no_kind l.kind l.opens.code (subst (λ b. kind_of b ≡ None) same a.kind) l.opens.shows
leaf_by w start (d ∷ el) m x cause is (chunks kind value t s e) l =
    let same = byte_same l.opens.code d l.opens.more (el ++ m) ((d ∷ el) ++ m) l.opens.bytes_are refl in
    let k = two_kinds kind l.kind l.opens.code (subst (λ b. kind_of b ≡ Some kind) same (chunk_kind kind value el d s)) l.opens.shows in
    not_inside start l.kind value (d ∷ el) m cause (subst (λ q. Spelling q value (d ∷ el)) k s) l.refused
leaf_by w start (d ∷ el) m x cause is (a_head h c code t b e) l =
    let same = byte_same l.opens.code d l.opens.more (el ++ m) ((d ∷ el) ++ m) l.opens.bytes_are refl in
    let at_d : d ≡ c = byte_same c d [] el (d ∷ el) b refl in
    no_kind l.kind l.opens.code (subst (λ q. kind_of q ≡ None) (sym at_d ∙ same) (head_no_kind h c code)) l.opens.shows

leaf_not_whole : (w : Want) (start : ℕ) (el m : List ℕ) (x : Element) (cause : Cause) → IsElement w el x → InLeaf start (el ++ m) cause → ⊥
leaf_not_whole w start el m x cause is l = leaf_by w start el m x cause is (formed w el x is) l

one_byte : (c : ℕ) (f k : List ℕ) → c ∷ [] ≡ f ++ k → f ≢ [] → k ≢ [] → ⊥
one_byte c [] k e some more = some refl
one_byte c (b ∷ []) k e some more = more cc
one_byte c (b ∷ d ∷ f) k e some more = cc

-- no whole element of the place is a shorter front of an element that is refused
pub no_shorter : {t : Tables} {start : ℕ} {slots : List Slot} {cause : Cause} (s : Slot) (ss : List Slot) (el m element : List ℕ) (x : Element) → slots ≡ s ∷ ss → element ≡ el ++ m → m ≢ [] → IsElement (want_of s) el x → Reason t start slots element cause → ⊥
no_shorter s ss el m element x e joined some is (of_byte c b r) = one_byte c el m (sym b ∙ joined) (element_some (want_of s) el x is) some
no_shorter {slots = slots} s ss el m element x e joined some is (of_number r rs z h spelled refused) =
    let takes = subst (λ q. TakesInt (want_of q)) (slot_same s r ss rs slots e h) (int_slot refused) in
    some (one_element (want_of s) el m x (elements.Number z) (element_bytes (want_of s) el x is) is (number_of s z (el ++ m) takes (subst (scalar_bytes (values.Int z)) joined spelled))).0
no_shorter {start = start} {cause = cause} s ss el m element x e joined some is (of_leaf r rs h l) = leaf_not_whole (want_of s) start el m x cause is (subst (λ q. InLeaf start q cause) joined l)

-- ---- one reason

byte_no_leaf : (start : ℕ) (element : List ℕ) (c : ℕ) (cause : Cause) → element ≡ c ∷ [] → InLeaf start element cause → ⊥
byte_no_leaf start element c cause e l = let n = l.longer in let k : length element ≡ 1 = ap length e in omega (arith, n, k)

number_no_leaf : {t : Tables} {start : ℕ} {one other : Cause} (s : Slot) (z : ℤ) (element : List ℕ) → scalar_bytes (values.Int z) element → RefusedInt t start z s one → InLeaf start element other → ⊥
number_no_leaf {start = start} {other = other} s z element is refused l = leaf_not_whole (want_of s) start element [] (elements.Number z) other (number_of s z element (int_slot refused) is) (subst (λ q. InLeaf start q other) (sym (append-nil element)) l)

two_leaves : (start : ℕ) (element : List ℕ) (one other : Cause) → InLeaf start element one → InLeaf start element other → one ≡ other
two_leaves start element one other l k =
    let same = byte_same l.opens.code k.opens.code l.opens.more k.opens.more element l.opens.bytes_are k.opens.bytes_are in
    let kinds_are = two_kinds l.kind k.kind l.opens.code l.opens.shows (subst (λ b. kind_of b ≡ Some k.kind) same k.opens.shows) in
    one_inside start element l.kind k.kind one other kinds_are l.refused k.refused

pub one_reason : {t : Tables} {start : ℕ} {slots : List Slot} {element : List ℕ} {one other : Cause} → Reason t start slots element one → Reason t start slots element other → one ≡ other
one_reason {t} {start} {slots} {element} {one} {other} (of_byte c e p) (of_byte d h q) = two_bytes p (subst (λ b. ByteReason t start slots b other) (byte_same c d [] [] element e h) q)
one_reason (of_byte c e p) (of_number r rs w h is q) = absurd (byte_no_int r rs w h (int_slot q) (subst (scalar_bytes (values.Int w)) e is) p)
one_reason {t} {start} {slots} {element} {one} {other} (of_byte c e p) (of_leaf r rs h q) = absurd (byte_no_leaf start element c other e q)
one_reason (of_number s ss z e is p) (of_byte d h q) = absurd (byte_no_int s ss z e (int_slot p) (subst (scalar_bytes (values.Int z)) h is) q)
one_reason {t} {start} {slots} {element} {one} {other} (of_number s ss z e is p) (of_number r rs w h too q) = two_numbers s r z w element (slot_same s r ss rs slots e h) is too p q
one_reason {t} {start} {slots} {element} {one} {other} (of_number s ss z e is p) (of_leaf r rs h q) = absurd (number_no_leaf s z element is p q)
one_reason {t} {start} {slots} {element} {one} {other} (of_leaf s ss e p) (of_byte d h q) = absurd (byte_no_leaf start element d one h p)
one_reason {t} {start} {slots} {element} {one} {other} (of_leaf s ss e p) (of_number r rs w h is q) = absurd (number_no_leaf r w element is q p)
one_reason {t} {start} {slots} {element} {one} {other} (of_leaf s ss e p) (of_leaf r rs h q) = two_leaves start element one other p q

-- an element that is refused has a byte
pub reason_some : {t : Tables} {start : ℕ} {slots : List Slot} {cause : Cause} (element : List ℕ) → Reason t start slots element cause → element ≢ []
reason_some element (of_byte c e r) n = let k : c ∷ [] ≡ [] = sym e ∙ n in cc
reason_some element (of_number s ss z e is refused) n = element_some (want_of s) element (elements.Number z) (number_of s z element (int_slot refused) is) n
reason_some element (of_leaf s ss e l) n = let w = l.longer in let k : length element ≡ 0 = ap length n in omega (arith, w, k)
