-- Heads of nodes that are written.
use Rattle.std.proofs.Common.{◌≡◌, ℕ, ◌+◌, ◌<◌, ◌≤◌, List, [], ◌∷◌, ◌++◌, length, get_or, refl, ap, sym, ◌∙◌, subst, append_assoc}
use Rattle.std.specs.Prelude.{ℤ, pos, Some, None}
use Rattle.hessian_scalars.specs.declared.scalar.Scalar.TheVariants as scalars
use Rattle.hessian_scalars.specs.Written.{Appends as AppendsScalar, IsShortest}
use Rattle.hessian_text.specs.Written.{AppendsText}
use Rattle.hessian_graph.specs.declared.node.Class.{Class}
use Rattle.hessian_graph.specs.Shape.{Text, ListKind, MapKind, ObjectKind, no_class}
use Rattle.hessian_graph.specs.Canon.{place_of}
use Rattle.hessian_graph.specs.Reading.{Tables, one_more, add_type, add_class}
use Rattle.hessian_graph.specs.Forms.{IsEarliest, TypeForm}
use Rattle.hessian_graph.specs.Forms.TypeForm.{known, new as new_type}
use Rattle.hessian_graph.proofs.Places.{place_new}
use Rattle.hessian_writer.specs.Leaves.{hessian_forms}
use Rattle.hessian_writer.specs.Numbered.{Numbered}
use Rattle.hessian_writer.specs.Sharing.{NamesFit, listed}
use Rattle.hessian_writer.specs.Heads.{HeadForm}
use Rattle.hessian_writer.specs.Heads.HeadForm.{short_list, long_list, short_typed_list, long_typed_list, map as map_head, typed_map, short_object, long_object, first_object}
use Rattle.hessian_writer.specs.Appending.{AppendsHead, AppendsType, AppendsClass}
use Rattle.hessian_writer.proofs.Shared.{is_earliest, is_new, used_more, listed_more}

-- bytes that are written in two steps
in_two : (old mid new front back : List ℕ) → mid ≡ old ++ front → new ≡ mid ++ back → new ≡ old ++ (front ++ back)
in_two old mid new front back a b = b ∙ ap (λ x. x ++ back) a ∙ append_assoc old front back

pub short_list_head : (count : ℕ) (t : Tables) (old new : List ℕ) → count ≤ 7 → new ≡ old ++ (0x78 + count) ∷ [] → AppendsHead (ListKind None) count t (one_more t) old new
short_list_head count t old new few e = record { bytes = (0x78 + count) ∷ []; is = short_list count few; joined = e }

pub long_list_head : (count : ℕ) (z : ℤ) (t : Tables) (old mid new : List ℕ) → 7 < count → z ≡ pos count → mid ≡ old ++ 0x58 ∷ [] → AppendsScalar mid new (scalars.Int z) → AppendsHead (ListKind None) count t (one_more t) old new
long_list_head count z t old mid new many e a b = record {
  bytes = 0x58 ∷ b.spelling;
  is = long_list count b.spelling many (subst (λ x. IsShortest (scalars.Int x) b.spelling) e b.written);
  joined = in_two old mid new (0x58 ∷ []) b.spelling a b.joined;
}

pub short_typed_head : (type : Text) (count : ℕ) (t u : Tables) (old mid new : List ℕ) → count ≤ 7 → mid ≡ old ++ (0x70 + count) ∷ [] → AppendsType type t u mid new → AppendsHead (ListKind (Some type)) count t (one_more u) old new
short_typed_head type count t u old mid new few a b = record {
  bytes = (0x70 + count) ∷ b.bytes;
  is = short_typed_list type count b.bytes few b.is;
  joined = in_two old mid new ((0x70 + count) ∷ []) b.bytes a b.joined;
}

pub long_typed_head : (type : Text) (count : ℕ) (z : ℤ) (t u : Tables) (old mid next new : List ℕ) → 7 < count → z ≡ pos count → mid ≡ old ++ 0x56 ∷ [] → AppendsType type t u mid next → AppendsScalar next new (scalars.Int z) → AppendsHead (ListKind (Some type)) count t (one_more u) old new
long_typed_head type count z t u old mid next new many e a b d = record {
  bytes = 0x56 ∷ (b.bytes ++ d.spelling);
  is = long_typed_list type count b.bytes d.spelling many b.is (subst (λ x. IsShortest (scalars.Int x) d.spelling) e d.written);
  joined = in_two old next new (0x56 ∷ b.bytes) d.spelling (in_two old mid next (0x56 ∷ []) b.bytes a b.joined) d.joined;
}

pub map_head_of : (count pairs : ℕ) (t : Tables) (old new : List ℕ) → count ≡ pairs + pairs → new ≡ old ++ 0x48 ∷ [] → AppendsHead (MapKind None) count t (one_more t) old new
map_head_of count pairs t old new are e = record { bytes = 0x48 ∷ []; is = map_head count pairs are; joined = e }

pub typed_map_head : (type : Text) (count pairs : ℕ) (t u : Tables) (old mid new : List ℕ) → count ≡ pairs + pairs → mid ≡ old ++ 0x4d ∷ [] → AppendsType type t u mid new → AppendsHead (MapKind (Some type)) count t (one_more u) old new
typed_map_head type count pairs t u old mid new are a b = record {
  bytes = 0x4d ∷ b.bytes;
  is = typed_map type count pairs b.bytes are b.is;
  joined = in_two old mid new (0x4d ∷ []) b.bytes a b.joined;
}

pub short_object_head : (class : Class) (k : ℕ) (t : Tables) (old new : List ℕ) → IsEarliest no_class t.classes class k → k ≤ 15 → new ≡ old ++ (0x60 + k) ∷ [] → AppendsHead (ObjectKind class) (length class.fields) t (one_more t) old new
short_object_head class k t old new is few e = record { bytes = (0x60 + k) ∷ []; is = short_object class (length class.fields) k is refl few; joined = e }

pub long_object_head : (class : Class) (k : ℕ) (z : ℤ) (t : Tables) (old mid new : List ℕ) → IsEarliest no_class t.classes class k → 15 < k → z ≡ pos k → mid ≡ old ++ 0x4f ∷ [] → AppendsScalar mid new (scalars.Int z) → AppendsHead (ObjectKind class) (length class.fields) t (one_more t) old new
long_object_head class k z t old mid new is many e a b = record {
  bytes = 0x4f ∷ b.spelling;
  is = long_object class (length class.fields) k b.spelling is refl many (subst (λ x. IsShortest (scalars.Int x) b.spelling) e b.written);
  joined = in_two old mid new (0x4f ∷ []) b.spelling a b.joined;
}

-- a type that has a number
pub known_type : (types : List Text) (firsts : List ℕ) (used : Numbered) → NamesFit [] types firsts used → (number k : ℕ) (z : ℤ) → number < length types → place_of (get_or firsts number 0) used.order ≡ Some k → z ≡ pos k → (old new : List ℕ) → AppendsScalar old new (scalars.Int z) → (t : Tables) → t.types ≡ listed [] types used.order → AppendsType (get_or types number []) t (record t { types = listed [] types used.order }) old new
known_type types firsts used fit number k z there place e old new a t same =
    let earliest = is_earliest [] types firsts used fit number there k place in
    let form : TypeForm hessian_forms (get_or types number []) t t a.spelling = known (get_or types number []) k a.spelling (subst (λ x. IsEarliest [] x (get_or types number []) k) (sym same) earliest) (subst (λ x. IsShortest (scalars.Int x) a.spelling) e a.written) in
    subst (λ x. AppendsType (get_or types number []) t (record t { types = x }) old new) same (record { bytes = a.spelling; is = form; joined = a.joined })

-- a type that gets the next number
pub unknown_type : (types : List Text) (firsts : List ℕ) (used later : Numbered) → NamesFit [] types firsts used → (number : ℕ) → number < length types → place_of (get_or firsts number 0) used.order ≡ None → later ≡ record used { order = used.order ++ get_or firsts number 0 ∷ [] } → (old new : List ℕ) → AppendsText old (get_or types number []) new → (t : Tables) → t.types ≡ listed [] types used.order → AppendsType (get_or types number []) t (record t { types = listed [] types later.order }) old new
unknown_type types firsts used later fit number there none is old new a t same =
    let type : Text = get_or types number [] in
    let fresh = is_new [] types firsts used fit number there none in
    let form : TypeForm hessian_forms type t (add_type type t) a.written = new_type type a.written (λ k h e. fresh k (subst (λ x. k < length x) same h) (subst (λ x. get_or x k [] ≡ type) same e)) a.spells in
    let grown : t.types ++ type ∷ [] ≡ listed [] types later.order = ap (λ x. x ++ type ∷ []) same ∙ sym (listed_more [] types firsts used fit number there) ∙ ap (λ (u : Numbered). listed [] types u.order) (sym is) in
    subst (λ x. AppendsType type t (record t { types = x }) old new) grown (record { bytes = a.written; is = form; joined = a.appended })

-- a class that has been defined
pub known_object : (classes : List Class) (firsts : List ℕ) (used : Numbered) → NamesFit no_class classes firsts used → (number k : ℕ) → number < length classes → place_of (get_or firsts number 0) used.order ≡ Some k → (old new : List ℕ) → ((t : Tables) (class : Class) → IsEarliest no_class t.classes class k → AppendsHead (ObjectKind class) (length class.fields) t (one_more t) old new) → (t : Tables) → t.classes ≡ listed no_class classes used.order → AppendsHead (ObjectKind (get_or classes number no_class)) (length (get_or classes number no_class).fields) t (one_more (record t { classes = listed no_class classes used.order })) old new
known_object classes firsts used fit number k there place old new write t same =
    let class : Class = get_or classes number no_class in
    let earliest = is_earliest no_class classes firsts used fit number there k place in
    subst (λ x. AppendsHead (ObjectKind class) (length class.fields) t (one_more (record t { classes = x })) old new) same
    (write t class (subst (λ x. IsEarliest no_class x class k) (sym same) earliest))

-- a class that is defined before its object
pub unknown_object : (classes : List Class) (firsts : List ℕ) (used later : Numbered) → NamesFit no_class classes firsts used → (number : ℕ) → number < length classes → place_of (get_or firsts number 0) used.order ≡ None → later ≡ record used { order = used.order ++ get_or firsts number 0 ∷ [] } → (old mid next new : List ℕ) → mid ≡ old ++ 0x43 ∷ [] → AppendsClass (get_or classes number no_class) mid next → ((t : Tables) (class : Class) → IsEarliest no_class t.classes class (length used.order) → AppendsHead (ObjectKind class) (length class.fields) t (one_more t) next new) → (t : Tables) → t.classes ≡ listed no_class classes used.order → AppendsHead (ObjectKind (get_or classes number no_class)) (length (get_or classes number no_class).fields) t (one_more (record t { classes = listed no_class classes later.order })) old new
unknown_object classes firsts used later fit number there none is old mid next new a b write t same =
    let class : Class = get_or classes number no_class in
    let first : ℕ = get_or firsts number 0 in
    let fresh = is_new no_class classes firsts used fit number there none in
    let more : Numbered = record used { order = used.order ++ first ∷ [] } in
    let place : place_of first more.order ≡ Some (length used.order) = place_new first used.order [] none in
    let earliest = is_earliest no_class classes firsts more (used_more no_class classes firsts used fit number there) number there (length used.order) place in
    let grown : t.classes ++ class ∷ [] ≡ listed no_class classes more.order = ap (λ x. x ++ class ∷ []) same ∙ sym (listed_more no_class classes firsts used fit number there) in
    let d = write (add_class class t) class (subst (λ x. IsEarliest no_class x class (length used.order)) (sym grown) earliest) in
    let form : HeadForm hessian_forms (ObjectKind class) (length class.fields) t (one_more (add_class class t)) (0x43 ∷ (b.bytes ++ d.bytes)) =
    first_object class (length class.fields) b.bytes d.bytes (λ k h e. fresh k (subst (λ x. k < length x) same h) (subst (λ x. get_or x k no_class ≡ class) same e)) b.is d.is in
    subst (λ x. AppendsHead (ObjectKind class) (length class.fields) t (one_more (record t { classes = x })) old new) (grown ∙ ap (λ (u : Numbered). listed no_class classes u.order) (sym is))
    (record {
      bytes = 0x43 ∷ (b.bytes ++ d.bytes);
      is = form;
      joined = in_two old next new (0x43 ∷ b.bytes) d.bytes (in_two old mid next (0x43 ∷ []) b.bytes a b.joined) d.joined;
    })
