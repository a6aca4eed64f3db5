-- Each text, list of bytes, type and class has a form, and so has the head of each node.
use Rattle.std.proofs.Common.{◌≡◌, ℕ, zero, suc, ◌+◌, ◌<◌, ◌≤◌, Bool, true, false, List, [], ◌∷◌, ◌++◌, length, get_or, drop, refl, ap, sym, ◌∙◌, subst, inl, inr, ◌⊎◌, arith, length-append}
use Rattle.std.specs.Prelude.{Some, None, All, IsUtf8, slice_index}
use Rattle.std.specs.Int.{is_in_range}
use Rattle.std.specs.Str.{bytes_eq}
use Rattle.std.specs.Cmp.Lexicographic.{bytes_decides}
use Rattle.std.specs.List.{flat_map}
use Rattle.std.specs.Char.Escape.{encode_utf16}
use Rattle.std.proofs.lemmas.Bool.{cases_Bool, cases_lt, cond-true, cond-false}
use Rattle.std.proofs.lemmas.List.{length-drop}
use Rattle.std.proofs.lemmas.List.Elements.{All-tail}
use Rattle.hessian_text.specs.Written.{CHUNK, text_head, binary_head, by_units, first_chunk, WrittenBinary, WrittenUnits, WrittenText}
use Rattle.hessian_text.specs.Written.WrittenBinary.{last as b_last, chunk as b_chunk}
use Rattle.hessian_text.specs.Written.WrittenUnits.{last as u_last, chunk as u_chunk}
use Rattle.hessian_graph.specs.declared.value.Value.{Value}
use Rattle.hessian_graph.specs.declared.value.Value.TheVariants as values
use Rattle.hessian_graph.specs.declared.node.Class.{Class}
use Rattle.hessian_graph.specs.Shape.{Text, Kind, ListKind, MapKind, ObjectKind, node_of, no_class}
use Rattle.hessian_graph.specs.Reading.{Tables, one_more, add_type, add_class}
use Rattle.hessian_graph.specs.Reading.IsScalar.{null, bool, int, long, date}
use Rattle.hessian_graph.specs.Spells.{TextsSpelling, ClassSpelling}
use Rattle.hessian_graph.specs.Spells.TextsSpelling.{none as no_texts, one as one_text}
use Rattle.hessian_graph.specs.Forms.{IsEarliest, IsNew, TypeForm}
use Rattle.hessian_graph.specs.Forms.TypeForm.{known, new as new_type}
use Rattle.hessian_graph.specs.Tables.{words_of}
use Rattle.hessian_graph.proofs.ClassSteps.{same_class}
use Rattle.hessian_graph.proofs.TableSteps.{front_get, last_get}
use Rattle.hessian_writer.specs.Leaves.{hessian_forms}
use Rattle.hessian_writer.specs.Writable.{IsShortKind}
use Rattle.hessian_writer.specs.Carried.{IsCarriedValue, IsCarriedKind}
use Rattle.hessian_writer.specs.Heads.{HeadForm}
use Rattle.hessian_writer.specs.Heads.HeadForm.{short_list, long_list, short_typed_list, long_typed_list, map as map_head, typed_map, short_object, long_object, first_object}
use Rattle.hessian_writer.specs.Course.{LeafForm}
use Rattle.hessian_writer.specs.Course.LeafForm.{scalar, text as text_leaf, binary as binary_leaf}
use Rattle.hessian_writer.proofs.SomeScalars.{some_null, some_bool, some_int, some_long, some_date, some_count}

-- a text whose units are many begins with a chunk
first_some : (us : List ℕ) → 0 < first_chunk us
first_some us = elim (cases_Bool (is_in_range 0xd800 0xdbff (slice_index us 32767))) [
  | inl pair ↦ subst (λ n. 0 < n) (sym (cond-true (is_in_range 0xd800 0xdbff (slice_index us 32767)) 32767 CHUNK pair)) (omega arith)
  | inr whole ↦ subst (λ n. 0 < n) (sym (cond-false (is_in_range 0xd800 0xdbff (slice_index us 32767)) 32767 CHUNK whole)) (omega arith)
]

some_units : (fuel : ℕ) (us : List ℕ) → length us < fuel → (bytes : List ℕ) × WrittenUnits us bytes
some_units zero us h = absurd (omega (arith, h))
some_units (suc fuel) us h = elim (cases_lt CHUNK (length us)) [
  | inl many ↦
      let n : ℕ = first_chunk us in
      let some = first_some us in
      let long = length-drop n us in
      let q = some_units fuel (drop n us) (omega (arith, h, some, long, many)) in
      (_, u_chunk us q.0 n many refl q.1)
  | inr few ↦ (text_head (length us) ++ by_units us, u_last us few)
]

pub some_text : (text : Text) → IsUtf8 text → (bytes : List ℕ) × WrittenText text bytes
some_text text u =
    let q = some_units (suc (length (flat_map encode_utf16 u.0))) (flat_map encode_utf16 u.0) (omega arith) in
    (q.0, record { chars = u.0; scalar = u.1.0; are_chars = sym u.1.1; written = q.1 })

some_bytes : (fuel : ℕ) (contents : List ℕ) → length contents < fuel → (bytes : List ℕ) × WrittenBinary contents bytes
some_bytes zero contents h = absurd (omega (arith, h))
some_bytes (suc fuel) contents h = elim (cases_lt CHUNK (length contents)) [
  | inl many ↦
      let long = length-drop CHUNK contents in
      let q = some_bytes fuel (drop CHUNK contents) (omega (arith, h, long, many)) in
      (_, b_chunk contents q.0 many q.1)
  | inr few ↦ (binary_head (length contents) ++ contents, b_last contents few)
]

pub some_leaf : (v : Value) → IsCarriedValue v → node_of v ≡ None → (bytes : List ℕ) × LeafForm hessian_forms v bytes
some_leaf values.Null c e = (some_null.0, scalar values.Null some_null.0 null some_null.1)
some_leaf (values.Bool b) c e = let q = some_bool b in (q.0, scalar (values.Bool b) q.0 (bool b) q.1)
some_leaf (values.Int z) c e = let q = some_int z c in (q.0, scalar (values.Int z) q.0 (int z) q.1)
some_leaf (values.Long z) c e = let q = some_long z c in (q.0, scalar (values.Long z) q.0 (long z) q.1)
some_leaf (values.Date z) c e = let q = some_date z c in (q.0, scalar (values.Date z) q.0 (date z) q.1)
some_leaf (values.Text text) c e = let q = some_text text c in (q.0, text_leaf text q.0 q.1)
some_leaf (values.Bytes contents) c e = let q = some_bytes (suc (length contents)) contents (omega arith) in (q.0, binary_leaf contents q.0 (c, q.1))
some_leaf (values.Node n) c e = cc

some_texts : (texts : List Text) → All IsUtf8 texts → (bytes : List ℕ) × TextsSpelling hessian_forms texts bytes
some_texts [] all = ([], no_texts)
some_texts (text ∷ texts) all =
    let q = some_text text (all 0 text (omega arith)) in
    let r = some_texts texts (All-tail IsUtf8 text texts all) in
    (q.0 ++ r.0, one_text text texts q.0 r.0 q.1 r.1)

some_class : (class : Class) → IsUtf8 class.name → All IsUtf8 class.fields → length class.fields < 2147483648 → (bytes : List ℕ) × ClassSpelling hessian_forms class bytes
some_class class name fields few =
    let q = some_text class.name name in
    let n = some_count (length class.fields) few in
    let r = some_texts class.fields fields in
    (q.0 ++ (n.0 ++ r.0), record { name = q.0; count = n.0; fields = r.0; is_name = q.1; is_count = n.1; are_fields = r.1; joined = refl })

-- names that are equal or not
abbrev Decided : {N : Type 0} → N → N → Type 0
Decided a b = (a ≡ b) ⊎ (a ≡ b → ⊥)

never : ◌≡◌ {A = Bool} true false → ⊥
never e = cc

text_decided : (a b : Text) → Decided a b
text_decided a b = elim (cases_Bool (bytes_eq a b)) [
  | inl same ↦ inl ((bytes_decides a b).0 same)
  | inr apart ↦ inr (λ e. never (sym ((bytes_decides a b).1 e) ∙ apart))
]

head_of : Text → List Text → Text
head_of d [] = d
head_of d (x ∷ xs) = x

tail_of : List Text → List Text
tail_of [] = []
tail_of (x ∷ xs) = xs

texts_decided : (xs ys : List Text) → Decided xs ys
unfolding head_of tail_of
texts_decided [] [] = inl refl
texts_decided [] (y ∷ ys) = inr (λ e. let l = ap length e in absurd (omega (arith, l)))
texts_decided (x ∷ xs) [] = inr (λ e. let l = ap length e in absurd (omega (arith, l)))
texts_decided (x ∷ xs) (y ∷ ys) = elim (text_decided x y) [
  | inl same ↦ elim (texts_decided xs ys) [
    | inl rest ↦ inl (ap (λ z. z ∷ xs) same ∙ ap (λ z. y ∷ z) rest)
    | inr apart ↦ inr (λ e. apart (ap tail_of e))
  ]
  | inr apart ↦ inr (λ e. apart (ap (head_of []) e))
]

class_decided : (a b : Class) → Decided a b
class_decided a b = elim (texts_decided (words_of a) (words_of b)) [
  | inl same ↦ inl (same_class a b same)
  | inr apart ↦ inr (λ e. apart (ap words_of e))
]

-- a name stands in a table, and first at some place, or it is new
module _ {N : Type 0} (none : N) (decided : (a b : N) → Decided a b) (name : N) where
  abbrev Found : List N → Type 0
  Found table = ((k : ℕ) × IsEarliest none table name k) ⊎ IsNew none table name

  not_sooner : (x : N) (xs : List N) (k : ℕ) → (x ≡ name → ⊥) → IsEarliest none xs name k → (j : ℕ) → j < suc k → get_or (x ∷ xs) j none ≡ name → ⊥
  not_sooner x xs k other is zero h e = other e
  not_sooner x xs k other is (suc j) h e = is.earliest j (omega (arith, h)) e

  not_here : (x : N) (xs : List N) → (x ≡ name → ⊥) → IsNew none xs name → (j : ℕ) → j < suc (length xs) → get_or (x ∷ xs) j none ≡ name → ⊥
  not_here x xs other new zero h e = other e
  not_here x xs other new (suc j) h e = new j (omega (arith, h)) e

  pub look_up : (table : List N) → Found table
  look_up [] = inr (λ k h e. absurd (omega (arith, h)))
  look_up (x ∷ xs) = elim (decided x name) [
    | inl same ↦ inl (0, record { within = omega arith; is = same; earliest = λ j h e. absurd (omega (arith, h)) })
    | inr other ↦ elim (look_up xs) [
      | inl found ↦ inl (suc found.0, record { within = let w = found.1.within in omega (arith, w); is = found.1.is; earliest = not_sooner x xs found.0 other found.1 })
      | inr new ↦ inr (not_here x xs other new)
    ]
  ]

-- the form of a type, after which the tables have one type more at most
record SomeType (type : Text) (t : Tables) : Type 0 where
  u : Tables
  bytes : List ℕ
  form : TypeForm hessian_forms type t u bytes
  types : length u.types ≤ length t.types + 1
  classes : u.classes ≡ t.classes
  begun : u.begun ≡ t.begun

some_type : (type : Text) (t : Tables) → IsUtf8 type → length t.types < 2147483648 → SomeType type t
some_type type t utf8 few = elim (look_up [] text_decided type t.types) [
  | inl found ↦
      let n = some_count found.0 (let w = found.1.within in omega (arith, w, few)) in
      record { u = t; bytes = n.0; form = known type found.0 n.0 found.1 n.1; types = omega arith; classes = refl; begun = refl }
  | inr fresh ↦
      let q = some_text type utf8 in
      record { u = add_type type t; bytes = q.0; form = new_type type q.0 fresh q.1; types = rw length-append (omega arith); classes = refl; begun = refl }
]

-- the head of a node, after which the tables have one type and one class more at most
pub record SomeHead (kind : Kind) (count : ℕ) (t : Tables) : Type 0 where
  pub u : Tables
  pub bytes : List ℕ
  pub form : HeadForm hessian_forms kind count t u bytes
  pub types : length u.types ≤ length t.types + 1
  pub classes : length u.classes ≤ length t.classes + 1

plain_list : (count : ℕ) (t : Tables) → count < 2147483648 → SomeHead (ListKind None) count t
plain_list count t few = elim (cases_lt 7 count) [
  | inl many ↦
      let n = some_count count few in
      record { u = one_more t; bytes = 0x58 ∷ n.0; form = long_list count n.0 many n.1; types = omega arith; classes = omega arith }
  | inr short ↦ record { u = one_more t; bytes = (0x78 + count) ∷ []; form = short_list count short; types = omega arith; classes = omega arith }
]

typed_list : (type : Text) (count : ℕ) (t : Tables) → IsUtf8 type → length t.types < 2147483648 → count < 2147483648 → SomeHead (ListKind (Some type)) count t
typed_list type count t utf8 room few =
    let q = some_type type t utf8 room in
    let same = ap length q.classes in
    elim (cases_lt 7 count) [
      | inl many ↦
          let n = some_count count few in
          record { u = one_more q.u; bytes = 0x56 ∷ (q.bytes ++ n.0); form = long_typed_list type count q.bytes n.0 many q.form n.1; types = q.types; classes = omega (arith, same) }
      | inr short ↦ record { u = one_more q.u; bytes = (0x70 + count) ∷ q.bytes; form = short_typed_list type count q.bytes short q.form; types = q.types; classes = omega (arith, same) }
    ]

known_object : (class : Class) (k count : ℕ) (t : Tables) → IsEarliest no_class t.classes class k → count ≡ length class.fields → k < 2147483648 → (bytes : List ℕ) × HeadForm hessian_forms (ObjectKind class) count t (one_more t) bytes
known_object class k count t is are few = elim (cases_lt 15 k) [
  | inl many ↦ let n = some_count k few in (0x4f ∷ n.0, long_object class count k n.0 is are many n.1)
  | inr short ↦ ((0x60 + k) ∷ [], short_object class count k is are short)
]

-- a class that is added is found at the end
added : (classes : List Class) (class : Class) → IsNew no_class classes class → IsEarliest no_class (classes ++ class ∷ []) class (length classes)
added classes class fresh = record {
  within = rw length-append (omega arith);
  is = last_get classes class no_class;
  earliest = λ j h e. fresh j h (sym (front_get classes (class ∷ []) j no_class h) ∙ e);
}

object : (class : Class) (count : ℕ) (t : Tables) → IsUtf8 class.name → All IsUtf8 class.fields → count ≡ length class.fields → length t.classes < 2147483648 → length class.fields < 2147483648 → SomeHead (ObjectKind class) count t
object class count t name fields are room few = elim (look_up no_class class_decided class t.classes) [
  | inl found ↦
      let q = known_object class found.0 count t found.1 are (let w = found.1.within in omega (arith, w, room)) in
      record { u = one_more t; bytes = q.0; form = q.1; types = omega arith; classes = omega arith }
  | inr fresh ↦
      let d = some_class class name fields few in
      let q = known_object class (length t.classes) count (add_class class t) (added t.classes class fresh) are room in
      record { u = one_more (add_class class t); bytes = 0x43 ∷ (d.0 ++ q.0); form = first_object class count d.0 q.0 fresh d.1 q.1; types = omega arith; classes = rw length-append (omega arith) }
]

pub some_head : (kind : Kind) (vs : List Value) (t : Tables) → IsShortKind kind vs → IsCarriedKind kind vs → length t.types < 2147483648 → length t.classes < 2147483648 → SomeHead kind (length vs) t
some_head (ListKind None) vs t short carried types classes = plain_list (length vs) t short
some_head (ListKind (Some type)) vs t short carried types classes = typed_list type (length vs) t carried types short
some_head (MapKind None) vs t short carried types classes = record { u = one_more t; bytes = 0x48 ∷ []; form = map_head (length vs) carried.1.0 carried.1.1; types = omega arith; classes = omega arith }
some_head (MapKind (Some type)) vs t short carried types classes =
    let q = some_type type t carried.0 types in
    let same = ap length q.classes in
    record { u = one_more q.u; bytes = 0x4d ∷ q.bytes; form = typed_map type (length vs) carried.1.0 q.bytes carried.1.1 q.form; types = q.types; classes = omega (arith, same) }
some_head (ObjectKind class) vs t short carried types classes = object class (length vs) t carried.0.0 carried.0.1 carried.1 classes short
