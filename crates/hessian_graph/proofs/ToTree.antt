-- What is spelled from left to right is spelled as a tree.
use Rattle.std.proofs.Common.{◌≡◌, ℕ, ◌<◌, List, [], ◌∷◌, ◌++◌, length, get_or, refl, ap, sym, ◌∙◌, subst, append_assoc}
use Rattle.std.specs.Prelude.{pos}
use Rattle.std.proofs.lemmas.List.{append-nil}
use Rattle.hessian_graph.specs.declared.value.Value.{Value}
use Rattle.hessian_graph.specs.declared.value.Value.TheVariants as values
use Rattle.hessian_graph.specs.declared.node.Class.{Class}
use Rattle.hessian_graph.specs.Shape.{Text, Shape, values_at}
use Rattle.hessian_graph.specs.Reading.{Tables, Leaves, IntSpelling, one_more, add_type, add_class}
use Rattle.hessian_graph.specs.Spells.{TypeSpelling, TextsSpelling, ClassSpelling, Begins, BeginsObject, Spells, SpellsAll}
use Rattle.hessian_graph.specs.Spells.TypeSpelling.{named, numbered}
use Rattle.hessian_graph.specs.Spells.TextsSpelling.{none as no_texts, one as one_text}
use Rattle.hessian_graph.specs.Spells.Spells.{open_typed_list as t_open_typed_list, long_typed_list as t_long_typed_list, short_typed_list as t_short_typed_list, open_typed_map as t_open_typed_map, class_first as t_class_first, scalar as t_scalar, text as t_text, binary as t_binary, reference as t_reference, open_list as t_open_list, long_list as t_long_list, short_list as t_short_list, open_map as t_open_map, long_object as t_long_object, short_object as t_short_object}
use Rattle.hessian_graph.specs.Spells.SpellsAll.{none as ts_none, one as ts_one}
use Rattle.hessian_graph.specs.Line.{Form, Open, Long, Short, Pairs, Symbol, ValueOf, End, Reference, TypeFor, LengthFor, ClassFor, NameOf, CountOf, FieldOf, values_then, fields_then, defined, typed_kind, behind_type, begun_by, TypedCode, Row, Line}
use Rattle.hessian_graph.specs.Line.TypedCode.{open_list as c_open_list, long_list as c_long_list, short_list as c_short_list, map as c_map}
use Rattle.hessian_graph.specs.Line.Row.{scalar as r_scalar, text as r_text, binary as r_binary, end as r_end, refer as r_refer, reference as r_reference, define as r_define, class_name as r_class_name, field_count as r_field_count, field_name as r_field_name, open_list as r_open_list, long_list as r_long_list, short_list as r_short_list, list_length as r_list_length, typed as r_typed, type_name as r_type_name, type_number as r_type_number, open_map as r_open_map, long_object as r_long_object, class_number as r_class_number, short_object as r_short_object}
use Rattle.hessian_graph.specs.Line.Line.{done, next}

-- what each symbol stands for: the length and the values of a node that begins here
record Counted (l : Leaves) (g : Shape) (n : ℕ) (t u : Tables) (bytes : List ℕ) : Type 0 where
  count : List ℕ
  items : List ℕ
  is_count : IntSpelling l (pos (length (values_at g n))) count
  all : SpellsAll l g (values_at g n) (one_more t) u items
  joined : bytes ≡ count ++ items

-- the values of a node that begins here, and `Z`
record UpToEnd (l : Leaves) (g : Shape) (n : ℕ) (t u : Tables) (bytes : List ℕ) : Type 0 where
  items : List ℕ
  all : SpellsAll l g (values_at g n) (one_more t) u items
  joined : bytes ≡ items ++ 0x5a ∷ []

-- the class number and the values of an object that begins here
record Numbered (l : Leaves) (g : Shape) (n : ℕ) (t u : Tables) (bytes : List ℕ) : Type 0 where
  k : ℕ
  number : List ℕ
  items : List ℕ
  begins : BeginsObject g t n k
  is_number : IntSpelling l (pos k) number
  all : SpellsAll l g (values_at g n) (one_more t) u items
  joined : bytes ≡ number ++ items

abbrev BehindType : Leaves → Shape → Form → ℕ → Tables → Tables → List ℕ → Type 0
BehindType l g Open n t u bytes = UpToEnd l g n t u bytes
BehindType l g Long n t u bytes = Counted l g n t u bytes
BehindType l g Short n t u bytes = SpellsAll l g (values_at g n) (one_more t) u bytes
BehindType l g Pairs n t u bytes = UpToEnd l g n t u bytes

-- a type, and what stands behind it
record Typed (l : Leaves) (g : Shape) (form : Form) (n : ℕ) (t u : Tables) (bytes : List ℕ) : Type 0 where
  type : Text
  name : List ℕ
  rest : List ℕ
  mid : Tables
  begins : Begins g t n (typed_kind form type)
  is_name : TypeSpelling l type t mid name
  behind : BehindType l g form n mid u rest
  joined : bytes ≡ name ++ rest

-- the number of a class's fields, and their names
record Fields (l : Leaves) (class : Class) (bytes : List ℕ) : Type 0 where
  count : List ℕ
  fields : List ℕ
  is_count : IntSpelling l (pos (length class.fields)) count
  are_fields : TextsSpelling l class.fields fields
  joined : bytes ≡ count ++ fields

abbrev Stands : Leaves → Shape → Symbol → Tables → Tables → List ℕ → Type 0
Stands l g (ValueOf v) t u bytes = Spells l g v t u bytes
Stands l g End t u bytes = (u ≡ t) × (bytes ≡ 0x5a ∷ [])
Stands l g (Reference n) t u bytes = (u ≡ t) × (n < t.begun) × IntSpelling l (pos n) bytes
Stands l g (TypeFor form n) t u bytes = Typed l g form n t u bytes
Stands l g (LengthFor n) t u bytes = Counted l g n t u bytes
Stands l g (ClassFor n) t u bytes = Numbered l g n t u bytes
Stands l g (NameOf class) t u bytes = (u ≡ add_class class t) × ClassSpelling l class bytes
Stands l g (CountOf class) t u bytes = (u ≡ add_class class t) × Fields l class bytes
Stands l g (FieldOf class field fields) t u bytes = (u ≡ add_class class t) × TextsSpelling l (field ∷ fields) bytes

-- the symbols, one after another
abbrev AllStand : Leaves → Shape → List Symbol → Tables → Tables → List ℕ → Type 0
AllStand l g [] t u bytes = (t ≡ u) × (bytes ≡ [])
AllStand l g (s ∷ ss) t u bytes = (mid : Tables) × (front : List ℕ) × (rest : List ℕ) × Stands l g s t mid front × (bytes ≡ front ++ rest) × AllStand l g ss mid u rest

join : (a b c bytes rest : List ℕ) → bytes ≡ a ++ rest → rest ≡ b ++ c → bytes ≡ (a ++ b) ++ c
join a b c bytes rest e e' = e ∙ ap (λ x. a ++ x) e' ∙ sym (append_assoc a b c)

-- the bytes are those of a thing, and then those of the symbols
record Splits (l : Leaves) (g : Shape) (Thing : Tables → List ℕ → Type 0) (ss : List Symbol) (u : Tables) (bytes : List ℕ) : Type 0 where
  mid : Tables
  front : List ℕ
  rest : List ℕ
  thing : Thing mid front
  joined : bytes ≡ front ++ rest
  after : AllStand l g ss mid u rest

split : (l : Leaves) (g : Shape) (vs : List Value) (t : Tables) (ss : List Symbol) (u : Tables) (bytes : List ℕ) → AllStand l g (values_then vs ss) t u bytes → Splits l g (λ mid front. SpellsAll l g vs t mid front) ss u bytes
split l g [] t ss u bytes p = record { mid = t; front = []; rest = bytes; thing = ts_none; joined = refl; after = p }
split l g (v ∷ vs) t ss u bytes (mid, front, rest, head, is, tail) =
    let q = split l g vs mid ss u rest tail in
    record { mid = q.mid; front = front ++ q.front; rest = q.rest; thing = ts_one front q.front head q.thing; joined = join front q.front q.rest bytes rest is q.joined; after = q.after }

split_end : (l : Leaves) (g : Shape) (n : ℕ) (t : Tables) (ss : List Symbol) (u : Tables) (bytes : List ℕ) → AllStand l g (values_then (values_at g n) (End ∷ ss)) (one_more t) u bytes → Splits l g (λ mid front. UpToEnd l g n t mid front) ss u bytes
split_end l g n t ss u bytes p =
    let q = split l g (values_at g n) (one_more t) (End ∷ ss) u bytes p in
    let (mid, end, rest, (same, z), is, after) = q.after in
    let is' : q.rest ≡ (0x5a ∷ []) ++ rest = is ∙ ap (λ x. x ++ rest) z in
    record {
      mid = mid;
      front = q.front ++ 0x5a ∷ [];
      rest = rest;
      thing = record { items = q.front; all = subst (λ x. SpellsAll l g (values_at g n) (one_more t) x q.front) (sym same) q.thing; joined = refl };
      joined = join q.front (0x5a ∷ []) rest bytes q.rest q.joined is';
      after = after;
    }

split_typed : (l : Leaves) (g : Shape) (form : Form) (n : ℕ) (t : Tables) (ss : List Symbol) (u : Tables) (bytes : List ℕ) → AllStand l g (behind_type form n (values_at g n) ss) (begun_by form t) u bytes → Splits l g (λ mid front. BehindType l g form n t mid front) ss u bytes
split_typed l g Open n t ss u bytes p = split_end l g n t ss u bytes p
split_typed l g Long n t ss u bytes (mid, front, rest, head, is, tail) = record { mid = mid; front = front; rest = rest; thing = head; joined = is; after = tail }
split_typed l g Short n t ss u bytes p = split l g (values_at g n) (one_more t) ss u bytes p
split_typed l g Pairs n t ss u bytes p = split_end l g n t ss u bytes p

split_fields : (l : Leaves) (g : Shape) (class : Class) (fields : List Text) (t : Tables) (ss : List Symbol) (u : Tables) (bytes : List ℕ) → AllStand l g (fields_then class fields ss) (defined class fields t) u bytes → Splits l g (λ mid front. (mid ≡ add_class class t) × TextsSpelling l fields front) ss u bytes
split_fields l g class [] t ss u bytes p = record { mid = add_class class t; front = []; rest = bytes; thing = (refl, no_texts); joined = refl; after = p }
split_fields l g class (field ∷ fields) t ss u bytes (mid, front, rest, head, is, tail) = record { mid = mid; front = front; rest = rest; thing = head; joined = is; after = tail }

-- a typed node
typed_tree : (l : Leaves) (g : Shape) (form : Form) (n code : ℕ) (t u : Tables) (bytes : List ℕ) → TypedCode (values_at g n) form code → Typed l g form n t u bytes → Spells l g (values.Node n) t u (code ∷ bytes)
typed_tree l g Open n code t u bytes c_open_list p =
    let q = p.behind in
    subst (λ x. Spells l g (values.Node n) t u (0x55 ∷ x)) (sym (p.joined ∙ ap (λ x. p.name ++ x) q.joined))
    (t_open_typed_list n p.type p.name q.items p.begins p.is_name q.all)
typed_tree l g Long n code t u bytes c_long_list p =
    let q = p.behind in
    subst (λ x. Spells l g (values.Node n) t u (0x56 ∷ x)) (sym (p.joined ∙ ap (λ x. p.name ++ x) q.joined))
    (t_long_typed_list n p.type p.name q.count q.items p.begins p.is_name q.is_count q.all)
typed_tree l g Short n code t u bytes (c_short_list code' row count) p =
    subst (λ x. Spells l g (values.Node n) t u (code' ∷ x)) (sym p.joined) (t_short_typed_list n code' p.type p.name p.rest p.begins row count p.is_name p.behind)
typed_tree l g Pairs n code t u bytes (c_map pairs) p =
    let q = p.behind in
    subst (λ x. Spells l g (values.Node n) t u (0x4d ∷ x)) (sym (p.joined ∙ ap (λ x. p.name ++ x) q.joined))
    (t_open_typed_map n p.type p.name q.items p.begins pairs p.is_name q.all)

-- the class definition and the value that an element `C` begins
defined_tree : (l : Leaves) (g : Shape) (v : Value) (class : Class) (t u : Tables) (ss : List Symbol) (rest : List ℕ) → AllStand l g (NameOf class ∷ ValueOf v ∷ ss) t u rest → Splits l g (λ mid front. Spells l g v t mid (0x43 ∷ front)) ss u rest
defined_tree l g v class t u ss rest (t', definition, rest', (same, is), e, (t'', bytes, rest'', spells, e', after)) = record {
  mid = t'';
  front = definition ++ bytes;
  rest = rest'';
  thing = t_class_first v class definition bytes is (subst (λ x. Spells l g v x t'' bytes) same spells);
  joined = join definition bytes rest'' rest rest' e e';
  after = after;
}

by_row : {l : Leaves} {g : Shape} {t t' : Tables} {s : Symbol} {element : List ℕ} {ss ss' : List Symbol} (u : Tables) (rest bytes : List ℕ) → Row l g t s element ss ss' t' → bytes ≡ element ++ rest → AllStand l g ss' t' u rest → AllStand l g (s ∷ ss) t u bytes
by_row {t = t} u rest bytes (r_scalar v element plain is) e p = (t, element, rest, t_scalar v element plain is, e, p)
by_row {t = t} u rest bytes (r_text text element is) e p = (t, element, rest, t_text text element is, e, p)
by_row {t = t} u rest bytes (r_binary contents element is) e p = (t, element, rest, t_binary contents element is, e, p)
by_row {t = t} u rest bytes r_end e p = (t, 0x5a ∷ [], rest, (refl, refl), e, p)
by_row {l} {g} {t} u rest bytes (r_refer n) e (mid, number, rest', (same, begun, is), e', p) =
    (mid, 0x51 ∷ number, rest', subst (λ x. Spells l g (values.Node n) t x (0x51 ∷ number)) (sym same) (t_reference n number begun is), join (0x51 ∷ []) number rest' bytes rest e e', p)
by_row {t = t} u rest bytes (r_reference n element begun is) e p = (t, element, rest, (refl, begun, is), e, p)
by_row {l} {g} {t} u rest bytes (r_define {ss = ss} v class) e p =
    let q = defined_tree l g v class t u ss rest p in
    (q.mid, 0x43 ∷ q.front, q.rest, q.thing, join (0x43 ∷ []) q.front q.rest bytes rest e q.joined, q.after)
by_row u rest bytes (r_class_name class element is) e (mid, front, rest', (same, fields), e', p) =
    (mid, element ++ front, rest', (same, record { name = element; count = fields.count; fields = fields.fields; is_name = is; is_count = fields.is_count; are_fields = fields.are_fields; joined = ap (λ x. element ++ x) fields.joined }), join element front rest' bytes rest e e', p)
by_row {l} {g} {t} u rest bytes (r_field_count {ss = ss} class element is) e p =
    let q = split_fields l g class class.fields t ss u rest p in
    (q.mid, element ++ q.front, q.rest, (q.thing.0, record { count = element; fields = q.front; is_count = is; are_fields = q.thing.1; joined = refl }), join element q.front q.rest bytes rest e q.joined, q.after)
by_row {l} {g} {t} u rest bytes (r_field_name {ss = ss} class field fields element is) e p =
    let q = split_fields l g class fields t ss u rest p in
    (q.mid, element ++ q.front, q.rest, (q.thing.0, one_text field fields element q.front is q.thing.1), join element q.front q.rest bytes rest e q.joined, q.after)
by_row {l} {g} {t} u rest bytes (r_open_list {ss = ss} n b) e p =
    let q = split_end l g n t ss u rest p in
    let d = q.thing in
    (q.mid, 0x57 ∷ q.front, q.rest, subst (λ x. Spells l g (values.Node n) t q.mid (0x57 ∷ x)) (sym d.joined) (t_open_list n d.items b d.all), join (0x57 ∷ []) q.front q.rest bytes rest e q.joined, q.after)
by_row {l} {g} {t} u rest bytes (r_long_list n b) e (mid, front, rest', d, e', p) =
    (mid, 0x58 ∷ front, rest', subst (λ x. Spells l g (values.Node n) t mid (0x58 ∷ x)) (sym d.joined) (t_long_list n d.count d.items b d.is_count d.all), join (0x58 ∷ []) front rest' bytes rest e e', p)
by_row {l} {g} {t} u rest bytes (r_short_list {ss = ss} n code b row count) e p =
    let q = split l g (values_at g n) (one_more t) ss u rest p in
    (q.mid, code ∷ q.front, q.rest, t_short_list n code q.front b row count q.thing, join (code ∷ []) q.front q.rest bytes rest e q.joined, q.after)
by_row {l} {g} {t} u rest bytes (r_list_length {ss = ss} n element b is) e p =
    let q = split l g (values_at g n) (one_more t) ss u rest p in
    (q.mid, element ++ q.front, q.rest, record { count = element; items = q.front; is_count = is; all = q.thing; joined = refl }, join element q.front q.rest bytes rest e q.joined, q.after)
by_row {l} {g} {t} u rest bytes (r_typed form n code b is) e (mid, front, rest', d, e', p) =
    (mid, code ∷ front, rest', typed_tree l g form n code t mid front is d, join (code ∷ []) front rest' bytes rest e e', p)
by_row {l} {g} {t} u rest bytes (r_type_name {ss = ss} form n type element b is) e p =
    let q = split_typed l g form n (add_type type t) ss u rest p in
    (q.mid, element ++ q.front, q.rest, record { type = type; name = element; rest = q.front; mid = add_type type t; begins = b; is_name = named type element is; behind = q.thing; joined = refl }, join element q.front q.rest bytes rest e q.joined, q.after)
by_row {l} {g} {t} u rest bytes (r_type_number {ss = ss} form n k element known b is) e p =
    let q = split_typed l g form n t ss u rest p in
    (q.mid, element ++ q.front, q.rest, record { type = get_or t.types k []; name = element; rest = q.front; mid = t; begins = b; is_name = numbered k element known is; behind = q.thing; joined = refl }, join element q.front q.rest bytes rest e q.joined, q.after)
by_row {l} {g} {t} u rest bytes (r_open_map {ss = ss} n b pairs) e p =
    let q = split_end l g n t ss u rest p in
    let d = q.thing in
    (q.mid, 0x48 ∷ q.front, q.rest, subst (λ x. Spells l g (values.Node n) t q.mid (0x48 ∷ x)) (sym d.joined) (t_open_map n d.items b pairs d.all), join (0x48 ∷ []) q.front q.rest bytes rest e q.joined, q.after)
by_row {l} {g} {t} u rest bytes (r_long_object n b) e (mid, front, rest', d, e', p) =
    (mid, 0x4f ∷ front, rest', subst (λ x. Spells l g (values.Node n) t mid (0x4f ∷ x)) (sym d.joined) (t_long_object n d.k d.number d.items d.begins d.is_number d.all), join (0x4f ∷ []) front rest' bytes rest e e', p)
by_row {l} {g} {t} u rest bytes (r_class_number {ss = ss} n k element b is) e p =
    let q = split l g (values_at g n) (one_more t) ss u rest p in
    (q.mid, element ++ q.front, q.rest, record { k = k; number = element; items = q.front; begins = b; is_number = is; all = q.thing; joined = refl }, join element q.front q.rest bytes rest e q.joined, q.after)
by_row {l} {g} {t} u rest bytes (r_short_object {ss = ss} n code row b) e p =
    let q = split l g (values_at g n) (one_more t) ss u rest p in
    (q.mid, code ∷ q.front, q.rest, t_short_object n code q.front row b q.thing, join (code ∷ []) q.front q.rest bytes rest e q.joined, q.after)

all_stand : {l : Leaves} {g : Shape} {t u : Tables} {ss : List Symbol} {bytes : List ℕ} → Line l g t ss u bytes → AllStand l g ss t u bytes
all_stand done = (refl, refl)
all_stand {u = u} (next element rest bytes row is line) = by_row u rest bytes row is (all_stand line)

-- values that are spelled from left to right are spelled one after another
pub tree_of : (l : Leaves) (g : Shape) (vs : List Value) (t u : Tables) (bytes : List ℕ) → Line l g t (values_then vs []) u bytes → SpellsAll l g vs t u bytes
tree_of l g vs t u bytes line =
    let q = split l g vs t [] u bytes (all_stand line) in
    let whole : bytes ≡ q.front = q.joined ∙ ap (λ x. q.front ++ x) q.after.1 ∙ append-nil q.front in
    subst (λ x. SpellsAll l g vs t x bytes) q.after.0 (subst (SpellsAll l g vs t q.mid) (sym whole) q.thing)
