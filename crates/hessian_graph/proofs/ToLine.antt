-- What is spelled as a tree is spelled from left to right.
use Rattle.std.proofs.Common.{◌≡◌, ℕ, List, [], ◌∷◌, ◌++◌, refl, sym, ◌∙◌, subst, append_assoc}
use Rattle.std.specs.Prelude.{Some, None}
use Rattle.std.proofs.lemmas.List.{append-nil}
use Rattle.hessian_graph.specs.declared.value.Value.{Value}
use Rattle.hessian_graph.specs.declared.node.Class.{Class}
use Rattle.hessian_graph.specs.Shape.{Text, Shape, Kind, ListKind, values_at}
use Rattle.hessian_graph.specs.Reading.{Tables, Leaves, add_class}
use Rattle.hessian_graph.specs.Spells.{TypeSpelling, TextsSpelling, ClassSpelling, Begins, Spells, SpellsAll}
use Rattle.hessian_graph.specs.Spells.TypeSpelling.{named, numbered}
use Rattle.hessian_graph.specs.Spells.TextsSpelling.{none as no_texts, one as one_text}
use Rattle.hessian_graph.specs.Spells.Spells.{scalar as t_scalar, text as t_text, binary as t_binary, reference as t_reference, class_first as t_class_first, open_list as t_open_list, long_list as t_long_list, short_list as t_short_list, open_typed_list as t_open_typed_list, long_typed_list as t_long_typed_list, short_typed_list as t_short_typed_list, open_map as t_open_map, open_typed_map as t_open_typed_map, long_object as t_long_object, short_object as t_short_object}
use Rattle.hessian_graph.specs.Spells.SpellsAll.{none as ts_none, one as ts_one}
use Rattle.hessian_graph.specs.Line.{Form, Open, Long, Short, Pairs, Symbol, ValueOf, TypeFor, NameOf, values_then, fields_then, defined, IsNext, typed_kind, behind_type, begun_by, Row, Line}
use Rattle.hessian_graph.specs.Line.TypedCode.{open_list as c_open_list, long_list as c_long_list, short_list as c_short_list, map as c_map}
use Rattle.hessian_graph.specs.Line.Row.{type_name as r_type_name, type_number as r_type_number, field_name as r_field_name, class_name as r_class_name, field_count as r_field_count, scalar as r_scalar, text as r_text, binary as r_binary, refer as r_refer, reference as r_reference, define as r_define, open_list as r_open_list, end as r_end, long_list as r_long_list, list_length as r_list_length, short_list as r_short_list, typed as r_typed, open_map as r_open_map, long_object as r_long_object, class_number as r_class_number, short_object as r_short_object}
use Rattle.hessian_graph.specs.Line.Line.{done, next}

-- an element, with more behind it
put : {l : Leaves} {g : Shape} {t t' u : Tables} {s : Symbol} {ss ss' : List Symbol} (element more rest : List ℕ) → Row l g t s element ss ss' t' → Line l g t' ss' u (more ++ rest) → Line l g t (s ∷ ss) u ((element ++ more) ++ rest)
put element more rest row line = next element (more ++ rest) ((element ++ more) ++ rest) row (append_assoc element more rest) line

-- an element, the last of its value
put_last : {l : Leaves} {g : Shape} {t t' u : Tables} {s : Symbol} {ss ss' : List Symbol} (element rest : List ℕ) → Row l g t s element ss ss' t' → Line l g t' ss' u rest → Line l g t (s ∷ ss) u (element ++ rest)
put_last element rest row line = next element rest (element ++ rest) row refl line

-- a code
put_code : {l : Leaves} {g : Shape} {t t' u : Tables} {s : Symbol} {ss ss' : List Symbol} (code : ℕ) (more : List ℕ) → Row l g t s (code ∷ []) ss ss' t' → Line l g t' ss' u more → Line l g t (s ∷ ss) u (code ∷ more)
put_code code more row line = next (code ∷ []) more (code ∷ more) row refl line

regroup : {l : Leaves} {g : Shape} {t u : Tables} {ss : List Symbol} (front more rest : List ℕ) → Line l g t ss u (front ++ (more ++ rest)) → Line l g t ss u ((front ++ more) ++ rest)
regroup {l} {g} {t} {u} {ss} front more rest line = subst (Line l g t ss u) (sym (append_assoc front more rest)) line

next_of : {g : Shape} {t : Tables} {n : ℕ} (kind : Kind) → Begins g t n kind → IsNext g t n
next_of kind b = record { next = b.next; within = b.within }

-- a type adds no node
begun_same : {l : Leaves} {type : Text} {t u : Tables} {name : List ℕ} → TypeSpelling l type t u name → u.begun ≡ t.begun
begun_same (named text bytes is) = refl
begun_same (numbered k bytes known is) = refl

type_line : {l : Leaves} {g : Shape} {type : Text} {t u w : Tables} {name : List ℕ} {ss : List Symbol} (form : Form) (n : ℕ) (more rest : List ℕ) → TypeSpelling l type t u name → Begins g t n (typed_kind form type) → Line l g (begun_by form u) (behind_type form n (values_at g n) ss) w (more ++ rest) → Line l g t (TypeFor form n ∷ ss) w ((name ++ more) ++ rest)
type_line form n more rest (named type bytes is) b line = put bytes more rest (r_type_name form n type bytes b is) line
type_line form n more rest (numbered k bytes known is) b line = put bytes more rest (r_type_number form n k bytes known b is) line

fields_line : {l : Leaves} {g : Shape} {w : Tables} {ss : List Symbol} {fields : List Text} {bytes : List ℕ} (t : Tables) (class : Class) (rest : List ℕ) → TextsSpelling l fields bytes → Line l g (add_class class t) ss w rest → Line l g (defined class fields t) (fields_then class fields ss) w (bytes ++ rest)
fields_line t class rest no_texts line = line
fields_line t class rest (one_text field fields front more is tail) line = put front more rest (r_field_name class field fields front is) (fields_line t class rest tail line)

class_line : {l : Leaves} {g : Shape} {w : Tables} {ss : List Symbol} {bytes : List ℕ} (t : Tables) (class : Class) (rest : List ℕ) → ClassSpelling l class bytes → Line l g (add_class class t) ss w rest → Line l g t (NameOf class ∷ ss) w (bytes ++ rest)
class_line {l} {g} {w} {ss} t class rest c line =
    subst (λ x. Line l g t (NameOf class ∷ ss) w (x ++ rest)) (sym c.joined)
    (put c.name (c.count ++ c.fields) rest (r_class_name class c.name c.is_name)
    (put c.count c.fields rest (r_field_count class c.count c.is_count) (fields_line t class rest c.are_fields line)))

mutual
  pub value_line : {l : Leaves} {g : Shape} {v : Value} {t u w : Tables} {ss : List Symbol} {front : List ℕ} (rest : List ℕ) → Spells l g v t u front → Line l g u ss w rest → Line l g t (ValueOf v ∷ ss) w (front ++ rest)
  value_line rest (t_scalar v bytes plain is) line = put_last bytes rest (r_scalar v bytes plain is) line
  value_line rest (t_text text bytes is) line = put_last bytes rest (r_text text bytes is) line
  value_line rest (t_binary contents bytes is) line = put_last bytes rest (r_binary contents bytes is) line
  value_line rest (t_reference n number begun is) line =
      put_code 0x51 (number ++ rest) (r_refer n) (put_last number rest (r_reference n number begun is) line)
  value_line {l} {g} {w = w} {ss = ss} rest (t_class_first {t = t} v class definition more is inner) line =
      put_code 0x43 ((definition ++ more) ++ rest) (r_define v class)
      (regroup definition more rest (class_line t class (more ++ rest) is (value_line rest inner line)))
  value_line rest (t_open_list n items b inner) line =
      put_code 0x57 ((items ++ 0x5a ∷ []) ++ rest) (r_open_list n b)
      (regroup items (0x5a ∷ []) rest (values_line (0x5a ∷ rest) inner (put_code 0x5a rest r_end line)))
  value_line rest (t_long_list n count items b is inner) line =
      put_code 0x58 ((count ++ items) ++ rest) (r_long_list n b)
      (put count items rest (r_list_length n count (next_of (ListKind None) b) is) (values_line rest inner line))
  value_line rest (t_short_list n code items b row count inner) line =
      put_code code (items ++ rest) (r_short_list n code b row count) (values_line rest inner line)
  value_line rest (t_open_typed_list n type name items b is inner) line =
      put_code 0x55 ((name ++ (items ++ 0x5a ∷ [])) ++ rest) (r_typed Open n 0x55 (next_of (ListKind (Some type)) b) c_open_list)
      (type_line Open n (items ++ 0x5a ∷ []) rest is b
      (regroup items (0x5a ∷ []) rest (values_line (0x5a ∷ rest) inner (put_code 0x5a rest r_end line))))
  value_line rest (t_long_typed_list n type name count items b is counted inner) line =
      put_code 0x56 ((name ++ (count ++ items)) ++ rest) (r_typed Long n 0x56 (next_of (ListKind (Some type)) b) c_long_list)
      (type_line Long n (count ++ items) rest is b
      (put count items rest (r_list_length n count (record { next = b.next ∙ sym (begun_same is); within = b.within }) counted) (values_line rest inner line)))
  value_line rest (t_short_typed_list n code type name items b row count is inner) line =
      put_code code ((name ++ items) ++ rest) (r_typed Short n code (next_of (ListKind (Some type)) b) (c_short_list code row count))
      (type_line Short n items rest is b (values_line rest inner line))
  value_line rest (t_open_map n items b pairs inner) line =
      put_code 0x48 ((items ++ 0x5a ∷ []) ++ rest) (r_open_map n b pairs)
      (regroup items (0x5a ∷ []) rest (values_line (0x5a ∷ rest) inner (put_code 0x5a rest r_end line)))
  value_line rest (t_open_typed_map n type name items b pairs is inner) line =
      put_code 0x4d ((name ++ (items ++ 0x5a ∷ [])) ++ rest) (r_typed Pairs n 0x4d (record { next = b.next; within = b.within }) (c_map pairs))
      (type_line Pairs n (items ++ 0x5a ∷ []) rest is b
      (regroup items (0x5a ∷ []) rest (values_line (0x5a ∷ rest) inner (put_code 0x5a rest r_end line))))
  value_line rest (t_long_object n k number items b is inner) line =
      put_code 0x4f ((number ++ items) ++ rest) (r_long_object n (record { next = b.begins.next; within = b.begins.within }))
      (put number items rest (r_class_number n k number b is) (values_line rest inner line))
  value_line rest (t_short_object n code items row b inner) line =
      put_code code (items ++ rest) (r_short_object n code row b) (values_line rest inner line)

  pub values_line : {l : Leaves} {g : Shape} {vs : List Value} {t u w : Tables} {ss : List Symbol} {front : List ℕ} (rest : List ℕ) → SpellsAll l g vs t u front → Line l g u ss w rest → Line l g t (values_then vs ss) w (front ++ rest)
  values_line rest ts_none line = line
  values_line rest (ts_one front more head tail) line = regroup front more rest (value_line (more ++ rest) head (values_line rest tail line))

-- values, spelled one after another, are spelled from left to right
pub line_of : {l : Leaves} {g : Shape} {vs : List Value} {t u : Tables} {bytes : List ℕ} → SpellsAll l g vs t u bytes → Line l g t (values_then vs []) u bytes
line_of {l} {g} {vs} {t} {u} {bytes} all = subst (Line l g t (values_then vs []) u) (append-nil bytes) (values_line [] all done)
