-- Each form of the writer's is a form of the table: what it writes is a spelling.
use Rattle.std.proofs.Common.{◌≡◌, ℕ, ◌+◌, ◌-◌, ◌≤◌, List, length, sym, subst, arith}
use Rattle.std.specs.Prelude.{pos}
use Rattle.hessian_graph.specs.declared.value.Value.{Value}
use Rattle.hessian_graph.specs.declared.value.Value.TheVariants as values
use Rattle.hessian_graph.specs.declared.node.Class.{Class}
use Rattle.hessian_graph.specs.Shape.{Text, Shape, ObjectKind, values_at}
use Rattle.hessian_graph.specs.Reading.{Tables, Leaves, Includes, IsCode}
use Rattle.hessian_graph.specs.Spells.{TypeSpelling, TextsSpelling, ClassSpelling, Begins, BeginsObject, Spells, SpellsAll}
use Rattle.hessian_graph.specs.Spells.TypeSpelling.{named, numbered}
use Rattle.hessian_graph.specs.Spells.TextsSpelling.{none as no_texts, one as one_text}
use Rattle.hessian_graph.specs.Spells.Spells.{scalar as t_scalar, text as t_text, binary as t_binary, reference as t_reference, short_list as t_short_list, long_list as t_long_list, short_typed_list as t_short_typed_list, long_typed_list as t_long_typed_list, open_map as t_open_map, open_typed_map as t_open_typed_map, class_first as t_class_first, short_object as t_short_object, long_object as t_long_object}
use Rattle.hessian_graph.specs.Spells.SpellsAll.{none as ts_none, one as ts_one}
use Rattle.hessian_graph.specs.Forms.{TypeForm, IsObjectOf, Writes, WritesAll}
use Rattle.hessian_graph.specs.Forms.TypeForm.{known, new}
use Rattle.hessian_graph.specs.Forms.Writes.{scalar as w_scalar, text as w_text, binary as w_binary, reference as w_reference, short_list as w_short_list, long_list as w_long_list, short_typed_list as w_short_typed_list, long_typed_list as w_long_typed_list, map as w_map, typed_map as w_typed_map, first_object as w_first_object, short_object as w_short_object, long_object as w_long_object}
use Rattle.hessian_graph.specs.Forms.WritesAll.{none as ws_none, one as ws_one}

type_spelled : {l w : Leaves} {type : Text} {t u : Tables} {bytes : List ℕ} → Includes l w → TypeForm w type t u bytes → TypeSpelling l type t u bytes
type_spelled inc (new type bytes fresh is) = named type bytes (inc.text type bytes is)
type_spelled {l} inc (known {t = t} type k bytes place is) =
    subst (λ x. TypeSpelling l x t t bytes) place.is (numbered k bytes place.within (inc.scalar (values.Int (pos k)) bytes is))

texts_spelled : {l w : Leaves} {texts : List Text} {bytes : List ℕ} → Includes l w → TextsSpelling w texts bytes → TextsSpelling l texts bytes
texts_spelled inc no_texts = no_texts
texts_spelled inc (one_text text texts front rest is more) = one_text text texts front rest (inc.text text front is) (texts_spelled inc more)

class_spelled : {l w : Leaves} (class : Class) (bytes : List ℕ) → Includes l w → ClassSpelling w class bytes → ClassSpelling l class bytes
class_spelled class bytes inc c = record {
  name = c.name;
  count = c.count;
  fields = c.fields;
  is_name = inc.text class.name c.name c.is_name;
  is_count = inc.scalar (values.Int (pos (length class.fields))) c.count c.is_count;
  are_fields = texts_spelled inc c.are_fields;
  joined = c.joined;
}

-- a code of eight or sixteen that say a number
in_row : (first last n : ℕ) → first + n ≤ last → IsCode first last (first + n)
in_row first last n few = record { above = omega arith; below = few }

said : (first n : ℕ) → n ≡ (first + n) - first
said first n = omega arith

object_begins : (g : Shape) (t : Tables) (n k : ℕ) → IsObjectOf g t n k → BeginsObject g t n k
object_begins g t n k o = record {
  known = o.number_is.within;
  begins = subst (λ x. Begins g t n (ObjectKind x)) (sym o.number_is.is) o.begins;
  values_are = subst (λ (x : Class). length (values_at g n) ≡ length x.fields) (sym o.number_is.is) o.values_are;
}

mutual
  pub is_spelled : {l w : Leaves} {g : Shape} {v : Value} {t u : Tables} {bytes : List ℕ} → Includes l w → Writes w g v t u bytes → Spells l g v t u bytes
  is_spelled inc (w_scalar v bytes plain is) = t_scalar v bytes plain (inc.scalar v bytes is)
  is_spelled inc (w_text text bytes is) = t_text text bytes (inc.text text bytes is)
  is_spelled inc (w_binary contents bytes is) = t_binary contents bytes (inc.binary contents bytes is)
  is_spelled inc (w_reference n number begun is) = t_reference n number begun (inc.scalar (values.Int (pos n)) number is)
  is_spelled {g = g} inc (w_short_list n items b few all) =
      t_short_list n (0x78 + length (values_at g n)) items b (in_row 0x78 0x7f (length (values_at g n)) (omega (arith, few))) (said 0x78 (length (values_at g n))) (are_spelled inc all)
  is_spelled {g = g} inc (w_long_list n count items b many is all) = t_long_list n count items b (inc.scalar (values.Int (pos (length (values_at g n)))) count is) (are_spelled inc all)
  is_spelled {g = g} inc (w_short_typed_list n type name items b few is all) =
      t_short_typed_list n (0x70 + length (values_at g n)) type name items b (in_row 0x70 0x77 (length (values_at g n)) (omega (arith, few))) (said 0x70 (length (values_at g n))) (type_spelled inc is) (are_spelled inc all)
  is_spelled {g = g} inc (w_long_typed_list n type name count items b many is counted all) =
      t_long_typed_list n type name count items b (type_spelled inc is) (inc.scalar (values.Int (pos (length (values_at g n)))) count counted) (are_spelled inc all)
  is_spelled inc (w_map n items b pairs all) = t_open_map n items b pairs (are_spelled inc all)
  is_spelled inc (w_typed_map n type name items b pairs is all) = t_open_typed_map n type name items b pairs (type_spelled inc is) (are_spelled inc all)
  is_spelled inc (w_first_object n class definition rest b fresh is more) = t_class_first (values.Node n) class definition rest (class_spelled class definition inc is) (is_spelled inc more)
  is_spelled {g = g} inc (w_short_object {t = t} n k items o few all) =
      t_short_object n (0x60 + k) items (in_row 0x60 0x6f k (omega (arith, few))) (subst (BeginsObject g t n) (said 0x60 k) (object_begins g t n k o)) (are_spelled inc all)
  is_spelled {g = g} inc (w_long_object {t = t} n k number items o many is all) =
      t_long_object n k number items (object_begins g t n k o) (inc.scalar (values.Int (pos k)) number is) (are_spelled inc all)

  pub are_spelled : {l w : Leaves} {g : Shape} {vs : List Value} {t u : Tables} {bytes : List ℕ} → Includes l w → WritesAll w g vs t u bytes → SpellsAll l g vs t u bytes
  are_spelled inc ws_none = ts_none
  are_spelled inc (ws_one front rest head tail) = ts_one front rest (is_spelled inc head) (are_spelled inc tail)
