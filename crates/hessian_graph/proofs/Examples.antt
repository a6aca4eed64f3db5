-- Worked examples of what bytes denote, over ints of one byte and texts of fewer than 32 letters of one unit, and near
-- misses that denote nothing.
use Rattle.std.proofs.Common.{◌≡◌, ℕ, ◌<◌, List, [], ◌∷◌, ◌++◌, length, get_or, refl, ap, sym, ◌∙◌, arith}
use Rattle.std.specs.Prelude.{ℤ, pos, ◌-ℤ◌, Option, Some, None}
use Rattle.hessian_graph.specs.declared.value.Value.{Value}
use Rattle.hessian_graph.specs.declared.value.Value.TheVariants.{Int, Node}
use Rattle.hessian_graph.specs.declared.node.Class.{Class}
use Rattle.hessian_graph.specs.Shape.{Text, NodeShape, ListKind, Shape}
use Rattle.hessian_graph.specs.Reading.{Tables, Leaves, IsCode, no_tables}
use Rattle.hessian_graph.specs.Spells.{Denotes}
use Rattle.hessian_graph.specs.Spells.TypeSpelling.{named, numbered}
use Rattle.hessian_graph.specs.Spells.TextsSpelling.{none as no_texts}
use Rattle.hessian_graph.specs.Spells.Spells.{short_list as t_short_list, reference as t_reference, class_first as t_class_first, short_typed_list as t_short_typed_list}
use Rattle.hessian_graph.specs.Spells.SpellsAll.{one as ts_one, none as ts_none}
use Rattle.hessian_graph.specs.Line.{Form, Symbol, ValueOf, Reference, values_then, TypedCode, Row, Line}
use Rattle.hessian_graph.specs.Line.TypedCode.{open_list as c_open_list, long_list as c_long_list, short_list as c_short_list, map as c_map}
use Rattle.hessian_graph.specs.Line.Row.{scalar as r_scalar, text as r_text, binary as r_binary, refer as r_refer, define as r_define, open_list as r_open_list, long_list as r_long_list, short_list as r_short_list, typed as r_typed, open_map as r_open_map, long_object as r_long_object, short_object as r_short_object, reference as r_reference}
use Rattle.hessian_graph.specs.Line.Line.{done, next}
use Rattle.hessian_graph.proofs.ToLine.{line_of}

pub data OneByte : Value → List ℕ → Type 0 where
  int : (code : ℕ) (z : ℤ) → IsCode 0x80 0xbf code → z ≡ pos code -ℤ pos 0x90 → OneByte (Int z) (code ∷ [])

pub data ShortText : Text → List ℕ → Type 0 where
  short : (text : Text) → length text < 32 → ShortText text (length text ∷ text)

abbrev pub leaves : Leaves
leaves = record { scalar = OneByte; text = ShortText; binary = λ contents bytes. ⊥ }

zero_int : OneByte (Int (pos 0)) (0x90 ∷ [])
zero_int = int 0x90 (pos 0) (record { above = omega arith; below = omega arith }) refl

one_int : OneByte (Int (pos 1)) (0x91 ∷ [])
one_int = int 0x91 (pos 1) (record { above = omega arith; below = omega arith }) refl

abbrev pub list : Option Text → List Value → NodeShape
list type vs = record { kind = ListKind type; values = vs }

-- a list that holds itself
abbrev pub itself : Shape
itself = record { roots = Node 0 ∷ []; nodes = list None (Node 0 ∷ []) ∷ [] }

pub holds_itself : Denotes leaves 1 (0x79 ∷ 0x51 ∷ 0x90 ∷ []) itself
holds_itself = record {
  spelled = record {
    last = record { begun = 1; types = []; classes = [] };
    roots = ts_one (0x79 ∷ 0x51 ∷ 0x90 ∷ []) []
        (t_short_list 0 0x79 (0x51 ∷ 0x90 ∷ []) (record { next = refl; within = omega arith; kind_is = refl }) (record { above = omega arith; below = omega arith }) refl
        (ts_one (0x51 ∷ 0x90 ∷ []) [] (t_reference 0 (0x90 ∷ []) (omega arith) zero_int) ts_none))
        ts_none;
    all_begun = refl;
  };
  limit = omega arith;
}

-- one list in two places, and two lists that are equal
abbrev pub shared : Shape
shared = record { roots = Node 0 ∷ []; nodes = list None (Node 1 ∷ Node 1 ∷ []) ∷ list None [] ∷ [] }

pub is_shared : Denotes leaves 2 (0x7a ∷ 0x78 ∷ 0x51 ∷ 0x91 ∷ []) shared
is_shared = record {
  spelled = record {
    last = record { begun = 2; types = []; classes = [] };
    roots = ts_one (0x7a ∷ 0x78 ∷ 0x51 ∷ 0x91 ∷ []) []
        (t_short_list 0 0x7a (0x78 ∷ 0x51 ∷ 0x91 ∷ []) (record { next = refl; within = omega arith; kind_is = refl }) (record { above = omega arith; below = omega arith }) refl
        (ts_one (0x78 ∷ []) (0x51 ∷ 0x91 ∷ [])
        (t_short_list 1 0x78 [] (record { next = refl; within = omega arith; kind_is = refl }) (record { above = omega arith; below = omega arith }) refl ts_none)
        (ts_one (0x51 ∷ 0x91 ∷ []) [] (t_reference 1 (0x91 ∷ []) (omega arith) one_int) ts_none)))
        ts_none;
    all_begun = refl;
  };
  limit = omega arith;
}

abbrev pub equal_copies : Shape
equal_copies = record { roots = Node 0 ∷ []; nodes = list None (Node 1 ∷ Node 2 ∷ []) ∷ list None [] ∷ list None [] ∷ [] }

pub are_copies : Denotes leaves 3 (0x7a ∷ 0x78 ∷ 0x78 ∷ []) equal_copies
are_copies = record {
  spelled = record {
    last = record { begun = 3; types = []; classes = [] };
    roots = ts_one (0x7a ∷ 0x78 ∷ 0x78 ∷ []) []
        (t_short_list 0 0x7a (0x78 ∷ 0x78 ∷ []) (record { next = refl; within = omega arith; kind_is = refl }) (record { above = omega arith; below = omega arith }) refl
        (ts_one (0x78 ∷ []) (0x78 ∷ [])
        (t_short_list 1 0x78 [] (record { next = refl; within = omega arith; kind_is = refl }) (record { above = omega arith; below = omega arith }) refl ts_none)
        (ts_one (0x78 ∷ []) []
        (t_short_list 2 0x78 [] (record { next = refl; within = omega arith; kind_is = refl }) (record { above = omega arith; below = omega arith }) refl ts_none)
        ts_none)))
        ts_none;
    all_begun = refl;
  };
  limit = omega arith;
}

-- a class that is defined before a list, and used by nothing
abbrev pub class_a : Class
class_a = record { name = 0x61 ∷ []; fields = [] }

abbrev pub one_list : Shape
one_list = record { roots = Node 0 ∷ []; nodes = list None [] ∷ [] }

pub is_defined_before_a_list : Denotes leaves 1 (0x43 ∷ 0x01 ∷ 0x61 ∷ 0x90 ∷ 0x78 ∷ []) one_list
is_defined_before_a_list = record {
  spelled = record {
    last = record { begun = 1; types = []; classes = class_a ∷ [] };
    roots = ts_one (0x43 ∷ 0x01 ∷ 0x61 ∷ 0x90 ∷ 0x78 ∷ []) []
        (t_class_first (Node 0) class_a (0x01 ∷ 0x61 ∷ 0x90 ∷ []) (0x78 ∷ [])
        (record { name = 0x01 ∷ 0x61 ∷ []; count = 0x90 ∷ []; fields = []; is_name = short (0x61 ∷ []) (omega arith); is_count = zero_int; are_fields = no_texts; joined = refl })
        (t_short_list 0 0x78 [] (record { next = refl; within = omega arith; kind_is = refl }) (record { above = omega arith; below = omega arith }) refl ts_none))
        ts_none;
    all_begun = refl;
  };
  limit = omega arith;
}

-- the second type is the number of the first
abbrev pub int_array : Text
int_array = 0x5b ∷ 0x69 ∷ 0x6e ∷ 0x74 ∷ []

abbrev pub two_arrays : Shape
two_arrays = record { roots = Node 0 ∷ []; nodes = list None (Node 1 ∷ Node 2 ∷ []) ∷ list (Some int_array) [] ∷ list (Some int_array) [] ∷ [] }

pub has_a_type_number : Denotes leaves 3 (0x7a ∷ 0x70 ∷ 0x04 ∷ 0x5b ∷ 0x69 ∷ 0x6e ∷ 0x74 ∷ 0x70 ∷ 0x90 ∷ []) two_arrays
has_a_type_number = record {
  spelled = record {
    last = record { begun = 3; types = int_array ∷ []; classes = [] };
    roots = ts_one (0x7a ∷ 0x70 ∷ 0x04 ∷ 0x5b ∷ 0x69 ∷ 0x6e ∷ 0x74 ∷ 0x70 ∷ 0x90 ∷ []) []
        (t_short_list 0 0x7a (0x70 ∷ 0x04 ∷ 0x5b ∷ 0x69 ∷ 0x6e ∷ 0x74 ∷ 0x70 ∷ 0x90 ∷ []) (record { next = refl; within = omega arith; kind_is = refl }) (record { above = omega arith; below = omega arith }) refl
        (ts_one (0x70 ∷ 0x04 ∷ 0x5b ∷ 0x69 ∷ 0x6e ∷ 0x74 ∷ []) (0x70 ∷ 0x90 ∷ [])
        (t_short_typed_list 1 0x70 int_array (0x04 ∷ 0x5b ∷ 0x69 ∷ 0x6e ∷ 0x74 ∷ []) [] (record { next = refl; within = omega arith; kind_is = refl }) (record { above = omega arith; below = omega arith }) refl
        (named int_array (0x04 ∷ 0x5b ∷ 0x69 ∷ 0x6e ∷ 0x74 ∷ []) (short int_array (omega arith))) ts_none)
        (ts_one (0x70 ∷ 0x90 ∷ []) []
        (t_short_typed_list 2 0x70 int_array (0x90 ∷ []) [] (record { next = refl; within = omega arith; kind_is = refl }) (record { above = omega arith; below = omega arith }) refl
        (numbered 0 (0x90 ∷ []) (omega arith) zero_int) ts_none)
        ts_none)))
        ts_none;
    all_begun = refl;
  };
  limit = omega arith;
}

first_is : (a b : ℕ) (xs ys : List ℕ) → a ∷ xs ≡ b ∷ ys → a ≡ b
first_is a b xs ys e = ap (λ zs. get_or zs 0 0) e

typed_code : {vs : List Value} {form : Form} {code : ℕ} → TypedCode vs form code → code ≡ 0x5a → ⊥
typed_code c_open_list e = omega (arith, e)
typed_code c_long_list e = omega (arith, e)
typed_code (c_short_list code row count) e = omega (arith, row.below, e)
typed_code (c_map pairs) e = omega (arith, e)

-- no value begins with `Z`
pub no_value_ends : {g : Shape} {t u : Tables} {v : Value} {ss ss' : List Symbol} (element rest more : List ℕ) → Row leaves g t (ValueOf v) element ss ss' u → element ++ rest ≡ 0x5a ∷ more → ⊥
no_value_ends element rest more (r_scalar v element' plain (int code' z row is)) e = omega (arith, row.above, first_is code' 0x5a rest more e)
no_value_ends element rest more (r_text text element' (short text' few)) e = omega (arith, few, first_is (length text') 0x5a (text' ++ rest) more e)
no_value_ends element rest more (r_binary contents element' is) e = is
no_value_ends element rest more (r_refer n) e = omega (arith, first_is 0x51 0x5a rest more e)
no_value_ends element rest more (r_define v class) e = omega (arith, first_is 0x43 0x5a rest more e)
no_value_ends element rest more (r_open_list n b) e = omega (arith, first_is 0x57 0x5a rest more e)
no_value_ends element rest more (r_long_list n b) e = omega (arith, first_is 0x58 0x5a rest more e)
no_value_ends element rest more (r_short_list n code b row count) e = omega (arith, row.above, first_is code 0x5a rest more e)
no_value_ends element rest more (r_typed form n code b is) e = typed_code is (first_is code 0x5a rest more e)
no_value_ends element rest more (r_open_map n b pairs) e = omega (arith, first_is 0x48 0x5a rest more e)
no_value_ends element rest more (r_long_object n b) e = omega (arith, first_is 0x4f 0x5a rest more e)
no_value_ends element rest more (r_short_object n code row b) e = omega (arith, row.above, first_is code 0x5a rest more e)

-- a reference names a node that has begun, and never the one that begins next
pub names_a_begun_node : {l : Leaves} {g : Shape} {t u : Tables} {n : ℕ} {ss ss' : List Symbol} {element : List ℕ} → Row l g t (Reference n) element ss ss' u → n < t.begun
names_a_begun_node (r_reference n element begun is) = begun

ends_at_once : (g : Shape) (vs : List Value) (u : Tables) (bytes : List ℕ) → bytes ≡ 0x5a ∷ [] → Line leaves g no_tables (values_then vs []) u bytes → ⊥
ends_at_once g [] u bytes e done = omega (arith, ap length e)
ends_at_once g (v ∷ vs) u bytes e (next element rest bytes' row is line) = no_value_ends element rest [] row (sym is ∙ e)

-- `Z` alone denotes no graph
pub end_alone : (bound : ℕ) (g : Shape) → Denotes leaves bound (0x5a ∷ []) g → ⊥
end_alone bound g d = ends_at_once g g.roots d.spelled.last (0x5a ∷ []) refl (line_of d.spelled.roots)
