-- Tables of names in the order of first use, and what the nodes that are put together use of them.
use Rattle.std.specs.Prelude.{◌≡◌, ℕ, ◌<◌, ◌^◌, List, Option, length, get_or}
use Rattle.std.specs.Ordering.{nat_cmp}
use Rattle.std.specs.Cmp.Lexicographic.{slice_cmp}
use Rattle.std.specs.BTreeMap.{get_by_text, get_by}
use Rattle.hessian_graph.specs.declared.node.Class.{Class}
use Rattle.hessian_graph.specs.declared.node.Node.{Node}
use Rattle.hessian_graph.specs.Shape.{no_class}
use Rattle.hessian_graph.specs.Tables.{IsIndex, IsClassIndex}
use Rattle.hessian_graph.specs.Moving.{NamesThere}
use Rattle.hessian_graph.specs.Canon.{Rises, type_number, class_number}
use Rattle.graph_notation.specs.declared.name_table.TextTable.{TextTable}
use Rattle.graph_notation.specs.declared.name_table.ClassTable.{ClassTable}
use Rattle.graph_notation.specs.declared.building.Tables.{Tables}
use Rattle.graph_notation.specs.Built.{Grows}

-- the map finds each text's number
abbrev pub TextsFit : TextTable → Type 0
TextsFit t = IsIndex (get_by_text t.places) t.texts.items

-- the number that the map has for a list of word numbers
abbrev pub find_key : ClassTable → List ℕ → Option ℕ
find_key t ns = get_by (λ k. slice_cmp nat_cmp ns k.items) t.places

-- the map finds each class's number by the numbers of its words
abbrev pub ClassesFit : ClassTable → Type 0
ClassesFit t = TextsFit t.words × IsClassIndex (find_key t) t.words.texts.items t.rows.items

abbrev pub NamesFit : Tables → Type 0
NamesFit t = TextsFit t.types × ClassesFit t.classes

-- the row of this number is the class
pub record IsShown (rows : List Class) (n : ℕ) (class : Class) : Type 0 where
  pub within : n < length rows
  pub is : get_or rows n no_class ≡ class

-- a number of 32 bits counts the rows
pub record HasRoom (t : Tables) : Type 0 where
  pub types : length t.types.texts.items < 2 ^ 32
  pub classes : length t.classes.rows.items < 2 ^ 32

-- the tables have grown by the names of this node, where they lacked them
pub record NamesTaken (old new : Tables) (node : Node) : Type 0 where
  pub fit : NamesFit new
  pub types : Grows old.types.texts.items new.types.texts.items
  pub classes : Grows old.classes.rows.items new.classes.rows.items
  pub there : NamesThere new.types.texts.items new.classes.rows.items node
  pub types_rise : Rises (length old.types.texts.items) (type_number node) (length new.types.texts.items)
  pub classes_rise : Rises (length old.classes.rows.items) (class_number node) (length new.classes.rows.items)
