-- Tables in which each name gets the next number when it is first met.
use Rattle.std.specs.Prelude.{◌≡◌, ℕ, ◌<◌, List, [], ◌∷◌, ◌++◌, length, map, get_or, All, Option, Some, None, ◌⊎◌}
use Rattle.std.specs.Ordering.{nat_cmp}
use Rattle.std.specs.Cmp.Lexicographic.{slice_cmp}
use Rattle.std.specs.BTreeMap.{get_by_text, get_by}
use Rattle.hessian_graph.specs.declared.node.Class.{Class}
use Rattle.hessian_graph.specs.declared.names.WordTable.{WordTable}
use Rattle.hessian_graph.specs.declared.names.TypeTable.{TypeTable}
use Rattle.hessian_graph.specs.declared.names.ClassTable.{ClassTable}
use Rattle.hessian_graph.specs.Shape.{Text, no_class}
use Rattle.hessian_graph.specs.Canon.{given_number}

-- a look-up finds a text at its number, and each text has its number
pub record IsIndex (find : List ℕ → Option ℕ) (texts : List Text) : Type 0 where
  pub found : (text : Text) (i : ℕ) → find text ≡ Some i → (i < length texts) × (get_or texts i [] ≡ text)
  pub kept : (i : ℕ) → i < length texts → find (get_or texts i []) ≡ Some i

-- the number of a name, which stood in the table before or is its last now
pub record IsNumber {N : Type 0} (none : N) (old new : List N) (name : N) (n : ℕ) : Type 0 where
  pub within : n < length new
  pub is : get_or new n none ≡ name
  pub grown : ((n < length old) × (new ≡ old)) ⊎ ((n ≡ length old) × (new ≡ old ++ name ∷ []))

abbrev pub WordsFit : WordTable → Type 0
WordsFit w = IsIndex (get_by_text w.places) w.texts.items

-- a known new number shows the name of the old one
pub record IsKnown {N : Type 0} (none : N) (known : List (Option ℕ)) (old new : List N) : Type 0 where
  pub long : length known ≡ length old
  pub shows : (k i : ℕ) → get_or known k None ≡ Some i → (i < length new) × (get_or new i none ≡ get_or old k none)

abbrev pub TypesFit : List Text → TypeTable → Type 0
TypesFit old t = WordsFit t.words × IsKnown [] t.known.items old t.words.texts.items

-- the words of a class: its name, then its fields
abbrev pub words_of : Class → List Text
words_of c = c.name ∷ c.fields

-- the words of these numbers
abbrev pub spelled : List Text → List ℕ → List Text
spelled texts ns = map (λ n. get_or texts n []) ns

-- the table has grown at its end
pub record Extends (old new : List Text) : Type 0 where
  pub more : List Text
  pub is : new ≡ old ++ more

-- these numbers are those of the words
pub record Spell (texts : List Text) (ns : List ℕ) (words : List Text) : Type 0 where
  pub below : All (λ n. n < length texts) ns
  pub is : spelled texts ns ≡ words

-- a look-up by word numbers finds a class of these words, and each class is found
pub record IsClassIndex (find : List ℕ → Option ℕ) (texts : List Text) (rows : List Class) : Type 0 where
  pub found : (ns : List ℕ) (i : ℕ) → find ns ≡ Some i → (i < length rows) × Spell texts ns (words_of (get_or rows i no_class))
  pub kept : (i : ℕ) → i < length rows → (ns : List ℕ) × (find ns ≡ Some i)

-- the number that the map has for a list of word numbers
abbrev pub find_key : ClassTable → List ℕ → Option ℕ
find_key t ns = get_by (λ k. slice_cmp nat_cmp ns k.items) t.places

abbrev pub RowsFit : ClassTable → Type 0
RowsFit t = WordsFit t.words × IsClassIndex (find_key t) t.words.texts.items t.rows.items

abbrev pub ClassesFit : List Class → ClassTable → Type 0
ClassesFit old t = WordsFit t.words × IsClassIndex (find_key t) t.words.texts.items t.rows.items × IsKnown no_class t.known.items old t.rows.items

-- what was known stays
abbrev pub Remembers : List (Option ℕ) → List (Option ℕ) → Type 0
Remembers old new = (k i : ℕ) → get_or old k None ≡ Some i → get_or new k None ≡ Some i

-- a number that is given is below the count
abbrev pub NumberBelow : ℕ → Option ℕ → Type 0
NumberBelow count None = Unit {0}
NumberBelow count (Some k) = k < count

-- the new number that is known for an old one, where there is one
abbrev pub known_number : List (Option ℕ) → Option ℕ → Option ℕ
known_number known None = None
known_number known (Some k) = get_or known k None

-- the new numbers that are known for old ones, in order
abbrev pub renamed_numbers : List (Option ℕ) → List ℕ → List ℕ
renamed_numbers known [] = []
renamed_numbers known (k ∷ ks) = given_number (get_or known k None) ++ renamed_numbers known ks
