-- A graph whose notation is short can be written.
use Rattle.std.proofs.Common.{◌≡◌, ℕ, ◌<◌, ◌≤◌, ◌^◌, List, [], ◌∷◌, ◌++◌, length, get_or, arith, length-append}
use Rattle.std.specs.Prelude.{All}
use Rattle.std.proofs.lemmas.List.Elements.{All-nil, All-cons, All-append}
use Rattle.std.proofs.lemmas.Slice.Zip.{AllZip-long}
use Rattle.hessian_graph.specs.declared.value.Value.{Value}
use Rattle.hessian_graph.specs.Shape.{Text, Kind, ListKind, MapKind, ObjectKind, NodeShape, Shape, no_node, kind_at, values_at}
use Rattle.hessian_writer.specs.Writable.{IsShortKind, IsWritable}
use Rattle.graph_notation.specs.declared.element.Element.{Element}
use Rattle.graph_notation.specs.Tokens.{Token, IsToken, Cut}
use Rattle.graph_notation.specs.Tokens.IsToken.{word, whole, endless, endless_escape, other}
use Rattle.graph_notation.specs.Tokens.Cut.{none as no_token, one as one_token}
use Rattle.graph_notation.specs.Elements.{Reads}
use Rattle.graph_notation.specs.Forms.{Form, Brackets, Spells, Entry, Joined, Entries}
use Rattle.graph_notation.specs.Forms.Brackets.{list, typed_list, map, typed_map, object}
use Rattle.graph_notation.specs.Forms.Spells.{plain, words, reference, node}
use Rattle.graph_notation.specs.Forms.Entry.{item, pair, field}
use Rattle.graph_notation.specs.Forms.Joined.{last, more}
use Rattle.graph_notation.specs.Forms.Entries.{none, some}
use Rattle.graph_notation.specs.Notation.{IsNotation}

-- an object's class has at most so many fields
abbrev FieldsWithin : ℕ → Kind → Type 0
FieldsWithin most (ListKind type) = Unit {0}
FieldsWithin most (MapKind type) = Unit {0}
FieldsWithin most (ObjectKind class) = length class.fields ≤ most

-- a node has at most so many values, and its class fields
record IsWithin (most : ℕ) (n : NodeShape) : Type 0 where
  pub values_few : length n.values ≤ most
  pub fields_few : FieldsWithin most n.kind

-- there are no more values and names than elements
record Counted (vs : List Value) (names : List Text) (es : List Element) : Type 0 where
  pub of_values : length vs ≤ length es
  pub of_names : length names ≤ length es

fields_within : {kind : Kind} {head : List Element} {form : Form} {names : List Text} {end : Element} (most : ℕ) → Brackets kind head form names end → length names ≤ most → FieldsWithin most kind
fields_within most list few = tt
fields_within most (typed_list type) few = tt
fields_within most map few = tt
fields_within most (typed_map type) few = tt
fields_within most (object class) few = few

some_elements : {v : Value} {n : ℕ} {nodes : List NodeShape} {es : List Element} → Spells v n nodes es → 1 ≤ length es
some_elements (plain n v h) = omega arith
some_elements (words n text) = omega arith
some_elements (reference n k low) = omega arith
some_elements (node n kind form names head end vs nodes inner row entries) =
    omega (arith, length-append head (inner ++ end ∷ []), length-append inner (end ∷ []))

entry_counted : {form : Form} {names : List Text} {vs : List Value} {n : ℕ} {nodes : List NodeShape} {es : List Element} → Entry form names vs n nodes es → Counted vs names es
entry_counted (item v n nodes es s) = record { of_values = some_elements s; of_names = omega arith }
entry_counted (pair key v n first second front back s t) = record {
  of_values = omega (arith, some_elements s, some_elements t, length-append front);
  of_names = omega arith;
}
entry_counted (field name v n nodes es s) = record { of_values = omega arith; of_names = omega arith }

joined_counted : {form : Form} {names : List Text} {vs : List Value} {n : ℕ} {nodes : List NodeShape} {es : List Element} → Joined form names vs n nodes es → Counted vs names es
joined_counted (last form names vs n nodes es e) = entry_counted e
joined_counted (more form names names' vs vs' n first second front back e j) =
    let one : Counted vs names front = entry_counted e in
    let others : Counted vs' names' back = joined_counted j in
    record {
      of_values = omega (arith, length-append vs vs', length-append front, one.of_values, others.of_values);
      of_names = omega (arith, length-append names names', length-append front, one.of_names, others.of_names);
    }

entries_counted : {form : Form} {names : List Text} {vs : List Value} {n : ℕ} {nodes : List NodeShape} {es : List Element} → Entries form names vs n nodes es → Counted vs names es
entries_counted (none form n) = record { of_values = omega arith; of_names = omega arith }
entries_counted (some form names vs n nodes es j) = joined_counted j

-- each node that begins in so many elements has no more values
mutual
  value_within : {v : Value} {n : ℕ} {nodes : List NodeShape} {es : List Element} (most : ℕ) → Spells v n nodes es → length es ≤ most → All (IsWithin most) nodes
  value_within most (plain n v h) few = All-nil (IsWithin most)
  value_within most (words n text) few = All-nil (IsWithin most)
  value_within most (reference n k low) few = All-nil (IsWithin most)
  value_within most (node n kind form names head end vs nodes inner row entries) few =
      let short : length inner ≤ most = omega (arith, length-append head (inner ++ end ∷ []), length-append inner (end ∷ [])) in
      let count : Counted vs names inner = entries_counted entries in
      let vs_few : length vs ≤ most = omega (arith, count.of_values) in
      let names_few : length names ≤ most = omega (arith, count.of_names) in
      All-cons (IsWithin most) (record { kind = kind; values = vs }) nodes
      (record { values_few = vs_few; fields_few = fields_within most row names_few }) (entries_within most entries short)

  entry_within : {form : Form} {names : List Text} {vs : List Value} {n : ℕ} {nodes : List NodeShape} {es : List Element} (most : ℕ) → Entry form names vs n nodes es → length es ≤ most → All (IsWithin most) nodes
  entry_within most (item v n nodes es s) few = value_within most s few
  entry_within most (pair key v n first second front back s t) few =
      All-append (IsWithin most) first second (value_within most s (omega (arith, length-append front))) (value_within most t (omega (arith, length-append front)))
  entry_within most (field name v n nodes es s) few = value_within most s (omega arith)

  joined_within : {form : Form} {names : List Text} {vs : List Value} {n : ℕ} {nodes : List NodeShape} {es : List Element} (most : ℕ) → Joined form names vs n nodes es → length es ≤ most → All (IsWithin most) nodes
  joined_within most (last form names vs n nodes es e) few = entry_within most e few
  joined_within most (more form names names' vs vs' n first second front back e j) few =
      All-append (IsWithin most) first second (entry_within most e (omega (arith, length-append front))) (joined_within most j (omega (arith, length-append front)))

  entries_within : {form : Form} {names : List Text} {vs : List Value} {n : ℕ} {nodes : List NodeShape} {es : List Element} (most : ℕ) → Entries form names vs n nodes es → length es ≤ most → All (IsWithin most) nodes
  entries_within most (none form n) few = All-nil (IsWithin most)
  entries_within most (some form names vs n nodes es j) few = joined_within most j few

-- a token has a byte
some_token : (token rest : List ℕ) → IsToken token rest → 1 ≤ length token
some_token _ _ (word b bs rest a n) = omega arith
some_token _ _ (whole inner rest e) = omega arith
some_token _ _ (endless inner e) = omega arith
some_token _ _ (endless_escape inner e) = omega arith
some_token _ _ (other b rest a n) = omega arith

tokens_few : (text : List ℕ) (tokens : List Token) (rest : List ℕ) → Cut text tokens rest → length tokens ≤ length text
tokens_few _ _ _ (no_token text) = omega arith
tokens_few _ _ _ (one_token token middle rest tokens is cut) =
    omega (arith, some_token token middle is, tokens_few middle tokens rest cut, length-append token middle)

short_kind : (kind : Kind) (vs : List Value) (most : ℕ) → most < 2 ^ 31 → length vs ≤ most → FieldsWithin most kind → IsShortKind kind vs
short_kind (ListKind type) vs most low few fields = omega arith
short_kind (MapKind type) vs most low few fields = tt
short_kind (ObjectKind class) vs most low few fields = omega (arith, fields)

pub notation_writable : (text : List ℕ) (g : Shape) → IsNotation text g → length text < 2 ^ 31 → length g.nodes ≤ 1000000 → IsWritable g
notation_writable text g is low few =
    let long : length is.elements ≡ length is.tokens = AllZip-long Reads is.tokens is.elements is.read in
    let small : length is.elements ≤ length text = omega (arith, tokens_few text is.tokens [] is.cut) in
    let all : All (IsWithin (length text)) g.nodes = entries_within (length text) is.spelled small in
    record {
      few = omega arith;
      each = λ n within.
          let one : IsWithin (length text) (get_or g.nodes n no_node) = all n no_node within in
          short_kind (kind_at g n) (values_at g n) (length text) low one.values_few one.fields_few;
    }
