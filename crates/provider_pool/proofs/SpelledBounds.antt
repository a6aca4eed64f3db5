-- A graph that bytes denote is no greater than they are: its lists and its classes have no more entries than there are
-- bytes, and each of its values names one of its nodes.
use Rattle.std.proofs.Common.{◌≡◌, ℕ, ◌-◌, ◌<◌, ◌≤◌, List, [], ◌∷◌, ◌++◌, length, get_or, refl, ap, sym, subst, inl, inr, arith, length-append}
use Rattle.std.specs.Prelude.{Some, None}
use Rattle.std.specs.List.{All}
use Rattle.std.proofs.lemmas.Bool.{cases_lt}
use Rattle.std.proofs.lemmas.List.Elements.{All-nil, All-cons, All-append, All-get_or}
use Rattle.hessian_graph.specs.declared.value.Value.{Value}
use Rattle.hessian_graph.specs.declared.value.Value.TheVariants as values
use Rattle.hessian_graph.specs.declared.node.Class.{Class}
use Rattle.hessian_graph.specs.Shape.{Text, Kind, ListKind, MapKind, ObjectKind, Shape, node_of, values_at, kind_at, no_class}
use Rattle.hessian_graph.specs.Reading.{Tables, Leaves, IsScalar, one_more, add_class}
use Rattle.hessian_graph.specs.Reading.IsScalar.{null, bool, int, long, date}
use Rattle.hessian_graph.specs.Spells.{TypeSpelling, TextsSpelling, ClassSpelling, Begins, Spells, SpellsAll, SpellsGraph}
use Rattle.hessian_graph.specs.Spells.TypeSpelling.{named, numbered}
use Rattle.hessian_graph.specs.Spells.TextsSpelling.{none as no_texts, one as one_text}
use Rattle.hessian_graph.specs.Spells.Spells.{scalar, text as t_text, binary, reference, class_first, open_list, long_list, short_list, open_typed_list, long_typed_list, short_typed_list, open_map, open_typed_map, long_object, short_object}
use Rattle.hessian_graph.specs.Spells.SpellsAll.{none, one}
use Rattle.hessian_graph.specs.Work.{NamesBelow}

-- nothing is spelled by no bytes
pub record HasBytes (l : Leaves) : Type 0 where
  pub scalar : (v : Value) (bytes : List ℕ) → l.scalar v bytes → 0 < length bytes
  pub text : (text : Text) (bytes : List ℕ) → l.text text bytes → 0 < length bytes
  pub binary : (contents bytes : List ℕ) → l.binary contents bytes → 0 < length bytes

-- ---- how many nodes have begun

type_begins : {l : Leaves} {type : Text} {t u : Tables} {bytes : List ℕ} → TypeSpelling l type t u bytes → u.begun ≡ t.begun
type_begins (named type bytes is) = refl
type_begins (numbered k bytes less is) = refl

mutual
  begins_more : {l : Leaves} {g : Shape} {v : Value} {t u : Tables} {bytes : List ℕ} → Spells l g v t u bytes → t.begun ≤ u.begun
  begins_more (scalar v bytes is s) = omega arith
  begins_more (t_text text bytes s) = omega arith
  begins_more (binary contents bytes s) = omega arith
  begins_more (reference n number less s) = omega arith
  begins_more (class_first v class definition rest s more) = begins_more more
  begins_more (open_list n items b all) = let h = all_begin_more all in omega (arith, h)
  begins_more (long_list n count items b is all) = let h = all_begin_more all in omega (arith, h)
  begins_more (short_list n code items b is count all) = let h = all_begin_more all in omega (arith, h)
  begins_more (open_typed_list n type name items b is all) = let h = all_begin_more all in omega (arith, h, type_begins is)
  begins_more (long_typed_list n type name count items b is many all) = let h = all_begin_more all in omega (arith, h, type_begins is)
  begins_more (short_typed_list n code type name items b is count s all) = let h = all_begin_more all in omega (arith, h, type_begins s)
  begins_more (open_map n items b pairs all) = let h = all_begin_more all in omega (arith, h)
  begins_more (open_typed_map n type name items b pairs is all) = let h = all_begin_more all in omega (arith, h, type_begins is)
  begins_more (long_object n k number items b is all) = let h = all_begin_more all in omega (arith, h)
  begins_more (short_object n code items is b all) = let h = all_begin_more all in omega (arith, h)

  all_begin_more : {l : Leaves} {g : Shape} {vs : List Value} {t u : Tables} {bytes : List ℕ} → SpellsAll l g vs t u bytes → t.begun ≤ u.begun
  all_begin_more none = omega arith
  all_begin_more (one front rest head tail) = let a = begins_more head in let b = all_begin_more tail in omega (arith, a, b)

-- ---- what may be said of nodes that are spelled

-- a class has so many fields at most
abbrev pub IsSmallClass : ℕ → Class → Type 0
IsSmallClass most class = length class.fields ≤ most

abbrev pub SmallClasses : ℕ → Tables → Type 0
SmallClasses most t = All (IsSmallClass most) t.classes

-- a list has so many items at most, and an object's class so many fields
abbrev pub IsShortTo : ℕ → Kind → List Value → Type 0
IsShortTo most (ListKind type) vs = length vs ≤ most
IsShortTo most (MapKind type) vs = Unit {0}
IsShortTo most (ObjectKind class) vs = IsSmallClass most class

abbrev pub AllNamed : Shape → List Value → Type 0
AllNamed g vs = All (NamesBelow (length g.nodes)) vs

-- so are the nodes that begin between the first tables and the second, and the classes of the second
pub record Bounded (g : Shape) (most : ℕ) (t u : Tables) : Type 0 where
  pub classes : SmallClasses most u
  pub short : (n : ℕ) → t.begun ≤ n → n < u.begun → IsShortTo most (kind_at g n) (values_at g n)
  pub named : (n : ℕ) → t.begun ≤ n → n < u.begun → AllNamed g (values_at g n)

pub record Fit (g : Shape) (most : ℕ) (v : Value) (t u : Tables) (bytes : List ℕ) : Type 0 where
  pub inside : Bounded g most t u
  pub some : 0 < length bytes
  pub names : NamesBelow (length g.nodes) v

pub record AllFit (g : Shape) (most : ℕ) (vs : List Value) (t u : Tables) (bytes : List ℕ) : Type 0 where
  pub inside : Bounded g most t u
  pub few : length vs ≤ length bytes
  pub names : AllNamed g vs

none_inside : (g : Shape) (most : ℕ) (t : Tables) → SmallClasses most t → Bounded g most t t
none_inside g most t small = record {
  classes = small;
  short = λ n a b. absurd (omega (arith, a, b));
  named = λ n a b. absurd (omega (arith, a, b));
}

both_inside : (g : Shape) (most : ℕ) (t u w : Tables) → Bounded g most t u → Bounded g most u w → Bounded g most t w
both_inside g most t u w first then = record {
  classes = then.classes;
  short = λ n a b. elim (cases_lt n u.begun) [ inl less ↦ first.short n a less | inr more ↦ then.short n more b ];
  named = λ n a b. elim (cases_lt n u.begun) [ inl less ↦ first.named n a less | inr more ↦ then.named n more b ];
}

-- a node begins, and its values are spelled inside it
node_inside : (g : Shape) (most : ℕ) (t t' u : Tables) (n : ℕ) (kind : Kind) → Begins g t' n kind → t'.begun ≡ t.begun → IsShortTo most kind (values_at g n) → AllNamed g (values_at g n) → Bounded g most (one_more t') u → Bounded g most t u
node_inside g most t t' u n kind b same short known inner = record {
  classes = inner.classes;
  short = λ m a c. elim (cases_lt n m) [
    | inl less ↦ inner.short m (omega (arith, less, b.next)) c
    | inr more ↦ let e : n ≡ m = omega (arith, more, a, b.next, same) in subst (λ i. IsShortTo most (kind_at g i) (values_at g i)) e (subst (λ k. IsShortTo most k (values_at g n)) (sym b.kind_is) short)
  ];
  named = λ m a c. elim (cases_lt n m) [
    | inl less ↦ inner.named m (omega (arith, less, b.next)) c
    | inr more ↦ let e : n ≡ m = omega (arith, more, a, b.next, same) in subst (λ i. AllNamed g (values_at g i)) e known
  ];
}

no_name : (most : ℕ) (v : Value) → node_of v ≡ None → NamesBelow most v
no_name most v is n e = absurd (let x = is in let y = e in cc)

node_name : (g : Shape) (n : ℕ) → n < length g.nodes → NamesBelow (length g.nodes) (values.Node n)
node_name g n less m e = let same : n ≡ m = cc in omega (arith, less, same)

scalar_plain : (v : Value) → IsScalar v → node_of v ≡ None
scalar_plain v null = refl
scalar_plain v (bool b) = refl
scalar_plain v (int z) = refl
scalar_plain v (long z) = refl
scalar_plain v (date z) = refl

type_small : {l : Leaves} {type : Text} {t u : Tables} {bytes : List ℕ} (most : ℕ) → TypeSpelling l type t u bytes → SmallClasses most t → SmallClasses most u
type_small most (named type bytes is) small = small
type_small most (numbered k bytes less is) small = small

texts_few : {l : Leaves} {texts : List Text} {bytes : List ℕ} → HasBytes l → TextsSpelling l texts bytes → length texts ≤ length bytes
texts_few has no_texts = omega arith
texts_few has (one_text text texts front rest is more) =
    let a = has.text text front is in
    let b = texts_few has more in
    omega (arith, a, b, length-append front rest)

class_small : (l : Leaves) (most : ℕ) (t : Tables) (class : Class) (definition : List ℕ) → HasBytes l → ClassSpelling l class definition → length definition ≤ most → SmallClasses most t → SmallClasses most (add_class class t)
class_small l most t class definition has s few small =
    let a = texts_few has s.are_fields in
    let fits : IsSmallClass most class = omega (arith, a, few, ap length s.joined, length-append s.name (s.count ++ s.fields), length-append s.count s.fields) in
    All-append (IsSmallClass most) t.classes (class ∷ []) small (All-cons (IsSmallClass most) class [] fits (All-nil (IsSmallClass most)))

-- a type begins no node
begins_behind : {l : Leaves} {g : Shape} {type : Text} {t u : Tables} {bytes : List ℕ} {n : ℕ} {kind : Kind} → TypeSpelling l type t u bytes → Begins g t n kind → Begins g u n kind
begins_behind is b = record { next = let x = type_begins is in omega (arith, x, b.next); within = b.within; kind_is = b.kind_is }

-- a node whose code is followed by other bytes and then its values
node_fits : (g : Shape) (most : ℕ) (t t' u : Tables) (n code : ℕ) (kind : Kind) (more items : List ℕ) → Begins g t' n kind → t'.begun ≡ t.begun → IsShortTo most kind (values_at g n) → AllFit g most (values_at g n) (one_more t') u items → Fit g most (values.Node n) t u (code ∷ more)
node_fits g most t t' u n code kind more items b same short all = record {
  inside = node_inside g most t t' u n kind b same short all.names all.inside;
  some = omega arith;
  names = node_name g n b.within;
}

mutual
  fits : {l : Leaves} {g : Shape} {v : Value} {t u : Tables} {bytes : List ℕ} (most : ℕ) → HasBytes l → Spells l g v t u bytes → length bytes ≤ most → u.begun ≤ length g.nodes → SmallClasses most t → Fit g most v t u bytes
  fits {g = g} {t = t} most has (scalar v bytes is s) few within small = record { inside = none_inside g most t small; some = has.scalar v bytes s; names = no_name (length g.nodes) v (scalar_plain v is) }
  fits {g = g} {t = t} most has (t_text text bytes s) few within small = record { inside = none_inside g most t small; some = has.text text bytes s; names = no_name (length g.nodes) (values.Text text) refl }
  fits {g = g} {t = t} most has (binary contents bytes s) few within small = record { inside = none_inside g most t small; some = has.binary contents bytes s; names = no_name (length g.nodes) (values.Bytes contents) refl }
  fits {g = g} {t = t} most has (reference n number less s) few within small = record { inside = none_inside g most t small; some = omega arith; names = node_name g n (omega (arith, less, within)) }
  fits {l = l} {g = g} {t = t} {u = u} most has (class_first v class definition rest s more) few within small =
      let later = fits most has more (omega (arith, few, length-append definition rest)) within (class_small l most t class definition has s (omega (arith, few, length-append definition rest)) small) in
      record { inside = record { classes = later.inside.classes; short = later.inside.short; named = later.inside.named }; some = omega arith; names = later.names }
  fits {g = g} {t = t} {u = u} most has (open_list n items b all) few within small =
      let x = all_fit most has all (omega (arith, few, length-append items (0x5a ∷ []))) within small in
      node_fits g most t t u n 0x57 (ListKind None) (items ++ 0x5a ∷ []) items b refl (omega (arith, x.few, few, length-append items (0x5a ∷ []))) x
  fits {g = g} {t = t} {u = u} most has (long_list n count items b is all) few within small =
      let x = all_fit most has all (omega (arith, few, length-append count items)) within small in
      node_fits g most t t u n 0x58 (ListKind None) (count ++ items) items b refl (omega (arith, x.few, few, length-append count items)) x
  fits {g = g} {t = t} {u = u} most has (short_list n code items b is count all) few within small =
      let x = all_fit most has all (omega (arith, few)) within small in
      node_fits g most t t u n code (ListKind None) items items b refl (omega (arith, x.few, few)) x
  fits {g = g} {t = t} {u = w} most has (open_typed_list {u = u} n type name items b is all) few within small =
      let long = length-append name (items ++ 0x5a ∷ []) in
      let x = all_fit most has all (omega (arith, few, long, length-append items (0x5a ∷ []))) within (type_small most is small) in
      node_fits g most t u w n 0x55 (ListKind (Some type)) (name ++ (items ++ 0x5a ∷ [])) items (begins_behind is b) (type_begins is) (omega (arith, x.few, few, long, length-append items (0x5a ∷ []))) x
  fits {g = g} {t = t} {u = w} most has (long_typed_list {u = u} n type name count items b is many all) few within small =
      let long = length-append name (count ++ items) in
      let x = all_fit most has all (omega (arith, few, long, length-append count items)) within (type_small most is small) in
      node_fits g most t u w n 0x56 (ListKind (Some type)) (name ++ (count ++ items)) items (begins_behind is b) (type_begins is) (omega (arith, x.few, few, long, length-append count items)) x
  fits {g = g} {t = t} {u = w} most has (short_typed_list {u = u} n code type name items b is count s all) few within small =
      let x = all_fit most has all (omega (arith, few, length-append name items)) within (type_small most s small) in
      node_fits g most t u w n code (ListKind (Some type)) (name ++ items) items (begins_behind s b) (type_begins s) (omega (arith, x.few, few, length-append name items)) x
  fits {g = g} {t = t} {u = u} most has (open_map n items b pairs all) few within small =
      let x = all_fit most has all (omega (arith, few, length-append items (0x5a ∷ []))) within small in
      node_fits g most t t u n 0x48 (MapKind None) (items ++ 0x5a ∷ []) items b refl tt x
  fits {g = g} {t = t} {u = w} most has (open_typed_map {u = u} n type name items b pairs is all) few within small =
      let long = length-append name (items ++ 0x5a ∷ []) in
      let x = all_fit most has all (omega (arith, few, long, length-append items (0x5a ∷ []))) within (type_small most is small) in
      node_fits g most t u w n 0x4d (MapKind (Some type)) (name ++ (items ++ 0x5a ∷ [])) items (begins_behind is b) (type_begins is) tt x
  fits {g = g} {t = t} {u = u} most has (long_object n k number items b is all) few within small =
      let x = all_fit most has all (omega (arith, few, length-append number items)) within small in
      node_fits g most t t u n 0x4f (ObjectKind (get_or t.classes k no_class)) (number ++ items) items b.begins refl (All-get_or (IsSmallClass most) t.classes k no_class b.known small) x
  fits {g = g} {t = t} {u = u} most has (short_object n code items is b all) few within small =
      let x = all_fit most has all (omega (arith, few)) within small in
      node_fits g most t t u n code (ObjectKind (get_or t.classes (code - 0x60) no_class)) items items b.begins refl (All-get_or (IsSmallClass most) t.classes (code - 0x60) no_class b.known small) x

  all_fit : {l : Leaves} {g : Shape} {vs : List Value} {t u : Tables} {bytes : List ℕ} (most : ℕ) → HasBytes l → SpellsAll l g vs t u bytes → length bytes ≤ most → u.begun ≤ length g.nodes → SmallClasses most t → AllFit g most vs t u bytes
  all_fit {g = g} {t = t} most has none few within small = record { inside = none_inside g most t small; few = omega arith; names = All-nil (NamesBelow (length g.nodes)) }
  all_fit {g = g} {t = t} {u = w} most has (one {v = v} {vs = vs} {u = u} front rest head tail) few within small =
      let more = all_begin_more tail in
      let x = fits most has head (omega (arith, few, length-append front rest)) (omega (arith, more, within)) small in
      let y = all_fit most has tail (omega (arith, few, length-append front rest)) within x.inside.classes in
      record {
        inside = both_inside g most t u w x.inside y.inside;
        few = omega (arith, x.some, y.few, length-append front rest);
        names = All-cons (NamesBelow (length g.nodes)) v vs x.names y.names;
      }

-- ---- whole graphs

-- what holds of the whole graph: of each node, and of the names of nodes in the roots
pub record GraphFits (g : Shape) (most : ℕ) : Type 0 where
  pub short : (n : ℕ) → n < length g.nodes → IsShortTo most (kind_at g n) (values_at g n)
  pub named : (n : ℕ) → n < length g.nodes → AllNamed g (values_at g n)
  pub roots : AllNamed g g.roots

pub graph_fits : (l : Leaves) (g : Shape) (bytes : List ℕ) → HasBytes l → SpellsGraph l bytes g → GraphFits g (length bytes)
graph_fits l g bytes has s =
    let x = all_fit (length bytes) has s.roots (omega arith) (omega (arith, s.all_begun)) (All-nil (IsSmallClass (length bytes))) in
    record {
      short = λ n less. x.inside.short n (omega arith) (omega (arith, less, s.all_begun));
      named = λ n less. x.inside.named n (omega arith) (omega (arith, less, s.all_begun));
      roots = x.names;
    }
