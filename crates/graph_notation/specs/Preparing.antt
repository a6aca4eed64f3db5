-- The texts of a class that are the same in each of its objects.
use Rattle.std.specs.Prelude.{◌≡◌, ℕ, ◌<◌, List, [], length, get_or}
use Rattle.hessian_graph.specs.declared.node.Class.{Class}
use Rattle.hessian_graph.specs.Shape.{ObjectKind, no_class}
use Rattle.graph_notation.specs.declared.class_texts.ClassTexts.{ClassTexts}
use Rattle.graph_notation.specs.Pressing.{Prints, head_of, before}

-- so many things, of which each fits its place
pub record EachAt {T : Type 0} (Fits : ℕ → T → Type 0) (n : ℕ) (xs : List T) : Type 0 where
  pub count : length xs ≡ n
  pub each : (k : ℕ) (d : T) → k < n → Fits k (get_or xs k d)

-- what stands before the values of the first fields
abbrev pub AreFieldTexts : Class → ℕ → List (List ℕ) → Type 0
AreFieldTexts class n texts = EachAt (λ k. Prints [] (before (ObjectKind class) k)) n texts

-- what stands before the entries, and before the value of each field
pub record AreTexts (class : Class) (texts : ClassTexts) : Type 0 where
  pub head : Prints [] (head_of (ObjectKind class)) texts.head
  pub fields : AreFieldTexts class (length class.fields) texts.fields.items

-- the texts of the first classes
abbrev pub HaveFirst : List Class → ℕ → List ClassTexts → Type 0
HaveFirst classes n texts = EachAt (λ k. AreTexts (get_or classes k no_class)) n texts

-- the texts of each class
abbrev pub HaveTexts : List Class → List ClassTexts → Type 0
HaveTexts classes texts = HaveFirst classes (length classes) texts
