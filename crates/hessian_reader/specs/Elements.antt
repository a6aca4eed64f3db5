-- Which bytes are a whole element, in a place that takes such elements.
use Rattle.std.specs.Prelude.{◌≡◌, ℕ, ◌-◌, ℤ, List, [], ◌∷◌, ◌++◌}
use Rattle.hessian_graph.specs.declared.value.Value.{Value}
use Rattle.hessian_graph.specs.declared.value.Value.TheVariants as values
use Rattle.hessian_graph.specs.Reading.{IsScalar, IsCode}
use Rattle.hessian_text.specs.Spelling.{TextSpelling, BinarySpelling, AreBytes}
use Rattle.hessian_reader.specs.declared.element.Form.TheVariants as forms
use Rattle.hessian_reader.specs.declared.element.Head.{Head}
use Rattle.hessian_reader.specs.declared.element.Head.TheVariants as heads
use Rattle.hessian_reader.specs.declared.element.Element.{Element}
use Rattle.hessian_reader.specs.declared.element.Element.TheVariants as elements
use Rattle.hessian_reader.specs.declared.element.Want.{Want}
use Rattle.hessian_reader.specs.declared.element.Want.TheVariants as wants
use Rattle.hessian_reader.specs.Leaves.{scalar_bytes}

-- the code of each head
pub data HeadCode : Head → ℕ → Type 0 where
  refer : HeadCode heads.Refer 0x51
  short_list : (code k : ℕ) → IsCode 0x78 0x7f code → k ≡ code - 0x78 → HeadCode (heads.ShortList k) code
  open_list : HeadCode heads.OpenList 0x57
  long_list : HeadCode heads.LongList 0x58
  open_typed_list : HeadCode (heads.Typed forms.Open) 0x55
  long_typed_list : HeadCode (heads.Typed forms.Long) 0x56
  short_typed_list : (code k : ℕ) → IsCode 0x70 0x77 code → k ≡ code - 0x70 → HeadCode (heads.Typed (forms.Short k)) code
  typed_map : HeadCode (heads.Typed forms.Pairs) 0x4d
  open_map : HeadCode heads.OpenMap 0x48
  define : HeadCode heads.Define 0x43
  short_object : (code k : ℕ) → IsCode 0x60 0x6f code → k ≡ code - 0x60 → HeadCode (heads.ShortObject k) code
  long_object : HeadCode heads.LongObject 0x4f
  end : HeadCode heads.End 0x5a

-- an int may stand here, and not as a value
pub data TakesInt : Want → Type 0 where
  int : TakesInt wants.AnInt
  type : TakesInt wants.AType

-- a text may stand here, and not as a value
pub data TakesText : Want → Type 0 where
  text : TakesText wants.AText
  type : TakesText wants.AType

-- these bytes are this element, whole
pub data IsElement : Want → List ℕ → Element → Type 0 where
  scalar : (v : Value) (bytes : List ℕ) → IsScalar v → scalar_bytes v bytes → IsElement wants.AnyValue bytes (elements.Plain v)
  text : (text bytes : List ℕ) → TextSpelling text bytes → IsElement wants.AnyValue bytes (elements.Plain (values.Text text))
  binary : (contents bytes : List ℕ) → BinarySpelling contents bytes → IsElement wants.AnyValue bytes (elements.Plain (values.Bytes contents))
  code : (h : Head) (code : ℕ) → HeadCode h code → IsElement wants.AnyValue (code ∷ []) (elements.Code h)
  number : (w : Want) (z : ℤ) (bytes : List ℕ) → TakesInt w → scalar_bytes (values.Int z) bytes → IsElement w bytes (elements.Number z)
  words : (w : Want) (text bytes : List ℕ) → TakesText w → TextSpelling text bytes → IsElement w bytes (elements.Words text)

-- however the bytes go on, no element stands at their front
abbrev pub HasNoElement : Want → List ℕ → Type 0
HasNoElement w bytes = (more front rest : List ℕ) (x : Element) → AreBytes more → bytes ++ more ≡ front ++ rest → IsElement w front x → ⊥
