-- What codes begin, and which elements whole leaves are.
use Rattle.std.specs.Prelude.{ℕ, ◌-◌, List, nat_eq, nat_le, if◌then◌else◌, Option, Some, None}
use Rattle.std.specs.Int.{is_in_range}
use Rattle.hessian_graph.specs.declared.value.Value.{Value}
use Rattle.hessian_graph.specs.declared.value.Value.TheVariants as values
use Rattle.hessian_scalars.specs.declared.scalar.Scalar.{Scalar}
use Rattle.hessian_scalars.specs.declared.scalar.Scalar.TheVariants as scalars
use Rattle.hessian_text.specs.declared.stage.Kind.{Kind}
use Rattle.hessian_text.specs.declared.stage.Kind.TheVariants as kinds
use Rattle.hessian_reader.specs.declared.element.Form.TheVariants as forms
use Rattle.hessian_reader.specs.declared.element.Head.{Head}
use Rattle.hessian_reader.specs.declared.element.Head.TheVariants as heads
use Rattle.hessian_reader.specs.declared.element.Element.{Element}
use Rattle.hessian_reader.specs.declared.element.Element.TheVariants as elements
use Rattle.hessian_reader.specs.declared.element.Want.{Want}
use Rattle.hessian_reader.specs.declared.element.Want.TheVariants as wants

-- the head that a code is
abbrev pub head_of : ℕ → Option Head
head_of c =
    if nat_eq c 0x51 then Some heads.Refer else
    if is_in_range 0x78 0x7f c then Some (heads.ShortList (c - 0x78)) else
    if nat_eq c 0x57 then Some heads.OpenList else
    if nat_eq c 0x58 then Some heads.LongList else
    if nat_eq c 0x55 then Some (heads.Typed forms.Open) else
    if nat_eq c 0x56 then Some (heads.Typed forms.Long) else
    if is_in_range 0x70 0x77 c then Some (heads.Typed (forms.Short (c - 0x70))) else
    if nat_eq c 0x4d then Some (heads.Typed forms.Pairs) else
    if nat_eq c 0x48 then Some heads.OpenMap else
    if nat_eq c 0x43 then Some heads.Define else
    if is_in_range 0x60 0x6f c then Some (heads.ShortObject (c - 0x60)) else
    if nat_eq c 0x4f then Some heads.LongObject else
    if nat_eq c 0x5a then Some heads.End else
    None

-- whether a text or a binary begins with a code
abbrev pub kind_of : ℕ → Option Kind
kind_of c =
    if nat_le c 0x1f then Some kinds.Text else
    if is_in_range 0x30 0x33 c then Some kinds.Text else
    if nat_eq c 0x52 then Some kinds.Text else
    if nat_eq c 0x53 then Some kinds.Text else
    if is_in_range 0x20 0x2f c then Some kinds.Binary else
    if is_in_range 0x34 0x37 c then Some kinds.Binary else
    if nat_eq c 0x41 then Some kinds.Binary else
    if nat_eq c 0x42 then Some kinds.Binary else
    None

-- the value that a scalar is
abbrev pub value_of : Scalar → Value
value_of scalars.Null = values.Null
value_of (scalars.Bool b) = values.Bool b
value_of (scalars.Int z) = values.Int z
value_of (scalars.Long z) = values.Long z
value_of (scalars.Date z) = values.Date z

-- an int in the place of a length, a count or a number
abbrev pub number_element : Scalar → Element
number_element scalars.Null = elements.Plain values.Null
number_element (scalars.Bool b) = elements.Plain (values.Bool b)
number_element (scalars.Int z) = elements.Number z
number_element (scalars.Long z) = elements.Plain (values.Long z)
number_element (scalars.Date z) = elements.Plain (values.Date z)

-- the element that a whole scalar is
abbrev pub scalar_element : Want → Scalar → Element
scalar_element wants.AnyValue v = elements.Plain (value_of v)
scalar_element wants.AnInt v = number_element v
scalar_element wants.AType v = number_element v
scalar_element wants.AText v = number_element v

-- the element that a whole text is, and a whole text or binary
abbrev pub text_element : Want → List ℕ → Element
text_element wants.AnyValue text = elements.Plain (values.Text text)
text_element wants.AnInt text = elements.Words text
text_element wants.AType text = elements.Words text
text_element wants.AText text = elements.Words text

abbrev pub chunk_element : Want → Kind → List ℕ → Element
chunk_element w kinds.Text done = text_element w done
chunk_element w kinds.Binary done = elements.Plain (values.Bytes done)
